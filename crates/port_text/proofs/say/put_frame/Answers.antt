-- `say::put_frame` writes words and check bytes. Assumes nothing.
use Rattle.std.proofs.Common.{◌≡◌, ◌∙◌, rules, tests, map-id}
use Rattle.port_text.proofs.Mapped.{mapped}
use Rattle.port_digits.proofs.Pasting.{then}
use Rattle.frames.specs.Hearing.{words_of}
use Rattle.port_text.proofs.say.put_frame.Goals as goal

pub returns : goal.returns
unfolding words_of
returns c =
    let h = c.args.h in
    let checks : c.map-checks.result ≡ h.checks = mapped (λ x. x) h.checks c.map-checks.result 4 c.map-checks.ensures.items (search rules) (λ x y p q k. search (rules, tests)) ∙ map-id h.checks in
    let ws = rw c.front.ensures at c.put_list-b.ensures in
    let cs = rw (c.front-2.ensures, checks) at c.put_list-d.ensures in
    then _ _ _ (then _ _ _ (then _ _ _ (then _ _ _ c.put_key-a.ensures ws) c.put-c.ensures) cs) c.put.ensures
