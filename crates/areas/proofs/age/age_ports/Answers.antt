-- `areas::age::age_ports` leaves the defined port words: three ports a round. Assumes nothing.
use Rattle.std.proofs.Common.{◌≡◌, ◌∙◌, ℕ, ◌+◌, ◌*◌, List, add-one, arith, refl}
use Rattle.model.specs.Layout.{words_at, with_words}
use Rattle.model.specs.Ports.{aged_words, aged_to}
use Rattle.areas.proofs.age.age_ports.Goals as goal

-- one port more
next : (k : ℕ) (l m t : List ℕ) (n p : ℕ) → p ≡ n + 1 → m ≡ aged_to n k l → t ≡ with_words m p (aged_words k (words_at m p)) → t ≡ aged_to p k l
unfolding aged_to
next k l m t n p e old made = made ∙ rw (old, e, add-one n)

pub loop-round-init : goal.loop-round-init
unfolding aged_to
loop-round-init c = refl

pub loop-round-preserved : goal.loop-round-preserved
loop-round-preserved c =
    let k = c.args.k in
    let n = 3 * c.loop-round.round in
    let one = next k _ _ _ n (n + 1) refl c.loop-round.invariant c.age_port.ensures in
    let two = next k _ _ _ (n + 1) (n + 2) (omega arith) one c.age_port-in-loop-round.ensures in
    let three = next k _ _ _ (n + 2) (n + 3) (omega arith) two c.age_port-in-loop-round-2.ensures in
    let here : n + 3 ≡ 3 * (c.loop-round.round + 1) = omega arith in
    rw here at three

pub returns : goal.returns
returns c =
    let l = c.loop-round in
    let all : 3 * l.round ≡ 255 = omega (arith, l.auto.round-end, c.loop-round-test.false) in
    rw all at l.invariant
