-- `cut::find` counts the bytes before the first b. Assumes nothing.
use Rattle.std.proofs.Common.{◌≡◌, ◌∙◌, ap, length, rules, tests}
use Rattle.std.proofs.Math.Dec.{eqb}
use Rattle.std.specs.List.{position}
use Rattle.std.specs.Option.{unwrap_or}
use Rattle.std.proofs.lemmas.Iterator.{YieldsList-from_slice}
use Rattle.std.proofs.lemmas.Iterator.Search.{position_from_yields_List}
use Rattle.port_digits.proofs.Cutting.{until_position}
use Rattle.port_digits.proofs.cut.find.Goals as goal

pub returns : goal.returns
returns c =
    let a = c.args in
    let found : c.position.result ≡ position (λ x. eqb x a.b) a.t.now = position_from_yields_List (λ x. eqb x a.b) _ _ c.position.result c.position.ensures.ran (YieldsList-from_slice _ c.iter.ensures.rest) (λ x b q k. search (rules, tests)) in
    c.unwrap_or.ensures ∙ ap (λ r. unwrap_or r (length a.t.now)) found ∙ until_position a.b a.t.now
