-- `areas::layout::put_age` leaves the defined port words: from what `put` ensures. Assumes nothing.
use mathlib.Core.Path.{sym, ◌∙◌}
use Rattle.areas.proofs.Words.{with_age_lem}
use Rattle.areas.proofs.layout.put_age.Goals as goal

pub returns : goal.returns
returns c = c.put.ensures ∙ sym (with_age_lem _ _ _)
