-- `read::number` is the one number of a list of one. Assumes nothing.
use Rattle.port_digits.specs.Read.{number_in}
use Rattle.port_digits.proofs.Items.{alone, no_list, several}
use Rattle.port_digits.proofs.read.number.Goals.{else-l-via-then-l+else-l-eq1, else-l-via-else-l}
use Rattle.port_digits.proofs.read.number.Goals as goal

pub returns-then-l-eq1 : goal.returns-then-l-eq1
unfolding number_in
returns-then-l-eq1 c = alone _ _ _ _ c.numbers-l.ensures c.if-l.true c.if-l-eq1.true

pub returns-else-l : goal.returns-else-l
unfolding number_in
returns-else-l c = elim c.else-l.branch [
  | else-l-via-then-l+else-l-eq1 w ↦ several _ _ _ _ c.numbers-l.ensures w.if-l-eq1.false
  | else-l-via-else-l w ↦ no_list _ _ _ _ c.numbers-l.ensures w.if-l.false
]
