-- `write::put_number` writes its digits one after the other. Assumes nothing.
use Rattle.port_digits.specs.Write.{decimal}
use Rattle.port_digits.proofs.Pasting.{then}
use Rattle.port_digits.proofs.write.put_number.Goals as goal

pub returns : goal.returns
unfolding decimal
returns c =
    then _ _ _ (then _ _ _ (then _ _ _ (then _ _ _ c.put_digit-a.ensures c.put_digit-b.ensures) c.put_digit-c.ensures)
    c.put_digit-d.ensures) c.put.ensures
