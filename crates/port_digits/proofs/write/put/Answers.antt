-- `write::put` stores one byte and hands on the next place. Assumes nothing.
use Rattle.std.proofs.Common.{arith}
use Rattle.port_digits.specs.Write.{onto}
use Rattle.port_digits.proofs.Pasting.{next_place_min}
use Rattle.port_digits.proofs.write.put.Goals as goal

pub returns : goal.returns
unfolding onto
returns c = rw (c.store.ensures, c.saturating_add.ensures, next_place_min c.args.at (omega arith))
