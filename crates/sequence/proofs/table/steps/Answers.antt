-- `sequence::table::steps` is a step table: antt computes one test over all of its entries. Assumes nothing.
use Rattle.sequence.specs.Check.{push, pushes}
use Rattle.sequence.proofs.Steps.{table_right}
use Rattle.sequence.proofs.table.steps.Goals as goal

pub returns : goal.returns
unfolding push pushes
returns c = table_right _ tt
