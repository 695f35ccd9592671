-- `sequence::table::step` gives step i: the table's rule, cited at entry i. Assumes nothing.
use Rattle.sequence.specs.Steps.{StepTable}
use Rattle.sequence.proofs.table.step.Goals as goal

pub returns : goal.returns
unfolding StepTable
returns c = c.steps.ensures c.args.i c.requires
