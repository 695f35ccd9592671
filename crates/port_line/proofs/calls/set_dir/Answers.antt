-- `calls::set_dir` is a setup line in its place. Assumes nothing.
use Rattle.std.proofs.Common.{sym, ◌∙◌}
use Rattle.port_line.specs.Meaning.{meaning}
use Rattle.port_line.proofs.calls.set_dir.Goals as goal

pub returns-then-is_due : goal.returns-then-is_due
unfolding meaning
returns-then-is_due c = λ m o. rw (sym c.is_due.ensures ∙ c.if-is_due.true) (c.describe.ensures m o)

pub returns-else-is_due : goal.returns-else-is_due
unfolding meaning
returns-else-is_due c = λ m o. rw (sym c.is_due.ensures ∙ c.if-is_due.false) (c.misplace.ensures m o)
