-- `calls::hear` is the outcome of its call, where no port is described in part. Assumes nothing.
use Rattle.std.proofs.Common.{sym, ◌∙◌}
use Rattle.port_line.specs.Meaning.{meaning}
use Rattle.port_line.proofs.calls.hear.Goals.{in_default-via-in-Some+else-is_whole, in_default-via-in_default}
use Rattle.port_line.proofs.calls.hear.Goals as goal

pub returns-in_default : goal.returns-in_default
unfolding meaning
returns-in_default c = elim c.in_default.branch [
  | in_default-via-in-Some+else-is_whole w ↦ rw (w.in-Some.is, sym w.is_whole.ensures ∙ w.if-is_whole.false) (c.misplace.ensures _ _)
  | in_default-via-in_default w ↦ rw w.in_default.is (c.misplace.ensures _ _)
]
