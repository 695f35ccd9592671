-- `calls::set_code` is a setup line in its place. Assumes nothing.
use Rattle.std.proofs.Common.{sym, ◌∙◌}
use Rattle.port_line.specs.Meaning.{meaning}
use Rattle.port_line.proofs.calls.set_code.Goals.{in_default-via-in-Some+else-is_due, in_default-via-in_default}
use Rattle.port_line.proofs.calls.set_code.Goals as goal

pub returns-in-Some : goal.returns-in-Some
unfolding meaning
returns-in-Some c = λ m o. rw (c.in-Some.is, sym c.is_due.ensures ∙ c.if-is_due.true, ← c.word.ensures) (c.describe.ensures m o)

pub returns-in_default : goal.returns-in_default
unfolding meaning
returns-in_default c = λ m o. elim c.in_default.branch [
  | in_default-via-in-Some+else-is_due w ↦ rw (w.in-Some.is, sym w.is_due.ensures ∙ w.if-is_due.false) (c.misplace.ensures m o)
  | in_default-via-in_default w ↦ rw w.in_default.is (c.misplace.ensures m o)
]
