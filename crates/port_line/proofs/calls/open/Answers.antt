-- `calls::open` opens the port where its number is due. Assumes nothing.
use Rattle.std.proofs.Common.{sym, ◌∙◌}
use Rattle.port_line.specs.Meaning.{meaning}
use Rattle.port_line.proofs.Hosting.{hosted_ended}
use Rattle.port_line.proofs.calls.open.Goals.{in_default-via-in-Some+else-is_due, in_default-via-in_default}
use Rattle.port_line.proofs.calls.open.Goals as goal

pub returns-in-Some : goal.returns-in-Some
unfolding meaning
returns-in-Some c =
    λ o. rw (c.in-Some.is, sym c.is_due.ensures ∙ c.if-is_due.true, ← c.word.ensures)
    (hosted_ended c.args.s 0 _ _ _ _ o (rw (← c.told.ensures) at c.«open».ensures))

pub returns-in_default : goal.returns-in_default
unfolding meaning
returns-in_default c = λ o. elim c.in_default.branch [
  | in_default-via-in-Some+else-is_due w ↦ rw (w.in-Some.is, sym w.is_due.ensures ∙ w.if-is_due.false) (c.misplace.ensures _ o)
  | in_default-via-in_default w ↦ rw w.in_default.is (c.misplace.ensures _ o)
]
