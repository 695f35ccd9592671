-- Document 01, "Two interrupt groups": the host's calls on a group, as `interrupts` defines them. Assumes nothing.
use Rattle.std.specs.Prelude.{ℕ}
use Rattle.interrupts.specs.declared.Group.{Group}
use Rattle.interrupts.specs.declared.Read.{Read}
use Rattle.interrupts.specs.Group.{status_read, vector_read}
use Rattle.interrupts.specs.Calls.{Call, write_status, write_pending, write_mask, read_status, read_vector, write_vector, group_after}
use Rattle.model.specs.declared.Controller.{Controller}
use Rattle.model.specs.Host.{tell, group0, group1}
use Rattle.host_controller.specs.declared.GroupCall.{GroupCall}
use Rattle.host_controller.specs.declared.GroupCall.TheVariants.{ReadStatus, ReadVector, WriteStatus, WriteVector, WritePending}
use Rattle.host_controller.specs.declared.GroupCall.TheVariants.{WriteMask}
use Rattle.host_controller.specs.declared.Reading.{Reading}

abbrev pub call_of : GroupCall → Call
call_of ReadStatus = read_status
call_of ReadVector = read_vector
call_of (WriteStatus v) = write_status v
call_of WriteVector = write_vector
call_of (WritePending v) = write_pending v
call_of (WriteMask v) = write_mask v

-- what a call reads of a group; a write reads nothing
abbrev pub value_of : GroupCall → Group → ℕ
value_of ReadStatus g = (status_read g).value
value_of ReadVector g = (vector_read g).value
value_of (WriteStatus v) g = 0
value_of WriteVector g = 0
value_of (WritePending v) g = 0
value_of (WriteMask v) g = 0

unfoldable pub group_read : GroupCall → Group → Read
group_read k g = record { value = value_of k g; group = group_after (call_of k) g }

-- what was read of a group of the controller, and the controller afterwards
unfoldable pub reading0 : GroupCall → Controller → Reading
reading0 k c = record { value = value_of k c.group0; controller = tell (group0 (call_of k)) c }

unfoldable pub reading1 : GroupCall → Controller → Reading
reading1 k c = record { value = value_of k c.group1; controller = tell (group1 (call_of k)) c }
