-- Document 01, "Two interrupt groups": the calls on a group, and the group after each. Assumes nothing.
use Rattle.std.specs.Prelude.{ℕ}
use Rattle.interrupts.specs.declared.Group.{Group}
use Rattle.interrupts.specs.Group.{raised, status_read, vector_read, status_written, released, pending_written, mask_written}

-- the calls that leave a group changed; the line is only looked at
pub data Call : Type 0 where
  raise write_status write_pending write_mask : ℕ → Call
  read_status read_vector write_vector : Call

-- the group after a call
unfoldable pub group_after : Call → Group → Group
group_after (raise bits) g = raised g bits
group_after (write_status v) g = status_written g v
group_after (write_pending v) g = pending_written g v
group_after (write_mask v) g = mask_written g v
group_after read_status g = (status_read g).group
group_after read_vector g = (vector_read g).group
group_after write_vector g = released g
