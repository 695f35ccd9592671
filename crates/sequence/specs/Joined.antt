-- How the code hands the check bytes of a frame on: as one number. Nothing outside this crate speaks of it. Assumes nothing.
use Rattle.std.specs.Prelude.{ℕ, ◌+◌, ◌*◌, List}
use Rattle.sequence.specs.Frame.{byte_at}

-- the check bytes of a frame, that of block 0 lowest, and 0 for each block that is not there
abbrev pub joined_bytes : List ℕ → ℕ
joined_bytes ws = byte_at ws 0 + 256 * (byte_at ws 1 + 256 * (byte_at ws 2 + 256 * byte_at ws 3))
