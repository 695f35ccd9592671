-- `sequence::frame_checks` gives the check byte of each block, taken apart from the number that they are joined to. Assumes nothing.
use Rattle.std.proofs.Common.{ℕ, List, ap₂, ◌∙◌}
use Rattle.sequence.specs.declared.FrameChecks.{FrameChecks}
use Rattle.sequence.specs.Frame.{frame_checks}
use Rattle.sequence.proofs.Blocks.{taken_apart}
use Rattle.sequence.proofs.frame_checks.Goals as goal

made : ℕ → List ℕ → FrameChecks
made n bs = record { count = n; bytes = bs }

pub returns : goal.returns
unfolding frame_checks made
returns c = ap₂ made c.block_count.ensures (c.to_le_bytes.ensures ∙ taken_apart _ _ c.bytes_joined.ensures)
