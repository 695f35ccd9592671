-- `sequence::bytes_joined` joins the check bytes of a frame, as its callee gives them; with at most four words the first is all of them.
-- Assumes nothing.
use mathlib.Core.Path.{◌∙◌}
use Rattle.sequence.proofs.Blocks.{one_byte}
use Rattle.sequence.proofs.bytes_joined.Goals as goal

pub returns-then-words-le-BLOCK : goal.returns-then-words-le-BLOCK
returns-then-words-le-BLOCK c = c.byte_at-first.ensures ∙ one_byte _ c.if-words-le-BLOCK.true
