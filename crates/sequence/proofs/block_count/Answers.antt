-- `sequence::block_count` gives the number of blocks: by the outcome of its test. Assumes nothing.
use borrow.Author.Tests.{le-leb, lt-leb}
use Rattle.sequence.specs.Frame.{blocks}
use Rattle.sequence.proofs.block_count.Goals as goal

pub returns-then-n-le-LONGEST : goal.returns-then-n-le-LONGEST
unfolding blocks
returns-then-n-le-LONGEST c = simp (le-leb _ _ c.if-n-le-LONGEST.true)

pub returns-else-n-le-LONGEST : goal.returns-else-n-le-LONGEST
unfolding blocks
returns-else-n-le-LONGEST c = simp (lt-leb _ _ c.if-n-le-LONGEST.false)
