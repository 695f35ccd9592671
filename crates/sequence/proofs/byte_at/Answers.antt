-- `sequence::byte_at` gives the check byte of block k: a block that the frame has begins inside it, and the part that is lent is the
-- block cut at the frame's end. Assumes nothing.
use mathlib.Core.Path.{ap, ◌∙◌}
use native.Mathlib.Omega.{arith}
use borrow.Author.Tests.{lt-ltb, le-ltb}
use Prim.Native.Nat.{◌<◌, ◌≤◌, ◌*◌}
use lib.ListN.{length}
use Rattle.sequence.specs.Check.{check_of}
use Rattle.sequence.specs.Frame.{check_at, byte_at}
use Rattle.sequence.proofs.Blocks.{begins, cut}
use Rattle.sequence.proofs.byte_at.Goals as goal
use Rattle.sequence.proofs.byte_at.Goals.{Then-k-block_count}

-- where the test held, block k begins inside the frame
inside : (c : Then-k-block_count)
    → (4 * c.args.k < length c.args.words.now)
    × (length c.args.words.now ≤ 16)
inside c = begins _ _ (rw c.block_count.ensures at c.if-k-block_count.true)

pub overflow_mul-from : goal.overflow_mul-from
overflow_mul-from c = omega (arith, inside (goal.at.overflow_mul-from c).Then-k-block_count)

pub overflow_add-from : goal.overflow_add-from
overflow_add-from c = omega (arith, inside (goal.at.overflow_add-from c).Then-k-block_count)

pub offset_bounds-words-from : goal.offset_bounds-words-from
offset_bounds-words-from c = omega (arith, inside (goal.at.offset_bounds-words-from c).Then-k-block_count)

pub slice_bounds-check-count : goal.slice_bounds-check-count
slice_bounds-check-count c = omega (arith, inside (goal.at.slice_bounds-check-count c).Then-k-block_count)

pub slice_bounds-check-start : goal.slice_bounds-check-start
slice_bounds-check-start c = omega (arith, inside (goal.at.slice_bounds-check-start c).Then-k-block_count)

pub returns-then-k-block_count : goal.returns-then-k-block_count
unfolding byte_at check_at
returns-then-k-block_count c =
    let a = c.args in
    rw (lt-ltb _ _ (rw c.block_count.ensures at c.if-k-block_count.true))
    (rw c.min-end.ensures at c.check.ensures ∙ ap check_of (cut a.words.now (4 * a.k)))

pub returns-else-k-block_count : goal.returns-else-k-block_count
unfolding byte_at
returns-else-k-block_count c = rw (le-ltb _ _ (rw c.block_count.ensures at c.if-k-block_count.false))
