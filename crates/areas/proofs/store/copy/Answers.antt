-- `areas::store::copy` leaves the page as defined. Assumes nothing.
use Rattle.std.proofs.Common.{◌≡◌, ◌∙◌, ℕ, ◌+◌, ◌<◌, List, length, get_or, drop, set, add-zero, add-one, drop-cons}
use native.Mathlib.Nat.{add-suc}
use lib.ListN.{drop_of_length-le}
use lib.Seq.{sets}
use Rattle.model.specs.Layout.{with_part}
use Rattle.areas.proofs.store.copy.Goals as goal

one_more : (page : List ℕ) (at : ℕ) (ws : List ℕ) (i : ℕ) → i < length ws
    → sets (set page (at + i) (get_or ws i 0)) (at + (i + 1)) (drop (i + 1) ws) ≡ sets page (at + i) (drop i ws)
one_more page at ws i h = rw (drop-cons ws i 0 h, add-one i, add-suc at i)

pub loop-i-init : goal.loop-i-init
loop-i-init c = rw add-zero

pub loop-i-preserved : goal.loop-i-preserved
loop-i-preserved c = rw c.put.ensures (one_more _ _ _ c.loop-i.i c.loop-i-test.true ∙ c.loop-i.invariant)

pub returns : goal.returns
unfolding with_part
returns c = rw (drop_of_length-le _ c.loop-i-test.false) at c.loop-i.invariant
