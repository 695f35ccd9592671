-- Laws of a port's part of a page: words stored there are read back, another port's part is untouched, and the page keeps its length. A
-- port's part lies in its block of sixteen words. Assumes nothing.
use Prim.Native.Nat.{ℕ, ◌+◌, ◌≤◌, ◌<◌}
use mathlib.Core.Path.{◌≡◌}
use mathlib.Core.Logic.{◌≢◌}
use mathlib.Core.List.{List}
use native.Mathlib.Omega.{arith}
use lib.ListN.{length, length-take, length-drop}
use lib.Seq.{length-sets, get_or-take, get_or-drop, ext_get_or}
use Rattle.model.specs.Layout.{page_place, part_of, with_part}
use Rattle.model.proofs.Stored.{stored_part, stored_other}

-- words stored in a port's part leave the page its length
pub length_part : (page : List ℕ) (p : ℕ) (ws : List ℕ) → length (with_part page p ws) ≡ length page
unfolding with_part
length_part page p ws = length-sets page (page_place p) ws

-- words stored in a port's part are read back there, if they lie inside the page
pub part_same : (page : List ℕ) (p : ℕ) (ws : List ℕ) → page_place p + length ws ≤ length page
    → part_of (with_part page p ws) p (length ws) ≡ ws
unfolding part_of with_part
part_same page p ws h = stored_part page (page_place p) ws h

-- at most sixteen words stored in a port's part leave every other port's part as it was
pub part_other : (page : List ℕ) (p q : ℕ) (ws : List ℕ) (n : ℕ) → q ≢ p → length ws ≤ 16 → n ≤ 16
    → part_of (with_part page p ws) q n ≡ part_of page q n
unfolding part_of with_part
part_other page p q ws n ne h hn =
    ext_get_or 0 _ _ (simp (length-take, length-drop, length-sets))
    (λ i b.
    let c : i < n = omega (arith, simp length-take at b) in
    simp (get_or-take, get_or-drop) (stored_other 16 page p q ws i ne h (omega arith)))
