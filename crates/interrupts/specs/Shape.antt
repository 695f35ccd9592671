-- What the theorems on a group speak of: runs of calls, the shape that every run keeps, and what raising, a
-- release and a reading of the vector leave, bit by bit. Assumes nothing.
use Rattle.std.specs.Prelude.{ℕ, ◌+◌, ◌<◌, ◌≡◌, Bool, true, false, not, ◌&&◌, ◌||◌, List, [], ◌∷◌, eqb}
use Rattle.interrupts.specs.declared.Group.{Group}
use Rattle.interrupts.specs.Group.{bit}
use Rattle.interrupts.specs.Calls.{Call, group_after}

-- the group after a list of calls, made in the list's order
unfoldable pub run : List Call → Group → Group
run [] g = g
run (c ∷ cs) g = run cs (group_after c g)

-- x has no bit outside u: where u has none, x has none
pub record Within (x u : ℕ) : Type 0 where
  pub each : (k : ℕ) → bit u k ≡ false → bit x k ≡ false

-- the group uses the bits u, keeps something pending only while it is frozen, and none of its words has a bit outside u
pub record Shaped (u : ℕ) (g : Group) : Type 0 where
  pub used : g.used ≡ u
  pub empty : g.frozen ≡ false → g.pending ≡ 0
  pub pending : Within g.pending u
  pub mask : Within g.mask u
  pub status : Within g.status u

-- bit k is set in none of the group's three words
pub record Clear (g : Group) (k : ℕ) : Type 0 where
  pub pending : bit g.pending k ≡ false
  pub mask : bit g.mask k ≡ false
  pub status : bit g.status k ≡ false

-- one of the words has bit k
unfoldable pub any_has : List ℕ → ℕ → Bool
any_has [] k = false
any_has (n ∷ ns) k = bit n k || any_has ns k

-- h is g with the words ns kept: still frozen, status and mask as they were, and a used bit is pending exactly if it was pending or
-- one of the words has it
pub record Kept (g : Group) (ns : List ℕ) (h : Group) : Type 0 where
  pub frozen : h.frozen ≡ true
  pub status : h.status ≡ g.status
  pub mask : h.mask ≡ g.mask
  pub pending : (k : ℕ) → bit g.used k ≡ true → bit h.pending k ≡ (bit g.pending k || any_has ns k)

-- h is g with what was pending let through: not frozen, nothing pending, and a status bit is set exactly if it was set, or was
-- pending and the mask has it
pub record LetThrough (g h : Group) : Type 0 where
  pub frozen : h.frozen ≡ false
  pub pending : h.pending ≡ 0
  pub status : (k : ℕ) → bit h.status k ≡ (bit g.status k || (bit g.pending k && bit g.mask k))

-- the vector read from a status, and the status afterwards
pub data Vector (status : ℕ) : ℕ → ℕ → Type 0 where
  -- no bit is set: 0 is read, and status stays
  nothing : ((k : ℕ) → k < 16 → bit status k ≡ false) → Vector status 0 status
  -- bit j is set and none above it: 256 + j is read, and exactly that bit is cleared
  number : (j : ℕ) {left : ℕ} → j < 16 → bit status j ≡ true → ((k : ℕ) → j < k → k < 16 → bit status k ≡ false)
      → ((k : ℕ) → bit left k ≡ (bit status k && not (eqb k j))) → Vector status (256 + j) left
