-- Laws of port words that are stored in part: words that are stored as they were change nothing, so an age may be stored alone. Assumes
-- nothing.
use Prim.Native.Nat.{ℕ, ◌+◌}
use mathlib.Core.Path.{◌≡◌}
use mathlib.Core.Bool.{false, and-false}
use mathlib.Core.List.{List}
use native.Mathlib.Omega.{arith}
use lib.ListN.{set}
use lib.Seq.{get_or-set_other, set-get_or}
use Rattle.model.specs.Layout.{place, words_at, with_words, flags_of}
use Rattle.model.specs.Ports.{address_of, well_formed, open_sink, with_age, aged_words}

-- the words of a port stored as they were
pub with_same : (l : List ℕ) (p : ℕ) → with_words l p (words_at l p) ≡ l
unfolding with_words words_at
with_same l p = simp set-get_or

-- a port with SINK clear does not age
pub no_sink : (l : List ℕ) (p k : ℕ) → (flags_of (words_at l p).flags).sink ≡ false → with_words l p (aged_words k (words_at l p)) ≡ l
unfolding aged_words open_sink
no_sink l p k e = rw (e, and-false (well_formed (address_of (words_at l p).master) (words_at l p))) (with_same l p)

-- with another age, which alone is stored
pub with_age_lem : (l : List ℕ) (p v : ℕ) → with_words l p (with_age v (words_at l p)) ≡ set l (place p + 5) v
unfolding with_words words_at
with_age_lem l p v =
    rw (
      set-get_or l (place p) 0,
      set-get_or l (place p + 1) 0,
      set-get_or l (place p + 2) 0,
      set-get_or l (place p + 3) 0,
      set-get_or l (place p + 4) 0,
      ← (get_or-set_other l (place p + 5) (place p + 6) v 0 (λ e. omega arith)),
      ← (get_or-set_other l (place p + 5) (place p + 7) v 0 (λ e. omega arith)),
      set-get_or (set l (place p + 5) v) (place p + 6) 0,
      set-get_or (set l (place p + 5) v) (place p + 7) 0,
    )
