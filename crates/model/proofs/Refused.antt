-- Demand 1: for each call, a number is answered exactly when its test is the first in the order that holds, and then the world is
-- unchanged. Assumes nothing.
use Prim.Native.Nat.{ℕ, ◌<◌}
use mathlib.Core.Path.{◌≡◌, refl}
use mathlib.Core.Logic.{◌⊎◌, inl, inr, ◌↔◌}
use mathlib.Core.Bool.{Bool, true, false, cond}
use mathlib.Core.List.{List, [], ◌∷◌}
use Rattle.std.specs.Prelude.{None}
use native.Mathlib.Omega.{arith}
use borrow.Author.Tests.{ne_eqb}
use Rattle.model.specs.Event.{World, spoken}
use Rattle.model.specs.Calls.{Call, TestName, bad_area, out_of_range, bad_entry, no_port, is_taken, bad_words, wrong_side, wrong_size}
use Rattle.model.specs.Calls.{refusal_number, Test, tests, first_of, refusal, outcome, name-discrete, Silent, First, here, later}

-- what `first_of` says: no test holds, or the number is that of the first that does
pub tells : (ts : List Test) → ((first_of ts ≡ 0) × Silent ts) ⊎ First ts (first_of ts)
tells [] = inl (refl, tt)
tells (t ∷ ts) = go t.given refl (tells ts)
  where
    go : (b : Bool) → t.given ≡ b → ((first_of ts ≡ 0) × Silent ts) ⊎ First ts (first_of ts)
        → ((cond b (refusal_number t.name) (first_of ts) ≡ 0) × ((t.given ≡ false) × Silent ts)) ⊎ First (t ∷ ts) (cond b (refusal_number t.name) (first_of ts))
    go true e r = inr (here e)
    go false e (inl s) = inl (s.0, (e, s.1))
    go false e (inr f) = inr (later e f)

-- one number at most is the first
pub one_first : {ts : List Test} {n : ℕ} → First ts n → first_of ts ≡ n
one_first (here e) = rw e
one_first (later e f) = rw e (one_first f)

-- the number is 0 where no test holds
silent_zero : (ts : List Test) → Silent ts → first_of ts ≡ 0
silent_zero [] s = refl
silent_zero (t ∷ ts) s = rw s.0 (silent_zero ts s.1)

-- each test has a number
numbered : (k : TestName) → 0 < refusal_number k
numbered bad_area = omega arith
numbered out_of_range = omega arith
numbered bad_entry = omega arith
numbered no_port = omega arith
numbered is_taken = omega arith
numbered bad_words = omega arith
numbered wrong_side = omega arith
numbered wrong_size = omega arith

positive : {ts : List Test} {n : ℕ} → First ts n → 0 < n
positive (here {t} e) = numbered t.name
positive (later e f) = positive f

-- and where it is 0 no test holds
zero_silent : (ts : List Test) → first_of ts ≡ 0 → Silent ts
zero_silent ts e = go (tells ts)
  where
    go : ((first_of ts ≡ 0) × Silent ts) ⊎ First ts (first_of ts) → Silent ts
    go (inl s) = s.1
    go (inr f) = let p = positive f in absurd (omega arith)

-- ---- a test by its name

abbrev same : {x y : TestName} → Dec (x ≡ y) → Bool
same (yes e) = true
same (no n) = false

-- what the test of this name says, where the list has one
abbrev pub holds : TestName → List Test → Bool
holds k [] = false
holds k (t ∷ ts) = cond (same (name-discrete t.name k)) t.given (holds k ts)

by_name : (ts : List Test) → Silent ts → (k : TestName) → holds k ts ≡ false
by_name [] s k = refl
by_name (t ∷ ts) s k = go (same (name-discrete t.name k)) (by_name ts s.1 k)
  where
    go : (b : Bool) → holds k ts ≡ false → cond b t.given (holds k ts) ≡ false
    go true e = s.0
    go false e = e

-- A call is accepted exactly when none of its tests holds.
pub accepted_exactly : (c : Call) (s : World) → (refusal c s ≡ 0) ↔ Silent (tests c s)
unfolding refusal
accepted_exactly c s = (zero_silent (tests c s), silent_zero (tests c s))

-- the same of a test by its name
pub accepted : (c : Call) (s : World) → refusal c s ≡ 0 → (k : TestName) → holds k (tests c s) ≡ false
unfolding refusal
accepted c s e = by_name (tests c s) (zero_silent (tests c s) e)

-- a call none of whose tests holds is accepted
pub accepts : (c : Call) (s : World) → Silent (tests c s) → refusal c s ≡ 0
unfolding refusal
accepts c s p = silent_zero (tests c s) p

-- A call is refused with n exactly when the first test that holds, in document 01's order, has the number n.
pub refused : (c : Call) (s : World) (n : ℕ) → First (tests c s) n → refusal c s ≡ n
unfolding refusal
refused c s n f = one_first f

-- And a call that is not accepted is refused with the number of the first test that holds.
pub refused_only : (c : Call) (s : World) → (refusal c s ≡ 0 → ⊥) → First (tests c s) (refusal c s)
unfolding refusal
refused_only c s h = go (tells (tests c s))
  where
    go : ((first_of (tests c s) ≡ 0) × Silent (tests c s)) ⊎ First (tests c s) (first_of (tests c s))
        → First (tests c s) (first_of (tests c s))
    go (inl z) = absurd (h z.0)
    go (inr f) = f

-- A refusal returns its number and no reply, and leaves controller and areas unchanged.
pub refusal_changes_nothing : (c : Call) (s : World) (n : ℕ) → First (tests c s) n
    → outcome c s ≡ record { refusal = n; reply = spoken None; world = s }
unfolding outcome
refusal_changes_nothing c s n f =
    let p = positive f in
    rw (refused c s n f, ne_eqb n 0 (λ e. omega arith))
