-- The highest set bit: the definition looks from above, so what it passes is not set; and the length of a number says which it is.
-- Assumes nothing.
use Rattle.std.proofs.Common.{◌≡◌, ◌⊎◌, ⊎_elim, ℕ, ◌/◌, ◌^◌, ◌≤◌, ◌<◌, Bool, Option, None, Some, refl, ap, true, false, cond, inl, inr}
use Rattle.std.proofs.Common.{zero, suc, eq-or-lt_of_le, le_of_suc-le-suc, lt_of_lt_of_le, arith, pow_mono}
use Rattle.std.proofs.Math.Nat.{div-eq_of_lt-le}
use Rattle.interrupts.specs.Group.{bit, highest}
use Rattle.interrupts.proofs.Bits.{bit_high}

-- o is the number of the highest set bit among the n lowest of x, or none of them is set
abbrev pub Found : ℕ → ℕ → Option ℕ → Type 0
Found n x None = (k : ℕ) → k < n → bit x k ≡ false
Found n x (Some j) = (j < n) × (bit x j ≡ true) × ((k : ℕ) → j < k → k < n → bit x k ≡ false)

-- `highest` finds the highest set bit among the n lowest, or that none is set
pub found : (n x : ℕ) → Found n x (highest n x)
unfolding highest
found zero x = λ k h. absurd (omega arith)
found (suc n) x = go (bit x n) refl (highest n x) (found n x)
  where
    go : (b : Bool) → bit x n ≡ b → (o : Option ℕ) → Found n x o → Found (suc n) x (cond b (Some n) o)
    go true e o f = (omega arith, e, λ k l h. absurd (omega arith))
    go false e None f = λ k h. ⊎_elim (λ q. rw q e) (f k) (eq-or-lt_of_le (le_of_suc-le-suc h))
    go false e (Some j) f = (omega arith, f.1, λ k l h. ⊎_elim (λ q. rw q e) (f.2 k l) (eq-or-lt_of_le (le_of_suc-le-suc h)))

-- a number from 2 ^ j on and below 2 ^ (j + 1) has bit j as its highest
pub highest_at : (n j a : ℕ) → j < n → 2 ^ j ≤ a → a < 2 ^ suc j → highest n a ≡ Some j
unfolding highest bit
highest_at zero j a h l u = absurd (omega arith)
highest_at (suc n) j a h l u = go (highest_at n j a) (eq-or-lt_of_le (le_of_suc-le-suc h))
  where
    go : (j < n → 2 ^ j ≤ a → a < 2 ^ suc j → highest n a ≡ Some j) → (j ≡ n) ⊎ (j < n)
        → cond (bit a n) (Some n) (highest n a) ≡ Some j
    go rest (inl e) =
        let p = ap (λ (k : ℕ). 2 ^ k) e in
        let one : a / 2 ^ n ≡ 1 = div-eq_of_lt-le (2 ^ n) (omega arith) (omega arith) in
        rw (one, e)
    go rest (inr k) = rw (bit_high a n (lt_of_lt_of_le u (pow_mono k))) (rest k l u)

-- in 0 no bit is set
pub highest_zero : highest 16 0 ≡ None
unfolding highest bit
highest_zero = refl
