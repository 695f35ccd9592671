-- A word is its meet with u exactly if it has no bit outside u: the test on numbers, and the same bit by bit. Words with the same bits are
-- the same, by halving both. Assumes nothing.
use Rattle.std.proofs.Common.{ℕ, ◌+◌, ◌/◌, ◌%◌, ◌≤◌, ◌≡◌, ◌∙◌, ◌&&◌, Bool, zero, suc, refl, sym, ap, true, false, one-add, arith, le_refl}
use Rattle.std.proofs.Common.{eq-eqb, eqb-true, eqb, shr-shr, bit_and}
use Rattle.std.proofs.Math.Bool.{and-true, and-false}
use Rattle.std.proofs.lemmas.Bool.{eqb-false}
use Rattle.interrupts.specs.Group.{bit}
use Rattle.interrupts.specs.Shape.{Within}
use Rattle.interrupts.proofs.Bits.{bit_and_lem}
use Rattle.firmware_layout.specs.Controller.{inside}

bit_half : (a k : ℕ) → bit a (suc k) ≡ bit (a / 2) k
unfolding bit
bit_half a k = rw (shr-shr a 1 k, one-add)

-- the lowest digit, by its bit
low_same : (a b : ℕ) → bit a 0 ≡ bit b 0 → a % 2 ≡ b % 2
unfolding bit
low_same a b e = go (eqb (a / 1 % 2) 1) refl (eqb (b / 1 % 2) 1) refl e
  where
    go : (x : Bool) → eqb (a / 1 % 2) 1 ≡ x → (y : Bool) → eqb (b / 1 % 2) 1 ≡ y → x ≡ y → a % 2 ≡ b % 2
    go true ex true ey z = omega (arith, eqb-true (a / 1 % 2) 1 ex, eqb-true (b / 1 % 2) 1 ey)
    go false ex false ey z = omega (arith, eqb-false (a / 1 % 2) 1 ex, eqb-false (b / 1 % 2) 1 ey)
    go true ex false ey z = let n : ◌≡◌ {A = ℕ} 0 1 = cc in absurd (omega arith)
    go false ex true ey z = let n : ◌≡◌ {A = ℕ} 0 1 = cc in absurd (omega arith)

abbrev Alike : ℕ → ℕ → Type 0
Alike a b = (k : ℕ) → bit a k ≡ bit b k

halves : (a b : ℕ) → Alike a b → Alike (a / 2) (b / 2)
halves a b l k = sym (bit_half a k) ∙ l (suc k) ∙ bit_half b k

-- n bounds how often the two are halved
alike_same : (n a b : ℕ) → a + b ≤ n → Alike a b → a ≡ b
alike_same zero a b h l = omega arith
alike_same (suc n) a b h l = omega (arith, low_same a b (l 0), alike_same n (a / 2) (b / 2) (omega arith) (halves a b l))

-- a word that passes the test on numbers has no bit outside u
pub inside_within : (u x : ℕ) → inside u x ≡ true → Within x u
inside_within u x e =
    record { each = λ k z. sym (ap (λ (y : ℕ). bit y k) (eqb-true (bit_and x u) x e)) ∙ bit_and_lem x u k ∙ rw (z, and-false) }

-- and a word with no bit outside u passes it
pub within_inside : (u x : ℕ) → Within x u → inside u x ≡ true
within_inside u x h =
    eq-eqb (bit_and x u) x
    (alike_same (bit_and x u + x) (bit_and x u) x (le_refl _) (λ k. bit_and_lem x u k ∙ go k (bit u k) refl))
  where
    go : (k : ℕ) (b : Bool) → bit u k ≡ b → (bit x k && b) ≡ bit x k
    go k true e = and-true (bit x k)
    go k false e = and-false (bit x k) ∙ sym (h.each k e)
