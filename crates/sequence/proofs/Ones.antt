-- The parity of a sum of bits: ones that meet are gone two at a time. Assumes nothing.
use mathlib.Core.Path.{◌≡◌, sym, ap, ap₂, ◌∙◌}
use Prim.Native.Nat.{ℕ, zero, suc, ◌+◌, ◌/◌, ◌%◌, ◌<◌}
use native.Mathlib.Omega.{arith}
use lib.Arith.{bin_ind}
use lib.Bits.{bit_xor, differ}
use lib.Count.{ones, ones_step}
use Rattle.sequence.proofs.Xor.{xor_odd, xor_half}

-- one digit of a sum, before the digits above it, which have p ones where those of its parts have q and s
digit : (x y p q s : ℕ) → x < 2 → y < 2 → p % 2 ≡ (q + s) % 2 → (differ x y + p) % 2 ≡ ((x + q) + (y + s)) % 2
digit zero y p q s h k e = omega arith
digit (suc zero) zero p q s h k e = omega arith
digit (suc zero) (suc zero) p q s h k e = omega arith
digit (suc zero) (suc (suc y)) p q s h k e = omega arith
digit (suc (suc x)) y p q s h k e = omega arith

-- numbers that are joined by xor have as many ones as both together, but for an even number
pub ones_xor : (a b : ℕ) → ones (bit_xor a b) % 2 ≡ (ones a + ones b) % 2
unfolding ones
ones_xor a =
    bin_ind (λ (n : ℕ). (b : ℕ) → ones (bit_xor n b) % 2 ≡ (ones n + ones b) % 2) (λ b. omega arith)
    (λ n ih b.
    ap (λ (x : ℕ). x % 2) (ones_step (bit_xor n b) ∙ ap₂ (λ (x y : ℕ). x + ones y) (xor_odd n b) (xor_half n b))
    ∙ digit (n % 2) (b % 2) (ones (bit_xor (n / 2) (b / 2))) (ones (n / 2)) (ones (b / 2)) (omega arith) (omega arith) (ih (b / 2))
    ∙ ap₂ (λ (x y : ℕ). (x + y) % 2) (sym (ones_step n)) (sym (ones_step b))) a
