-- Laws on the bits of words: of a join, of a meet, of a word too small for a bit, of a word with one bit taken off; and words with no
-- bit outside another. A bit is a digit of the quotient by a power of two. Assumes nothing.
use Rattle.std.proofs.Common.{◌≡◌, ◌∙◌, ◌&&◌, ◌||◌, ℕ, ◌-◌, ◌*◌, ◌/◌, ◌%◌, ◌^◌, ◌≤◌, ◌<◌, Bool, refl, sym, true, false, not, true≢false}
use Rattle.std.proofs.Common.{zero, suc, one-mul, one-add, arith, eqb-true, ne_eqb, eqb, pow_pos, shr-shr, shl_exact, bit_and, bit_or}
use Rattle.std.proofs.Math.Bool.{and-true, and-false}
use Rattle.std.proofs.Math.Logic.{dite}
use Rattle.std.proofs.Math.Nat.{div-eq_of_lt}
use Rattle.std.proofs.Math.Decide.{dec_lt}
use Rattle.std.proofs.Math.Dec.{eqb-zero-suc, eqb-suc-zero, eqb-suc-suc}
use Rattle.std.proofs.lemmas.Nat.{and_shr, and_mod, or_shr, or_mod}
use Rattle.interrupts.specs.Group.{bit}
use Rattle.interrupts.specs.Shape.{Within}

-- an operation that works on each digit apart works on each bit apart
module _ (op : ℕ → ℕ → ℕ) (f : Bool → Bool → Bool)
    (shr : (a b k : ℕ) → op a b / 2 ^ k ≡ op (a / 2 ^ k) (b / 2 ^ k))
    (low : (a b k : ℕ) → op a b % 2 ^ k ≡ op (a % 2 ^ k) (b % 2 ^ k))
    (e00 : eqb (op 0 0) 1 ≡ f false false) (e01 : eqb (op 0 1) 1 ≡ f false true)
    (e10 : eqb (op 1 0) 1 ≡ f true false) (e11 : eqb (op 1 1) 1 ≡ f true true) where
  digit : (a b : ℕ) → a < 2 → b < 2 → eqb (op a b) 1 ≡ f (eqb a 1) (eqb b 1)
  digit zero zero h l = e00
  digit zero (suc zero) h l = e01
  digit (suc zero) zero h l = e10
  digit (suc zero) (suc zero) h l = e11
  digit zero (suc (suc b)) h l = absurd (omega arith)
  digit (suc zero) (suc (suc b)) h l = absurd (omega arith)
  digit (suc (suc a)) b h l = absurd (omega arith)

  each : (a b k : ℕ) → bit (op a b) k ≡ f (bit a k) (bit b k)
  unfolding bit
  each a b k = rw (shr a b k, low (a / 2 ^ k) (b / 2 ^ k) 1) (digit (a / 2 ^ k % 2) (b / 2 ^ k % 2) (omega arith) (omega arith))

-- a meet has a bit exactly if both words have it
pub bit_and_lem : (a b k : ℕ) → bit (bit_and a b) k ≡ (bit a k && bit b k)
bit_and_lem = each bit_and ◌&&◌ and_shr and_mod refl refl refl refl

-- a join has a bit exactly if one of the words has it
pub bit_or_lem : (a b k : ℕ) → bit (bit_or a b) k ≡ (bit a k || bit b k)
bit_or_lem = each bit_or ◌||◌ or_shr or_mod refl refl refl refl

-- a word below 2 ^ k has no bit k
pub bit_high : (a k : ℕ) → a < 2 ^ k → bit a k ≡ false
unfolding bit
bit_high a k h = rw (div-eq_of_lt h)

-- so a word with bit k is at least 2 ^ k
pub bit_le : (a k : ℕ) → bit a k ≡ true → 2 ^ k ≤ a
bit_le a k e = dite (dec_lt a (2 ^ k)) (λ h. absurd (true≢false (sym e ∙ bit_high a k h))) (λ h. omega arith)

bit_half : (a k : ℕ) → bit a (suc k) ≡ bit (a / 2) k
unfolding bit
bit_half a k = rw (shr-shr a 1 k, one-add)

-- 2 ^ j taken off a word with bit j: that bit goes, and no other bit changes
pub bit_off : (j k a : ℕ) → bit a j ≡ true → bit (a - 2 ^ j) k ≡ (bit a k && not (eqb k j))
unfolding bit
bit_off zero zero a e =
    let odd : a / 1 % 2 ≡ 1 = eqb-true (a / 1 % 2) 1 e in
    rw (ne_eqb ((a - 1) / 1 % 2) 1 (omega arith), and-false)
bit_off zero (suc k) a e =
    let odd : a / 1 % 2 ≡ 1 = eqb-true (a / 1 % 2) 1 e in
    let same : (a - 1) / 2 ≡ a / 2 = omega arith in
    rw (bit_half (a - 1) k, bit_half a k, eqb-suc-zero k, and-true, same)
bit_off (suc j) zero a e =
    let same : (a - 2 ^ suc j) / 1 % 2 ≡ a / 1 % 2 = omega (arith, bit_le a (suc j) e) in
    rw (same, eqb-zero-suc j, and-true)
bit_off (suc j) (suc k) a e =
    let same : (a - 2 ^ suc j) / 2 ≡ a / 2 - 2 ^ j = omega arith in
    rw (bit_half (a - 2 ^ suc j) k, bit_half a k, eqb-suc-suc k j, same) (bit_off j k (a / 2) (sym (bit_half a j) ∙ e))

-- 1 << k is the word with bit k alone
pub one_bit : (k : ℕ) → k < 16 → 1 * 2 ^ k % 2 ^ 16 ≡ 2 ^ k
one_bit k h = shl_exact {a = 1} 1 k 16 (omega arith) (omega arith) ∙ one-mul (2 ^ k)

-- ---- no bit outside u

-- 0 has no bit outside u
pub within_none : (u : ℕ) → Within 0 u
within_none u = record { each = λ k e. bit_high 0 k (pow_pos k) }

-- the used bits of a word are inside u
pub within_used : (v u : ℕ) → Within (bit_and v u) u
within_used v u = record { each = λ k e. rw (bit_and_lem v u k, e, and-false) }

-- a part of a word inside u is inside u
pub within_part : {a u : ℕ} (b : ℕ) → Within a u → Within (bit_and a b) u
within_part {a} b h = record { each = λ k e. rw (bit_and_lem a b k, h.each k e) }

-- the join of two words inside u is inside u
pub within_join : {a b u : ℕ} → Within a u → Within b u → Within (bit_or a b) u
within_join {a} {b} h l = record { each = λ k e. rw (bit_or_lem a b k, h.each k e) (l.each k e) }
