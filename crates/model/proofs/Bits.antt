-- Laws of word 1: the flags of a word put together of flags are those flags, and its other bits are zero. The word is the number whose
-- binary digits are the flags, lowest first, so one law on digits serves every flag. Assumes nothing.
use Prim.Native.Nat.{ℕ, zero, suc, ◌+◌, ◌*◌, ◌/◌, ◌%◌, ◌^◌, ◌≤◌}
use mathlib.Core.Path.{◌≡◌, refl, ◌∙◌}
use mathlib.Core.Bool.{Bool, true, false}
use mathlib.Core.List.{List, [], ◌∷◌}
use native.Mathlib.Nat.{zero-div}
use native.Mathlib.Numerals.{one-add}
use native.Mathlib.Omega.{arith}
use borrow.Author.Tests.{eq-eqb, ne_eqb}
use lib.ListN.{get_or, drop}
use lib.Pow.{shr-shr}
use Rattle.frames.specs.Judge.{in_order}
use Rattle.model.specs.declared.Flags.{Flags}
use Rattle.model.specs.Layout.{bit_at, flags_of, worth, marks_number, word_of, zero_bits}

abbrev digit : Bool → ℕ
digit true = 1
digit false = 0

abbrev binary : List Bool → ℕ
binary [] = 0
binary (b ∷ bs) = digit b + 2 * binary bs

digit_at_lem : (b : Bool) (n : ℕ) → bit_at (digit b + 2 * n) 1 ≡ b
unfolding bit_at
digit_at_lem true n = eq-eqb ((1 + 2 * n) / 1 % 2) 1 (omega arith)
digit_at_lem false n = ne_eqb ((0 + 2 * n) / 1 % 2) 1 (omega arith)

digits_off : (b : Bool) (n i : ℕ) → (digit b + 2 * n) / 2 ^ suc i ≡ n / 2 ^ i
digits_off b n i = rw (← (one-add i), ← (shr-shr (digit b + 2 * n) 1 i), off b)
  where
    off : (b : Bool) → (digit b + 2 * n) / 2 ≡ n
    off true = omega arith
    off false = omega arith

-- a digit of the number
number_at : (bs : List Bool) (i : ℕ) → bit_at (binary bs) (2 ^ i) ≡ get_or bs i false
unfolding bit_at
number_at [] i = rw (zero-div (2 ^ i))
number_at (b ∷ bs) zero = digit_at_lem b (binary bs)
number_at (b ∷ bs) (suc i) = rw (digits_off b (binary bs) i) (number_at bs i)

-- the number without its lowest i digits
number_from : (bs : List Bool) (i : ℕ) → binary bs / 2 ^ i ≡ binary (drop i bs)
number_from [] zero = refl
number_from [] (suc i) = zero-div (2 ^ suc i)
number_from (b ∷ bs) zero = omega arith
number_from (b ∷ bs) (suc i) = digits_off b (binary bs) i ∙ number_from bs i

abbrev digits : Flags → List Bool
digits f =
    f.vp ∷ f.ever ∷ f.src ∷ f.sink ∷ f.faults.sto ∷ f.faults.terr ∷ f.faults.crc ∷ f.faults.sqe ∷ f.faults.alo
    ∷ in_order f.faults.wrong

worth_digit : (b : Bool) (k : ℕ) → worth b k ≡ digit b * k
worth_digit true k = omega arith
worth_digit false k = omega arith

word_number : (f : Flags) → word_of f ≡ binary (digits f)
unfolding word_of
word_number f = simp worth_digit (omega arith)

-- the flags read from a word that was put together of flags are those flags
pub flags_of_word : (f : Flags) → flags_of (word_of f) ≡ f
unfolding flags_of
flags_of_word f =
    let at = number_at (digits f) in
    rw (word_number f, at 0, at 1, at 2, at 3, at 4, at 5, at 6, at 7, at 8, at 9, at 10, at 11, at 12)

-- the zero bits of a word that was put together of flags are zero
pub zero_bits_lem : (f : Flags) → zero_bits (word_of f) ≡ true
unfolding zero_bits
zero_bits_lem f = rw (word_number f, number_from (digits f) 13)

digit_small : (b : Bool) → digit b ≤ 1
digit_small true = omega arith
digit_small false = omega arith

-- bits 9 to 12 of a word, as a number
abbrev pub block_bits : ℕ → ℕ
block_bits x = x / 512 % 16

-- in a word that was put together of flags they are the marks of the blocks
pub marks_of_word : (f : Flags) → block_bits (word_of f) ≡ marks_number f.faults.wrong
marks_of_word f =
    let w = f.faults.wrong in
    rw (word_number f, number_from (digits f) 9)
    (simp worth_digit
    (omega (arith, digit_small w.first, digit_small w.second, digit_small w.third, digit_small w.fourth)))
