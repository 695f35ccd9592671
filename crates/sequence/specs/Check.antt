-- Document 01, "Check sequence and frame sizes": the check byte of a block of words. The interface is `check_of` and `block_check`.
-- A polynomial over the two-element field is the number whose binary digits are its coefficients: its + is bit_xor, and times x is
-- times 2. Specs/Remainder.antt says what a remainder is without a division. Assumes nothing.
use Rattle.std.specs.Prelude.{ℕ, zero, suc, ◌+◌, ◌-◌, ◌*◌, ◌/◌, ◌%◌, ◌^◌, Bool, cond, ◌&&◌, List, [], ◌∷◌, ltb, leb, length, Option, None, Some, Result, Ok, Err}
use Rattle.std.specs.Int.Bits.{bit_xor}
use Rattle.std.specs.Int.Count.{ones}
use Rattle.constants.specs.declared.refusals.Refusal.{Refusal}
use Rattle.constants.specs.declared.refusals.Refusal.TheVariants.{Range}
use Rattle.constants.specs.Refusal.{number}

-- G(x) = x^7 + x^6 + x^5 + x^2 + 1
abbrev pub G : ℕ
G = 0b1110_0101

-- v modulo G for a v of degree at most 7: v itself below x^7, and else v + G
abbrev pub reduce : ℕ → ℕ
reduce v = cond (ltb v (2 ^ 7)) v (bit_xor v G)

-- one step of the division: r is what the bits so far, times x^7, leave; with the bit b after them they leave r times x, plus b times x^7
unfoldable pub push : ℕ → ℕ → ℕ
push r b = reduce (bit_xor (r * 2) (b * 2 ^ 7))

-- the k low bits of w, the most significant first
unfoldable pub pushes : ℕ → ℕ → ℕ → ℕ
pushes zero r w = r
pushes (suc k) r w = pushes k (push r (w / 2 ^ k % 2)) w

-- the bits of the words, 16 of each
unfoldable pub rest : ℕ → List ℕ → ℕ
rest r [] = r
rest r (w ∷ ws) = rest (pushes 16 r w) ws

-- the bits of a block, most significant bit first, times x^7, leave a 7-bit remainder modulo G
abbrev pub remainder : List ℕ → ℕ
remainder ws = rest 0 ws

-- the ones in the data
unfoldable pub ones_of : List ℕ → ℕ
ones_of [] = 0
ones_of (w ∷ ws) = ones w + ones_of ws

-- one bit follows that makes the ones in data, remainder and itself even
abbrev pub parity : List ℕ → ℕ
parity ws = (ones_of ws + ones (remainder ws)) % 2

-- the eight bits are then inverted
unfoldable pub check_of : List ℕ → ℕ
check_of ws = 255 - (remainder ws * 2 + parity ws)

-- a block has one to four words
abbrev pub is_block : List ℕ → Bool
is_block ws = ltb 0 (length ws) && leb (length ws) 4

-- what is said of a block: its check byte; and of what is none, 2 RANGE
abbrev pub block_check : List ℕ → Result ℕ Refusal
block_check ws = cond (is_block ws) (Ok (check_of ws)) (Err Range)

-- document 01's number and value for each answer: no refusal and the byte, or the refusal's number
abbrev pub block_says : Result ℕ Refusal → ℕ × Option ℕ
block_says (Ok b) = (0, Some b)
block_says (Err e) = (number e, None)
