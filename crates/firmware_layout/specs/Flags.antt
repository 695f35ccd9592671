-- A flag as a number: 0 or 1. Assumes nothing.
use Rattle.std.specs.Prelude.{ℕ, Bool, true, false, eqb, leb}

abbrev pub bit_of : Bool → ℕ
bit_of true = 1
bit_of false = 0

abbrev pub is_set : ℕ → Bool
is_set x = eqb x 1

-- a number that is a flag
abbrev pub is_bit : ℕ → Bool
is_bit x = leb x 1
