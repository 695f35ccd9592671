-- Document 01, "Check sequence and frame sizes": what a remainder modulo G is, said without a division. proofs/Divides.antt shows that
-- the remainder of specs/Check.antt is one of the block's bits times x^7, and proofs/Unique.antt that there is no other.
-- Assumes nothing.
use Rattle.std.specs.Prelude.{ℕ, ◌+◌, ◌*◌, ◌^◌, ◌<◌, List, [], ◌∷◌}
use Rattle.std.specs.Int.Bits.{bit_xor}
use Rattle.sequence.specs.Check.{G}

-- the multiples of G: nothing, x times one, and one plus G
pub data Multiple : ℕ → Type 0 where
  none : Multiple 0
  shift : {m : ℕ} → Multiple m → Multiple (m * 2)
  plus : {m : ℕ} → Multiple m → Multiple (bit_xor m G)

-- r is what division of p by G leaves: its degree is below 7, and it differs from p by a multiple of G
pub record Remainder (p r : ℕ) : Type 0 where
  pub small : r < 2 ^ 7
  pub divides : Multiple (bit_xor p r)

-- the words' bits as one number after the bits of a, the first word's highest
unfoldable pub joined : ℕ → List ℕ → ℕ
joined a [] = a
joined a (w ∷ ws) = joined (a * 2 ^ 16 + w) ws

-- each word has 16 bits
unfoldable pub Words : List ℕ → Type 0
Words [] = Unit
Words (w ∷ ws) = (w < 2 ^ 16) × Words ws
