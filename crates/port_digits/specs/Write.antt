-- Text written into a lent buffer, and numbers in decimal. Assumes nothing.
use Rattle.std.specs.Prelude.{ℕ, ◌+◌, ◌/◌, ◌%◌, Bool, true, false, cond, List, [], ◌∷◌, ◌++◌, ltb, set}
use Rattle.port_digits.specs.Marks.{comma}

-- ---- a lent buffer, and the place where the next byte goes

-- the bytes of the buffer, and the place
pub record Paper : Type 0 where
  pub text : List ℕ
  pub at : ℕ

-- a buffer and a place, by their parts
abbrev pub paper : List ℕ → ℕ → Paper
paper t n = record { text = t; at = n }

-- the largest place that there is
abbrev pub last_place : ℕ
last_place = 18446744073709551615

-- the place after n, which stops at the last
abbrev pub next_place : ℕ → ℕ
next_place n = cond (ltb n last_place) (n + 1) n

-- one byte more; past the end of the buffer it is counted and not stored
abbrev pub with_byte : Paper → ℕ → Paper
with_byte p b = paper (set p.text p.at b) (next_place p.at)

-- a text more
unfoldable pub onto : Paper → List ℕ → Paper
onto p [] = p
onto p (b ∷ t) = onto (with_byte p b) t

-- ---- numbers

-- the digit of v at a power of ten, where v has it
abbrev pub digit_at : ℕ → ℕ → List ℕ
digit_at power v = cond (ltb v power) [] ((v / power % 10 + 48) ∷ [])

-- a number of at most five digits, without leading zeros
unfoldable pub decimal : ℕ → List ℕ
decimal v = digit_at 10000 v ++ digit_at 1000 v ++ digit_at 100 v ++ digit_at 10 v ++ ((v % 10 + 48) ∷ [])

-- a comma, where one is due
abbrev pub due_comma : Bool → List ℕ
due_comma true = comma ∷ []
due_comma false = []

-- numbers with commas between, and one before the first where it follows another
unfoldable pub commas_from : Bool → List ℕ → List ℕ
commas_from b [] = []
commas_from b (v ∷ vs) = due_comma b ++ decimal v ++ commas_from true vs

-- numbers with commas between
unfoldable pub commas : List ℕ → List ℕ
commas vs = commas_from false vs
