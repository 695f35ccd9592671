-- Decimal numbers and lists of them with commas between, as document 01's port program reads them. A number is one or more digits,
-- leading zeros allowed, and all numbers above 65,535 are read alike. Assumes nothing.
use Rattle.std.specs.Prelude.{ℕ, ◌+◌, ◌-◌, ◌*◌, max, Bool, true, false, cond, ◌&&◌, List, [], ◌∷◌, map, eqb, leb, ltb, length, get_or, Option, None, Some}
use Rattle.std.proofs.lemmas.List.Edits.{sets}
use Rattle.port_digits.specs.declared.Listed.{Listed}
use Rattle.port_digits.specs.Marks.{comma}

-- ---- a number, digit by digit

-- the bytes 48 to 57
abbrev pub is_digit : ℕ → Bool
is_digit c = leb 48 c && leb c 57

-- at most the limit
abbrev pub cut : ℕ → ℕ → ℕ
cut limit v = cond (ltb limit v) limit v

-- the number v with one digit more; 65,536 stands for everything above 65,535
abbrev pub longer : ℕ → ℕ → ℕ
longer v c = cut 65536 (v * 10 + (c - 48))

-- ---- a list of numbers

-- whether a text is a list of numbers, and the numbers that stand in it, up to the first fault
pub record Numbers : Type 0 where
  pub good : Bool
  pub values : List ℕ

-- such a list, by its parts
abbrev pub numbers : Bool → List ℕ → Numbers
numbers b vs = record { good = b; values = vs }

-- a number before what follows it
abbrev pub with : ℕ → Numbers → Numbers
with v n = numbers n.good (v ∷ n.values)

-- the numbers of a text, where digits that come to v have been read of the first one, or none have: a digit goes on with it, a comma
-- ends it if it has a digit, and nothing else has a place
unfoldable pub items_from : Bool → ℕ → List ℕ → Numbers
items_from begun v [] = cond begun (numbers true (v ∷ [])) (numbers false [])
items_from begun v (c ∷ cs) =
    cond (is_digit c) (items_from true (longer v c) cs)
    (cond (begun && eqb c comma) (with v (items_from false 0 cs)) (numbers false []))

-- an empty text is an empty list
unfoldable pub numbers_in : List ℕ → Numbers
numbers_in [] = numbers true []
numbers_in (c ∷ cs) = items_from false 0 (c ∷ cs)

-- ---- what a caller is told of a list

-- the largest of the numbers and m
unfoldable pub largest : ℕ → List ℕ → ℕ
largest m [] = m
largest m (v ∷ vs) = largest (max m v) vs

-- whether it is a list, how many numbers stand in it, and the largest of them or 0
abbrev pub listed : Numbers → Listed
listed n = record { good = n.good; count = length n.values; largest = largest 0 n.values }

-- the numbers as 16-bit words
abbrev pub values_of : Numbers → List ℕ
values_of n = map (cut 65535) n.values

-- what a list leaves in the words that were lent for it, and what is told of it
pub record Reading : Type 0 where
  pub store : List ℕ
  pub told : Listed

-- such a reading, by its parts
abbrev pub reading : List ℕ → Listed → Reading
reading into l = record { store = into; told = l }

-- the numbers are stored from the first place on, as far as there is room
abbrev pub reading_of : List ℕ → Numbers → Reading
reading_of into n = reading (sets into 0 (values_of n)) (listed n)

-- one number alone
abbrev pub sole_number : Numbers → Option ℕ
sole_number n = cond (n.good && eqb (length n.values) 1) (Some (get_or n.values 0 0)) None

-- the number that a text is; none where it is not one
unfoldable pub number_in : List ℕ → Option ℕ
number_in t = sole_number (numbers_in t)
