-- Document 01, "Numbers on either side": the cases marked P, as one list and one test that antt computes. Assumes nothing.
use Rattle.std.specs.Prelude.{Option, None, Some}
use Rattle.std.specs.Prelude.{ℕ, ◌+◌, ◌^◌, Bool, true, false, ◌&&◌, List, [], ◌∷◌, T, eqb}
use Rattle.std.specs.Int.Count.{ones}
use Rattle.sequence.specs.Check.{push, pushes, rest, ones_of, check_of}
use Rattle.frames.specs.Size.{sizes, expected_of}
use Rattle.interrupts.specs.declared.Group.{Group}
use Rattle.interrupts.specs.Group.{group, bit, highest, vector_read}
use Rattle.interrupts.specs.Names.{used0}

pub data Case : Type 0 where
  -- the check of a block
  check : List ℕ → ℕ → Case
  -- the vectors read one after the other from a group with this status
  vectors : ℕ → List ℕ → Case
  -- the slave size of an F-code
  size : ℕ → ℕ → Case

abbrev pub read : Group → List ℕ → Bool
read g [] = true
read g (v ∷ vs) = eqb (vector_read g).value v && read (vector_read g).group vs

abbrev pub is_size : Option ℕ → ℕ → Bool
is_size (Some m) n = eqb m n
is_size None n = false

abbrev pub right : Case → Bool
right (check ws byte) = eqb (check_of ws) byte
right (vectors status vs) = read (group used0 0 0 status false) vs
right (size code n) = is_size (expected_of code) n

abbrev pub cases : List Case
cases =
    check (0x0000 ∷ []) 0xff
    ∷ check (0x0001 ∷ []) 0x34
    ∷ check (0x0002 ∷ []) 0xa1
    ∷ check (0x0003 ∷ []) 0x6a
    ∷ check (0x0000 ∷ 0x0001 ∷ []) 0x34
    ∷ vectors (2 ^ 13) (269 ∷ [])
    ∷ vectors (2 ^ 13 + 2 ^ 2) (269 ∷ 258 ∷ [])
    ∷ vectors 0 (0 ∷ [])
    ∷ size 0 1
    ∷ size 4 16
    ∷ size 12 16
    ∷ size 15 1
    ∷ []

abbrev pub all_right : List Case → Bool
all_right [] = true
all_right (c ∷ cs) = right c && all_right cs

pub numbers_right : T (all_right cases)
unfolding check_of push pushes rest ones_of ones sizes expected_of bit highest vector_read
numbers_right = tt
