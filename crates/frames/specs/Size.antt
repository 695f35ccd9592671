-- Document 01, "Check sequence and frame sizes": slave sizes in words by F-code. Assumes nothing.
use Rattle.std.specs.Prelude.{Option, None, Some}
use Rattle.std.specs.Prelude.{ℕ, List, [], ◌∷◌, get_or}

-- the sixteen F-codes from 0 on. 0 to 4: 1, 2, 4, 8, 16; 12: 16; 8, 9, 13, 14, 15: 1; 5, 6, 7, 10, 11: no reply is expected
unfoldable pub sizes : List (Option ℕ)
sizes =
    Some 1 ∷ Some 2 ∷ Some 4 ∷ Some 8 ∷ Some 16 ∷ None ∷ None ∷ None
    ∷ Some 1 ∷ Some 1 ∷ None ∷ None ∷ Some 16 ∷ Some 1 ∷ Some 1 ∷ Some 1 ∷ []

-- how many words answer a master frame of this F-code, if any do; a number above 15 is no F-code, and has no reply
unfoldable pub expected_of : ℕ → Option ℕ
expected_of code = get_or sizes code None
