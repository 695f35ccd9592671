-- A text is the list of its bytes. What stands before and after the first byte b of a text, and whether two texts are the same. Assumes
-- nothing.
use Rattle.std.specs.Prelude.{ℕ, zero, suc, Bool, true, false, cond, ◌&&◌, List, [], ◌∷◌, eqb}

-- the bytes before the first b; all of them where there is none
unfoldable pub text_before : ℕ → List ℕ → List ℕ
text_before b [] = []
text_before b (c ∷ cs) = cond (eqb c b) [] (c ∷ text_before b cs)

-- the bytes after the first b; none where there is none
unfoldable pub text_after : ℕ → List ℕ → List ℕ
text_after b [] = []
text_after b (c ∷ cs) = cond (eqb c b) cs (text_after b cs)

-- a b is there
unfoldable pub has : ℕ → List ℕ → Bool
has b [] = false
has b (c ∷ cs) = cond (eqb c b) true (has b cs)

-- how many bytes stand before the first b
unfoldable pub until : ℕ → List ℕ → ℕ
until b [] = zero
until b (c ∷ cs) = cond (eqb c b) zero (suc (until b cs))

-- two texts are the same, byte for byte
unfoldable pub same : List ℕ → List ℕ → Bool
same [] [] = true
same [] (d ∷ ds) = false
same (c ∷ cs) [] = false
same (c ∷ cs) (d ∷ ds) = eqb c d && same cs ds
