-- The lines of a text, in the terms of what stands before and after its first newline. Assumes nothing.
use Rattle.std.proofs.Common.{ℕ, ◌<◌, ◌≤◌, ◌≡◌, refl, ap, Bool, true, false, cond, List, [], ◌∷◌, ◌++◌, arith, eqb, length}
use Rattle.port_digits.specs.Marks.{newline}
use Rattle.port_digits.specs.Cut.{text_before, text_after, has}
use Rattle.port_digits.proofs.Cutting.{lacks}
use Rattle.port_run.specs.Printed.{on_first, text_lines}

-- the first line goes up to the first newline, and the others come after it
lines_next : (c : ℕ) (cs : List ℕ) → text_lines (c ∷ cs) ≡ text_before newline (c ∷ cs) ∷ text_lines (text_after newline (c ∷ cs))
unfolding text_lines text_before text_after
lines_next c [] = go (eqb c newline)
  where
    go : (e : Bool) → cond e ([] ∷ []) (on_first c []) ≡ cond e [] (c ∷ []) ∷ text_lines (cond e [] [])
    go true = refl
    go false = refl
lines_next c (d ∷ ds) = go (eqb c newline) (lines_next d ds)
  where
    go : (e : Bool) → text_lines (d ∷ ds) ≡ text_before newline (d ∷ ds) ∷ text_lines (text_after newline (d ∷ ds))
        → cond e ([] ∷ text_lines (d ∷ ds)) (on_first c (text_lines (d ∷ ds)))
        ≡ cond e [] (c ∷ text_before newline (d ∷ ds)) ∷ text_lines (cond e (d ∷ ds) (text_after newline (d ∷ ds)))
    go true h = refl
    go false h = ap (on_first c) h

-- where any text is left, its first line goes up to the first newline
pub lines_some : (t : List ℕ) → 0 < length t → text_lines t ≡ text_before newline t ∷ text_lines (text_after newline t)
lines_some [] h = absurd (let z : 0 < 0 = h in omega arith)
lines_some (c ∷ cs) h = lines_next c cs

-- what has no newline goes before the first one
pub lines_on : (l t : List ℕ) → has newline l ≡ false → text_lines (l ++ newline ∷ t) ≡ l ∷ text_lines t
unfolding text_lines
lines_on [] t h = refl
lines_on (c ∷ l) t h = rw ((lacks newline c l h).0, lines_on l t (lacks newline c l h).1)

-- what has no newline is the last line
pub lines_last : (c : ℕ) (l : List ℕ) → has newline (c ∷ l) ≡ false → text_lines (c ∷ l) ≡ (c ∷ l) ∷ []
unfolding text_lines
lines_last c [] h = rw (lacks newline c [] h).0
lines_last c (d ∷ l) h = rw (lacks newline c (d ∷ l) h).0 (ap (on_first c) (lines_last d l (lacks newline c (d ∷ l) h).1))

-- what has no newline lies in the first line
pub first_holds : (l t : List ℕ) → has newline l ≡ false → length l ≤ length (text_before newline (l ++ t))
unfolding text_before
first_holds [] t h = omega arith
first_holds (c ∷ l) t h = rw (lacks newline c l h).0 (let n = first_holds l t (lacks newline c l h).1 in omega (arith, n))
