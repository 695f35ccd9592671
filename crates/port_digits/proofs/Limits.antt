-- Numbers that are at most a limit are what they are when cut to it. Assumes nothing.
use Rattle.std.proofs.Common.{ℕ, zero, suc, ◌≤◌, max, ◌≡◌, refl, ◌∙◌, ap, List, [], ◌∷◌, map, arith, le-ltb, set}
use Rattle.std.proofs.Math.Seq.{sets}
use Rattle.port_digits.specs.Read.{cut, largest}

largest_above : (m : ℕ) (vs : List ℕ) → m ≤ largest m vs
unfolding largest
largest_above m [] = omega arith
largest_above m (v ∷ vs) = omega (arith, largest_above (max m v) vs)

-- the first of some numbers is at most the largest of them
pub first_within : (limit m v : ℕ) (vs : List ℕ) → largest m (v ∷ vs) ≤ limit → v ≤ limit
unfolding largest
first_within limit m v vs h = omega (arith, largest_above (max m v) vs)

-- numbers of which the largest is at most the limit are what they are when cut to it
pub cut_same : (limit m : ℕ) (vs : List ℕ) → largest m vs ≤ limit → map (cut limit) vs ≡ vs
unfolding largest
cut_same limit m [] h = refl
cut_same limit m (v ∷ vs) h =
    rw (le-ltb limit v (first_within limit m v vs h), cut_same limit (max m v) vs h)

map_set : (f : ℕ → ℕ) (l : List ℕ) (i a : ℕ) → map f (set l i a) ≡ set (map f l) i (f a)
map_set f [] i a = refl
map_set f (x ∷ l) zero a = refl
map_set f (x ∷ l) (suc i) a = ap (λ (r : List ℕ). f x ∷ r) (map_set f l i a)

-- a function of each element goes past a store of several
pub map_sets : (f : ℕ → ℕ) (l : List ℕ) (i : ℕ) (vs : List ℕ) → map f (sets l i vs) ≡ sets (map f l) i (map f vs)
map_sets f l i [] = refl
map_sets f l i (v ∷ vs) = map_sets f (set l i v) (suc i) vs ∙ ap (λ (r : List ℕ). sets r (suc i) (map f vs)) (map_set f l i v)
