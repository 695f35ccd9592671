-- An array that `map` makes with a function that is told by its argument is the list of that function's values. Assumes nothing.
use Rattle.std.proofs.Common.{ℕ, ◌≡◌, ◌∙◌, sym, arith, List, map, length}
use Rattle.std.proofs.lemmas.List.{ext_get_or, length-map, get_or-map}
use Rattle.std.specs.Array.{IsMapOf}
use Rattle.std.specs.Fn.{Called}
use denote.Param.Members.{Mut}

pub mapped : {F : Type 0} {g : Mut F (ℕ × Unit {0}) ℕ} {s : F} (f : ℕ → ℕ) (xs ys : List ℕ) (n : ℕ) → IsMapOf g s xs ys n → length xs ≡ n
    → ((x y : ℕ) (p q : F) → Called g p (x, tt) y q → y ≡ f x) → ys ≡ map f xs
mapped f xs ys n m e says =
    ext_get_or 0 ys (map f xs) (m.long ∙ sym e ∙ sym (length-map xs f))
    (λ i h. let c = m.at i 0 0 (omega (arith, m.long)) in says _ _ c.0 c.1 c.2 ∙ sym (get_or-map f xs i 0 0 (omega (arith, m.long, e))))
