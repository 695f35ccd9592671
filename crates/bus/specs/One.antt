-- That a contract allows one result alone, said of the contract's own reading. Assumes nothing.
use Rattle.std.specs.Prelude.{◌≡◌}

-- two results r and q that L allows, of the same lifetimes and arguments, are equal, whatever is left of the arguments
abbrev pub One : {K : Type 0} {A R E : K → Type 0} → ((κs : K) → A κs → R κs → E κs → Type 0) → Type 0
One {K} {A} {R} {E} L = (κs : K) (a : A κs) (r q : R κs) (e d : E κs) → L κs a r e → L κs a q d → r ≡ q
