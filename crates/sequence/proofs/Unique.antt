-- A number has one remainder modulo G. Assumes nothing.
use mathlib.Core.Path.{◌≡◌, refl, sym, ap, ap₂, ◌∙◌, subst}
use mathlib.Core.Bool.{Bool, not, ◌||◌}
use Prim.Native.Nat.{ℕ, zero, suc, ◌+◌, ◌-◌, ◌*◌, ◌/◌, ◌%◌, ◌^◌, ◌≤◌, ◌<◌}
use native.Mathlib.Nat.{zero-div, lt_of_le_of_lt, lt_of_lt_of_le, lt-suc_self, zero-lt-suc, le-add_right}
use native.Mathlib.Omega.{arith}
use native.Mathlib.Numerals.{one-add, add-one}
use borrow.Author.Tests.{eq-eqb}
use lib.Dec.{T, eqb, eqb→eq, lit<}
use lib.Pow.{pow-lt, pow_mono}
use lib.Bits.{bit_xor, xor_self, xor_lt}
use Rattle.sequence.specs.Check.{G, push, pushes}
use Rattle.sequence.specs.Remainder.{Multiple, none, shift, plus, Remainder}
use Rattle.sequence.proofs.Xor.{xor4, xor_twice}
use Rattle.sequence.proofs.Linear.{pushes_xor}
use Rattle.sequence.proofs.Cat.{pushes_cat}
use Rattle.sequence.proofs.Below.{below, below_at}

-- zeros leave nothing
pub zeros : (j : ℕ) → pushes j 0 0 ≡ 0
unfolding pushes push
zeros zero = refl
zeros (suc j) =
    let e : 0 / 2 ^ j % 2 ≡ 0 = ap (λ (n : ℕ). n % 2) (zero-div (2 ^ j)) in
    ap (λ (n : ℕ). pushes j (push 0 n) 0) e ∙ zeros j

-- zeros in front of other digits do nothing
pub front : (j k n : ℕ) → n < 2 ^ k → pushes (j + k) 0 n ≡ pushes k 0 n
front j k n h =
    let e : n ≡ 0 * 2 ^ k + n = omega arith in
    ap (pushes (j + k) 0) e ∙ pushes_cat j k 0 0 n h ∙ ap (λ (r : ℕ). pushes k r n) (zeros j)

-- a multiple of G leaves nothing
gone : {m : ℕ} → Multiple m → (k : ℕ) → 8 ≤ k → m < 2 ^ k → pushes k 0 m ≡ 0
unfolding push pushes
gone none k g h = zeros k
gone (shift {m} d) k g h =
    let l : m < 2 ^ k = omega arith in
    let e : m * 2 + 0 ≡ m * 2 = omega arith in
    sym (front 1 k (m * 2) h) ∙ ap₂ (λ (x y : ℕ). pushes x 0 y) (one-add k ∙ sym (add-one k)) (sym e)
    ∙ pushes_cat k 1 0 m 0 (lit< tt) ∙ ap (λ (x : ℕ). pushes 1 x 0) (gone d k g l)
gone (plus {m} d) k g h =
    let b : G < 2 ^ k = lt_of_lt_of_le {m = 2 ^ 8} (lit< tt) (pow_mono g) in
    let l : m < 2 ^ k = subst (λ (n : ℕ). n < 2 ^ k) (xor_twice m G) (xor_lt k (bit_xor m G) G h b) in
    let j : (k - 8) + 8 ≡ k = omega arith in
    let z : pushes k 0 G ≡ 0 = ap (λ (n : ℕ). pushes n 0 G) (sym j) ∙ front (k - 8) 8 G (lit< tt) in
    pushes_xor k 0 0 m G (lit< tt) (lit< tt) ∙ ap₂ bit_xor (gone d k g l) z

lt_pow : (k : ℕ) → k < 2 ^ k
lt_pow zero = zero-lt-suc zero
lt_pow (suc k) = lt_of_le_of_lt (lt_pow k) (pow-lt (lt-suc_self k))

-- and of the numbers below 128 only 0 leaves nothing: a test that antt computes
sees : ℕ → Bool
sees n = not (eqb (pushes 8 0 n) 0) || eqb n 0

all_see : T (below sees 128)
unfolding sees push pushes
all_see = tt

seen : (n : ℕ) → n < 128 → pushes 8 0 n ≡ 0 → n ≡ 0
unfolding sees
seen n h z = eqb→eq n 0 (subst (λ (b : Bool). T (not b || eqb n 0)) (eq-eqb (pushes 8 0 n) 0 z) (below_at sees 128 all_see n h))

-- Two remainders of one number modulo G are equal.
pub unique : (p r s : ℕ) → Remainder p r → Remainder p s → r ≡ s
unique p r s f g =
    let k = p + 8 in
    let b : p < 2 ^ k = lt_of_lt_of_le (lt_pow p) (pow_mono (le-add_right p 8)) in
    let b7 : 2 ^ 7 ≤ 2 ^ k = pow_mono {i = 7} {j = k} (omega arith) in
    let x : pushes k 0 (bit_xor p r) ≡ 0 = gone f.divides k (omega arith) (xor_lt k p r b (lt_of_lt_of_le f.small b7)) in
    let y : pushes k 0 (bit_xor p s) ≡ 0 = gone g.divides k (omega arith) (xor_lt k p s b (lt_of_lt_of_le g.small b7)) in
    let l : bit_xor r s < 128 = xor_lt 7 r s f.small g.small in
    let e : bit_xor (bit_xor p r) (bit_xor p s) ≡ bit_xor r s = xor4 p r p s ∙ ap (λ (n : ℕ). bit_xor n (bit_xor r s)) (xor_self p) in
    let z : pushes k 0 (bit_xor r s) ≡ 0 =
    ap (pushes k 0) (sym e) ∙ pushes_xor k 0 0 (bit_xor p r) (bit_xor p s) (lit< tt) (lit< tt) ∙ ap₂ bit_xor x y in
    let w : bit_xor r s ≡ 0 = seen (bit_xor r s) l (sym (front p 8 (bit_xor r s) (omega arith)) ∙ z) in
    sym (xor_twice r s) ∙ ap (λ (n : ℕ). bit_xor n s) w
