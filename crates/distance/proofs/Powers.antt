-- The columns of the check: x^t modulo G, one for each bit of a block and of its check byte. One computed test shows that x^127 is the first power
-- that leaves 1 again. So no power leaves 0, and two that lie less than 127 apart leave different remainders: one bit alone, or two
-- of a block and its check byte, are never a multiple of G. Assumes nothing.
use mathlib.Core.Path.{◌≡◌, refl, sym, ap, ap₂, ◌∙◌, subst}
use mathlib.Core.Bool.{Bool, not}
use Prim.Native.Nat.{ℕ, zero, suc, ◌+◌, ◌-◌, ◌*◌, ◌^◌, ◌≤◌, ◌<◌}
use native.Mathlib.Omega.{arith}
use borrow.Author.Tests.{eq-eqb}
use lib.Dec.{T, eqb, lit<}
use lib.Pow.{pow_pos}
use lib.Bits.{bit_xor, xor_zero_r, xor_shifted}
use lib.Count.{ones}
use Rattle.sequence.specs.Check.{push, pushes}
use Rattle.sequence.proofs.Below.{below, below_at}
use Rattle.sequence.proofs.Cat.{pushes_cat}
use Rattle.sequence.proofs.Linear.{pushes_xor}
use Rattle.sequence.proofs.Unique.{zeros, front}
use Rattle.sequence.proofs.Xor.{xor_twice}
use Rattle.distance.proofs.Leading.{no_ones, Leading, leading}

-- the order of x modulo G
abbrev order : ℕ
order = 127

-- what x^t leaves modulo G
unfoldable power : ℕ → ℕ
power t = pushes t 1 0

-- t times more by x
power_add : (s t : ℕ) → pushes t (power s) 0 ≡ power (s + t)
unfolding power
power_add s t =
    let e : 0 * 2 ^ t + 0 ≡ 0 = omega arith in
    sym (pushes_cat s t 1 0 0 (pow_pos t)) ∙ ap (pushes (s + t) 1) e

power_order : power order ≡ 1
unfolding power push pushes
power_order = refl

-- x^(d + 1) leaves something else than 1: the test that antt computes
differs : ℕ → Bool
differs d = not (eqb (power (suc d)) 1)

all_differ : T (below differs (order - 1))
unfolding differs power push pushes
all_differ = tt

-- two powers that are less than the order apart differ
powers_differ : (s d : ℕ) → suc d < order → s ≤ order → power s ≡ power (s + suc d) → ⊥
unfolding differs power
powers_differ s d h l e =
    let t = order - s in
    let p : s + t ≡ order = omega arith in
    let q : s + suc d + t ≡ order + suc d = omega arith in
    let a : pushes t (power s) 0 ≡ 1 = power_add s t ∙ ap power p ∙ power_order in
    let b : pushes t (power (s + suc d)) 0 ≡ power (suc d) =
    power_add (s + suc d) t ∙ ap power q ∙ sym (power_add order (suc d)) ∙ ap (λ (r : ℕ). pushes (suc d) r 0) power_order in
    let c : power (suc d) ≡ 1 = sym b ∙ ap (λ (r : ℕ). pushes t r 0) (sym e) ∙ a in
    subst (λ (x : Bool). T (not x)) (eq-eqb (power (suc d)) 1 c) (below_at differs (order - 1) all_differ d (omega arith))

-- and none of them is 0
nonzero : (s : ℕ) → s ≤ order → power s ≡ 0 → ⊥
nonzero s l e =
    let t = order - s in
    let p : s + t ≡ order = omega arith in
    let z : ◌≡◌ {A = ℕ} 1 0 = sym power_order ∙ ap power (sym p) ∙ sym (power_add s t) ∙ ap (λ (r : ℕ). pushes t r 0) e ∙ zeros t in
    omega arith

-- the leading term of k digits, times x^7, leaves its power beside what the digits below it leave
beside : (k p r : ℕ) → p < k → r < 2 ^ p → pushes k 0 (1 * 2 ^ p + r) ≡ bit_xor (power (7 + p)) (pushes k 0 r)
unfolding power push pushes
beside k p r h l =
    let j = k - p - 1 in
    let e : (j + 1) + p ≡ k = omega arith in
    let z : 1 * 2 ^ p ≡ 1 * 2 ^ p + 0 = omega arith in
    let s : pushes k 0 (1 * 2 ^ p) ≡ power (7 + p) =
    ap₂ (λ (i n : ℕ). pushes i 0 n) (sym e) z ∙ pushes_cat (j + 1) p 0 1 0 (pow_pos p)
    ∙ ap (λ (x : ℕ). pushes p x 0) (front j 1 1 (lit< tt)) ∙ power_add 7 p in
    ap (pushes k 0) (sym (xor_shifted 1 p r l)) ∙ pushes_xor k 0 0 (1 * 2 ^ p) r (lit< tt) (lit< tt)
    ∙ ap (λ (n : ℕ). bit_xor n (pushes k 0 r)) s

-- the same where there is nothing below it
lone : (k p r : ℕ) → p < k → r < 2 ^ p → ones r ≡ 0 → pushes k 0 (1 * 2 ^ p + r) ≡ power (7 + p)
lone k p r h l o =
    beside k p r h l ∙ ap (bit_xor (power (7 + p))) (ap (pushes k 0) (no_ones r o) ∙ zeros k) ∙ xor_zero_r (power (7 + p))

-- one or two ones among the bits of at most four words and their check byte leave something
pub two_leave : (k m : ℕ) → k ≤ 4 * 16 + 8 → m < 2 ^ k → 1 ≤ ones m → ones m ≤ 2 → pushes k 0 m ≡ 0 → ⊥
two_leave k m b h least most z = first (ones m - 1) (omega arith) (leading k m (ones m - 1) h (omega arith))
  where
    second : (t : Leading k m 1) → Leading t.degree t.lower 0 → ⊥
    second t u =
        let p = t.degree in
        let q = u.degree in
        let d = p - q - 1 in
        let i : q < k = omega arith in
        let x : pushes k 0 t.lower ≡ power (7 + q) = ap (pushes k 0) u.sum ∙ lone k q u.lower i u.under u.count in
        let y : bit_xor (power (7 + p)) (power (7 + q)) ≡ 0 =
        ap (bit_xor (power (7 + p))) (sym x) ∙ sym (beside k p t.lower t.fits t.under) ∙ ap (pushes k 0) (sym t.sum) ∙ z in
        let e : 7 + p ≡ 7 + q + suc d = omega arith in
        powers_differ (7 + q) d (omega arith) (omega arith)
        (ap (λ (n : ℕ). bit_xor n (power (7 + q))) (sym y) ∙ xor_twice (power (7 + p)) (power (7 + q)) ∙ ap power e)

    first : (w : ℕ) → w ≤ 1 → Leading k m w → ⊥
    first zero l t =
        let p = t.degree in
        nonzero (7 + p) (omega arith) (sym (lone k p t.lower t.fits t.under t.count) ∙ ap (pushes k 0) (sym t.sum) ∙ z)
    first (suc zero) l t = second t (leading t.degree t.lower 0 t.under t.count)
    first (suc (suc w)) l t = omega arith
