-- Numbers with few ones, as polynomials: none is 0, and each one is the highest of those at and below it. Assumes nothing.
use mathlib.Core.Path.{◌≡◌, refl, sym, ap, ◌∙◌}
use mathlib.Core.Logic.{dite}
use Prim.Native.Nat.{ℕ, zero, suc, ◌+◌, ◌-◌, ◌*◌, ◌/◌, ◌%◌, ◌^◌, ◌≤◌, ◌<◌}
use native.Mathlib.Nat.{pow-suc}
use native.Mathlib.Decide.{dec_lt}
use native.Mathlib.Omega.{arith}
use lib.Arith.{bin_ind}
use lib.Count.{ones, ones_step, ones_cat, ones-le}

-- only 0 has no ones
pub no_ones : (n : ℕ) → ones n ≡ 0 → n ≡ 0
no_ones =
    bin_ind (λ (n : ℕ). ones n ≡ 0 → n ≡ 0) (λ e. refl)
    (λ n ih e.
    let s : n % 2 + ones (n / 2) ≡ 0 = sym (ones_step n) ∙ e in
    let h : n / 2 ≡ 0 = ih (omega arith) in
    omega arith)

-- m is x^degree and what lies below it, of k digits in all; w ones are below
pub record Leading (k m w : ℕ) : Type 0 where
  pub degree : ℕ
  pub lower : ℕ
  pub fits : degree < k
  pub under : lower < 2 ^ degree
  pub sum : m ≡ 1 * 2 ^ degree + lower
  pub count : ones lower ≡ w

-- the leading term of a number that has ones
pub leading : (k m w : ℕ) → m < 2 ^ k → ones m ≡ suc w → Leading k m w
unfolding ones
leading zero m w h o = absurd (omega (arith, ones-le 0 m h))
leading (suc k) m w h o = dite (dec_lt m (2 ^ k)) (λ l. wider (leading k m w l o)) (λ l. here (omega arith))
  where
    wider : Leading k m w → Leading (suc k) m w
    wider t =
        let i : t.degree < suc k = omega arith in
        record { degree = t.degree; lower = t.lower; fits = i; under = t.under; sum = t.sum; count = t.count }

    here : 2 ^ k ≤ m → Leading (suc k) m w
    here l =
        let r = m - 2 ^ k in
        let p : 2 ^ suc k ≡ 2 ^ k * 2 = pow-suc 2 k in
        let s : r < 2 ^ k = omega arith in
        let e : m ≡ 1 * 2 ^ k + r = omega arith in
        let q : 1 + ones r ≡ suc w = sym (ones_cat k 1 r s) ∙ ap ones (sym e) ∙ o in
        record { degree = k; lower = r; fits = omega arith; under = s; sum = e; count = omega arith }
