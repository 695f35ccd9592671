-- Bits pushed in two parts. Assumes nothing.
use mathlib.Core.Path.{◌≡◌, refl, sym, ap, ◌∙◌}
use Prim.Native.Nat.{ℕ, zero, suc, ◌+◌, ◌*◌, ◌/◌, ◌%◌, ◌^◌, ◌<◌}
use native.Mathlib.Nat.{add-mul-div_right, mul_assoc, mul_comm, add_comm, pow-suc, zero-add, suc-add}
use native.Mathlib.Omega.{arith}
use lib.Pow.{pow_pos, shr-shr, high}
use Rattle.sequence.specs.Check.{push, pushes}

-- only the k low digits are pushed
pushes_low : (k r a b : ℕ) → pushes k r (a * 2 ^ k + b) ≡ pushes k r b
unfolding pushes
pushes_low zero r a b = refl
pushes_low (suc k) r a b =
    let s : a * 2 ^ suc k ≡ a * 2 * 2 ^ k = ap (λ (n : ℕ). a * n) (pow-suc 2 k ∙ mul_comm (2 ^ k) 2) ∙ sym (mul_assoc a 2 (2 ^ k)) in
    let q : (a * 2 * 2 ^ k + b) / 2 ^ k ≡ b / 2 ^ k + a * 2 =
    ap (λ (n : ℕ). n / 2 ^ k) (add_comm (a * 2 * 2 ^ k) b) ∙ add-mul-div_right b (a * 2) (pow_pos k) in
    let d : (b / 2 ^ k + a * 2) % 2 ≡ b / 2 ^ k % 2 = omega arith in
    ap (λ (n : ℕ). pushes k (push r (n / 2 ^ k % 2)) n) (ap (λ (n : ℕ). n + b) s)
    ∙ ap (λ (n : ℕ). pushes k (push r n) (a * 2 * 2 ^ k + b)) (ap (λ (n : ℕ). n % 2) q ∙ d)
    ∙ pushes_low k (push r (b / 2 ^ k % 2)) (a * 2) b

-- the j bits of a and then the k bits of b, pushed at once or one part after the other
pub pushes_cat : (j k r a b : ℕ) → b < 2 ^ k → pushes (j + k) r (a * 2 ^ k + b) ≡ pushes k (pushes j r a) b
unfolding pushes
pushes_cat zero k r a b h = ap (λ (n : ℕ). pushes n r (a * 2 ^ k + b)) (zero-add k) ∙ pushes_low k r a b
pushes_cat (suc j) k r a b h =
    let n = a * 2 ^ k + b in
    let q : n / 2 ^ (j + k) ≡ a / 2 ^ j =
    ap (λ (e : ℕ). n / 2 ^ e) (add_comm j k) ∙ sym (shr-shr n k j) ∙ ap (λ (x : ℕ). x / 2 ^ j) (high a k h) in
    ap (λ (m : ℕ). pushes m r n) (suc-add j k)
    ∙ ap (λ (x : ℕ). pushes (j + k) (push r (x % 2)) n) q
    ∙ pushes_cat j k (push r (a / 2 ^ j % 2)) a b h
