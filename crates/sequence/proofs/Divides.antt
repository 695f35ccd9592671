-- The check's remainder is the remainder of the block times x^7 modulo G. Assumes nothing.
use mathlib.Core.Path.{◌≡◌, sym, ap, ap₂, ◌∙◌, subst}
use mathlib.Core.Logic.{◌⊎◌, inl, inr}
use mathlib.Core.List.{List, [], ◌∷◌}
use Prim.Native.Nat.{ℕ, zero, suc, ◌+◌, ◌*◌, ◌/◌, ◌%◌, ◌^◌, ◌≤◌, ◌<◌}
use native.Mathlib.Nat.{add-mul, add_assoc, mul_assoc, mul_comm, pow-suc, mod-eq_of_lt}
use native.Mathlib.Omega.{arith}
use native.Mathlib.Numerals.{one-add}
use lib.Dec.{lit<}
use lib.Pow.{mod-pow-add}
use lib.Bits.{bit_xor, xor_self, xor_zero_r, xor_shifted}
use Rattle.sequence.specs.Check.{G, reduce, push, pushes, rest}
use Rattle.sequence.specs.Remainder.{Multiple, none, shift, plus, Remainder, Words, joined}
use Rattle.sequence.proofs.Division.{reduce_low, reduce_high}
use Rattle.sequence.proofs.Linear.{low_or_high, push_lt}
use Rattle.sequence.proofs.Xor.{xor_assoc, xor4, xor_shl}

-- (p·x + b)·x^7 + (r·x + b·x^7) is (p·x^7 + r)·x
carried : (p r b : ℕ) → b < 2 → bit_xor ((p * 2 + b) * 128) (bit_xor (r * 2) (b * 128)) ≡ bit_xor (p * 128) r * 2
carried p r b h =
    let e : (p * 2 + b) * 128 ≡ bit_xor (p * 2 * 128) (b * 128) =
    ap (λ (n : ℕ). n * 128) (sym (xor_shifted p 1 b h)) ∙ xor_shl (p * 2) b 7 in
    let s : p * 2 * 128 ≡ p * 128 * 2 = omega arith in
    ap (λ (n : ℕ). bit_xor n (bit_xor (r * 2) (b * 128))) (e ∙ ap (λ (n : ℕ). bit_xor n (b * 128)) s)
    ∙ xor4 (p * 128 * 2) (b * 128) (r * 2) (b * 128)
    ∙ ap (bit_xor (bit_xor (p * 128 * 2) (r * 2))) (xor_self (b * 128)) ∙ xor_zero_r (bit_xor (p * 128 * 2) (r * 2))
    ∙ sym (xor_shl (p * 128) r 1)

-- a sum with a multiple, before it is reduced and after
reduced : (q v : ℕ) → Multiple (bit_xor q v) → Multiple (bit_xor q (reduce v))
reduced q v h = go (low_or_high v)
  where
    go : (v < 128) ⊎ (128 ≤ v) → Multiple (bit_xor q (reduce v))
    go (inl l) = subst (λ (n : ℕ). Multiple (bit_xor q n)) (reduce_low v l) h
    go (inr l) = subst (λ (n : ℕ). Multiple n) (xor_assoc q v G ∙ ap (bit_xor q) (reduce_high v l)) (plus h)

pushed : (p r b : ℕ) → b < 2 → Remainder (p * 128) r → Remainder ((p * 2 + b) * 128) (push r b)
unfolding push
pushed p r b h k = record {
  small = push_lt r b k.small h;
  divides =
      reduced ((p * 2 + b) * 128) (bit_xor (r * 2) (b * 128)) (subst (λ (n : ℕ). Multiple n) (sym (carried p r b h)) (shift k.divides));
}

-- k digits more: what they leave after the remainder of those before them is the remainder of all
pub more : (k p r w : ℕ) → Remainder (p * 128) r → Remainder ((p * 2 ^ k + w % 2 ^ k) * 128) (pushes k r w)
unfolding pushes
more zero p r w h =
    let e : p * 1 + w % 1 ≡ p = omega arith in
    subst (λ (n : ℕ). Remainder (n * 128) r) (sym e) h
more (suc k) p r w h =
    let b = w / 2 ^ k % 2 in
    let bit : b < 2 = omega arith in
    let d : w % 2 ^ suc k ≡ b * 2 ^ k + w % 2 ^ k = ap (λ (n : ℕ). w % 2 ^ n) (sym (one-add k)) ∙ mod-pow-add w 1 k in
    let e : (p * 2 + b) * 2 ^ k + w % 2 ^ k ≡ p * 2 ^ suc k + w % 2 ^ suc k =
    ap (λ (n : ℕ). n + w % 2 ^ k) (add-mul (p * 2) b (2 ^ k)) ∙ add_assoc (p * 2 * 2 ^ k) (b * 2 ^ k) (w % 2 ^ k)
    ∙ ap₂ (λ (x y : ℕ). x + y) (mul_assoc p 2 (2 ^ k) ∙ ap (λ (n : ℕ). p * n) (mul_comm 2 (2 ^ k) ∙ sym (pow-suc 2 k))) (sym d) in
    subst (λ (n : ℕ). Remainder (n * 128) (pushes k (push r b) w)) e (more k (p * 2 + b) (push r b) w (pushed p r b bit h))

words : (ws : List ℕ) (p r : ℕ) → Words ws → Remainder (p * 128) r → Remainder (joined p ws * 128) (rest r ws)
unfolding rest joined Words
words [] p r f h = h
words (w ∷ ws) p r f h =
    words ws (p * 2 ^ 16 + w) (pushes 16 r w) f.1
    (subst (λ (n : ℕ). Remainder ((p * 2 ^ 16 + n) * 128) (pushes 16 r w)) (mod-eq_of_lt f.0) (more 16 p r w h))

-- no digits leave nothing
pub nothing : Remainder (0 * 2 ^ 7) 0
nothing = record { small = lit< tt; divides = none }

-- The remainder of the words is the one of their bits times x^7 modulo G.
pub is_remainder : (ws : List ℕ) → Words ws → Remainder (joined 0 ws * 2 ^ 7) (rest 0 ws)
is_remainder ws f = words ws 0 0 f nothing
