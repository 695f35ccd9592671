-- The division is linear: the remainder of a sum is the sum of the remainders. Assumes nothing.
use mathlib.Core.Path.{◌≡◌, refl, sym, ap, ap₂, ◌∙◌, subst}
use mathlib.Core.Logic.{◌⊎◌, inl, inr, dite}
use Prim.Native.Nat.{ℕ, zero, suc, ◌*◌, ◌/◌, ◌%◌, ◌^◌, ◌≤◌, ◌<◌}
use native.Mathlib.Decide.{dec_lt}
use native.Mathlib.Omega.{arith}
use lib.Bits.{bit_xor, xor_shr, xor_mod, xor_lt, xor_comm, xor_zero_r}
use Rattle.sequence.specs.Check.{G, reduce, push, pushes}
use Rattle.sequence.proofs.Division.{xor_high, wide, reduce_low, reduce_high}
use Rattle.sequence.proofs.Xor.{xor_assoc, xor4, xor_shl}

-- a number is below x^7 or not
pub low_or_high : (v : ℕ) → (v < 128) ⊎ (128 ≤ v)
low_or_high v = dite (dec_lt v 128) (λ h. inl h) (λ h. inr (omega arith))

-- eight digits are reduced to seven
reduce_lt : (v : ℕ) → v < 256 → reduce v < 128
reduce_lt v h = go (low_or_high v)
  where
    go : (v < 128) ⊎ (128 ≤ v) → reduce v < 128
    go (inl l) = subst (λ (x : ℕ). x < 128) (reduce_low v l) l
    go (inr l) = subst (λ (x : ℕ). x < 128) (reduce_high v l) (xor_high v l h)

-- the digit of x^7 of a sum
top : (v w a b : ℕ) → v / 128 ≡ a → w / 128 ≡ b → bit_xor v w / 128 ≡ bit_xor a b
top v w a b p q = xor_shr v w 7 ∙ ap₂ bit_xor p q

-- a sum is reduced as each of its parts is
reduce_xor : (v w : ℕ) → v < 256 → w < 256 → reduce (bit_xor v w) ≡ bit_xor (reduce v) (reduce w)
reduce_xor v w h k = go (low_or_high v) (low_or_high w)
  where
    go : (v < 128) ⊎ (128 ≤ v) → (w < 128) ⊎ (128 ≤ w) → reduce (bit_xor v w) ≡ bit_xor (reduce v) (reduce w)
    go (inl l) (inl m) = sym (reduce_low (bit_xor v w) (xor_lt 7 v w l m)) ∙ ap₂ bit_xor (reduce_low v l) (reduce_low w m)
    go (inl l) (inr m) =
        let t : bit_xor v w / 128 ≡ 1 = top v w 0 1 (omega arith) (omega arith) in
        sym (reduce_high (bit_xor v w) (omega arith)) ∙ xor_assoc v w G ∙ ap₂ bit_xor (reduce_low v l) (reduce_high w m)
    go (inr l) (inl m) =
        let t : bit_xor v w / 128 ≡ 1 = top v w 1 0 (omega arith) (omega arith) in
        sym (reduce_high (bit_xor v w) (omega arith)) ∙ xor_assoc v w G ∙ ap (bit_xor v) (xor_comm w G) ∙ sym (xor_assoc v G w)
        ∙ ap₂ bit_xor (reduce_high v l) (reduce_low w m)
    go (inr l) (inr m) =
        let t : bit_xor v w / 128 ≡ 0 = top v w 1 1 (omega arith) (omega arith) in
        sym (reduce_low (bit_xor v w) (omega arith)) ∙ sym (xor_zero_r (bit_xor v w)) ∙ xor4 v w G G
        ∙ ap₂ bit_xor (reduce_high v l) (reduce_high w m)

-- a step of the division leaves seven digits
pub push_lt : (r b : ℕ) → r < 128 → b < 2 → push r b < 128
unfolding push
push_lt r b h k = reduce_lt (bit_xor (r * 2) (b * 128)) (wide r b h k)

-- a step on a sum is the sum of the steps
push_xor : (r s b c : ℕ) → r < 128 → s < 128 → b < 2 → c < 2 → push (bit_xor r s) (bit_xor b c) ≡ bit_xor (push r b) (push s c)
unfolding push
push_xor r s b c h k l m =
    ap reduce (ap₂ bit_xor (xor_shl r s 1) (xor_shl b c 7) ∙ xor4 (r * 2) (s * 2) (b * 128) (c * 128))
    ∙ reduce_xor (bit_xor (r * 2) (b * 128)) (bit_xor (s * 2) (c * 128)) (wide r b h l) (wide s c k m)

digit : (a b k : ℕ) → bit_xor a b / 2 ^ k % 2 ≡ bit_xor (a / 2 ^ k % 2) (b / 2 ^ k % 2)
digit a b k = ap (λ (n : ℕ). n % 2) (xor_shr a b k) ∙ xor_mod (a / 2 ^ k) (b / 2 ^ k) 1

bit : (n : ℕ) → n % 2 < 2
bit n = omega arith

-- k steps leave seven digits
pub pushes_lt : (k r a : ℕ) → r < 128 → pushes k r a < 128
unfolding pushes
pushes_lt zero r a h = h
pushes_lt (suc k) r a h = pushes_lt k (push r (a / 2 ^ k % 2)) a (push_lt r (a / 2 ^ k % 2) h (bit (a / 2 ^ k)))

-- k steps on a sum are the sum of the k steps on each
pub pushes_xor : (k r s a b : ℕ) → r < 128 → s < 128 → pushes k (bit_xor r s) (bit_xor a b) ≡ bit_xor (pushes k r a) (pushes k s b)
unfolding pushes
pushes_xor zero r s a b h l = refl
pushes_xor (suc k) r s a b h l =
    let p = a / 2 ^ k % 2 in
    let q = b / 2 ^ k % 2 in
    ap (λ (n : ℕ). pushes k n (bit_xor a b))
    (ap (push (bit_xor r s)) (digit a b k) ∙ push_xor r s p q h l (bit (a / 2 ^ k)) (bit (b / 2 ^ k)))
    ∙ pushes_xor k (push r p) (push s q) a b (push_lt r p h (bit (a / 2 ^ k))) (push_lt s q l (bit (b / 2 ^ k)))
