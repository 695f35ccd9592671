-- Laws of one step of the division, and of the byte that is made of what the last one leaves. Assumes nothing.
use mathlib.Core.Path.{◌≡◌, ap, ◌∙◌}
use Prim.Native.Nat.{ℕ, ◌+◌, ◌-◌, ◌*◌, ◌/◌, ◌%◌, ◌≤◌, ◌<◌}
use native.Mathlib.Omega.{arith}
use borrow.Author.Tests.{lt-ltb, le-ltb}
use lib.Bits.{bit_xor, bit_or, xor_shr, xor_lt, or_shifted}
use Rattle.sequence.specs.Check.{G, reduce}

-- G has the digit of x^7, so it clears that of v
pub xor_high : (v : ℕ) → 128 ≤ v → v < 256 → bit_xor v G < 128
xor_high v h k =
    let one : v / 128 ≡ 1 = omega arith in
    let e : bit_xor v G / 128 ≡ 0 = xor_shr v G 7 ∙ ap (λ (x : ℕ). bit_xor x 1) one in
    omega arith

-- before it is reduced, a step of the division has at most eight digits
pub wide : (r b : ℕ) → r < 128 → b < 2 → bit_xor (r * 2) (b * 128) < 256
wide r b h k = xor_lt 8 (r * 2) (b * 128) (omega arith) (omega arith)

-- below x^7 nothing is reduced
pub reduce_low : (v : ℕ) → v < 128 → v ≡ reduce v
reduce_low v h = simp (lt-ltb _ _ h)

-- from x^7 on G is added
pub reduce_high : (v : ℕ) → 128 ≤ v → bit_xor v G ≡ reduce v
reduce_high v h = simp (le-ltb _ _ h)

-- the parity bit below the remainder, and all inverted
pub closed : (r n : ℕ) → r < 128 → 255 - bit_or (r * 2 % 256) (n % 2) ≡ 255 - (r * 2 + n % 2)
closed r n h =
    let e : r * 2 % 256 ≡ r * 2 = omega arith in
    let b : n % 2 < 2 = omega arith in
    rw (e, or_shifted r 1 (n % 2) b)
