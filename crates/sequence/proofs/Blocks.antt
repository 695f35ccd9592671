-- Laws of the words of a block and of a frame's blocks. Assumes nothing.
use mathlib.Core.Path.{◌≡◌, refl, sym, ◌∙◌}
use mathlib.Core.Bool.{Bool, true, false, cond}
use mathlib.Core.List.{List, [], ◌∷◌}
use Prim.Native.Nat.{ℕ, min, ◌+◌, ◌-◌, ◌*◌, ◌/◌, ◌%◌, ◌≤◌, ◌<◌}
use native.Mathlib.Omega.{arith}
use native.Mathlib.Decide.{dec_le}
use native.Mathlib.Numerals.{add-one}
use lib.Dec.{ltb, leb}
use borrow.Author.Tests.{leb-true, le-leb, le-ltb}
use lib.ListN.{length, get_or, take, drop, length-drop}
use lib.Seq.{drop-cons, drop-length, take_all}
use lib.Bits.{bit_or, bit_xor}
use lib.Count.{ones}
use Rattle.sequence.specs.Check.{rest, ones_of, check_of}
use Rattle.sequence.specs.Frame.{blocks, block, check_at, byte_at}
use Rattle.sequence.specs.Joined.{joined_bytes}
use Rattle.sequence.proofs.Division.{closed}
use Rattle.sequence.proofs.Ones.{ones_xor}

-- the words from i on: the first of them, and the words from i + 1 on
pub words_cons : (ws : List ℕ) (i : ℕ) → i < length ws → drop i ws ≡ get_or ws i 0 ∷ drop (i + 1) ws
words_cons ws i h = rw add-one (drop-cons ws i 0 h)

-- past the last word none is left
pub none_left : (ws : List ℕ) (i : ℕ) → i ≤ length ws → length ws ≤ i → drop i ws ≡ []
none_left ws i h k = let e : i ≡ length ws = omega arith in rw e (drop-length ws)

-- the check of the words, from the remainder of all of them and a number whose ones are as even as theirs
pub ended : (ws : List ℕ) (r all : ℕ) → r < 128 → r ≡ rest 0 ws → ones all % 2 ≡ ones_of ws % 2
    → 255 - bit_or (r * 2 % 256) (ones (bit_xor all r) % 2) ≡ check_of ws
unfolding check_of
ended ws r all l p q =
    let e : ones (bit_xor all r) % 2 ≡ (ones_of ws + ones r) % 2 = omega (arith, ones_xor all r) in
    closed r (ones (bit_xor all r)) l ∙ rw (e, ← p)

-- a block that a frame has begins inside the frame
pub begins : (n k : ℕ) → k < blocks n → (4 * k < n) × (n ≤ 16)
unfolding blocks
begins n k h = go (leb n 16) refl h
  where
    go : (b : Bool) → leb n 16 ≡ b → k < cond b ((n + 3) / 4) 0 → (4 * k < n) × (n ≤ 16)
    go true e l = (omega arith, leb-true n 16 e)
    go false e l = omega arith

-- the words of block k, cut at the frame's end
pub cut : (ws : List ℕ) (from : ℕ) → take (min (from + 4) (length ws) - from) (drop from ws) ≡ take 4 (drop from ws)
cut ws from = go (dec_le (from + 4) (length ws))
  where
    go : Dec (from + 4 ≤ length ws) → take (min (from + 4) (length ws) - from) (drop from ws) ≡ take 4 (drop from ws)
    go (yes h) = let e : min (from + 4) (length ws) - from ≡ 4 = omega arith in rw e
    go (no h) =
        let s : length (drop from ws) ≤ 4 = omega (arith, length-drop from ws) in
        let t : length (drop from ws) ≤ min (from + 4) (length ws) - from = omega (arith, length-drop from ws) in
        take_all _ (drop from ws) t ∙ sym (take_all 4 (drop from ws) s)

-- a check byte, or the 0 of a block that is not there, is a byte
byte_lt : (ws : List ℕ) (k : ℕ) → byte_at ws k < 256
unfolding byte_at check_at check_of
byte_lt ws k = go (ltb k (blocks (length ws)))
  where
    go : (b : Bool) → cond b (check_of (block ws k)) 0 < 256
    go true = omega arith
    go false = omega arith

-- a frame of at most four words has the byte of block 0 alone
no_other : (ws : List ℕ) (k : ℕ) → length ws ≤ 4 → 1 ≤ k → byte_at ws k ≡ 0
unfolding byte_at blocks
no_other ws k h l =
    let few : cond (leb (length ws) 16) ((length ws + 3) / 4) 0 ≤ k = rw (le-leb (length ws) 16 (omega arith)) (omega arith) in
    rw (le-ltb _ _ few)

-- so it is all that is joined
pub one_byte : (ws : List ℕ) → length ws ≤ 4 → byte_at ws 0 ≡ joined_bytes ws
one_byte ws h =
    let z1 = no_other ws 1 h (omega arith) in
    let z2 = no_other ws 2 h (omega arith) in
    let z3 = no_other ws 3 h (omega arith) in
    omega arith

-- the lowest of joined bytes, and those above it
parted : (x a m : ℕ) → a < 256 → x ≡ a + 256 * m → (x % 256 ≡ a) × (x / 256 ≡ m)
parted x a m h e = (omega arith, omega arith)

-- the check bytes of a frame are the bytes of the number that they are joined to, the lowest first
pub taken_apart : (ws : List ℕ) (x : ℕ) → x ≡ joined_bytes ws
    → x % 256 ∷ x / 256 % 256 ∷ x / 65536 % 256 ∷ x / 16777216 % 256 ∷ []
    ≡ byte_at ws 0 ∷ byte_at ws 1 ∷ byte_at ws 2 ∷ byte_at ws 3 ∷ []
taken_apart ws x e =
    let first = parted x _ _ (byte_lt ws 0) e in
    let second = parted (x / 256) _ _ (byte_lt ws 1) first.1 in
    let third = parted (x / 256 / 256) _ _ (byte_lt ws 2) second.1 in
    let b = byte_lt ws 3 in
    let third_byte : x / 65536 % 256 ≡ byte_at ws 2 = omega (arith, third.0) in
    let fourth_byte : x / 16777216 % 256 ≡ byte_at ws 3 = omega (arith, third.1) in
    rw (first.0, second.0, third_byte, fourth_byte)
