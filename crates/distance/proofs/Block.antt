-- A block in which one, two or three bits are flipped, check byte included, has a wrong check byte. The division is linear, so the flipped block has
-- the right byte only if the masks are such a block themselves, not inverted: the byte's mask is the remainder and the parity of the words' masks.
-- Such masks have an even number of ones, which rules out one and three flips, and Powers.antt rules out two. Assumes nothing.
use mathlib.Core.Path.{◌≡◌, refl, sym, ap, ap₂, ◌∙◌, subst}
use mathlib.Core.List.{List, [], ◌∷◌}
use Prim.Native.Nat.{ℕ, zero, suc, ◌+◌, ◌-◌, ◌*◌, ◌%◌, ◌^◌, ◌≤◌, ◌<◌}
use native.Mathlib.Nat.{add-zero, add_assoc}
use native.Mathlib.Omega.{arith}
use lib.Arith.{digits_lt}
use lib.Dec.{lit<}
use lib.ListN.{length}
use lib.Pow.{pow-add}
use lib.Bits.{bit_xor, xor_comm, xor_self, xor_zero_r, xor_block, xor_add_and, and_mask}
use lib.Count.{ones, ones_cat}
use Rattle.sequence.specs.Check.{pushes, rest, remainder, ones_of, parity, check_of}
use Rattle.sequence.specs.Remainder.{Words, joined}
use Rattle.sequence.specs.Steps.{step_of}
use Rattle.sequence.proofs.Cat.{pushes_cat}
use Rattle.sequence.proofs.Linear.{pushes_lt, pushes_xor}
use Rattle.sequence.proofs.Ones.{ones_xor}
use Rattle.sequence.proofs.Steps.{byte_step}
use Rattle.sequence.proofs.Unique.{zeros}
use Rattle.sequence.proofs.Xor.{xor4, xor_twice}
use Rattle.distance.specs.Flips.{flip, weight}
use Rattle.distance.proofs.Powers.{two_leave}

-- ---- what flipped words leave

rest_lt : (ws : List ℕ) (r : ℕ) → r < 128 → rest r ws < 128
unfolding rest
rest_lt [] r h = h
rest_lt (w ∷ ws) r h = rest_lt ws (pushes 16 r w) (pushes_lt 16 r w h)

-- the remainder of flipped words is that of the words joined with that of the masks
rest_xor : (ws es : List ℕ) (r s : ℕ) → length es ≡ length ws → r < 128 → s < 128
    → rest (bit_xor r s) (flip ws es) ≡ bit_xor (rest r ws) (rest s es)
unfolding rest flip
rest_xor [] [] r s l h k = refl
rest_xor [] (e ∷ es) r s l h k = absurd (omega arith)
rest_xor (w ∷ ws) [] r s l h k = absurd (omega arith)
rest_xor (w ∷ ws) (e ∷ es) r s l h k =
    ap (λ (n : ℕ). rest n (flip ws es)) (pushes_xor 16 r s w e h k)
    ∙ rest_xor ws es (pushes 16 r w) (pushes 16 s e) (omega arith) (pushes_lt 16 r w h) (pushes_lt 16 s e k)

-- flipped words have as many ones as words and masks together, but for an even number
ones_flip : (ws es : List ℕ) → length es ≡ length ws → ones_of (flip ws es) % 2 ≡ (ones_of ws + ones_of es) % 2
unfolding ones_of flip
ones_flip [] [] l = refl
ones_flip [] (e ∷ es) l = absurd (omega arith)
ones_flip (w ∷ ws) [] l = absurd (omega arith)
ones_flip (w ∷ ws) (e ∷ es) l = omega (arith, ones_xor w e, ones_flip ws es (omega arith))

-- ---- the check byte before it is inverted

upright : List ℕ → ℕ
upright ws = remainder ws * 2 + parity ws

remainder_lt : (ws : List ℕ) → rest 0 ws < 2 ^ 7
remainder_lt ws = rest_lt ws 0 (lit< tt)

parity_lt : (ws : List ℕ) → parity ws < 2 ^ 1
parity_lt ws = omega arith

upright_lt : (ws : List ℕ) → upright ws < 256
unfolding upright
upright_lt ws = omega (arith, remainder_lt ws)

-- two bits joined are the parity of their sum
bits_joined : (x y : ℕ) → x < 2 → y < 2 → bit_xor x y ≡ (x + y) % 2
bits_joined zero zero h k = refl
bits_joined zero (suc zero) h k = refl
bits_joined (suc zero) zero h k = refl
bits_joined (suc zero) (suc zero) h k = refl
bits_joined zero (suc (suc y)) h k = absurd (omega arith)
bits_joined (suc zero) (suc (suc y)) h k = absurd (omega arith)
bits_joined (suc (suc x)) y h k = absurd (omega arith)

-- the parity of a sum is that of the parities
summed : (a b : ℕ) → (a + b) % 2 ≡ (a % 2 + b % 2) % 2
summed a b = omega arith

-- two sums added one after the other, or crosswise
parities : (o p q r s t : ℕ) → o % 2 ≡ (p + q) % 2 → r % 2 ≡ (s + t) % 2 → (o + r) % 2 ≡ ((p + s) % 2 + (q + t) % 2) % 2
parities o p q r s t g h =
    let e : (p + q) + (s + t) ≡ (p + s) + (q + t) = omega arith in
    summed o r ∙ ap₂ (λ (x y : ℕ). (x + y) % 2) g h ∙ sym (summed (p + q) (s + t)) ∙ ap (λ (x : ℕ). x % 2) e ∙ summed (p + s) (q + t)

upright_flip : (ws es : List ℕ) → length es ≡ length ws → upright (flip ws es) ≡ bit_xor (upright ws) (upright es)
unfolding upright
upright_flip ws es l =
    let a = rest 0 ws in
    let b = rest 0 es in
    let r : rest 0 (flip ws es) ≡ bit_xor a b = rest_xor ws es 0 0 l (lit< tt) (lit< tt) in
    let p : parity (flip ws es) ≡ (parity ws + parity es) % 2 =
    ap (λ (n : ℕ). (ones_of (flip ws es) + ones n) % 2) r
    ∙ parities (ones_of (flip ws es)) (ones_of ws) (ones_of es) (ones (bit_xor a b)) (ones a) (ones b) (ones_flip ws es l) (ones_xor a b) in
    ap₂ (λ (x y : ℕ). x * 2 + y) r (p ∙ sym (bits_joined (parity ws) (parity es) (parity_lt ws) (parity_lt es)))
    ∙ sym (xor_block 1 a b (parity ws) (parity es) (parity_lt ws) (parity_lt es))

-- the inversion joins a byte with eight ones
inverted : (x : ℕ) → x < 256 → 255 - x ≡ bit_xor x 255
inverted x h = omega (arith, xor_add_and x 255, and_mask x 8)

check_upright : (ws : List ℕ) → check_of ws ≡ bit_xor (upright ws) 255
unfolding check_of upright
check_upright ws = inverted (upright ws) (upright_lt ws)

-- the check of flipped words is flipped by what the masks leave
check_flip : (ws es : List ℕ) → length es ≡ length ws → check_of (flip ws es) ≡ bit_xor (check_of ws) (upright es)
check_flip ws es l =
    check_upright (flip ws es) ∙ ap₂ bit_xor (upright_flip ws es l) (sym (xor_zero_r 255)) ∙ xor4 (upright ws) (upright es) 255 0
    ∙ ap₂ bit_xor (sym (check_upright ws)) (xor_zero_r (upright es))

-- what is joined to one number with the same result is the same
cancelled : (c f g : ℕ) → bit_xor c f ≡ bit_xor c g → f ≡ g
cancelled c f g e =
    sym (xor_twice f c) ∙ ap (λ (n : ℕ). bit_xor n c) (xor_comm f c ∙ e ∙ xor_comm c g) ∙ xor_twice g c

-- ---- the masks of a block and of its check byte as one number, without the parity bit

-- the bits of the words after k bits more
abbrev places : ℕ → List ℕ → ℕ
places k es = k + 16 * length es

one_more : (k : ℕ) (e : ℕ) (es : List ℕ) → places (k + 16) es ≡ places k (e ∷ es)
one_more k e es = omega arith

-- the remainder is that of the joined words
rest_joined : (es : List ℕ) (k a : ℕ) → Words es → rest (pushes k 0 a) es ≡ pushes (places k es) 0 (joined a es)
unfolding rest joined Words
rest_joined [] k a f = ap (λ (n : ℕ). pushes n 0 a) (sym (add-zero k))
rest_joined (e ∷ es) k a f =
    ap (λ (n : ℕ). rest n es) (sym (pushes_cat k 16 0 a e f.0)) ∙ rest_joined es (k + 16) (a * 2 ^ 16 + e) f.1
    ∙ ap (λ (n : ℕ). pushes n 0 (joined (a * 2 ^ 16 + e) es)) (one_more k e es)

-- the ones of the words are those of the joined words
ones_joined : (es : List ℕ) (a : ℕ) → Words es → ones a + ones_of es ≡ ones (joined a es)
unfolding ones_of joined Words
ones_joined [] a f = add-zero (ones a)
ones_joined (e ∷ es) a f =
    sym (add_assoc (ones a) (ones e) (ones_of es)) ∙ ap (λ (n : ℕ). n + ones_of es) (sym (ones_cat 16 a e f.0))
    ∙ ones_joined es (a * 2 ^ 16 + e) f.1

joined_lt : (es : List ℕ) (k a : ℕ) → Words es → a < 2 ^ k → joined a es < 2 ^ places k es
unfolding joined Words
joined_lt [] k a f h = subst (λ (n : ℕ). a < 2 ^ n) (sym (add-zero k)) h
joined_lt (e ∷ es) k a f h =
    subst (λ (n : ℕ). joined (a * 2 ^ 16 + e) es < 2 ^ n) (one_more k e es)
    (joined_lt es (k + 16) (a * 2 ^ 16 + e) f.1
    (subst (λ (n : ℕ). a * 2 ^ 16 + e < n) (sym (pow-add 2 k 16)) (digits_lt h f.0)))

coded : List ℕ → ℕ
coded es = joined 0 es * 2 ^ 8 + rest 0 es * 2

byte_lt : (es : List ℕ) → rest 0 es * 2 < 2 ^ 8
byte_lt es = omega (arith, remainder_lt es)

coded_lt : (es : List ℕ) → Words es → coded es < 2 ^ (places 0 es + 8)
unfolding coded
coded_lt es f =
    subst (λ (n : ℕ). coded es < n) (sym (pow-add 2 (places 0 es) 8)) (digits_lt (joined_lt es 0 0 f (lit< tt)) (byte_lt es))

ones_coded : (es : List ℕ) → Words es → ones (coded es) ≡ ones_of es + ones (rest 0 es)
unfolding coded ones
ones_coded es f =
    let r = rest 0 es in
    let e : r * 2 ≡ r * 2 ^ 1 + 0 = omega arith in
    let d : ones (r * 2) ≡ ones r = ap ones e ∙ ones_cat 1 r 0 (lit< tt) ∙ add-zero (ones r) in
    omega (arith, ones_cat 8 (joined 0 es) (r * 2) (byte_lt es), ones_joined es 0 f)

-- a remainder behind what it is the remainder of leaves nothing
coded_leaves : (es : List ℕ) → Words es → pushes (places 0 es + 8) 0 (coded es) ≡ 0
unfolding coded pushes
coded_leaves es f =
    let r = rest 0 es in
    pushes_cat (places 0 es) 8 0 (joined 0 es) (r * 2) (byte_lt es) ∙ ap (λ (n : ℕ). pushes 8 n (r * 2)) (sym (rest_joined es 0 0 f))
    ∙ byte_step r (r * 2) (remainder_lt es) ∙ ap step_of (xor_self (r * 2)) ∙ zeros 8

-- ---- the law of a block

-- a bit is its own count of ones
bit_ones : (b : ℕ) → b < 2 → ones b ≡ b
unfolding ones
bit_ones zero h = refl
bit_ones (suc zero) h = refl
bit_ones (suc (suc b)) h = absurd (omega arith)

-- masks that are a block with its check byte, not inverted, have no ones or four at least
masks_weigh : (es : List ℕ) → Words es → length es ≤ 4 → 1 ≤ weight es (upright es) → weight es (upright es) ≤ 3 → ⊥
unfolding weight upright
masks_weigh es f short least most =
    let c : ones (upright es) ≡ ones (rest 0 es) + ones (parity es) = ones_cat 1 (rest 0 es) (parity es) (parity_lt es) in
    let p : ones (parity es) ≡ (ones_of es + ones (rest 0 es)) % 2 = bit_ones (parity es) (parity_lt es) in
    let n = ones_coded es f in
    two_leave (places 0 es + 8) (coded es) (omega arith) (coded_lt es f) (omega arith) (omega arith) (coded_leaves es f)

-- A block of at most four words in which one, two or three bits are flipped, check byte included, has not the check byte that its words ask for.
pub block_seen : (ws es : List ℕ) (f : ℕ) → length es ≡ length ws → length ws ≤ 4 → Words es → 1 ≤ weight es f → weight es f ≤ 3
    → bit_xor (check_of ws) f ≡ check_of (flip ws es) → ⊥
block_seen ws es f l short words least most e =
    let g : f ≡ upright es = cancelled (check_of ws) f (upright es) (e ∙ check_flip ws es l) in
    masks_weigh es words (omega arith) (subst (λ (n : ℕ). 1 ≤ weight es n) g least) (subst (λ (n : ℕ). weight es n ≤ 3) g most)
