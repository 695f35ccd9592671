-- Laws of flipped words and frames: they have the length they had, and each part of them is that part, flipped. Assumes nothing.
use mathlib.Core.Path.{◌≡◌, refl, sym, ap, ◌∙◌}
use mathlib.Core.List.{List, [], ◌∷◌}
use Prim.Native.Nat.{ℕ, zero, suc, min, ◌-◌, ◌*◌, ◌<◌}
use native.Mathlib.Omega.{arith}
use lib.ListN.{length, get_or, take, drop, length-take, length-drop}
use lib.Bits.{bit_xor, xor_zero_r}
use Rattle.sequence.specs.Frame.{block}
use Rattle.sequence.specs.Remainder.{Words}
use Rattle.distance.specs.Flips.{flip}

-- flipping keeps the length
pub length_flip : (ws es : List ℕ) → length (flip ws es) ≡ length ws
unfolding flip
length_flip [] es = refl
length_flip (w ∷ ws) [] = refl
length_flip (w ∷ ws) (e ∷ es) = ap suc (length_flip ws es)

-- without masks nothing is flipped
flip_none : (ws : List ℕ) → flip ws [] ≡ ws
unfolding flip
flip_none [] = refl
flip_none (w ∷ ws) = refl

-- the first words, flipped by the first masks
pub take_flip : (i : ℕ) (ws es : List ℕ) → take i (flip ws es) ≡ flip (take i ws) (take i es)
unfolding flip
take_flip zero ws es = refl
take_flip (suc i) [] es = refl
take_flip (suc i) (w ∷ ws) [] = refl
take_flip (suc i) (w ∷ ws) (e ∷ es) = ap (λ (l : List ℕ). bit_xor w e ∷ l) (take_flip i ws es)

-- the words from i on, flipped by the masks from i on
drop_flip : (i : ℕ) (ws es : List ℕ) → drop i (flip ws es) ≡ flip (drop i ws) (drop i es)
unfolding flip
drop_flip zero ws es = refl
drop_flip (suc i) [] es = refl
drop_flip (suc i) (w ∷ ws) [] = sym (flip_none (drop i ws))
drop_flip (suc i) (w ∷ ws) (e ∷ es) = drop_flip i ws es

-- block k, flipped by its masks
pub block_flip : (ws es : List ℕ) (k : ℕ) → block (flip ws es) k ≡ flip (block ws k) (block es k)
block_flip ws es k = ap (take 4) (drop_flip (4 * k) ws es) ∙ take_flip 4 (drop (4 * k) ws) (drop (4 * k) es)

-- a check byte, flipped by its mask
pub at_flip : (cs fs : List ℕ) (k : ℕ) → k < length cs → get_or (flip cs fs) k 0 ≡ bit_xor (get_or cs k 0) (get_or fs k 0)
unfolding flip
at_flip [] fs k h = absurd (omega arith)
at_flip (c ∷ cs) [] k h = sym (xor_zero_r (get_or (c ∷ cs) k 0))
at_flip (c ∷ cs) (f ∷ fs) zero h = refl
at_flip (c ∷ cs) (f ∷ fs) (suc k) h = at_flip cs fs k (omega arith)

-- ---- blocks

words_take : (i : ℕ) (ws : List ℕ) → Words ws → Words (take i ws)
unfolding Words
words_take zero ws f = tt
words_take (suc i) [] f = tt
words_take (suc i) (w ∷ ws) f = (f.0, words_take i ws f.1)

words_drop : (i : ℕ) (ws : List ℕ) → Words ws → Words (drop i ws)
unfolding Words
words_drop zero ws f = f
words_drop (suc i) [] f = tt
words_drop (suc i) (w ∷ ws) f = words_drop i ws f.1

-- the words of a block of a frame of n words have 16 bits each, if those that it is cut from have
pub words_block : (n k : ℕ) (ws : List ℕ) → Words ws → Words (block (take n ws) k)
words_block n k ws f = words_take 4 _ (words_drop (4 * k) _ (words_take n ws f))

-- how many words block k has
pub block_length : (ws : List ℕ) (k : ℕ) → length (block ws k) ≡ min 4 (length ws - 4 * k)
block_length ws k = length-take 4 (drop (4 * k) ws) ∙ ap (min 4) (length-drop (4 * k) ws)
