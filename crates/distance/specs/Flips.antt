-- Document 02, W-210: bits of a frame are flipped on their way. What is flipped is said by masks, one for each word and one for each check byte: a
-- bit is flipped where its mask has a one, so no bit can be named twice. Block k, from 0, is spoken of with its check byte. Assumes nothing.
use Rattle.std.specs.Prelude.{ℕ, ◌+◌, ◌≤◌, ◌<◌, ◌≡◌, false, true, List, [], ◌∷◌, length, get_or, take}
use Rattle.std.specs.Int.Bits.{bit_xor}
use Rattle.std.specs.Int.Count.{ones}
use Rattle.sequence.specs.Check.{ones_of}
use Rattle.sequence.specs.Frame.{blocks, block}
use Rattle.sequence.specs.Remainder.{Words}
use Rattle.frames.specs.declared.Hearing.{Hearing}
use Rattle.frames.specs.declared.Judgement.{Judgement}
use Rattle.frames.specs.declared.Judgement.TheVariants.{Sound}
use Rattle.frames.specs.Judge.{in_order, wrong_in}

-- each of ws, flipped by its mask; where there is no mask nothing is flipped
unfoldable pub flip : List ℕ → List ℕ → List ℕ
flip [] es = []
flip (w ∷ ws) [] = w ∷ ws
flip (w ∷ ws) (e ∷ es) = bit_xor w e ∷ flip ws es

-- how many bits of a block are flipped by the masks es of its words and the mask f of its check byte
unfoldable pub weight : List ℕ → ℕ → ℕ
weight es f = ones_of es + ones f

-- the frame h with its words flipped by es and its check bytes by fs; all else is the same, its size too
unfoldable pub flipped : Hearing → List ℕ → List ℕ → Hearing
flipped h es fs = record {
  kind = h.kind;
  words = flip h.words es;
  size = h.size;
  checks = flip h.checks fs;
  ends = h.ends;
  sqe = h.sqe;
  violation = h.violation;
  alo = h.alo;
}

-- how many bits are flipped in block k of a frame of n words; masks past the frame do not count
unfoldable pub flips_in : ℕ → List ℕ → List ℕ → ℕ → ℕ
flips_in n es fs k = weight (block (take n es) k) (get_or fs k 0)

-- one, two or three bits are flipped in block k. Of the other blocks nothing is asked.
pub record Flips (n : ℕ) (es fs : List ℕ) (k : ℕ) : Type 0 where
  pub within : k < blocks n
  pub least : 1 ≤ flips_in n es fs k
  pub most : flips_in n es fs k ≤ 3

-- what the type of a hearing says in the code: it has room for sixteen words and four check bytes
pub record Room (h : Hearing) : Type 0 where
  pub words : length h.words ≡ 16
  pub checks : length h.checks ≡ 4

-- a mask of 16 bits for each of the sixteen words
pub record Masks (es : List ℕ) : Type 0 where
  pub many : length es ≡ 16
  pub words : Words es

-- a judgement catches what is wrong in block k: it is not sound, and it marks block k
pub record Caught (j : Judgement) (k : ℕ) : Type 0 where
  pub unsound : j ≡ Sound → ⊥
  pub marks : get_or (in_order (wrong_in j)) k false ≡ true

-- document 02's frame sizes, in words
pub data FrameSize : ℕ → Type 0 where
  one : FrameSize 1
  two : FrameSize 2
  four : FrameSize 4
  eight : FrameSize 8
  sixteen : FrameSize 16
