-- Three is the most that is always seen: of a sound frame of one word four bits are flipped, and it is sound again. And three are seen only because the
-- parity is taken over the data too. Each is an example that antt computes. Assumes nothing.
use mathlib.Core.Path.{◌≡◌, refl}
use mathlib.Core.List.{List, [], ◌∷◌}
use Prim.Native.Nat.{ℕ, ◌+◌, ◌-◌, ◌*◌, ◌%◌}
use lib.ListN.{replicate}
use lib.Bits.{bit_xor}
use lib.Count.{ones}
use Rattle.sequence.specs.Check.{push, pushes, rest, remainder, ones_of, check_of}
use Rattle.sequence.specs.Frame.{blocks, check_at}
use Rattle.frames.specs.declared.Judgement.TheVariants.{Sound}
use Rattle.frames.specs.Hearing.{words_of}
use Rattle.frames.specs.Judge.{counts_right, right_at, wrong_at, wrong_of, judged}
use Rattle.distance.specs.Numbers.{zero_frame}
use Rattle.distance.specs.Flips.{flip, weight, flipped, flips_in}

-- three bits of the word and one of the check byte
abbrev word_masks : List ℕ
word_masks = 0x0023 ∷ replicate 15 0

abbrev byte_masks : List ℕ
byte_masks = 0x02 ∷ 0 ∷ 0 ∷ 0 ∷ []

-- Four flipped bits of a block can pass: 0000 with FF is sound, and so is 0023 with FD.
pub four_pass : (judged 1 (zero_frame 1) ≡ Sound) × (flips_in 1 word_masks byte_masks 0 ≡ 4)
    × (judged 1 (flipped (zero_frame 1) word_masks byte_masks) ≡ Sound)
unfolding judged counts_right words_of wrong_of wrong_at right_at blocks check_at check_of rest pushes push ones_of ones flip flipped flips_in weight
four_pass = (refl, refl, refl)

-- what the check byte would be with the parity of the remainder alone
abbrev remainder_alone : List ℕ → ℕ
remainder_alone ws = 255 - (remainder ws * 2 + ones (remainder ws) % 2)

-- With the parity of the remainder alone three could pass: 0000 and 0080 have check bytes that differ in two bits.
pub three_would_pass : weight (0x0080 ∷ []) (bit_xor (remainder_alone (0x0000 ∷ [])) (remainder_alone (0x0080 ∷ []))) ≡ 3
unfolding weight ones_of rest pushes push ones
three_would_pass = refl
