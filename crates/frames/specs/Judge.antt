-- Document 01, "What one bus event does": a frame is sound with no quality mark, the right size, the right number of check bytes and
-- each byte right. Document 02, W-206: which of its blocks are wrong. Assumes nothing.
use Rattle.std.specs.Prelude.{Option, None, Some}
use Rattle.std.specs.Prelude.{ℕ, Bool, true, false, cond, not, ◌&&◌, ◌||◌, List, [], ◌∷◌, eqb, leb, length, get_or}
use Rattle.sequence.specs.Frame.{blocks, check_at}
use Rattle.frames.specs.declared.Hearing.{Hearing}
use Rattle.frames.specs.declared.Wrong.{Wrong}
use Rattle.frames.specs.declared.Judgement.{Judgement}
use Rattle.frames.specs.declared.Judgement.TheVariants.{Sound, Unsound}
use Rattle.frames.specs.Hearing.{words_of, marked}
use Rattle.frames.specs.Size.{expected_of}

-- the right size and the right number of check bytes for a frame of n words
unfoldable pub counts_right : ℕ → Hearing → Bool
counts_right n h = eqb h.size n && eqb h.ends (blocks n)

-- the check byte of block k is right, where the words have a block k
unfoldable pub right_at : List ℕ → List ℕ → ℕ → Bool
right_at ws cs k = leb (blocks (length ws)) k || eqb (get_or cs k 0) (check_at ws k)

-- each check byte is right, of at most four
unfoldable pub checks_right : List ℕ → List ℕ → Bool
checks_right ws cs = right_at ws cs 0 && right_at ws cs 1 && right_at ws cs 2 && right_at ws cs 3

-- ---- which of the up to four blocks are wrong

-- the check byte of block k is wrong
unfoldable pub wrong_at : List ℕ → List ℕ → ℕ → Bool
wrong_at ws cs k = not (right_at ws cs k)

-- a mark for each block
unfoldable pub wrong_of : List ℕ → List ℕ → Wrong
wrong_of ws cs = record { first = wrong_at ws cs 0; second = wrong_at ws cs 1; third = wrong_at ws cs 2; fourth = wrong_at ws cs 3 }

abbrev pub no_wrong : Wrong
no_wrong = record { first = false; second = false; third = false; fourth = false }

-- a block is marked
abbrev pub any_wrong : Wrong → Bool
any_wrong w = w.first || w.second || w.third || w.fourth

-- the mark of each block, the first block's first
abbrev pub in_order : Wrong → List Bool
in_order w = w.first ∷ w.second ∷ w.third ∷ w.fourth ∷ []

-- ---- the judgement

-- sound: no quality mark, counts right and no block wrong; else the marks of the blocks when counts are right, otherwise none
abbrev pub verdict : Bool → Bool → Wrong → Judgement
verdict marks counts wrong = cond (not marks && counts && not (any_wrong wrong)) Sound (Unsound (cond counts wrong no_wrong))

abbrev pub is_sound : Judgement → Bool
is_sound Sound = true
is_sound (Unsound wrong) = false

-- the blocks that a judgement calls wrong
abbrev pub wrong_in : Judgement → Wrong
wrong_in Sound = no_wrong
wrong_in (Unsound wrong) = wrong

-- a frame that is to have n words
unfoldable pub judged : ℕ → Hearing → Judgement
judged n h = verdict (marked h) (counts_right n h) (wrong_of (words_of h) h.checks)

-- a master frame is one word and one check byte
unfoldable pub judged_master : Hearing → Judgement
judged_master h = judged 1 h

-- a slave frame is sized by what is expected, and never by its own length; where nothing is expected no frame is sound
abbrev pub judged_for : Option ℕ → Hearing → Judgement
judged_for (Some n) h = judged n h
judged_for None h = Unsound no_wrong

-- for slaves the size comes from the waiting F-code
unfoldable pub judged_slave : ℕ → Hearing → Judgement
judged_slave code h = judged_for (expected_of code) h
