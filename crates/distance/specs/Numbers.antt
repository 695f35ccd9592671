-- Request W-210, "Numbers on either side": flips of frames of zero words, as one list and one test that antt computes. Assumes nothing.
use Rattle.std.specs.Prelude.{ℕ, suc, Bool, true, false, cond, not, ◌&&◌, List, [], ◌∷◌, T, eqb, get_or, replicate}
use Rattle.std.specs.Int.Count.{ones}
use Rattle.sequence.specs.Check.{push, pushes, rest, ones_of, check_of}
use Rattle.sequence.specs.Frame.{blocks, check_at}
use Rattle.frames.specs.declared.Hearing.{Hearing}
use Rattle.frames.specs.declared.Kind.TheVariants.{Slave}
use Rattle.frames.specs.Hearing.{words_of}
use Rattle.frames.specs.Judge.{counts_right, right_at, wrong_at, wrong_of, in_order, wrong_in, is_sound, judged}
use Rattle.distance.specs.Flips.{flip, weight, flipped, flips_in}

-- a frame of n zero words: each of its check bytes is FF
abbrev pub zero_frame : ℕ → Hearing
zero_frame n = record {
  kind = Slave;
  words = replicate 16 0;
  size = n;
  checks = replicate 4 0xff;
  ends = blocks n;
  sqe = false;
  violation = false;
  alo = false;
}

-- what is flipped, and what comes of it
pub data Row : Type 0 where
  -- one word: the masks of word and check byte, how many bits they flip, the word and the byte that are heard, and whether that is sound
  single : (e f flips word check : ℕ) → Bool → Row
  -- sixteen words: the masks, how many bits they flip in each block, and the mark of each
  blocked : (es fs flips : List ℕ) → List Bool → Row

-- both or neither
abbrev pub agree : Bool → Bool → Bool
agree a b = cond a b (not b)

-- the same one after the other
abbrev pub all_agree : List Bool → List Bool → Bool
all_agree [] [] = true
all_agree [] (d ∷ ds) = false
all_agree (b ∷ bs) [] = false
all_agree (b ∷ bs) (d ∷ ds) = agree b d && all_agree bs ds

-- the blocks from k on have so many flips
abbrev pub flips_from : List ℕ → List ℕ → List ℕ → ℕ → Bool
flips_from es fs [] k = true
flips_from es fs (n ∷ ns) k = eqb (flips_in 16 es fs k) n && flips_from es fs ns (suc k)

-- the test of a row: so many flips, what is heard, and how it is judged
abbrev pub row_right : Row → Bool
row_right (single e f flips word check sound) =
    let h = flipped (zero_frame 1) (e ∷ replicate 15 0) (f ∷ []) in
    eqb (flips_in 1 (e ∷ replicate 15 0) (f ∷ []) 0) flips && eqb (get_or h.words 0 0) word && eqb (get_or h.checks 0 0) check
    && agree (is_sound (judged 1 h)) sound
row_right (blocked es fs flips marks) = flips_from es fs flips 0 && all_agree (in_order (wrong_in (judged 16 (flipped (zero_frame 16) es fs)))) marks

-- the request's rows, a frame that is not flipped before them, and the marks of blocks that are hit alone behind them
abbrev pub rows : List Row
rows =
    -- nothing is flipped
    single 0x0000 0x00 0 0x0000 0xff true
    -- data bit 0
    ∷ single 0x0001 0x00 1 0x0001 0xff false
    -- the parity bit
    ∷ single 0x0000 0x01 1 0x0000 0xfe false
    -- data bits 0 and 15
    ∷ single 0x8001 0x00 2 0x8001 0xff false
    -- two check bits
    ∷ single 0x0000 0x03 2 0x0000 0xfc false
    -- data bits 0 and 15, and parity
    ∷ single 0x8001 0x01 3 0x8001 0xfe false
    -- data bits 0, 1 and 2
    ∷ single 0x0007 0x00 3 0x0007 0xff false
    -- three data bits and one check bit
    ∷ single 0x0023 0x02 4 0x0023 0xfd true
    -- one flip in block 3, three in each other
    ∷ blocked (7 ∷ 0 ∷ 0 ∷ 0 ∷ 1 ∷ 2 ∷ 4 ∷ 0 ∷ 0 ∷ 0 ∷ 0 ∷ 3 ∷ 0 ∷ 0 ∷ 0 ∷ 1 ∷ []) (0 ∷ 0 ∷ 1 ∷ 0 ∷ []) (3 ∷ 3 ∷ 3 ∷ 1 ∷ [])
    (true ∷ true ∷ true ∷ true ∷ [])
    -- one flip in block 3 alone, in its check byte
    ∷ blocked (replicate 16 0) (0 ∷ 0 ∷ 0 ∷ 1 ∷ []) (0 ∷ 0 ∷ 0 ∷ 1 ∷ []) (false ∷ false ∷ false ∷ true ∷ [])
    -- four flips in block 0, which pass, and one in the check byte of block 1
    ∷ blocked (0 ∷ 0 ∷ 0 ∷ 0x23 ∷ replicate 12 0) (2 ∷ 1 ∷ []) (4 ∷ 1 ∷ 0 ∷ 0 ∷ []) (false ∷ true ∷ false ∷ false ∷ [])
    ∷ []

-- each row passes
abbrev pub all_right : List Row → Bool
all_right [] = true
all_right (r ∷ rs) = row_right r && all_right rs

-- Every row is right.
pub rows_right : T (all_right rows)
unfolding judged counts_right words_of wrong_of wrong_at right_at blocks check_at check_of rest pushes push ones_of ones flip weight flipped flips_in
rows_right = tt
