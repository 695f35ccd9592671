-- How many wrong bits get through: a sound frame in which one, two or three bits of a block are flipped, check byte included, is not sound at the
-- same size, and that block is marked. The blocks' marks tell each block alone (`marks_exact` of frames), so one block whose byte is wrong is enough, and
-- Block.antt says that it is. Assumes nothing.
use mathlib.Core.Path.{◌≡◌, refl, sym, ap, ◌∙◌, subst}
use mathlib.Core.Bool.{Bool, true, false, true≢false, not, ◌&&◌, and-eq-true_iff, not-not}
use mathlib.Core.List.{List}
use Rattle.std.specs.Prelude.{Option, Some}
use Prim.Native.Nat.{ℕ, zero, suc, min, ◌-◌, ◌*◌, ◌≤◌, ◌<◌}
use native.Mathlib.Omega.{arith}
use borrow.Author.Tests.{eqb-true, ne_eqb, lt-ltb}
use lib.Dec.{eqb}
use lib.ListN.{length, get_or, take, length-take}
use lib.Bits.{bit_xor}
use Rattle.sequence.specs.Check.{check_of}
use Rattle.sequence.specs.Frame.{blocks, block, check_at}
use Rattle.sequence.proofs.Blocks.{begins}
use Rattle.frames.specs.declared.Hearing.{Hearing}
use Rattle.frames.specs.declared.Judgement.{Judgement}
use Rattle.frames.specs.declared.Judgement.TheVariants.{Sound}
use Rattle.frames.specs.Hearing.{words_of, marked}
use Rattle.frames.specs.Size.{expected_of}
use Rattle.frames.specs.Judge.{counts_right, checks_right, no_wrong, in_order, is_sound, wrong_in, judged, judged_master, judged_for, judged_slave}
use Rattle.frames.proofs.Blocks.{sound_no_marks, marks_exact}
use Rattle.frames.proofs.judge_master.Reads as judge-master-reads
use Rattle.frames.proofs.judge_slave.Reads as judge-slave-reads
use Rattle.distance.specs.Flips.{flip, weight, flipped, flips_in, Flips, Room, Masks, Caught, FrameSize}
use Rattle.distance.proofs.Block.{block_seen}
use Rattle.distance.proofs.Flipped.{length_flip, take_flip, block_flip, at_flip, words_block, block_length}

-- ---- what a sound frame has

-- the right counts
sound_counts : (n : ℕ) (h : Hearing) → judged n h ≡ Sound → counts_right n h ≡ true
sound_counts n h e =
    let all = sym (sound_no_marks n h).1 ∙ ap is_sound e in
    let counts = ((and-eq-true_iff (not (marked h) && counts_right n h) (checks_right (words_of h) h.checks)).0 all).0 in
    ((and-eq-true_iff (not (marked h)) (counts_right n h)).0 counts).1

counts_size : (n : ℕ) (h : Hearing) → counts_right n h ≡ true → h.size ≡ n
unfolding counts_right
counts_size n h e = eqb-true h.size n ((and-eq-true_iff (eqb h.size n) (eqb h.ends (blocks n))).0 e).0

-- and no mark
none_marked : (k : ℕ) → get_or (in_order no_wrong) k false ≡ false
none_marked zero = refl
none_marked (suc zero) = refl
none_marked (suc (suc zero)) = refl
none_marked (suc (suc (suc zero))) = refl
none_marked (suc (suc (suc (suc k)))) = refl

sound_unmarked : (j : Judgement) (k : ℕ) → j ≡ Sound → get_or (in_order (wrong_in j)) k false ≡ false
sound_unmarked j k e = ap (λ (x : Judgement). get_or (in_order (wrong_in x)) k false) e ∙ none_marked k

-- a block that is marked is caught
caught : (j : Judgement) (k : ℕ) → get_or (in_order (wrong_in j)) k false ≡ true → Caught j k
caught j k m = record { unsound = λ e. true≢false (sym m ∙ sound_unmarked j k e); marks = m }

-- ---- one block of it

module _ (n k : ℕ) (h : Hearing) (room : Room h) (inside : k < blocks n) (counts : counts_right n h ≡ true) where
  -- mark k says whether byte k differs from the check
  mark_says : get_or (in_order (wrong_in (judged n h))) k false ≡ not (eqb (get_or h.checks k 0) (check_at (words_of h) k))
  mark_says =
      marks_exact n h room.words (begins n k inside).1 k counts
      ∙ ap (λ (b : Bool). b && not (eqb (get_or h.checks k 0) (check_at (words_of h) k))) (lt-ltb k (blocks n) inside)

  -- a block without its mark has its check byte
  byte_right : judged n h ≡ Sound → get_or h.checks k 0 ≡ check_at (words_of h) k
  byte_right e =
      let t = eqb (get_or h.checks k 0) (check_at (words_of h) k) in
      eqb-true _ _ (sym (not-not t) ∙ ap not (sym mark_says ∙ sound_unmarked (judged n h) k e))

  -- a block with another byte is caught
  byte_wrong : (get_or h.checks k 0 ≡ check_at (words_of h) k → ⊥) → Caught (judged n h) k
  byte_wrong d = caught (judged n h) k (mark_says ∙ ap not (ne_eqb _ _ d))

-- a flipped frame has room as before, and its counts
room_flipped : (h : Hearing) (es fs : List ℕ) → Room h → Room (flipped h es fs)
unfolding flipped
room_flipped h es fs r = record {
  words = length_flip h.words es ∙ r.words;
  checks = length_flip h.checks fs ∙ r.checks;
}

counts_flipped : (n : ℕ) (h : Hearing) (es fs : List ℕ) → counts_right n h ≡ true → counts_right n (flipped h es fs) ≡ true
unfolding flipped counts_right
counts_flipped n h es fs e = e

-- the words of its block k, and its byte
block_flipped : (k : ℕ) (h : Hearing) (es fs : List ℕ)
    → block (words_of (flipped h es fs)) k ≡ flip (block (words_of h) k) (block (take h.size es) k)
unfolding flipped words_of
block_flipped k h es fs =
    ap (λ (l : List ℕ). block l k) (take_flip h.size h.words es) ∙ block_flip (take h.size h.words) (take h.size es) k

byte_flipped : (k : ℕ) (h : Hearing) (es fs : List ℕ) → k < length h.checks
    → get_or (flipped h es fs).checks k 0 ≡ bit_xor (get_or h.checks k 0) (get_or fs k 0)
unfolding flipped
byte_flipped k h es fs l = at_flip h.checks fs k l

-- words and masks of a block are as many
as_many : (n k : ℕ) (ws es : List ℕ) → length es ≡ length ws → length (block (take n es) k) ≡ length (block (take n ws) k)
as_many n k ws es l =
    block_length (take n es) k ∙ ap (λ (i : ℕ). min 4 (i - 4 * k)) (length-take n es ∙ ap (min n) l ∙ sym (length-take n ws))
    ∙ sym (block_length (take n ws) k)

-- ---- the theorems

-- A frame that is sound at n words, with one, two or three bits of a block flipped, is not sound at n words, and that block is marked. This holds for
-- all words, for every n, and whatever is flipped in the other blocks.
pub flips_seen : (n k : ℕ) (h : Hearing) (es fs : List ℕ) → Room h → Masks es → judged n h ≡ Sound → Flips n es fs k
    → Caught (judged n (flipped h es fs)) k
unfolding flips_in words_of check_at
flips_seen n k h es fs room masks sound flips =
    let counts = sound_counts n h sound in
    let sized = counts_size n h counts in
    let frame = begins n k flips.within in
    let ws = block (words_of h) k in
    let ms = block (take n es) k in
    let f = get_or fs k 0 in
    let least : 1 ≤ weight ms f = omega (arith, flips.least) in
    let most : weight ms f ≤ 3 = omega (arith, flips.most) in
    let short : length ws ≤ 4 = omega (arith, block_length (words_of h) k) in
    let many : length ms ≡ length ws =
    as_many n k h.words es (masks.many ∙ sym room.words) ∙ ap (λ (i : ℕ). length (block (take i h.words) k)) (sym sized) in
    let byte : get_or (flipped h es fs).checks k 0 ≡ bit_xor (check_of ws) f =
    byte_flipped k h es fs (omega (arith, room.checks, frame.0, frame.1))
    ∙ ap (λ (c : ℕ). bit_xor c f) (byte_right n k h room flips.within counts sound) in
    let check : check_at (words_of (flipped h es fs)) k ≡ check_of (flip ws ms) =
    ap check_of (block_flipped k h es fs ∙ ap (λ (i : ℕ). flip ws (block (take i es) k)) sized) in
    byte_wrong n k (flipped h es fs) (room_flipped h es fs room) flips.within (counts_flipped n h es fs counts)
    (λ e. block_seen ws ms f many short (words_block n k es masks.words) least most (sym byte ∙ e ∙ check))

-- The request's own sentence: take a sound frame and flip one, two or three bits within one block, check byte included, and up to three in
-- any other blocks; the result is never judged sound at the same size.
pub request : (n k : ℕ) (h : Hearing) (es fs : List ℕ) → FrameSize n → Room h → Masks es → judged n h ≡ Sound → Flips n es fs k
    → ((j : ℕ) → j < blocks n → (j ≡ k → ⊥) → flips_in n es fs j ≤ 3) → judged n (flipped h es fs) ≡ Sound → ⊥
request n k h es fs size room masks sound flips others = (flips_seen n k h es fs room masks sound flips).unsound

-- So it is with master frames,
pub master_seen : (k : ℕ) (h : Hearing) (es fs : List ℕ) → Room h → Masks es → judged_master h ≡ Sound → Flips 1 es fs k
    → Caught (judged_master (flipped h es fs)) k
unfolding judged_master
master_seen k h es fs = flips_seen 1 k h es fs

-- and with slave frames, for each waiting F-code that expects a reply.
pub slave_seen : (code n k : ℕ) (h : Hearing) (es fs : List ℕ) → expected_of code ≡ Some n → Room h → Masks es → judged_slave code h ≡ Sound
    → Flips n es fs k → Caught (judged_slave code (flipped h es fs)) k
unfolding judged_slave
slave_seen code n k h es fs size room masks sound flips =
    subst (λ (x : Option ℕ). Caught (judged_for x (flipped h es fs)) k) (sym size)
    (flips_seen n k h es fs room masks (ap (λ (x : Option ℕ). judged_for x h) (sym size) ∙ sound) flips)

-- ---- said of the code, by the contracts of `judge_master` and `judge_slave` as they stand

-- If `judge_master` answers of a frame that it is sound, what it answers of the flipped frame is not, and marks the block.
pub judge_master_seen : (k : ℕ) (h : Hearing) (es fs : List ℕ) (κs : _) (r s : _) (e f : _)
    → judge-master-reads.Learnt κs (h, tt) r e → judge-master-reads.Learnt κs (flipped h es fs, tt) s f
    → Room h → Masks es → r ≡ Sound → Flips 1 es fs k → Caught s k
judge_master_seen k h es fs κs r s e f p q room masks sound flips =
    subst (λ (j : Judgement). Caught j k) (sym q) (master_seen k h es fs room masks (sym p ∙ sound) flips)

-- And so it is with `judge_slave`, for each F-code that expects a reply.
pub judge_slave_seen : (code n k : ℕ) (h : Hearing) (es fs : List ℕ) (κs : _) (r s : _) (e f : _)
    → judge-slave-reads.Learnt κs (code, (h, tt)) r e → judge-slave-reads.Learnt κs (code, (flipped h es fs, tt)) s f
    → expected_of code ≡ Some n → Room h → Masks es → r ≡ Sound → Flips n es fs k → Caught s k
judge_slave_seen code n k h es fs κs r s e f p q size room masks sound flips =
    subst (λ (j : Judgement). Caught j k) (sym q) (slave_seen code n k h es fs size room masks (sym p ∙ sound) flips)
