-- What the premises of the theorems let in: every frame with room for its words can be sound, every change of its words and check bytes is one by
-- masks, in each block bits can be flipped, and the frame sizes are those of the F-codes. Assumes nothing.
use mathlib.Core.Path.{◌≡◌, refl, sym, ap, ap₂, ◌∙◌, subst}
use mathlib.Core.Bool.{true, false}
use mathlib.Core.List.{List, [], ◌∷◌}
use Rattle.std.specs.Prelude.{Option, None, Some}
use Prim.Native.Nat.{ℕ, zero, suc, ◌-◌, ◌*◌, ◌^◌, ◌≤◌, ◌<◌}
use native.Mathlib.Omega.{arith}
use borrow.Author.Tests.{eq-eqb}
use lib.Dec.{lit<}
use lib.ListN.{length, get_or, take, drop, replicate}
use lib.Count.{ones, ones-ones}
use lib.Bits.{bit_xor, xor_lt, xor_comm}
use Rattle.sequence.specs.Check.{ones_of}
use Rattle.sequence.specs.Frame.{blocks, block, byte_at, frame_checks}
use Rattle.sequence.specs.Remainder.{Words}
use Rattle.sequence.proofs.Xor.{xor_twice}
use Rattle.frames.specs.declared.Kind.{Kind}
use Rattle.frames.specs.declared.Hearing.{Hearing}
use Rattle.frames.specs.declared.Judgement.TheVariants.{Sound}
use Rattle.frames.specs.Hearing.{words_of}
use Rattle.frames.specs.Size.{sizes, expected_of}
use Rattle.frames.specs.Judge.{counts_right, right_at, wrong_at, wrong_of, judged}
use Rattle.frames.proofs.Judged.{computed_right}
use Rattle.distance.specs.Flips.{flip, weight, flipped, flips_in, Flips, Room, Masks, FrameSize, one, two, four, eight, sixteen}
use Rattle.distance.proofs.Flipped.{length_flip}

-- ---- every change is one by masks

-- flipped by where they differ, words become the others
flip_between : (ws vs : List ℕ) → length vs ≡ length ws → flip ws (flip ws vs) ≡ vs
unfolding flip
flip_between [] [] l = refl
flip_between [] (v ∷ vs) l = absurd (omega arith)
flip_between (w ∷ ws) [] l = absurd (omega arith)
flip_between (w ∷ ws) (v ∷ vs) l =
    ap₂ (λ (n : ℕ) (us : List ℕ). n ∷ us) (xor_comm w (bit_xor w v) ∙ ap (λ (n : ℕ). bit_xor n w) (xor_comm w v) ∙ xor_twice v w)
    (flip_between ws vs (omega arith))

-- the frame h with other words and check bytes
abbrev pub with_bits : Hearing → List ℕ → List ℕ → Hearing
with_bits h vs cs = record {
  kind = h.kind;
  words = vs;
  size = h.size;
  checks = cs;
  ends = h.ends;
  sqe = h.sqe;
  violation = h.violation;
  alo = h.alo;
}

-- Whatever words and check bytes are heard in place of those that were sent, there are masks that make them.
pub masks_reach : (h : Hearing) (vs cs : List ℕ) → Room h → length vs ≡ 16 → length cs ≡ 4
    → flipped h (flip h.words vs) (flip h.checks cs) ≡ with_bits h vs cs
unfolding flipped
masks_reach h vs cs r l m =
    ap₂ (with_bits h) (flip_between h.words vs (l ∙ sym r.words)) (flip_between h.checks cs (m ∙ sym r.checks))

-- where words of 16 bits differ, masks of 16 bits say it
masks_between : (ws vs : List ℕ) → Words ws → Words vs → Words (flip ws vs)
unfolding flip Words
masks_between [] vs f g = tt
masks_between (w ∷ ws) [] f g = f
masks_between (w ∷ ws) (v ∷ vs) f g = (xor_lt 16 w v f.0 g.0, masks_between ws vs f.1 g.1)

-- These masks are what the theorems ask of masks, if all words have 16 bits.
pub masks_fit : (h : Hearing) (vs : List ℕ) → Room h → Words h.words → Words vs → Masks (flip h.words vs)
masks_fit h vs r f g = record { many = length_flip h.words vs ∙ r.words; words = masks_between h.words vs f g }

-- ---- all words have a sound frame

-- the frame of the first n of sixteen words, with their check bytes and without quality marks
abbrev pub checked_frame : Kind → ℕ → List ℕ → Hearing
checked_frame kind n ws = record {
  kind = kind;
  words = ws;
  size = n;
  checks = (frame_checks (take n ws)).bytes;
  ends = blocks n;
  sqe = false;
  violation = false;
  alo = false;
}

-- Whatever the words, a frame of them has room and is sound.
pub checked_sound : (kind : Kind) (n : ℕ) (ws : List ℕ) → length ws ≡ 16 → Room (checked_frame kind n ws) × (judged n (checked_frame kind n ws) ≡ Sound)
unfolding judged counts_right words_of wrong_of wrong_at frame_checks
checked_sound kind n ws l =
    let cs = (frame_checks (take n ws)).bytes in
    let right : (k : ℕ) → get_or cs k 0 ≡ byte_at (take n ws) k → right_at (take n ws) cs k ≡ true = computed_right (take n ws) cs in (
      record { words = l; checks = refl },
      rw (eq-eqb n n refl, eq-eqb (blocks n) (blocks n) refl, right 0 refl, right 1 refl, right 2 refl, right 3 refl),
    )

-- ---- each block can be hit

zero_taken : (i : ℕ) (ws : List ℕ) → ones_of ws ≡ 0 → ones_of (take i ws) ≡ 0
unfolding ones_of
zero_taken zero ws e = refl
zero_taken (suc i) [] e = refl
zero_taken (suc i) (w ∷ ws) e = omega (arith, zero_taken i ws (omega arith))

zero_dropped : (i : ℕ) (ws : List ℕ) → ones_of ws ≡ 0 → ones_of (drop i ws) ≡ 0
unfolding ones_of
zero_dropped zero ws e = e
zero_dropped (suc i) [] e = refl
zero_dropped (suc i) (w ∷ ws) e = zero_dropped i ws (omega arith)

-- one mask, for check byte k
abbrev pub mask_at : ℕ → ℕ → List ℕ
mask_at zero f = f ∷ []
mask_at (suc k) f = 0 ∷ mask_at k f

mask_at_lem : (k f : ℕ) → get_or (mask_at k f) k 0 ≡ f
mask_at_lem zero f = refl
mask_at_lem (suc k) f = mask_at_lem k f

mask_elsewhere : (k j f : ℕ) → (j ≡ k → ⊥) → get_or (mask_at k f) j 0 ≡ 0
mask_elsewhere zero zero f d = absurd (d refl)
mask_elsewhere zero (suc j) f d = refl
mask_elsewhere (suc k) zero f d = refl
mask_elsewhere (suc k) (suc j) f d = mask_elsewhere k j f (λ e. d (ap suc e))

words_zero : (i : ℕ) → Words (replicate i 0)
unfolding Words
words_zero zero = tt
words_zero (suc i) = (lit< tt, words_zero i)

ones_zero : (i : ℕ) → ones_of (replicate i 0) ≡ 0
unfolding ones_of ones
ones_zero zero = refl
ones_zero (suc i) = omega (arith, ones_zero i)

-- masks of zeros have no ones in any block
words_spared : (n k : ℕ) → ones_of (block (take n (replicate 16 0)) k) ≡ 0
words_spared n k = zero_taken 4 _ (zero_dropped (4 * k) _ (zero_taken n _ (ones_zero 16)))

-- In each block of a frame of any size one, two or three bits can be flipped,
pub block_hit : (n k c : ℕ) → k < blocks n → 1 ≤ c → c ≤ 3
    → Masks (replicate 16 0) × Flips n (replicate 16 0) (mask_at k (2 ^ c - 1)) k
unfolding flips_in weight
block_hit n k c within least most =
    let words = words_spared n k in
    let byte : ones (get_or (mask_at k (2 ^ c - 1)) k 0) ≡ c = ap ones (mask_at_lem k (2 ^ c - 1)) ∙ ones-ones c in
    (record { many = refl; words = words_zero 16 }, record { within = within; least = omega arith; most = omega arith })

-- and none in any other block.
pub others_spared : (n k j f : ℕ) → (j ≡ k → ⊥) → flips_in n (replicate 16 0) (mask_at k f) j ≡ 0
unfolding flips_in weight ones
others_spared n k j f d =
    let words = words_spared n j in
    let byte : ones (get_or (mask_at k f) j 0) ≡ 0 = ap ones (mask_elsewhere k j f d) in omega arith

-- ---- the frame sizes are those of the F-codes

-- an F-code whose slave frames have this size
abbrev pub code_with : {n : ℕ} → FrameSize n → ℕ
code_with one = 0
code_with two = 1
code_with four = 2
code_with eight = 3
code_with sixteen = 4

-- Each frame size is that of an F-code,
pub size_expected : {n : ℕ} (s : FrameSize n) → expected_of (code_with s) ≡ Some n
unfolding expected_of sizes
size_expected one = refl
size_expected two = refl
size_expected four = refl
size_expected eight = refl
size_expected sixteen = refl

abbrev Sized : Option ℕ → Type 0
Sized (Some n) = FrameSize n
Sized None = Unit

abbrev AllSized : List (Option ℕ) → Type 0
AllSized [] = Unit
AllSized (x ∷ xs) = Sized x × AllSized xs

sized_at : (l : List (Option ℕ)) (k : ℕ) → AllSized l → Sized (get_or l k None)
sized_at [] k f = tt
sized_at (x ∷ xs) zero f = f.0
sized_at (x ∷ xs) (suc k) f = sized_at xs k f.1

-- and there is no other.
pub expected_size : (code n : ℕ) → expected_of code ≡ Some n → FrameSize n
unfolding expected_of sizes
expected_size code n e = subst Sized e (sized_at sizes code all)
  where
    all : AllSized sizes
    all = (one, (two, (four, (eight, (sixteen, (tt, (tt, (tt, (one, (one, (tt, (tt, (sixteen, (one, (one, (one, tt))))))))))))))))
