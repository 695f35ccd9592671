-- Laws of the judgement, by the outcomes of its tests. Assumes nothing.
use mathlib.Core.Path.{◌≡◌, refl, sym, ◌∙◌}
use mathlib.Core.Bool.{Bool, true, false, ◌||◌, true≢false}
use mathlib.Core.List.{List}
use Prim.Native.Nat.{ℕ}
use borrow.Author.Tests.{eq-eqb, ne_eqb, leb-false, lt-ltb}
use lib.Dec.{leb, eqb}
use lib.ListN.{length, get_or}
use Rattle.sequence.specs.Frame.{blocks, check_at, byte_at}
use Rattle.frames.specs.declared.Hearing.{Hearing}
use Rattle.frames.specs.declared.Wrong.{Wrong}
use Rattle.frames.specs.declared.Judgement.TheVariants.{Sound, Unsound}
use Rattle.frames.specs.Hearing.{words_of, marked}
use Rattle.frames.specs.Judge.{counts_right, right_at, wrong_of, no_wrong, any_wrong, verdict, judged}

-- with wrong counts no block is marked, whatever the quality marks and the check bytes
wrong_counts : (marks : Bool) {counts : Bool} (wrong : Wrong) → counts ≡ false → Unsound no_wrong ≡ verdict marks counts wrong
wrong_counts true wrong e = rw e
wrong_counts false wrong e = rw e

-- with the right counts a quality mark or a wrong block makes a frame unsound, and the blocks are marked as they are
pub at_fault : (marks : Bool) (wrong : Wrong) → (marks || any_wrong wrong) ≡ true → Unsound wrong ≡ verdict marks true wrong
at_fault true wrong e = refl
at_fault false wrong e = rw e

-- with the right counts and neither of these it is sound
pub faultless : (marks : Bool) (wrong : Wrong) → (marks || any_wrong wrong) ≡ false → Sound ≡ verdict marks true wrong
faultless true wrong e = absurd (true≢false e)
faultless false wrong e = rw e

module _ (n : ℕ) (h : Hearing) where
  -- a frame of another size is unsound, and no block is marked
  pub wrong_size_lem : (h.size ≡ n → ⊥) → Unsound no_wrong ≡ judged n h
  unfolding judged counts_right
  wrong_size_lem d = wrong_counts (marked h) (wrong_of (words_of h) h.checks) (rw (ne_eqb _ _ d))

  -- so is one of the right size with another number of check bytes
  pub wrong_ends : h.size ≡ n → (h.ends ≡ blocks n → ⊥) → Unsound no_wrong ≡ judged n h
  unfolding judged counts_right
  wrong_ends e d = wrong_counts (marked h) (wrong_of (words_of h) h.checks) (rw (eq-eqb _ _ e, ne_eqb _ _ d))

  -- with the right counts the quality marks and the check bytes decide
  pub right_counts : h.size ≡ n → h.ends ≡ blocks n → verdict (marked h) true (wrong_of (words_of h) h.checks) ≡ judged n h
  unfolding judged counts_right
  right_counts e d = rw (eq-eqb _ _ e, eq-eqb _ _ d)

-- where there is a block k, its computed byte is its check
pub right_byte : (ws cs : List ℕ) (k : ℕ) → (leb (blocks (length ws)) k || eqb (get_or cs k 0) (byte_at ws k)) ≡ right_at ws cs k
unfolding right_at byte_at
right_byte ws cs k = go (leb (blocks (length ws)) k) refl
  where
    go : (b : Bool) → leb (blocks (length ws)) k ≡ b → (b || eqb (get_or cs k 0) (byte_at ws k)) ≡ (b || eqb (get_or cs k 0) (check_at ws k))
    go true e = refl
    go false e = rw (lt-ltb _ _ (leb-false _ _ e))

-- so a block that is given its computed byte is right
pub computed_right : (ws cs : List ℕ) (k : ℕ) → get_or cs k 0 ≡ byte_at ws k → right_at ws cs k ≡ true
computed_right ws cs k e = sym (right_byte ws cs k) ∙ rw (eq-eqb _ _ e) (go (leb (blocks (length ws)) k))
  where
    go : (b : Bool) → (b || true) ≡ true
    go true = refl
    go false = refl
