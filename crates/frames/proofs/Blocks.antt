-- Laws of the marks of blocks (document 02, W-206): mark k of a judgement tells exactly of block k, and a frame is sound exactly as
-- document 01 says. Assumes nothing.
use Prim.Native.Nat.{ℕ, zero, suc, ◌+◌, ◌/◌, ◌≤◌}
use mathlib.Core.Path.{◌≡◌, refl, sym, ◌∙◌, ap}
use mathlib.Core.Bool.{Bool, true, false, cond, not, ◌&&◌, ◌||◌, true≢false, and-eq-true_iff, not-not}
use mathlib.Core.List.{List}
use native.Mathlib.Omega.{arith}
use borrow.Author.Tests.{leb-true, leb-false, eqb-true, lt-ltb, le-ltb, le-leb}
use lib.Dec.{ltb, leb, eqb}
use lib.ListN.{length, get_or}
use lib.Seq.{length-take-le}
use Rattle.sequence.specs.Frame.{blocks, check_at}
use Rattle.frames.specs.declared.Hearing.{Hearing}
use Rattle.frames.specs.declared.Wrong.{Wrong}
use Rattle.frames.specs.declared.Judgement.TheVariants.{Sound, Unsound}
use Rattle.frames.specs.Hearing.{words_of, marked}
use Rattle.frames.specs.Judge.{counts_right, right_at, checks_right, wrong_at, wrong_of, no_wrong, any_wrong, in_order, verdict, is_sound}
use Rattle.frames.specs.Judge.{wrong_in, judged}

not_and : (a b : Bool) → not (a && b) ≡ (not a || not b)
not_and true b = refl
not_and false b = refl

-- a block is marked exactly if not each check byte is right
pub any_wrong_lem : (ws cs : List ℕ) → any_wrong (wrong_of ws cs) ≡ not (checks_right ws cs)
unfolding wrong_of wrong_at checks_right
any_wrong_lem ws cs =
    let right = right_at ws cs in
    rw (not_and (right 0 && right 1 && right 2) (right 3), not_and (right 0 && right 1) (right 2), not_and (right 0) (right 1))

-- marks of which none is set
none_set : (w : Wrong) → any_wrong w ≡ false → w ≡ no_wrong
none_set w e = go w.first w.second w.third w.fourth e
  where
    go : (a b c d : Bool) → (a || b || c || d) ≡ false
        → record { first = a; second = b; third = c; fourth = d } ≡ no_wrong
    go false false false false e = refl
    go true b c d e = absurd (true≢false e)
    go false true c d e = absurd (true≢false e)
    go false false true d e = absurd (true≢false e)
    go false false false true e = absurd (true≢false e)

-- the blocks that a judgement calls wrong: when counts are right those that are, otherwise none
pub wrong_judged : (n : ℕ) (h : Hearing) → wrong_in (judged n h) ≡ cond (counts_right n h) (wrong_of (words_of h) h.checks) no_wrong
unfolding judged
wrong_judged n h = go (marked h) (counts_right n h) (wrong_of (words_of h) h.checks)
  where
    clean : (w : Wrong) (b : Bool) → any_wrong w ≡ b → wrong_in (cond (not b) Sound (Unsound w)) ≡ w
    clean w true e = refl
    clean w false e = sym (none_set w e)

    go : (marks counts : Bool) (w : Wrong) → wrong_in (verdict marks counts w) ≡ cond counts w no_wrong
    go true counts w = refl
    go false false w = refl
    go false true w = clean w (any_wrong w) refl

-- A frame is sound exactly if it has no quality mark, its counts are right and no block is wrong: each check byte is right.
pub sound_no_marks : (n : ℕ) (h : Hearing)
    → (is_sound (judged n h) ≡ (not (marked h) && counts_right n h && not (any_wrong (wrong_of (words_of h) h.checks))))
    × (is_sound (judged n h) ≡ (not (marked h) && counts_right n h && checks_right (words_of h) h.checks))
unfolding judged
sound_no_marks n h =
    let wrong = wrong_of (words_of h) h.checks in
    let says = go (not (marked h) && counts_right n h && not (any_wrong wrong)) (cond (counts_right n h) wrong no_wrong) in
    (says, says ∙ ap (λ b. not (marked h) && counts_right n h && b) clean)
  where
    go : (b : Bool) (w : Wrong) → is_sound (cond b Sound (Unsound w)) ≡ b
    go true w = refl
    go false w = refl

    clean : not (any_wrong (wrong_of (words_of h) h.checks)) ≡ checks_right (words_of h) h.checks
    clean = ap not (any_wrong_lem (words_of h) h.checks) ∙ not-not (checks_right (words_of h) h.checks)

-- ---- mark k tells of block k

few_blocks : (n : ℕ) → blocks n ≤ 4
unfolding blocks
few_blocks n = go (leb n 16) refl
  where
    go : (b : Bool) → leb n 16 ≡ b → cond b ((n + 3) / 4) 0 ≤ 4
    go true e = omega (arith, leb-true n 16 e)
    go false e = omega arith

-- a block that is not there is not wrong
beyond : (ws cs : List ℕ) (k : ℕ) → 4 ≤ k → wrong_at ws cs k ≡ false
unfolding wrong_at right_at
beyond ws cs k h = rw (le-leb (blocks (length ws)) k (omega (arith, few_blocks (length ws))))

-- mark k is the test of block k
mark_at : (ws cs : List ℕ) (k : ℕ) → get_or (in_order (wrong_of ws cs)) k false ≡ wrong_at ws cs k
unfolding wrong_of
mark_at ws cs zero = refl
mark_at ws cs (suc zero) = refl
mark_at ws cs (suc (suc zero)) = refl
mark_at ws cs (suc (suc (suc zero))) = refl
mark_at ws cs (suc (suc (suc (suc k)))) = sym (beyond ws cs (suc (suc (suc (suc k)))) (omega arith))

-- a block is wrong exactly if there is such a block and its byte is not the check
wrong_exact : (ws cs : List ℕ) (k : ℕ) → wrong_at ws cs k ≡ (ltb k (blocks (length ws)) && not (eqb (get_or cs k 0) (check_at ws k)))
unfolding wrong_at right_at
wrong_exact ws cs k = go (leb (blocks (length ws)) k) refl
  where
    go : (b : Bool) → leb (blocks (length ws)) k ≡ b
        → not (b || eqb (get_or cs k 0) (check_at ws k)) ≡ (ltb k (blocks (length ws)) && not (eqb (get_or cs k 0) (check_at ws k)))
    go true e = rw (le-ltb k (blocks (length ws)) (leb-true _ _ e))
    go false e = rw (lt-ltb k (blocks (length ws)) (leb-false _ _ e))

module _ (n : ℕ) (h : Hearing) (room : length h.words ≡ 16) (fits : n ≤ 16) where
  -- When counts are right, mark k of the judgement is set exactly if the frame has a block k and the byte given differs from its check.
  pub marks_exact : (k : ℕ) → counts_right n h ≡ true
      → get_or (in_order (wrong_in (judged n h))) k false ≡ (ltb k (blocks n) && not (eqb (get_or h.checks k 0) (check_at (words_of h) k)))
  unfolding counts_right words_of
  marks_exact k e =
      let sized : h.size ≡ n = eqb-true h.size n ((and-eq-true_iff (eqb h.size n) (eqb h.ends (blocks n))).0 e).0 in
      let long : length (words_of h) ≡ n = length-take-le h.size h.words (omega arith) ∙ sized in
      let told = wrong_judged n h ∙ ap (λ b. cond b (wrong_of (words_of h) h.checks) no_wrong) e in
      ap (λ w. get_or (in_order w) k false) told ∙ mark_at (words_of h) h.checks k ∙ wrong_exact (words_of h) h.checks k
      ∙ ap (λ l. ltb k (blocks l) && not (eqb (get_or h.checks k 0) (check_at (words_of h) k))) long

-- Otherwise no block is marked.
pub no_marks : (n : ℕ) (h : Hearing) → counts_right n h ≡ false → wrong_in (judged n h) ≡ no_wrong
no_marks n h e = wrong_judged n h ∙ ap (λ b. cond b (wrong_of (words_of h) h.checks) no_wrong) e
