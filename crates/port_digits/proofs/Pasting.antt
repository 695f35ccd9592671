-- Text written one piece after the other is the joined text. Assumes nothing.
use Rattle.std.proofs.Common.{ℕ, suc, ◌+◌, ◌<◌, ◌≤◌, ◌-◌, min, ◌≡◌, refl, ◌∙◌, ap, List, [], ◌∷◌, ◌++◌, Bool, true, false, cond, add-zero, add-suc, suc-add, add-one, arith, le-ltb, ltb-true, ltb-false, ltb, length, get_or, set, take, drop, length-set, drop-cons, take_all}
use Rattle.std.proofs.Math.Seq.{sets, set_out}
use Rattle.port_digits.specs.Read.{cut}
use Rattle.port_digits.specs.Write.{Paper, paper, last_place, next_place, with_byte, onto, decimal, due_comma, commas_from, commas}

-- one text after another is the joined text
pub onto_more : (p : Paper) (t u : List ℕ) → onto (onto p t) u ≡ onto p (t ++ u)
unfolding onto
onto_more p [] u = refl
onto_more p (b ∷ t) u = onto_more (with_byte p b) t u

-- what is written after p gives q, and after q gives r
pub then : (p : Paper) (t u : List ℕ) {q r : Paper} → q ≡ onto p t → r ≡ onto q u → r ≡ onto p (t ++ u)
then p t u e f = f ∙ ap (λ (x : Paper). onto x u) e ∙ onto_more p t u

-- the next place is the sum, cut at the last place
pub next_place_min : (n : ℕ) → n ≤ last_place → min (n + 1) last_place ≡ next_place n
next_place_min n h = go (ltb n last_place) refl
  where
    go : (e : Bool) → ltb n last_place ≡ e → min (n + 1) last_place ≡ cond e (n + 1) n
    go true e = omega (arith, ltb-true n last_place e)
    go false e = omega (arith, ltb-false n last_place e)

-- ---- one element more of what a loop writes

-- the next byte of a text is written before the rest of it
pub onto_next : (p : Paper) (t : List ℕ) (i : ℕ) → i < length t → onto p (drop i t) ≡ onto (onto p (get_or t i 0 ∷ [])) (drop (i + 1) t)
unfolding onto
onto_next p t i h = rw (drop-cons t i 0 h, add-one i)

-- the next number of a list is written, with a comma before it, before the rest of it
pub commas_next : (p : Paper) (vs : List ℕ) (i : ℕ) → i < length vs
    → onto p (commas_from true (drop i vs))
    ≡ onto (onto (onto p (due_comma true)) (decimal (get_or vs i 0))) (commas_from true (drop (i + 1) vs))
unfolding commas_from
commas_next p vs i h =
    rw (
      drop-cons vs i 0 h,
      add-one i,
      onto_more p (due_comma true) (decimal (get_or vs i 0)),
      onto_more p (due_comma true ++ decimal (get_or vs i 0)) (commas_from true (drop (suc i) vs)),
    )

-- a list of numbers is its first number, and the others with a comma before each
pub commas_first : (vs : List ℕ) → 1 ≤ length vs → decimal (get_or vs 0 0) ++ commas_from true (take (length vs - 1) (drop 1 vs)) ≡ commas vs
unfolding commas commas_from
commas_first [] h = absurd (omega arith)
commas_first (v ∷ vs) h =
    let n : suc (length vs) - 1 ≡ length vs = omega arith in
    rw (n, take_all (length vs) vs (omega arith))

-- of no number nothing is written
pub commas_none : (vs : List ℕ) → length vs < 1 → commas vs ≡ []
unfolding commas commas_from
commas_none [] h = refl
commas_none (v ∷ vs) h = absurd (omega arith)

-- ---- a text in a buffer that is no longer than the last place

-- past the end nothing is stored
sets_out : (l : List ℕ) (i : ℕ) (vs : List ℕ) → length l ≤ i → sets l i vs ≡ l
sets_out l i [] h = refl
sets_out l i (v ∷ vs) h = rw (set_out l i v h) (sets_out l (suc i) vs (omega arith))

-- all places from the last on count as the last
ends : (n : ℕ) → last_place ≤ n → cut last_place n ≡ last_place
ends n r = go (ltb last_place n) refl
  where
    go : (d : Bool) → ltb last_place n ≡ d → cond d last_place n ≡ last_place
    go true d = refl
    go false d = let s : n ≤ last_place = ltb-false last_place n d in omega arith

-- what is written stands in the buffer as far as there is room, and the place after it comes back
pub written : (o : List ℕ) (at : ℕ) (t : List ℕ) → length o ≤ last_place → at ≤ last_place
    → onto (paper o at) t ≡ paper (sets o at t) (cut last_place (at + length t))
unfolding onto
written o at [] h k = rw (add-zero at, le-ltb last_place at k)
written o at (b ∷ t) h k = go (ltb at last_place) refl (λ n r. written (set o at b) n t (rw (length-set o at b) h) r)
  where
    q : List ℕ
    q = set o at b

    go : (e : Bool) → ltb at last_place ≡ e
        → ((n : ℕ) → n ≤ last_place → onto (paper q n) t ≡ paper (sets q n t) (cut last_place (n + length t)))
        → onto (paper q (cond e (at + 1) at)) t ≡ paper (sets q (suc at) t) (cut last_place (at + suc (length t)))
    go true e next =
        let below : at < last_place = ltb-true at last_place e in
        rw (add-suc at (length t), ← suc-add at (length t), ← add-one at) (next (at + 1) (omega arith))
    go false e next =
        let last : last_place ≤ at = ltb-false at last_place e in
        let out : length q ≤ at = omega (arith, length-set o at b) in
        next at k
        ∙ rw (
          sets_out q at t out,
          sets_out q (suc at) t (omega arith),
          ends (at + length t) (omega arith),
          ends (at + suc (length t)) (omega arith),
        )
