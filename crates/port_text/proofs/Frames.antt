-- The frame that two lists of numbers describe, from what reading them leaves; and the words of a write. Assumes nothing.
use Rattle.std.proofs.Common.{ℕ, suc, ◌≤◌, ◌≡◌, refl, sym, ◌∙◌, ap, Bool, true, false, cond, not, ◌&&◌, ◌||◌, List, [], ◌∷◌, map, arith, leb-true, ltb-false, ltb-true, min, le-ltb, Some, None, eqb, leb, ltb, length, set, take, replicate}
use Rattle.std.proofs.Math.Dec.{leb-suc-suc}
use Rattle.std.proofs.Math.Seq.{sets, take-nil}
use Rattle.port_digits.specs.declared.Listed.{Listed}
use Rattle.port_digits.specs.Marks.{semicolon}
use Rattle.port_digits.specs.Cut.{text_before, text_after, has}
use Rattle.port_digits.specs.Read.{cut, Numbers, numbers_in, listed, largest, Reading, reading, reading_of}
use Rattle.port_digits.proofs.Items.{told}
use Rattle.port_digits.proofs.Limits.{cut_same, map_sets}
use Rattle.frames.specs.declared.Kind.{Kind}
use Rattle.model.proofs.Formed.{and_left, and_right}
use Rattle.port_text.specs.Line.{below, first_list, second_list, is_frame_text, unmarked, hearing_of, frame_read, kept}

-- ---- lists of which no number is above `most`

module _ (n : Numbers) (most : ℕ) (e : below most n ≡ true) where
  -- cut to a limit that is no smaller, they are what they are
  small : (limit : ℕ) → most ≤ limit → map (cut limit) n.values ≡ n.values
  small limit h =
      let k : leb (largest 0 n.values) most ≡ true = and_right n.good (leb (largest 0 n.values) most) e in
      cut_same limit 0 n.values (omega (arith, leb-true (largest 0 n.values) most k))

  -- read as words, they are stored as they are
  small_stored : (into ws : List ℕ) (l : Listed) → most ≤ 65535 → reading ws l ≡ reading_of into n → ws ≡ sets into 0 n.values
  small_stored into ws l h r = ap (λ (x : Reading). x.store) r ∙ ap (sets into 0) (small 65535 h)

module _ (one : Bool) (b : ℕ) (v ws cs t u : List ℕ) (x y : Listed) (front : t ≡ text_before b v) (back : u ≡ text_after b v)
    (read-words : reading ws x ≡ reading_of (replicate 16 0) (numbers_in t))
    (read-checks : reading cs y ≡ reading_of (replicate 4 0) (numbers_in u)) where
  e : reading ws x ≡ reading_of (replicate 16 0) (first_list b v)
  e = read-words ∙ ap (λ (l : List ℕ). reading_of (replicate 16 0) (numbers_in l)) front

  f : reading cs y ≡ reading_of (replicate 4 0) (second_list b v)
  f = read-checks ∙ ap (λ (l : List ℕ). reading_of (replicate 4 0) (numbers_in l)) back

  first : x ≡ listed (first_list b v)
  first = told (replicate 16 0) ws x (first_list b v) e

  second : y ≡ listed (second_list b v)
  second = told (replicate 4 0) cs y (second_list b v) f

  -- what the code tests of the lists
  abbrev tests : Bool → Bool
  tests apart =
      apart && (x.good && leb x.largest 65535) && (y.good && leb y.largest 255)
      && (not one || (eqb x.count 1 && eqb y.count 1))

  frame_good : tests (has b v) ≡ is_frame_text one b v
  unfolding is_frame_text
  frame_good = rw (first, second)

  frame_heard : (kind : Kind) → is_frame_text one b v ≡ true
      → unmarked kind ws x.count (map (cut 255) cs) y.count ≡ hearing_of kind (first_list b v).values (second_list b v).values
  unfolding is_frame_text hearing_of
  frame_heard kind g =
      let pair = not one || (eqb (length (first_list b v).values) 1 && eqb (length (second_list b v).values) 1) in
      let words = has b v && below 65535 (first_list b v) in
      let lists : (words && below 255 (second_list b v)) ≡ true = and_left (words && below 255 (second_list b v)) pair g in
      let one : below 65535 (first_list b v) ≡ true
      = and_right (has b v) (below 65535 (first_list b v)) (and_left words (below 255 (second_list b v)) lists) in
      let two : below 255 (second_list b v) ≡ true = and_right words (below 255 (second_list b v)) lists in
      let w = small_stored (first_list b v) 65535 one (replicate 16 0) ws x (omega arith) e in
      let c = small_stored (second_list b v) 255 two (replicate 4 0) cs y (omega arith) f in
      let d : map (cut 255) cs ≡ sets (replicate 4 0) 0 (second_list b v).values
      = ap (map (cut 255)) c ∙ map_sets (cut 255) (replicate 4 0) 0 (second_list b v).values
      ∙ ap (sets (replicate 4 0) 0) (small (second_list b v) 255 two 255 (omega arith)) in
      rw (first, second, w, d)

  module _ (kind : Kind) (good apart : Bool) (tested : good ≡ tests apart) (cut_apart : apart ≡ has b v) where
    good_is : good ≡ is_frame_text one b v
    good_is = tested ∙ ap tests cut_apart ∙ frame_good

    -- where the test of the code holds, its frame is the one that is defined
    pub read_good : good ≡ true → Some (unmarked kind ws x.count (map (cut 255) cs) y.count) ≡ frame_read kind one b v
    unfolding frame_read
    read_good h = let k = sym good_is ∙ h in rw k (ap Some (frame_heard kind k))

    -- where it does not, the line describes none
    pub read_malformed : good ≡ false → None ≡ frame_read kind one b v
    unfolding frame_read
    read_malformed h = rw (sym good_is ∙ h)

-- ---- the words of a write

sets_cons : (x : ℕ) (l : List ℕ) (i : ℕ) (vs : List ℕ) → sets (x ∷ l) (suc i) vs ≡ x ∷ sets l i vs
sets_cons x l i [] = refl
sets_cons x l i (v ∷ vs) = sets_cons x (set l i v) (suc i) vs

sets_nil : (i : ℕ) (vs : List ℕ) → sets [] i vs ≡ []
sets_nil i [] = refl
sets_nil i (v ∷ vs) = sets_nil (suc i) vs

cut_suc : (k n : ℕ) → cut (suc k) (suc n) ≡ suc (cut k n)
cut_suc k n = rw (leb-suc-suc (suc k) n) (go (ltb k n))
  where
    go : (b : Bool) → cond b (suc k) (suc n) ≡ suc (cond b k n)
    go true = refl
    go false = refl

-- as many words as there is room for are the first of them
stored : (l vs : List ℕ) → take (cut (length l) (length vs)) (sets l 0 vs) ≡ take (length l) vs
stored [] vs = rw (sets_nil 0 vs) (take-nil (cut 0 (length vs)))
stored (x ∷ l) [] = rw (le-ltb (suc (length l)) 0 (omega arith))
stored (x ∷ l) (v ∷ vs) = rw (cut_suc (length l) (length vs), sets_cons v l 0 vs) (ap (λ (r : List ℕ). v ∷ r) (stored l vs))

-- what is cut to a limit is the smaller of the two
cut_min : (limit v : ℕ) → cut limit v ≡ min v limit
cut_min limit v = go (ltb limit v) refl
  where
    go : (b : Bool) → ltb limit v ≡ b → cond b limit v ≡ min v limit
    go true e = omega (arith, ltb-true limit v e)
    go false e = omega (arith, ltb-false limit v e)

module _ (v ws : List ℕ) (l : Listed) (e : reading ws l ≡ reading_of (replicate 17 0) (second_list semicolon v)) where
  list : l ≡ listed (second_list semicolon v)
  list = told (replicate 17 0) ws l (second_list semicolon v) e

  -- the test of the code is the one of the definition
  pub write_good : (has semicolon v && (l.good && leb l.largest 65535)) ≡ (has semicolon v && below 65535 (second_list semicolon v))
  write_good = rw list

  -- the words that the code hands on are those that are kept
  pub write_kept : (has semicolon v && below 65535 (second_list semicolon v)) ≡ true → take (min l.count 17) ws ≡ kept (second_list semicolon v).values
  write_kept h =
      let below : below 65535 (second_list semicolon v) ≡ true = and_right (has semicolon v) (below 65535 (second_list semicolon v)) h in
      rw (← cut_min 17 l.count, list, small_stored (second_list semicolon v) 65535 below (replicate 17 0) ws l (omega arith) e)
      (stored (replicate 17 0) (second_list semicolon v).values)
