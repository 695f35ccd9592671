-- A list of numbers, byte by byte, in the terms of the code. Assumes nothing.
use Rattle.std.proofs.Common.{ℕ, ◌+◌, ◌<◌, ◌≤◌, max, ◌≡◌, refl, sym, ◌∙◌, ap, Bool, true, false, ◌&&◌, List, [], ◌∷◌, zero-add, add-zero, add-suc, suc-add, suc-ne-zero, add-one, arith, eqb-true, eq-eqb, ne_eqb, eqb, length, get_or, set, drop, drop_of_length-le, drop-cons, Option, Some, None}
use Rattle.std.proofs.Math.Bool.{and-eq-true_iff, and-false}
use Rattle.std.proofs.Math.Nat.{suc_inj}
use Rattle.std.proofs.Math.Seq.{sets}
use Rattle.port_digits.specs.declared.Listed.{Listed}
use Rattle.std.specs.Option.{unwrap_or}
use Rattle.port_digits.specs.Marks.{comma}
use Rattle.port_digits.specs.Read.{is_digit, cut, longer, Numbers, numbers, with, items_from, numbers_in, values_of}
use Rattle.port_digits.specs.Read.{largest, listed, Reading, reading, reading_of, sole_number}

-- the numbers of a text after a number that has been begun, or after none
abbrev pub items_after : Option ℕ → List ℕ → Numbers
items_after None t = items_from false 0 t
items_after (Some v) t = items_from true v t

module _ (t : List ℕ) (i : ℕ) (h : i < length t) where
  -- a digit goes on with the number
  pub item_digit : (n : Option ℕ) → is_digit (get_or t i 0) ≡ true
      → items_after n (drop i t) ≡ items_after (Some (longer (unwrap_or n 0) (get_or t i 0))) (drop (i + 1) t)
  unfolding items_from
  item_digit None e = rw (drop-cons t i 0 h, e, add-one i)
  item_digit (Some v) e = rw (drop-cons t i 0 h, e, add-one i)

  -- a comma after a digit ends the number, and the next one begins
  pub item_ends : (v : ℕ) → is_digit (get_or t i 0) ≡ false → eqb (get_or t i 0) comma ≡ true
      → items_after (Some v) (drop i t) ≡ with v (items_after None (drop (i + 1) t))
  unfolding items_from
  item_ends v e f = rw (drop-cons t i 0 h, e, f, add-one i)

  -- any other byte is a fault, and nothing after it is read
  pub item_fault : (n : Option ℕ) → is_digit (get_or t i 0) ≡ false → eqb (get_or t i 0) comma ≡ false → items_after n (drop i t) ≡ numbers false []
  unfolding items_from
  item_fault None e f = rw (drop-cons t i 0 h, e)
  item_fault (Some v) e f = rw (drop-cons t i 0 h, e, f)

  -- and so is a comma where no number has been begun
  pub item_missing : is_digit (get_or t i 0) ≡ false → items_after None (drop i t) ≡ numbers false []
  unfolding items_from
  item_missing e = rw (drop-cons t i 0 h, e)

-- at the end of the text the number ends, if one has been begun
pub item_last : (t : List ℕ) (i : ℕ) → length t ≤ i → (v : ℕ) → items_after (Some v) (drop i t) ≡ numbers true (v ∷ [])
unfolding items_from
item_last t i h v = rw (drop_of_length-le t h)

pub item_none : (t : List ℕ) (i : ℕ) → length t ≤ i → items_after None (drop i t) ≡ numbers false []
unfolding items_from
item_none t i h = rw (drop_of_length-le t h)

-- ---- what has been read, with what is still to be read

-- k words are stored and m is the largest of them
abbrev pub reading_from : List ℕ → ℕ → ℕ → Numbers → Reading
reading_from into k m n =
    reading (sets into k (values_of n)) (record { good = n.good; count = k + length n.values; largest = largest m n.values })

-- before the first byte all is still to be read
pub reading_start : (into : List ℕ) (n : Numbers) → reading_from into 0 0 n ≡ reading_of into n
reading_start into n = rw (zero-add (length n.values))

-- a number that ends is stored, counted and compared
pub reading_with : (into : List ℕ) (k m v : ℕ) (n : Numbers)
    → reading_from (set into k (cut 65535 v)) (k + 1) (max m v) n ≡ reading_from into k m (with v n)
unfolding largest
reading_with into k m v n = rw (add-suc k (length n.values), add-one k, suc-add k (length n.values))

-- with nothing left to be read, what was read is all
pub reading_none : (into : List ℕ) (k m : ℕ) (b : Bool)
    → reading_from into k m (numbers b []) ≡ reading into (record { good = b; count = k; largest = m })
unfolding largest
reading_none into k m b = rw (add-zero k)

-- ---- one number alone

-- the largest of one number is that number
largest_alone : (vs : List ℕ) → length vs ≡ 1 → largest 0 vs ≡ get_or vs 0 0
unfolding largest
largest_alone [] e = absurd (suc-ne-zero 0 (sym e))
largest_alone (v ∷ []) e = omega arith
largest_alone (v ∷ w ∷ vs) e = absurd (suc-ne-zero (length vs) (suc_inj e))

-- what is told of a list says whether it is one number, and which
module _ (into store : List ℕ) (l : Listed) (n : Numbers) (e : reading store l ≡ reading_of into n) where
  -- what is told is told of the numbers that were read
  pub told : l ≡ listed n
  told = ap (λ (r : Reading). r.told) e

  -- one number: it is the largest
  pub alone : l.good ≡ true → l.count ≡ 1 → Some l.largest ≡ sole_number n
  alone g o =
      let h : (l.good && eqb l.count 1) ≡ true = rw (g, eq-eqb l.count 1 o) in
      let k : (n.good && eqb (length n.values) 1) ≡ true = ap (λ (x : Listed). x.good && eqb x.count 1) (sym told) ∙ h in
      let one : length n.values ≡ 1 = eqb-true (length n.values) 1 ((and-eq-true_iff n.good (eqb (length n.values) 1)).0 k).1 in
      rw (k, ← largest_alone n.values one) (ap (λ (x : Listed). Some x.largest) told)

  -- no number or several: the text is not a number
  not_alone : (l.good && eqb l.count 1) ≡ false → None ≡ sole_number n
  not_alone h =
      let k : (n.good && eqb (length n.values) 1) ≡ false = ap (λ (x : Listed). x.good && eqb x.count 1) (sym told) ∙ h in
      rw k

  pub no_list : l.good ≡ false → None ≡ sole_number n
  no_list g = not_alone (rw g)

  pub several : (l.count ≡ 1 → ⊥) → None ≡ sole_number n
  several o = not_alone (rw (ne_eqb l.count 1 o) (and-false l.good))

-- ---- an empty text

-- an empty text is an empty list
pub numbers_empty : (t : List ℕ) → length t ≡ 0 → numbers_in t ≡ numbers true []
unfolding numbers_in
numbers_empty [] e = refl
numbers_empty (c ∷ cs) e = absurd (suc-ne-zero (length cs) e)

-- any other text is read byte by byte
pub numbers_some : (t : List ℕ) → (length t ≡ 0 → ⊥) → numbers_in t ≡ items_from false 0 t
unfolding numbers_in
numbers_some [] e = absurd (e refl)
numbers_some (c ∷ cs) e = refl
