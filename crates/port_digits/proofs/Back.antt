-- What is printed reads back. A number of at most 65,535 is read from its text as itself (`number_back`). A list of such numbers is read
-- from its text as the same list, as many as they are (`list_back`), and is stored so where there is room for all of it (`stored_back`).
-- Assumes nothing.
use Rattle.std.proofs.Common.{ℕ, ◌+◌, ◌-◌, ◌*◌, ◌/◌, ◌%◌, ◌<◌, ◌≤◌, max, ◌≡◌, refl, ◌∙◌, ap, Bool, true, false, cond, List, [], ◌∷◌, ◌++◌, append_assoc, append-nil, div-le_self, arith, ltb-true, le-ltb, le-leb, ne_eqb, ltb, length, take, take_at, Some}
use Rattle.std.proofs.Math.Bool.{false≢true}
use Rattle.std.proofs.Math.Nat.{div-div-eq-div-mul, div-eq_of_lt}
use Rattle.std.proofs.Math.Seq.{sets-eq}
use Rattle.port_digits.specs.Cut.{has}
use Rattle.port_digits.specs.Read.{Numbers, numbers, with, items_from, numbers_in, largest, number_in, reading_of}
use Rattle.port_digits.specs.Write.{digit_at, decimal, commas_from, commas}
use Rattle.port_digits.proofs.Cutting.{lacks_joined}
use Rattle.port_digits.proofs.Limits.{cut_same, first_within}

-- ---- digit by digit

-- a digit goes on with the number x / 10 to the number x
digit_read : (b : Bool) (x : ℕ) (cs : List ℕ) → x ≤ 65535 → items_from b (x / 10) ((x % 10 + 48) ∷ cs) ≡ items_from true x cs
unfolding items_from
digit_read b x cs h =
    let whole : x / 10 * 10 + (x % 10 + 48 - 48) ≡ x = omega arith in
    rw (le-leb 48 (x % 10 + 48) (omega arith), le-leb (x % 10 + 48) 57 (omega arith), whole, le-ltb 65536 x (omega arith))

-- the digits of v down to a power of ten come to v / power; a number that is shorter has none of them yet
power_read : (b : Bool) (power v : ℕ) (cs : List ℕ) → 0 < power → v ≤ 65535
    → items_from b (v / (power * 10)) (digit_at power v ++ cs) ≡ items_from (cond (ltb v power) b true) (v / power) cs
power_read b power v cs hp hv = go (ltb v power) refl
  where
    go : (e : Bool) → ltb v power ≡ e
        → items_from b (v / (power * 10)) (cond e [] ((v / power % 10 + 48) ∷ []) ++ cs) ≡ items_from (cond e b true) (v / power) cs
    go true e =
        let below : v < power = ltb-true v power e in
        rw (div-eq_of_lt {n = v} {m = power} below, div-eq_of_lt {n = v} {m = power * 10} (omega arith))
    go false e = rw (← div-div-eq-div-mul v power 10) (digit_read b (v / power) cs (omega (arith, div-le_self v power)))

-- the whole text of a word
word_read : (v : ℕ) (cs : List ℕ) → v ≤ 65535 → items_from false 0 (decimal v ++ cs) ≡ items_from true v cs
unfolding decimal
word_read v cs h =
    let none : 0 ≡ v / 100000 = omega arith in
    simp append_assoc
    (rw none
    (power_read false 10000 v _ (omega arith) h
    ∙ power_read _ 1000 v _ (omega arith) h
    ∙ power_read _ 100 v _ (omega arith) h
    ∙ power_read _ 10 v _ (omega arith) h
    ∙ digit_read _ v cs h))

-- ---- numbers and commas

-- the rest of a list, after its number v
rest_read : (v m : ℕ) (ws : List ℕ) → largest m ws ≤ 65535 → items_from true v (commas_from true ws) ≡ numbers true (v ∷ ws)
unfolding items_from commas_from largest
rest_read v m [] h = refl
rest_read v m (w ∷ ws) h =
    ap (with v) (word_read w (commas_from true ws) (first_within 65535 m w ws h) ∙ rest_read w (max m w) ws h)

-- an empty text is not read as a first number
numbers_read : (t vs : List ℕ) → items_from false 0 t ≡ numbers true vs → numbers_in t ≡ numbers true vs
unfolding numbers_in items_from
numbers_read [] vs e = absurd (false≢true (ap (λ (n : Numbers). n.good) e))
numbers_read (c ∷ cs) vs e = e

-- a list of words is read from its text as itself
pub list_back : (ws : List ℕ) → largest 0 ws ≤ 65535 → numbers_in (commas ws) ≡ numbers true ws
unfolding commas commas_from largest numbers_in
list_back [] h = refl
list_back (w ∷ ws) h =
    numbers_read (decimal w ++ commas_from true ws) (w ∷ ws)
    (word_read w (commas_from true ws) (first_within 65535 0 w ws h) ∙ rest_read w (max 0 w) ws h)

-- and stands in the words that are lent for it, where there is room
pub stored_back : (into ws : List ℕ) → largest 0 ws ≤ 65535 → length ws ≤ length into
    → take (length ws) (reading_of into (numbers_in (commas ws))).store ≡ ws
stored_back into ws h room =
    rw (list_back ws h, cut_same 65535 0 ws h, sets-eq ws into 0 (omega arith)) (take_at ws _ (length ws) refl)

-- ---- a number alone

-- a word is read from its text as itself
pub number_back : (n : ℕ) → n ≤ 65535 → number_in (decimal n) ≡ Some n
unfolding number_in items_from
number_back n h = rw (← append-nil (decimal n), numbers_read (decimal n ++ []) (n ∷ []) (word_read n [] h))

-- ---- no byte below the digits is in the text of a number

last_lacks : (b x : ℕ) → b < 48 → has b ((x % 10 + 48) ∷ []) ≡ false
unfolding has
last_lacks b x h = rw (ne_eqb (x % 10 + 48) b (λ e. omega arith))

power_lacks : (b power v : ℕ) → b < 48 → has b (digit_at power v) ≡ false
unfolding has
power_lacks b power v h = go (ltb v power)
  where
    go : (e : Bool) → has b (cond e [] ((v / power % 10 + 48) ∷ [])) ≡ false
    go true = refl
    go false = last_lacks b (v / power) h

-- the text of a number has no byte below the digits, as a newline is
pub number_lacks : (b n : ℕ) → b < 48 → has b (decimal n) ≡ false
unfolding decimal
number_lacks b n h =
    let at : (power : ℕ) → has b (digit_at power n) ≡ false = λ power. power_lacks b power n h in
    let joined = lacks_joined b in
    joined _ _ (joined _ _ (joined _ _ (joined _ _ (at 10000) (at 1000)) (at 100)) (at 10)) (last_lacks b n h)
