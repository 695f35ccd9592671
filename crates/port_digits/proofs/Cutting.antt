-- Texts cut at the first byte b, in the terms of the code: by how many bytes stand before it. Assumes nothing.
use Rattle.std.proofs.Common.{ℕ, zero, suc, ◌+◌, ◌<◌, ◌≤◌, ◌≡◌, refl, sym, ◌∙◌, ap, Bool, true, false, cond, ◌&&◌, ◌||◌, List, [], ◌∷◌, ◌++◌, add-one, one-add, arith, lt-ltb, le-ltb, eq-eqb, ltb-false, Some, None, eqb, ltb, length, get_or, take, drop, drop_of_length-le, drop-cons}
use Rattle.std.proofs.Math.Bool.{false≢true}
use Rattle.std.proofs.Math.Dec.{leb-suc-suc}
use lib.Pointwise.{pointwise}
use Rattle.std.specs.List.{position, position_or_len, list_any}
use Rattle.std.specs.Option.{unwrap_or}
use Rattle.std.proofs.lemmas.List.Recursion.{is_position_or_len}
use Rattle.port_digits.specs.Cut.{text_before, text_after, has, until, same}

-- ---- in std's words

-- a b is there if `contains` finds one
pub has_any : (b : ℕ) (t : List ℕ) → has b t ≡ list_any (λ c. eqb c b) t
unfolding has
has_any b [] = refl
has_any b (c ∷ cs) = go (eqb c b) (has_any b cs)
  where
    go : (e : Bool) → has b cs ≡ list_any (λ x. eqb x b) cs → cond e true (has b cs) ≡ (e || list_any (λ x. eqb x b) cs)
    go true h = refl
    go false h = h

-- two texts are the same if `==` says so
pub same_pointwise : (t s : List ℕ) → pointwise eqb t s ≡ same t s
unfolding same
same_pointwise [] [] = refl
same_pointwise [] (d ∷ ds) = refl
same_pointwise (c ∷ cs) [] = refl
same_pointwise (c ∷ cs) (d ∷ ds) = ap (λ (e : Bool). eqb c d && e) (same_pointwise cs ds)

-- ---- the parts by their lengths

-- the place that is found lies in the text, or just behind it
pub until_within : (b : ℕ) (t : List ℕ) → until b t ≤ length t
unfolding until
until_within b [] = omega arith
until_within b (c ∷ cs) = go (eqb c b) (until_within b cs)
  where
    go : (e : Bool) → until b cs ≤ length cs → cond e zero (suc (until b cs)) ≤ suc (length cs)
    go true h = omega arith
    go false h = omega arith

-- it is the first place at which b stands
until_first : (b : ℕ) (t : List ℕ) → until b t ≡ position_or_len (λ c. eqb c b) t
unfolding until
until_first b = is_position_or_len (until b) (λ c. eqb c b) refl (λ c cs. ap (λ (n : ℕ). cond (eqb c b) 0 n) (sym (one-add (until b cs))))

-- so `position` finds it, or nothing, and then it is the length
pub until_position : (b : ℕ) (t : List ℕ) → unwrap_or (position (λ c. eqb c b) t) (length t) ≡ until b t
until_position b t = rw (← until_first b t) (go (ltb (until b t) (length t)) refl)
  where
    go : (x : Bool) → ltb (until b t) (length t) ≡ x → unwrap_or (cond x (Some (until b t)) None) (length t) ≡ until b t
    go true e = refl
    go false e = omega (arith, until_within b t, ltb-false (until b t) (length t) e)

-- the code takes the part before b by its length
pub take_until : (b : ℕ) (t : List ℕ) → take (until b t) t ≡ text_before b t
unfolding until text_before
take_until b [] = refl
take_until b (c ∷ cs) = go (eqb c b) (take_until b cs)
  where
    go : (e : Bool) → take (until b cs) cs ≡ text_before b cs → take (cond e zero (suc (until b cs))) (c ∷ cs) ≡ cond e [] (c ∷ text_before b cs)
    go true h = refl
    go false h = rw h

-- the code takes the part after b from the place behind the first one
pub drop_until : (b : ℕ) (t : List ℕ) → drop (suc (until b t)) t ≡ text_after b t
unfolding until text_after
drop_until b [] = refl
drop_until b (c ∷ cs) = go (eqb c b) (drop_until b cs)
  where
    go : (e : Bool) → drop (suc (until b cs)) cs ≡ text_after b cs
        → drop (suc (cond e zero (suc (until b cs)))) (c ∷ cs) ≡ cond e cs (text_after b cs)
    go true h = refl
    go false h = h

-- a b is there exactly if it is found before the end
pub has_until : (b : ℕ) (t : List ℕ) → ltb (until b t) (length t) ≡ has b t
unfolding until has
has_until b [] = le-ltb 0 0 (omega arith)
has_until b (c ∷ cs) = go (eqb c b) (has_until b cs)
  where
    go : (e : Bool) → ltb (until b cs) (length cs) ≡ has b cs
        → ltb (cond e zero (suc (until b cs))) (suc (length cs)) ≡ cond e true (has b cs)
    go true h = lt-ltb 0 (suc (length cs)) (omega arith)
    go false h = leb-suc-suc (suc (until b cs)) (length cs) ∙ h

-- ---- texts without b, joined

-- a text without b does not begin with one, and has none after its first byte
pub lacks : (b c : ℕ) (cs : List ℕ) → has b (c ∷ cs) ≡ false → (eqb c b ≡ false) × (has b cs ≡ false)
unfolding has
lacks b c cs h = go (eqb c b) h
  where
    go : (e : Bool) → cond e true (has b cs) ≡ false → (e ≡ false) × (has b cs ≡ false)
    go true k = absurd (false≢true (sym k))
    go false k = (refl, k)

-- two texts without b have none when joined
pub lacks_joined : (b : ℕ) (t u : List ℕ) → has b t ≡ false → has b u ≡ false → has b (t ++ u) ≡ false
unfolding has
lacks_joined b [] u h k = k
lacks_joined b (c ∷ cs) u h k = rw ((lacks b c cs h).0, lacks_joined b cs u (lacks b c cs h).1 k)

-- the first b is the one between
pub before_joined : (b : ℕ) (t u : List ℕ) → has b t ≡ false → text_before b (t ++ b ∷ u) ≡ t
unfolding text_before
before_joined b [] u h = rw (eq-eqb b b refl)
before_joined b (c ∷ cs) u h = rw ((lacks b c cs h).0, before_joined b cs u (lacks b c cs h).1)

-- what stands after the one between is the second text
pub after_joined : (b : ℕ) (t u : List ℕ) → has b t ≡ false → text_after b (t ++ b ∷ u) ≡ u
unfolding text_after
after_joined b [] u h = rw (eq-eqb b b refl)
after_joined b (c ∷ cs) u h = rw ((lacks b c cs h).0, after_joined b cs u (lacks b c cs h).1)

-- ---- two texts, byte by byte

-- texts of two lengths are not the same
pub same_longer : (t s : List ℕ) → (length t ≡ length s → ⊥) → same t s ≡ false
unfolding same
same_longer [] [] h = absurd (h refl)
same_longer [] (d ∷ ds) h = refl
same_longer (c ∷ cs) [] h = refl
same_longer (c ∷ cs) (d ∷ ds) h = go (eqb c d) (same_longer cs ds (λ e. h (ap suc e)))
  where
    go : (e : Bool) → same cs ds ≡ false → (e && same cs ds) ≡ false
    go true r = r
    go false r = refl

-- what is left is the same exactly if the next bytes are and the rest is
pub same_on : (t s : List ℕ) (i : ℕ) (alike : Bool) → i < length t → length t ≡ length s → eqb (get_or t i 0) (get_or s i 0) ≡ alike
    → (alike && same (drop (i + 1) t) (drop (i + 1) s)) ≡ same (drop i t) (drop i s)
unfolding same
same_on t s i alike h k e = rw (drop-cons t i 0 h, drop-cons s i 0 (omega arith), e, add-one i)

-- at the end of both nothing differs
pub same_end : (t s : List ℕ) (i : ℕ) → length t ≤ i → length s ≤ i → same (drop i t) (drop i s) ≡ true
unfolding same
same_end t s i h k = rw (drop_of_length-le t h, drop_of_length-le s k)
