-- Laws of the port words: the words of a port just written are read back, and another port's words are untouched. A port's words are a
-- list stored in its block. Assumes nothing.
use Prim.Native.Nat.{ℕ, zero, suc, ◌+◌, ◌/◌, ◌%◌, ◌≤◌, ◌<◌}
use mathlib.Core.Path.{◌≡◌, ap}
use mathlib.Core.Logic.{◌≢◌}
use mathlib.Core.Bool.{cond}
use mathlib.Core.List.{List, [], ◌∷◌}
use native.Mathlib.Nat.{add-zero}
use native.Mathlib.Numerals.{towards_suc}
use native.Mathlib.Decide.{ℕ_discrete}
use native.Mathlib.Omega.{arith}
use lib.Dec.{eqb, lit<, lit≤}
use borrow.Author.Tests.{eq-eqb, ne_eqb}
use lib.ListN.{length, get_or, length-set}
use lib.Seq.{sets, ext_get_or}
use Rattle.model.specs.declared.Words.{Words}
use Rattle.model.specs.Layout.{stride, place, words_at, with_words}
use Rattle.model.proofs.Stored.{stored_at, stored_other}

abbrev listed : Words → List ℕ
listed w = w.master ∷ w.flags ∷ w.interrupt ∷ w.fills ∷ w.limit ∷ w.age ∷ w.sixth ∷ w.seventh ∷ []

with_sets : (l : List ℕ) (p : ℕ) (w : Words) → with_words l p w ≡ sets l (place p) (listed w)
unfolding with_words
with_sets l p w = simp towards_suc

-- the words of a port written anew leave the area its length
pub length_with : (l : List ℕ) (p : ℕ) (w : Words) → length (with_words l p w) ≡ length l
unfolding with_words
length_with l p w = simp length-set

-- the words written to a port are read back, if they lie inside the area
pub words_same : (l : List ℕ) (p : ℕ) (w : Words) → place p + stride ≤ length l → words_at (with_words l p w) p ≡ w
unfolding words_at
words_same l p w h =
    let at : (k : ℕ) → k < length (listed w) → get_or (with_words l p w) (place p + k) 0 ≡ get_or (listed w) k 0 =
    λ k b. rw (with_sets l p w) (stored_at l (place p) (listed w) k (omega arith) b) in
    rw (
      rw (add-zero (place p)) at (at 0 (lit< tt)),
      at 1 (lit< tt),
      at 2 (lit< tt),
      at 3 (lit< tt),
      at 4 (lit< tt),
      at 5 (lit< tt),
      at 6 (lit< tt),
      at 7 (lit< tt),
    )

-- they leave every other port's words as they were
pub words_other : (l : List ℕ) (p q : ℕ) (w : Words) → q ≢ p → words_at (with_words l p w) q ≡ words_at l q
unfolding words_at
words_other l p q w ne =
    let at : (k : ℕ) → k < stride → get_or (with_words l p w) (place q + k) 0 ≡ get_or l (place q + k) 0 =
    λ k b. rw (with_sets l p w) (stored_other stride l p q (listed w) k ne (lit≤ tt) b) in
    cc (
      at 0 (lit< tt),
      at 1 (lit< tt),
      at 2 (lit< tt),
      at 3 (lit< tt),
      at 4 (lit< tt),
      at 5 (lit< tt),
      at 6 (lit< tt),
      at 7 (lit< tt),
      add-zero (place q),
    )

-- what f reads of any port's words, after those of port p are written
pub read_with : {A : Type 0} (f : Words → A) (l : List ℕ) (p : ℕ) (w : Words) → place p + stride ≤ length l → (q : ℕ)
    → f (words_at (with_words l p w) q) ≡ cond (eqb q p) (f w) (f (words_at l q))
read_with f l p w room q = go (ℕ_discrete q p)
  where
    go : Dec (q ≡ p) → f (words_at (with_words l p w) q) ≡ cond (eqb q p) (f w) (f (words_at l q))
    go (yes e) = rw (eq-eqb q p e, e) (ap f (words_same l p w room))
    go (no n) = rw (ne_eqb q p n) (ap f (words_other l p q w n))

-- port words that are the same at every port are the same list
pub ports_equal : (l k : List ℕ) → length k ≡ length l → ((p : ℕ) → words_at k p ≡ words_at l p) → k ≡ l
unfolding words_at
ports_equal l k e h = ext_get_or 0 k l e (λ i b. at i (i / stride) (i % stride) (omega arith) (omega arith))
  where
    at : (i p r : ℕ) → i ≡ place p + r → r < stride → get_or k i 0 ≡ get_or l i 0
    at i p zero j b = rw (j, add-zero (place p)) (ap (λ (w : Words). w.master) (h p))
    at i p (suc zero) j b = rw j (ap (λ (w : Words). w.flags) (h p))
    at i p (suc (suc zero)) j b = rw j (ap (λ (w : Words). w.interrupt) (h p))
    at i p (suc (suc (suc zero))) j b = rw j (ap (λ (w : Words). w.fills) (h p))
    at i p (suc (suc (suc (suc zero)))) j b = rw j (ap (λ (w : Words). w.limit) (h p))
    at i p (suc (suc (suc (suc (suc zero))))) j b = rw j (ap (λ (w : Words). w.age) (h p))
    at i p (suc (suc (suc (suc (suc (suc zero)))))) j b = rw j (ap (λ (w : Words). w.sixth) (h p))
    at i p (suc (suc (suc (suc (suc (suc (suc zero))))))) j b = rw j (ap (λ (w : Words). w.seventh) (h p))
    at i p (suc (suc (suc (suc (suc (suc (suc (suc r)))))))) j b = absurd (omega arith)
