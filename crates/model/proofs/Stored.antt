-- Laws of words stored one after another in a list: they are read back, and the words before and behind them are untouched. A list is
-- taken as blocks of s words, and what is stored in one block leaves the others. Assumes nothing.
use Prim.Native.Nat.{ℕ, suc, ◌+◌, ◌*◌, ◌≤◌, ◌<◌}
use mathlib.Core.Path.{◌≡◌, refl, sym, ◌∙◌, ap}
use mathlib.Core.Logic.{◌≢◌, dite}
use mathlib.Core.List.{List, [], ◌∷◌, ◌++◌, append_assoc}
use native.Mathlib.Nat.{mul-le-mul_left}
use native.Mathlib.Decide.{dec_lt}
use native.Mathlib.Omega.{arith}
use lib.ListN.{length, get_or, set, take, drop}
use lib.Seq.{sets, sets-eq, get_or-set_other, get_or-take, get_or-drop, take_at, drop_at, length-take-le}

-- words stored inside a list are read back from where they were stored
pub stored_part : (l : List ℕ) (i : ℕ) (vs : List ℕ) → i + length vs ≤ length l → take (length vs) (drop i (sets l i vs)) ≡ vs
stored_part l i vs h =
    let there : length (take i l) ≡ i = length-take-le i l (omega arith) in
    rw (
      sets-eq vs l i h,
      append_assoc (take i l) vs (drop (i + length vs) l),
      drop_at (take i l) (vs ++ drop (i + length vs) l) i there,
    )
    (take_at vs (drop (i + length vs) l) (length vs) refl)

-- the same of one word of them
pub stored_at : (l : List ℕ) (i : ℕ) (vs : List ℕ) (k : ℕ) → i + length vs ≤ length l → k < length vs
    → get_or (sets l i vs) (i + k) 0 ≡ get_or vs k 0
stored_at l i vs k h b =
    sym (get_or-drop i (sets l i vs) k 0) ∙ sym (get_or-take (length vs) (drop i (sets l i vs)) k 0 b)
    ∙ ap (λ (x : List ℕ). get_or x k 0) (stored_part l i vs h)

before : (l : List ℕ) (i : ℕ) (vs : List ℕ) (k : ℕ) → k < i → get_or (sets l i vs) k 0 ≡ get_or l k 0
before l i [] k h = refl
before l i (v ∷ vs) k h = before (set l i v) (suc i) vs k (omega arith) ∙ get_or-set_other l i k v 0 (omega arith)

behind : (l : List ℕ) (i : ℕ) (vs : List ℕ) (k : ℕ) → i + length vs ≤ k → get_or (sets l i vs) k 0 ≡ get_or l k 0
behind l i [] k h = refl
behind l i (v ∷ vs) k h = behind (set l i v) (suc i) vs k (omega arith) ∙ get_or-set_other l i k v 0 (omega arith)

-- word k of block q, after words were stored in block p
pub stored_other : (s : ℕ) (l : List ℕ) (p q : ℕ) (vs : List ℕ) (k : ℕ) → q ≢ p → length vs ≤ s → k < s
    → get_or (sets l (s * p) vs) (s * q + k) 0 ≡ get_or l (s * q + k) 0
stored_other s l p q vs k ne h b =
    dite (dec_lt q p) (λ lt. before l (s * p) vs (s * q + k) (omega (arith, mul-le-mul_left s lt)))
    (λ ge.
    let gt : p < q = omega arith in
    behind l (s * p) vs (s * q + k) (omega (arith, mul-le-mul_left s gt)))
