-- Document 02, W-212: asking goes by the index table and the port words alone. Where both pages have their length it answers what it answered
-- when it tested all four areas, and what fetching hands back is what it was, whatever the areas hold. Assumes nothing.
use Prim.Native.Nat.{ℕ}
use mathlib.Core.Path.{◌≡◌, refl, sym, ◌∙◌, ap}
use mathlib.Core.Bool.{Bool, true, false, cond, not, ◌&&◌}
use mathlib.Core.List.{List, [], ◌∷◌}
use lib.Dec.{eqb}
use Rattle.std.specs.Prelude.{Result, Ok, Err}
use Rattle.constants.specs.declared.refusals.Refusal.{Refusal}
use Rattle.constants.proofs.Numbers.{with_number, number_back}
use Rattle.model.specs.declared.State.{State}
use Rattle.model.specs.declared.State.TheVariants as state
use Rattle.std.specs.Result.{result_unwrap_or}
use Rattle.model.specs.Answer.{Answer, answer_of, shown_as}
use Rattle.model.specs.Answer.{Never, Good, Held, Stale, Refused}
use Rattle.model.specs.Layout.{Areas, areas, tables_fit, pages_fit, areas_fit, entry, port_at}
use Rattle.model.specs.Ports.{valid_words, state_of}
use Rattle.model.specs.Calls.{read_port, area_test, at_port, first_of, refusal, port_refusal, asked, part_for, fetched}

-- Asking does not depend on the pages.
pub asks_alone : (i p z o : List ℕ) (a : ℕ) → asked (areas i p z o) a ≡ asked (areas i p [] []) a
unfolding asked port_refusal refusal tables_fit
asks_alone i p z o a = refl

-- Nor does the number that it is refused with.
pub number_alone : (i p z o : List ℕ) (a : ℕ) → port_refusal (read_port a) (areas i p z o) ≡ port_refusal (read_port a) (areas i p [] [])
unfolding port_refusal refusal tables_fit
number_alone i p z o a = refl

-- The test of the pages asks nothing of the two other areas.
pub pages_alone : (i p z o : List ℕ) → pages_fit (areas i p z o) ≡ pages_fit (areas [] [] z o)
unfolding pages_fit
pages_alone i p z o = refl

-- an answer by the number of a refusal, 0 for none
abbrev answer_by : ℕ → Answer → Answer
answer_by n x = cond (eqb n 0) x (Refused n)

-- what asking answered before: its first test was that of all four areas, as it still is of closing and writing
abbrev pub asked_before : Areas → ℕ → Answer
asked_before m a = answer_by (first_of (area_test m ∷ at_port m a [])) (state_of (port_at m (entry m a)))

by_lengths : (tables pages : Bool) (n : ℕ) (x : Answer)
    → answer_by (cond (not (tables && pages)) 1 n) x ≡ cond pages (answer_by (cond (not tables) 1 n) x) (Refused 1)
by_lengths true true n x = refl
by_lengths true false n x = refl
by_lengths false true n x = refl
by_lengths false false n x = refl

-- Before, asking answered 1 where a page had another length, and what it answers now where both pages have theirs.
pub asked_before_lem : (m : Areas) (a : ℕ) → asked_before m a ≡ cond (pages_fit m) (asked m a) (Refused 1)
unfolding asked port_refusal refusal areas_fit
asked_before_lem m a = by_lengths (tables_fit m) (pages_fit m) (first_of (at_port m a [])) (state_of (port_at m (entry m a)))

-- What fetching hands back is what it handed back before: the words of the port where that answer shows them.
pub fetched_before : (m : Areas) (a : ℕ) → fetched m a ≡ part_for (asked_before m a) (valid_words m (entry m a))
unfolding fetched
fetched_before m a =
    go (pages_fit m) ∙ ap (λ (x : Answer). part_for x (valid_words m (entry m a))) (sym (asked_before_lem m a))
  where
    go : (b : Bool)
        → cond b (part_for (asked m a) (valid_words m (entry m a))) [] ≡ part_for (cond b (asked m a) (Refused 1)) (valid_words m (entry m a))
    go true = refl
    go false = refl

-- ---- what the call hands back is told by the answer that it is

-- what is handed back for an answer
abbrev handed : Answer → Result State Refusal
handed Never = Ok state.Never
handed Good = Ok state.Good
handed Held = Ok state.Held
handed Stale = Ok state.Stale
handed (Refused n) = Err (with_number n)

handed_back : (x : Result State Refusal) → handed (answer_of x) ≡ x
handed_back (Ok state.Never) = refl
handed_back (Ok state.Good) = refl
handed_back (Ok state.Held) = refl
handed_back (Ok state.Stale) = refl
handed_back (Err e) = ap Err (number_back e)

-- two results that are the same answer are equal
pub one_answer_of : (x y : Result State Refusal) → answer_of x ≡ answer_of y → x ≡ y
one_answer_of x y e = sym (handed_back x) ∙ ap handed e ∙ handed_back y

-- so are two states
pub one_shown : (x y : State) → shown_as x ≡ shown_as y → x ≡ y
one_shown x y e = ap (λ (r : Result State Refusal). result_unwrap_or r state.Never) (one_answer_of (Ok x) (Ok y) e)
