-- A call through the conversions, by what it is given: areas of their lengths and arguments of ours come to the model's outcome, as numbers;
-- anything else is turned away. Assumes nothing.
use Rattle.std.proofs.Common.{ℕ, ◌≡◌, refl, sym, ap, ◌∙◌, arith, Bool, true, false, cond, ◌&&◌, List, [], ◌∷◌, Result, Ok, Err}
use mathlib.Core.Bool.{true≢false, and-eq-true_iff}
use Rattle.std.proofs.lemmas.Bool.{eq-eqb}
use Rattle.constants.specs.declared.refusals.Refusal.{Refusal}
use Rattle.constants.specs.Refusal.{number, told}
use Rattle.constants.proofs.Numbers.{refused_number}
use Rattle.model.specs.Answer.{Refused, answer_of}
use Rattle.model.specs.declared.State.{State}
use Rattle.model.specs.declared.State.TheVariants as state
use Rattle.model.specs.declared.Controller.{Controller}
use Rattle.model.specs.Layout.{Areas, tables_fit, pages_fit, areas_fit, entry}
use Rattle.model.specs.Ports.{valid_words}
use Rattle.model.specs.Event.{World, world, silent}
use Rattle.model.specs.Calls.{Call, Test, area_test, tests, refusal, Outcome, outcome_of, outcome, fresh_over, port_refusal, asked, refusal_of, part_for, fetched}
use Rattle.model.proofs.Reading.{no_words_lem}
use Rattle.host_ports.specs.Host.{out, port_areas, host_call}
use Rattle.firmware_layout.specs.declared.FlatController.{FlatController}
use Rattle.firmware_layout.specs.Controller.{controller_of, ours}
use Rattle.firmware_layout.specs.Hearing.{flat_hearing}
use Rattle.firmware.specs.Promise.{away_number, admitted, leaves, answers, flat_outcome, away, through, open_through}
use Rattle.firmware_layout.proofs.Inverse.{same_numbers}

-- ---- an area of another length: a call that tests the lengths first is refused with 1

unfit : (c : Call) (ts : List Test) (s : World) → tests c s ≡ (area_test s.areas ∷ ts) → areas_fit s.areas ≡ false → refusal c s ≡ 1
unfolding refusal
unfit c ts s e f = rw (e, f)

-- so is a call of the host's, which then leaves the areas
pub host_unfit : (c : Call) (ts : List Test) (m : Areas) → tests c (fresh_over m) ≡ (area_test m ∷ ts) → areas_fit m ≡ false → out m 1 ≡ host_call c m
unfolding host_call port_areas port_refusal outcome
host_unfit c ts m e f = ap (λ (n : ℕ). out (outcome_of n c (fresh_over m)).world.areas n) (sym (unfit c ts (fresh_over m) e f))

-- asking is refused so where the index table or the port words have another length
pub asked_unfit : (m : Areas) (a : ℕ) → tables_fit m ≡ false → asked m a ≡ Refused 1
unfolding asked port_refusal refusal
asked_unfit m a f = rw f

-- and fetching hands back no words where any area has (no call leans on it)
pub fetched_unfit : (m : Areas) (a : ℕ) → areas_fit m ≡ false → fetched m a ≡ []
unfolding fetched areas_fit
fetched_unfit m a f = go (tables_fit m) (pages_fit m) refl f
  where
    go : (tables pages : Bool) → tables_fit m ≡ tables → (tables && pages) ≡ false
        → cond pages (part_for (asked m a) (valid_words m (entry m a))) [] ≡ []
    go true true e h = absurd (true≢false h)
    go true false e h = refl
    go false pages e h = rw (asked_unfit m a e) (no_words_lem pages)

-- the number of what asking answers is that of its refusal
pub told_answer : (r : Result State Refusal) → told r ≡ refusal_of (answer_of r)
told_answer (Ok state.Never) = refl
told_answer (Ok state.Good) = refl
told_answer (Ok state.Held) = refl
told_answer (Ok state.Stale) = refl
told_answer (Err e) = refl

-- ---- by what is given

-- where three tests hold together, the first of them holds
pub first_of_three : (a b c : Bool) → (a && b && c) ≡ true → a ≡ true
first_of_three a b c e = ((and-eq-true_iff a b).0 ((and-eq-true_iff (a && b) c).0 e).0).0

-- no refusal has the number 0
no_refusal : (e : Refusal) → number e ≡ 0 → ⊥
no_refusal e z = true≢false (sym (eq-eqb _ _ z) ∙ refused_number e)

-- what is let in is given
pub admitted_given : (given : Bool) (m : Areas) → 0 ≡ admitted given m → given ≡ true
admitted_given given m z = go (areas_fit m) given z
  where
    go : (fit given : Bool) → ◌≡◌ {A = ℕ} 0 (cond fit (cond given 0 2) 1) → given ≡ true
    go fit true z = refl
    go true false z = absurd (omega arith)
    go false false z = absurd (omega arith)

-- a call that is let in gives the call's outcome
pub taken : (given : Bool) (c : Call) (x : Controller) (f : FlatController) (m : Areas) (o : Outcome) → 0 ≡ admitted given m
    → x ≡ controller_of f → o ≡ outcome c (world x m) → flat_outcome o ≡ through given c f m
unfolding through
taken given c x f m o z ex eo = go (areas_fit m) given z
  where
    go : (fit given : Bool) → ◌≡◌ {A = ℕ} 0 (cond fit (cond given 0 2) 1) → flat_outcome o ≡ cond given (flat_outcome (outcome c (world (controller_of f) m))) (away f m)
    go true true z = rw (eo, ex)
    go true false z = absurd (omega arith)
    go false given z = absurd (omega arith)

-- one that is not has no number but that of a call that is turned away
away_by : (given : Bool) (m : Areas) (e : Refusal) → number e ≡ admitted given m → ((areas_fit m && given) ≡ false) × (number e ≡ away_number m)
away_by given m e r = go (areas_fit m) given r
  where
    go : (fit given : Bool) → number e ≡ cond fit (cond given 0 2) 1 → ((fit && given) ≡ false) × (number e ≡ cond fit 2 1)
    go true true z = absurd (no_refusal e z)
    go true false z = (refl, z)
    go false given z = (refl, z)

-- one that is turned away leaves all as it was
pub turned : (fit given : Bool) (c : Call) (ts : List Test) (f : FlatController) (m : Areas) → (fit && given) ≡ false → fit ≡ areas_fit m
    → (given ≡ true → ours f ≡ true) → tests c (world (controller_of f) m) ≡ (area_test m ∷ ts) → away f m ≡ through given c f m
unfolding through outcome
turned true true c ts f m eb ef own e = absurd (true≢false eb)
turned true false c ts f m eb ef own e = refl
turned false true c ts f m eb ef own e = rw (unfit c ts (world (controller_of f) m) e (sym ef), sym ef, same_numbers f (own refl))
turned false false c ts f m eb ef own e = refl

-- by its refusal
pub turned_by : (given : Bool) (c : Call) (ts : List Test) (f : FlatController) (m : Areas) (e : Refusal) → number e ≡ admitted given m
    → (given ≡ true → ours f ≡ true) → tests c (world (controller_of f) m) ≡ (area_test m ∷ ts)
    → leaves m (answers (number e) f (flat_hearing silent)) ≡ through given c f m
turned_by given c ts f m e r own t =
    let x = away_by given m e r in
    rw x.1 (turned (areas_fit m) given c ts f m x.0 refl own t)

-- an opening that is let in is the host's call
pub opened : (given : Bool) (c : Call) (m : Areas) → 0 ≡ admitted given m → host_call c m ≡ open_through given c m
unfolding open_through
opened given c m z = go (areas_fit m) given z
  where
    go : (fit given : Bool) → ◌≡◌ {A = ℕ} 0 (cond fit (cond given 0 2) 1) → host_call c m ≡ cond given (host_call c m) (out m (away_number m))
    go true true z = refl
    go true false z = absurd (omega arith)
    go false given z = absurd (omega arith)

-- one that is turned away leaves the areas
pub not_opened : (fit given : Bool) (c : Call) (ts : List Test) (m : Areas) → (fit && given) ≡ false → fit ≡ areas_fit m
    → tests c (fresh_over m) ≡ (area_test m ∷ ts) → out m (away_number m) ≡ open_through given c m
unfolding open_through
not_opened true true c ts m eb ef e = absurd (true≢false eb)
not_opened true false c ts m eb ef e = refl
not_opened false true c ts m eb ef e = rw (sym ef) (host_unfit c ts m e (sym ef))
not_opened false false c ts m eb ef e = refl

-- by its refusal
pub not_opened_by : (given : Bool) (c : Call) (ts : List Test) (m : Areas) (e : Refusal) → number e ≡ admitted given m
    → tests c (fresh_over m) ≡ (area_test m ∷ ts) → out m (number e) ≡ open_through given c m
not_opened_by given c ts m e r t =
    let x = away_by given m e r in
    rw x.1 (not_opened (areas_fit m) given c ts m x.0 refl t)
