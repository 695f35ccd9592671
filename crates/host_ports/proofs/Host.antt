-- The host's calls as the crate `model` defines them: the numbers written out in specs/Host.antt are those of `port_refusal`, an accepted
-- call does its step, and a refused one leaves the areas. The tests of `model` that a call does not have compute away. Assumes nothing.
use Prim.Native.Nat.{ℕ}
use mathlib.Core.Path.{◌≡◌, refl, sym, ◌∙◌, ap}
use mathlib.Core.Bool.{Bool, true, false, cond, not, ◌&&◌}
use mathlib.Core.List.{List, []}
use lib.Dec.{eqb, ltb}
use Rattle.constants.specs.declared.refusals.Refusal.{Refusal}
use Rattle.constants.specs.Refusal.{number}
use Rattle.constants.proofs.Numbers.{refused_number}
use Rattle.model.specs.Answer.{Answer}
use Rattle.model.specs.Answer.{Never, Good, Held, Stale, Refused}
use Rattle.model.specs.Layout.{Areas, areas, tables_fit, pages_fit, areas_fit, entry, port_at}
use Rattle.model.specs.Ports.{valid_words, well_formed}
use Rattle.model.specs.Calls.{Call, open_port, close_port, write_port, read_port, out_of_range, refusal, step, outcome_of, outcome, fresh_over}
use Rattle.model.specs.Calls.{port_refusal, asked, part_for, fetched}
use Rattle.model.proofs.Refused.{accepted}
use Rattle.model.proofs.Accepted.{InRange, open_range}
use Rattle.model.proofs.Asking.{asks_alone, pages_alone}
use Rattle.areas.specs.Lent.{shown}
use Rattle.host_ports.specs.Host.{out, port_areas, host_call, hands_back, open_refusal, reached, write_refusal}

-- opening is refused as `open_refusal` writes it out
pub open_number : (m : Areas) (a p code : ℕ) (sink : Bool) (i limit : ℕ)
    → port_refusal (open_port a p code sink i limit) m ≡ open_refusal m a p code i
unfolding port_refusal refusal open_refusal
open_number m a p code sink i limit = refl

-- an opening that is accepted has its arguments in range
pub open_accepted : (m : Areas) (a p code i : ℕ) → 0 ≡ open_refusal m a p code i → InRange a p code i
unfolding port_refusal
open_accepted m a p code i e =
    let none = open_number m a p code true i 0 ∙ sym e in
    open_range a p code i (accepted (open_port a p code true i 0) (fresh_over m) none out_of_range)

-- the test of the port words is asked only where there is an entry
excused : (none ill : Bool) (n : ℕ) → cond none 3 (cond (not none && ill) 6 n) ≡ cond none 3 (cond ill 6 n)
excused true ill n = refl
excused false ill n = refl

-- asking is refused as `reached` writes it out, by the lengths of its two areas, and tests nothing more of its port
pub read_number : (m : Areas) (a : ℕ) → port_refusal (read_port a) m ≡ reached (tables_fit m) m a 0
unfolding port_refusal refusal reached
read_number m a = rw excused

-- closing is refused so too, by the lengths of all four
pub close_number : (m : Areas) (a : ℕ) → port_refusal (close_port a) m ≡ reached (areas_fit m) m a 0
unfolding port_refusal refusal reached
close_number m a = rw excused

-- writing is refused as `write_refusal` writes it out
pub write_number : (m : Areas) (a : ℕ) (ws : List ℕ) → port_refusal (write_port a ws) m ≡ write_refusal m a ws
unfolding port_refusal refusal write_refusal reached
write_number m a ws = rw excused

-- a test that comes after what needs a port: what is refused before stays refused, and else the later test decides
pub reached_then : (fit : Bool) (m : Areas) (a later : ℕ) → cond (eqb (reached fit m a 0) 0) later (reached fit m a 0) ≡ reached fit m a later
unfolding reached
reached_then fit m a later =
    go (not fit) (ltb 4095 a) (ltb 255 (entry m a)) (eqb (entry m a) 0) (not (well_formed a (port_at m (entry m a))))
  where
    go : (area range above none ill : Bool)
        → let by = λ (n : ℕ). cond area 1 (cond range 2 (cond above 6 (cond none 3 (cond ill 6 n)))) in
        cond (eqb (by 0) 0) later (by 0) ≡ by later
    go true range above none ill = refl
    go false true above none ill = refl
    go false false true none ill = refl
    go false false false true ill = refl
    go false false false false true = refl
    go false false false false false = refl

-- of what needs a port the refusal stays
pub refused_before : (fit : Bool) (m : Areas) (a later : ℕ) (e : Refusal) → number e ≡ reached fit m a 0 → number e ≡ reached fit m a later
refused_before fit m a later e r = rw (← r, refused_number e) at (reached_then fit m a later)

-- and where it is not refused the later test decides
pub reached_after : (fit : Bool) (m : Areas) (a later : ℕ) → 0 ≡ reached fit m a 0 → later ≡ reached fit m a later
reached_after fit m a later r = rw (← r) at (reached_then fit m a later)

-- what a call leaves, by the number k that it is to answer
module _ (c : Call) (m : Areas) {k : ℕ} (same : port_refusal c m ≡ k) where
  by_number : (n : ℕ) → n ≡ k → out (outcome_of n c (fresh_over m)).world.areas n ≡ host_call c m
  unfolding host_call port_areas port_refusal outcome
  by_number n e = ap (λ (x : ℕ). out (outcome_of x c (fresh_over m)).world.areas x) (e ∙ sym same)

  -- accepted it does its step
  pub done : 0 ≡ k → out (step c (fresh_over m)).areas 0 ≡ host_call c m
  done = by_number 0

  -- refused it leaves the areas
  pub refused : (e : Refusal) → number e ≡ k → out m (number e) ≡ host_call c m
  refused e r = rw (refused_number e) at (by_number (number e) r)

-- the part for an answer is the words exactly where the answer shows them
parts : (x : Answer) (ws : List ℕ) → cond (shown x) ws [] ≡ part_for x ws
parts Never ws = refl
parts Good ws = refl
parts Held ws = refl
parts Stale ws = refl
parts (Refused n) ws = refl

-- the code's tests give whether words are handed back
pub hands_back_lem : (i p z o : List ℕ) (a : ℕ) {x : Answer} {fit show : Bool} → fit ≡ pages_fit (areas [] [] z o)
    → x ≡ asked (areas i p [] []) a → show ≡ shown x → (fit && show) ≡ hands_back (areas i p z o) a
hands_back_lem i p z o a f e s = rw (s, e, f, pages_alone i p z o, asks_alone i p z o a)

-- and by it the valid words, or none, are what is fetched
pub fetch_shown : (m : Areas) (a : ℕ) {b : Bool} → b ≡ hands_back m a → cond b (valid_words m (entry m a)) [] ≡ fetched m a
unfolding fetched
fetch_shown m a e = rw e (go (pages_fit m))
  where
    go : (fit : Bool)
        → cond (fit && shown (asked m a)) (valid_words m (entry m a)) [] ≡ cond fit (part_for (asked m a) (valid_words m (entry m a))) []
    go true = parts (asked m a) (valid_words m (entry m a))
    go false = refl
