-- Reading a port that stands open: asking answers never exactly where it shows no words, and fetching hands back what it shows.
-- Assumes nothing.
use Prim.Native.Nat.{ℕ, ◌<◌}
use mathlib.Core.Path.{◌≡◌, refl, sym, ◌∙◌, ap}
use mathlib.Core.Logic.{◌↔◌}
use mathlib.Core.Bool.{Bool, true, false, cond, true≢false, false≢true}
use mathlib.Core.List.{List, [], ◌∷◌}
use Rattle.std.specs.Prelude.{None, Some}
use native.Mathlib.Omega.{arith}
use lib.Dec.{eqb, ltb}
use borrow.Author.Tests.{le-ltb, eq-eqb, ne_eqb, eqb-true}
use Rattle.model.specs.Answer.{Never, Stale, Refused}
use Rattle.model.specs.declared.Words.{Words}
use Rattle.model.specs.Layout.{Areas, entry, port_at, flags_of}
use Rattle.model.specs.Ports.{Standing, standing_of, standing, valid_words, is_held, too_old, state_by, state_of}
use Rattle.model.specs.Calls.{read_port, table_test, at_port, first_of, refusal, fresh_over, port_refusal, asked, refusal_of, part_for, fetched}
use Rattle.model.specs.Past.{last_of, shown_words}
use Rattle.model.proofs.Shape.{Shape}
use Rattle.model.proofs.Standings.{standing_at_lem, none_entry}
use Rattle.model.proofs.Refused.{accepts}
use Rattle.model.proofs.Formed.{pages_fit_lem}
use Rattle.model.proofs.Alike.{tables_in, port_in_lem, port_first}

-- no words, whatever is tested
pub no_words_lem : (b : Bool) → ◌≡◌ {A = List ℕ} (cond b [] []) []
no_words_lem true = refl
no_words_lem false = refl

-- the last of no words is none, and of none but these
pub last_none : (l : List (List ℕ)) → (last_of l ≡ None) ↔ (l ≡ [])
last_none [] = (λ e. refl, λ e. refl)
last_none (ws ∷ l) =
    (λ e. let z : ◌≡◌ {A = ℕ} 0 1 = cc in absurd (omega arith), λ e. let z : ◌≡◌ {A = ℕ} 0 1 = cc in absurd (omega arith))

-- asking refuses where no port stands, with 3
pub asks_closed : (m : Areas) → Shape m → (a : ℕ) → a < 4096 → standing m a ≡ None → asked m a ≡ Refused 3
unfolding asked port_refusal refusal
asks_closed m shape a low e =
    let range : ltb 4095 a ≡ false = le-ltb 4095 a (omega arith) in
    let there : eqb (entry m a) 0 ≡ true = eq-eqb (entry m a) 0 (none_entry m a shape e) in
    let number : first_of (table_test m ∷ at_port m a []) ≡ 3 = rw (tables_in m shape) (port_first m shape a [] ∙ rw (range, there)) in
    rw number

-- what holds whatever the three tests of a state say holds of each port's words
by_tests : (P : Bool → Bool → Bool → Type 0) → ((e h s : Bool) → P e h s) → (w : Words)
    → P (flags_of w.flags).ever (is_held (flags_of w.flags).faults) (too_old w.limit w.age)
by_tests P all w = all (flags_of w.flags).ever (is_held (flags_of w.flags).faults) (too_old w.limit w.age)

state_number : (w : Words) → refusal_of (state_of w) ≡ 0
unfolding state_of
state_number = by_tests (λ e h s. refusal_of (state_by e h s) ≡ 0) go
  where
    go : (e h s : Bool) → refusal_of (state_by e h s) ≡ 0
    go true true true = refl
    go true true false = refl
    go true false true = refl
    go true false false = refl
    go false h s = refl

answer_number_lem : (k : ℕ) (w : Words) → refusal_of (cond (eqb k 0) (state_of w) (Refused k)) ≡ k
answer_number_lem k w = go (eqb k 0) refl
  where
    go : (b : Bool) → eqb k 0 ≡ b → refusal_of (cond b (state_of w) (Refused k)) ≡ k
    go true z = state_number w ∙ sym (eqb-true k 0 z)
    go false z = refl

-- asking answers the number of the call's refusal, 0 for none
pub asked_number : (m : Areas) (a : ℕ) → refusal_of (asked m a) ≡ port_refusal (read_port a) m
unfolding asked
asked_number m a = answer_number_lem (port_refusal (read_port a) m) _

-- never exactly if not ever filled
never_empty : (w : Words) (ws : List ℕ) → (state_of w ≡ Never) ↔ (cond (flags_of w.flags).ever (Some ws) None ≡ None)
unfolding state_of
never_empty w ws = by_tests (λ e h s. (state_by e h s ≡ Never) ↔ (cond e (Some ws) None ≡ None)) go w
  where
    filled : (h s : Bool) → state_by true h s ≡ Never → ⊥
    filled true true p = let z : ◌≡◌ {A = ℕ} 0 1 = cc in omega arith
    filled true false p = let z : ◌≡◌ {A = ℕ} 0 1 = cc in omega arith
    filled false true p = let z : ◌≡◌ {A = ℕ} 0 1 = cc in omega arith
    filled false false p = let z : ◌≡◌ {A = ℕ} 0 1 = cc in omega arith

    go : (e h s : Bool) → (state_by e h s ≡ Never) ↔ (cond e (Some ws) None ≡ None)
    go true h s = (λ p. absurd (filled h s p), λ p. let z : ◌≡◌ {A = ℕ} 0 1 = cc in absurd (omega arith))
    go false h s = (λ p. refl, λ p. refl)

part_shown : (w : Words) (ws : List ℕ) → part_for (state_of w) ws ≡ shown_words (cond (flags_of w.flags).ever (Some ws) None)
unfolding state_of
part_shown w ws = by_tests (λ e h s. part_for (state_by e h s) ws ≡ shown_words (cond e (Some ws) None)) go w
  where
    go : (e h s : Bool) → part_for (state_by e h s) ws ≡ shown_words (cond e (Some ws) None)
    go true true true = refl
    go true true false = refl
    go true false true = refl
    go true false false = refl
    go false h s = refl

-- stale exactly if ever filled, not held, and stale by limit and age
pub stale_exactly : (e h s : Bool) → (state_by e h s ≡ Stale) ↔ ((e ≡ true) × (h ≡ false) × (s ≡ true))
stale_exactly true true true = (λ p. let z : ◌≡◌ {A = ℕ} 0 1 = cc in absurd (omega arith), λ p. absurd (true≢false p.1))
stale_exactly true true false = (λ p. let z : ◌≡◌ {A = ℕ} 0 1 = cc in absurd (omega arith), λ p. absurd (true≢false p.1))
stale_exactly true false true = (λ p. (refl, refl, refl), λ p. refl)
stale_exactly true false false = (λ p. let z : ◌≡◌ {A = ℕ} 0 1 = cc in absurd (omega arith), λ p. absurd (false≢true p.2))
stale_exactly false h s = (λ p. let z : ◌≡◌ {A = ℕ} 0 1 = cc in absurd (omega arith), λ p. absurd (false≢true p.0))

module _ (m : Areas) (shape : Shape m) (a : ℕ) (v : Standing) (seen : standing m a ≡ Some v) where
  -- reading it is not refused
  pub readable : port_refusal (read_port a) m ≡ 0
  unfolding port_refusal
  readable =
      let at = standing_at_lem m a v seen in
      let range : ltb 4095 a ≡ false = le-ltb 4095 a (omega (arith, at.address)) in
      let there : eqb (entry m a) 0 ≡ false = ne_eqb (entry m a) 0 (λ z. omega (arith, at.positive, at.port)) in
      accepts (read_port a) (fresh_over m) (tables_in m shape, port_in_lem m shape a [] range there tt)

  -- the port is seen whole
  pub whole : v.shows ≡ cond (flags_of (port_at m (entry m a)).flags).ever (Some (valid_words m (entry m a))) None
  unfolding standing_of
  whole =
      let at = standing_at_lem m a v seen in
      ap (λ (x : Standing). x.shows) (at.whole ∙ ap (standing_of m) at.port)

  -- asking answers never exactly where the port shows no words
  pub asks_never : (asked m a ≡ Never) ↔ (v.shows ≡ None)
  unfolding asked
  asks_never = rw (readable, whole) (never_empty (port_at m (entry m a)) (valid_words m (entry m a)))

  -- fetching hands back the words that the port shows, and nothing where it shows none
  pub fetches : fetched m a ≡ shown_words v.shows
  unfolding asked fetched
  fetches = rw (pages_fit_lem m shape.fits, readable, whole) (part_shown (port_at m (entry m a)) (valid_words m (entry m a)))
