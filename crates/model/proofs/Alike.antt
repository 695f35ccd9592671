-- In a shape no damaged entry or port words are met, and two alike worlds answer every call with the same number. Assumes nothing.
use Prim.Native.Nat.{ℕ, ◌≤◌, ◌<◌}
use mathlib.Core.Path.{◌≡◌, refl, sym, ◌∙◌, ap}
use mathlib.Core.Logic.{◌⊎◌, inl, inr}
use mathlib.Core.Bool.{Bool, true, false, cond, not, ◌&&◌, ◌||◌, true≢false}
use mathlib.Core.List.{List, [], ◌∷◌}
use Rattle.std.specs.Prelude.{Option, None, Some}
use native.Mathlib.Omega.{arith}
use lib.Dec.{eqb, ltb}
use borrow.Author.Tests.{eqb-true, eqb-false, eq-eqb, ne_eqb, le-ltb}
use Rattle.frames.specs.Hearing.{in_range}
use Rattle.model.specs.Layout.{Areas, tables_fit, areas_fit, entry, port_at, flags_of}
use Rattle.model.specs.Ports.{address_of, well_formed, Standing, standing_of, standing}
use Rattle.model.specs.Event.{World, heard_by}
use Rattle.model.specs.Quiet.{due_within}
use Rattle.model.specs.Calls.{Call, hear, quiet, open_port, close_port, write_port, read_port, setting}
use Rattle.model.specs.Calls.{refusal_number, Test, entry_above, ill_formed, side_test, size_test}
use Rattle.model.specs.Calls.{open_out, needed_for, word_of_heard, at_port, on_bus, tests, first_of, refusal, Silent}
use Rattle.model.proofs.Shape.{Shape, Leads}
use Rattle.model.proofs.Formed.{tables_fit_lem, formed_used}
use Rattle.model.proofs.Accepted.{open_range, open_at}
use Rattle.model.proofs.Same.{Alike, same_entry}

-- ---- no damaged entry or port words are met in a shape

no_above : (m : Areas) → Shape m → (o : Option ℕ) → entry_above m o ≡ false
no_above m s None = refl
no_above m s (Some a) = go (s.entries a)
  where
    go : (entry m a ≡ 0) ⊎ Leads m a → ltb 255 (entry m a) ≡ false
    go (inl e) = rw e
    go (inr l) = le-ltb _ _ l.small

no_ill : (m : Areas) → Shape m → (o : Option ℕ) → ill_formed m o ≡ false
no_ill m s None = refl
no_ill m s (Some a) = go (s.entries a)
  where
    go : (entry m a ≡ 0) ⊎ Leads m a → (not (eqb (entry m a) 0) && not (well_formed a (port_at m (entry m a)))) ≡ false
    go (inl e) = rw e
    go (inr l) = rw l.formed (and_none (not (eqb (entry m a) 0)))
      where
        and_none : (b : Bool) → (b && false) ≡ false
        and_none true = refl
        and_none false = refl

-- so a bus event, and a call that needs a port and finds one, are accepted there, if their other tests do not hold
module _ (m : Areas) (shape : Shape m) where
  fits_in : not (areas_fit m) ≡ false
  fits_in = rw shape.fits

  -- the two areas that asking is lent have their lengths
  pub tables_in : not (tables_fit m) ≡ false
  tables_in = rw (tables_fit_lem m shape.fits)

  -- of a bus event or quiet time whose arguments are in range no test holds
  pub bus_in : (out : Bool) (w : Option ℕ) → out ≡ false → Silent (on_bus m out w)
  bus_in out w e = (fits_in, (e, (no_above m shape (needed_for w), (no_ill m shape (needed_for w), tt))))

  -- nor of a call in range whose address has an entry, if none of the tests that it adds for the port holds
  pub port_in_lem : (a : ℕ) (more : List Test) → ltb 4095 a ≡ false → eqb (entry m a) 0 ≡ false → Silent more → Silent (at_port m a more)
  port_in_lem a more e there s = (e, (no_above m shape (Some a), (there, (no_ill m shape (Some a), s))))

  -- a bus event or quiet time answers 2 with arguments out of range, else 0
  bus_first : (out : Bool) (w : Option ℕ) → first_of (on_bus m out w) ≡ cond out 2 0
  bus_first out w = rw (shape.fits, no_above m shape (needed_for w), no_ill m shape (needed_for w))

  -- a call on a port answers 2 out of range, else 3 without an entry, else what the tests that it adds say
  pub port_first : (a : ℕ) (more : List Test)
      → first_of (at_port m a more) ≡ cond (ltb 4095 a) 2 (cond (eqb (entry m a) 0) 3 (first_of more))
  port_first a more = rw (no_above m shape (Some a), no_ill m shape (Some a))

-- no test with the number 6 holds
abbrev Whole : List Test → Type 0
Whole [] = Unit
Whole (t ∷ ts) = (cond (eqb (refusal_number t.name) 6) t.given false ≡ false) × Whole ts

no_six : (ts : List Test) → Whole ts → first_of ts ≡ 6 → ⊥
no_six [] w e = omega arith
no_six (t ∷ ts) w e = go t.given refl (no_six ts w.1) e
  where
    go : (b : Bool) → t.given ≡ b → (first_of ts ≡ 6 → ⊥) → cond b (refusal_number t.name) (first_of ts) ≡ 6 → ⊥
    go true eb n ec = true≢false (sym eb ∙ (rw (eq-eqb (refusal_number t.name) 6 ec) at w.0))
    go false eb n ec = n ec

-- so no call is refused with 6 there
module _ (s : World) (shape : Shape s.areas) where
  bus_whole : (out : Bool) (w : Option ℕ) → Whole (on_bus s.areas out w)
  bus_whole out w = (refl, (refl, (no_above _ shape (needed_for w), (no_ill _ shape (needed_for w), tt))))

  port_whole : (a : ℕ) (more : List Test) → Whole more → Whole (at_port s.areas a more)
  port_whole a more w = (refl, (no_above _ shape (Some a), (refl, (no_ill _ shape (Some a), w))))

  whole : (c : Call) → Whole (tests c s)
  whole (hear a b) = bus_whole (not (in_range a) || not (in_range b)) (word_of_heard (heard_by s.controller a b))
  whole (quiet n) = bus_whole (ltb 65535 n) (due_within n s)
  whole (open_port a p code sink i limit) = (refl, (refl, (no_above _ shape (Some a), (refl, tt))))
  whole (close_port a) = (refl, port_whole a [] tt)
  whole (write_port a ws) = (refl, port_whole a (side_test s.areas a ∷ size_test s.areas a ws ∷ []) (refl, (refl, tt)))
  whole (read_port a) = (refl, port_whole a [] tt)
  whole (setting t) = (refl, tt)

  -- No call is refused with 6 where the areas have their shape.
  pub undamaged : (c : Call) → refusal c s ≡ 6 → ⊥
  unfolding refusal
  undamaged c e = no_six (tests c s) (whole c) e

-- ---- two alike worlds answer every call with the same number

-- in a shape, the port to which an entry leads stands open at the entry's address
pub at_entry : (m : Areas) (a : ℕ) → Shape m → (entry m a ≡ 0 → ⊥) → standing m a ≡ Some (standing_of m (entry m a))
at_entry m a s n = go (s.entries a)
  where
    go : (entry m a ≡ 0) ⊎ Leads m a → standing m a ≡ Some (standing_of m (entry m a))
    go (inl e) = absurd (n e)
    go (inr l) = open_at m a n l.small l.formed

module _ (m n : Areas) (k : Alike m n) where
  same_seen : (a : ℕ) → (entry m a ≡ 0 → ⊥) → standing_of m (entry m a) ≡ standing_of n (entry n a)
  same_seen a z =
      let p = at_entry m a k.shape z in
      let q = at_entry n a k.shape' (λ e. z (same_entry m n k a ∙ e)) in
      let r : Some (standing_of m (entry m a)) ≡ Some (standing_of n (entry n a)) = sym p ∙ k.stands a ∙ q in
      cc

  -- a port that is free in one is free in the other
  same_free : (p : ℕ) → 0 < p → p ≤ 255 → (port_at m p).flags ≡ 0 → (port_at n p).flags ≡ 0
  same_free p l h z = go (k.shape'.ports p l h)
    where
      go : ((port_at n p).flags ≡ 0) ⊎ (entry n (address_of (port_at n p).master) ≡ p) → (port_at n p).flags ≡ 0
      go (inl e) = e
      go (inr e) = absurd (busy (address_of (port_at n p).master) (same_entry m n k _ ∙ e))
        where
          busy : (a : ℕ) → entry m a ≡ p → ⊥
          busy a used = by (k.shape.entries a)
            where
              by : (entry m a ≡ 0) ⊎ Leads m a → ⊥
              by (inl f) = omega arith
              by (inr f) = formed_used a (port_at m p) (rw used at f.formed) z

module _ (s u : World) (k : Alike s.areas u.areas) where
  abbrev M : Areas
  M = s.areas

  abbrev N : Areas
  N = u.areas

  entry_same : (a : ℕ) → eqb (entry M a) 0 ≡ eqb (entry N a) 0
  entry_same a = ap (λ (n : ℕ). eqb n 0) (same_entry M N k a)

  shape : Shape N
  shape = k.shape'

  -- the source and the size that a write finds
  module _ (a : ℕ) (there : eqb (entry M a) 0 ≡ false) where
    seen_same : standing_of M (entry M a) ≡ standing_of N (entry N a)
    seen_same = same_seen M N k a (eqb-false _ 0 there)

    side_same : (flags_of (port_at M (entry M a)).flags).sink ≡ (flags_of (port_at N (entry N a)).flags).sink
    unfolding standing_of
    side_same = ap (λ (v : Standing). v.sink) seen_same

    word_same : (port_at M (entry M a)).master ≡ (port_at N (entry N a)).master
    unfolding standing_of
    word_same = ap (λ (v : Standing). v.word) seen_same

  back : Alike N M
  back = record { shape = k.shape'; shape' = k.shape; stands = λ a. sym (k.stands a) }

  flags_same : (p : ℕ) → 0 < p → p ≤ 255 → eqb (port_at M p).flags 0 ≡ eqb (port_at N p).flags 0
  flags_same p l h = go (eqb (port_at M p).flags 0) refl
    where
      go : (b : Bool) → eqb (port_at M p).flags 0 ≡ b → b ≡ eqb (port_at N p).flags 0
      go true e = sym (eq-eqb _ 0 (same_free M N k p l h (eqb-true _ _ e)))
      go false e = sym (ne_eqb _ 0 (λ z. eqb-false _ 0 e (same_free N M back p l h z)))

  bus_same : (out : Bool) (v w : Option ℕ) → first_of (on_bus M out v) ≡ first_of (on_bus N out w)
  bus_same out v w = bus_first M k.shape out v ∙ sym (bus_first N shape out w)

  port_same : (a : ℕ) (more less : List Test) → (eqb (entry M a) 0 ≡ false → first_of more ≡ first_of less)
      → first_of (at_port M a more) ≡ first_of (at_port N a less)
  port_same a more less same =
      rw (port_first M k.shape a more, port_first N shape a less, ← (entry_same a)) (go (ltb 4095 a) (eqb (entry M a) 0) refl)
    where
      go : (r b : Bool) → eqb (entry M a) 0 ≡ b → cond r 2 (cond b 3 (first_of more)) ≡ cond r 2 (cond b 3 (first_of less))
      go true b e = refl
      go false true e = refl
      go false false e = same e

  -- Two worlds whose addresses show the same answer every call with the same number.
  pub refuses_same : (c : Call) → refusal c s ≡ refusal c u
  unfolding refusal
  refuses_same (hear a b) =
      bus_same (not (in_range a) || not (in_range b)) (word_of_heard (heard_by s.controller a b)) (word_of_heard (heard_by u.controller a b))
  refuses_same (quiet n) = bus_same (ltb 65535 n) (due_within n s) (due_within n u)
  refuses_same (open_port a p code sink i limit) =
      rw (k.shape.fits, shape.fits, no_above M k.shape (Some a), no_above N shape (Some a), entry_same a) (go (open_out a p code i) refl)
    where
      go : (r : Bool) → open_out a p code i ≡ r
          → ◌≡◌ {A = ℕ} (cond r 2 (cond (not (eqb (entry N a) 0) || not (eqb (port_at M p).flags 0)) 4 0))
          (cond r 2 (cond (not (eqb (entry N a) 0) || not (eqb (port_at N p).flags 0)) 4 0))
      go true e = refl
      go false e = let o = open_range a p code i e in rw (flags_same p o.some_port o.port)
  refuses_same (close_port a) = rw (k.shape.fits, shape.fits) (port_same a [] [] (λ there. refl))
  refuses_same (write_port a ws) =
      rw (k.shape.fits, shape.fits)
      (port_same a (side_test M a ∷ size_test M a ws ∷ []) (side_test N a ∷ size_test N a ws ∷ []) (λ there. rw (side_same a there, word_same a there)))
  refuses_same (read_port a) = rw (tables_in M k.shape, tables_in N shape) (port_same a [] [] (λ there. refl))
  refuses_same (setting t) = refl

  -- so what one of them accepts the other accepts
  pub accepts_same : (c : Call) → refusal c s ≡ 0 → refusal c u ≡ 0
  accepts_same c e = sym (refuses_same c) ∙ e
