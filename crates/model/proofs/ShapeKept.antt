-- From cleared areas on, every effect keeps the shape of the areas, and does to what stands at an address what `standing_after` says. Each effect
-- is a change at one address and its own port; what that port shows is then read off its words. Assumes nothing.
use Prim.Native.Nat.{ℕ, zero, suc, ◌+◌, ◌*◌, ◌≤◌, ◌<◌}
use mathlib.Core.Path.{◌≡◌, refl, sym, ◌∙◌, ap}
use mathlib.Core.Logic.{◌≢◌, inl, inr, dite}
use mathlib.Core.Bool.{Bool, true, false, cond, not}
use mathlib.Core.List.{List}
use Rattle.std.specs.Prelude.{Option, None, Some}
use native.Mathlib.Decide.{ℕ_discrete}
use native.Mathlib.Omega.{arith}
use borrow.Author.Tests.{eq-eqb, ne_eqb}
use lib.Dec.{eqb}
use lib.ListN.{length, get_or, replicate}
use Rattle.model.specs.declared.Faults.{Faults}
use Rattle.model.specs.Layout.{Areas, stride, tables_fit, pages_fit, areas_fit, entry, place, words_at, port_at, flags_of, part_of, with_part}
use Rattle.model.specs.Ports.{code_of, size_of, well_formed, Standing, standing_of, standing, turned, filled_words, faulty, marked_words}
use Rattle.model.specs.Ports.{open_words, no_words, Effect, fill, mark, opened, closed, filled, apply}
use Rattle.model.specs.Calls.{cleared_areas}
use Rattle.model.proofs.Shape.{Shape, At, Valid, nothing, filling, marking, opening, closing, refill, just_opened, refill_if}
use Rattle.model.proofs.Shape.{standing_after}
use Rattle.model.proofs.Bits.{flags_of_word}
use Rattle.model.proofs.Pages.{part_same}
use Rattle.model.proofs.Formed.{lengths, formed, one_address, filled_formed, marked_formed, open_flags, open_formed, formed_used}
use Rattle.model.proofs.Formed.{size_small}
use Rattle.model.proofs.Standings.{standing_none, standing_at_lem}
use Rattle.model.proofs.Change.{entry_kept, entry_set, part_kept, part_set, part_either, Own, Changed, changed, shape_change}
use Rattle.model.proofs.Change.{standing_other, standing_change, standing_here}

-- ---- cleared areas

zero_at : (n i : ℕ) → ◌≡◌ {A = ℕ} (get_or (replicate n 0) i 0) 0
zero_at zero i = refl
zero_at (suc n) zero = refl
zero_at (suc n) (suc i) = zero_at n i

cleared_entry : (a : ℕ) → entry cleared_areas a ≡ 0
unfolding cleared_areas
cleared_entry a = zero_at 4096 a

-- cleared areas have the shape
pub shape_cleared : Shape cleared_areas
unfolding cleared_areas areas_fit tables_fit pages_fit words_at
shape_cleared =
    record {
      fits = refl;
      entries = λ a. inl (cleared_entry a);
      ports = λ p h few. inl (zero_at (stride * 256) (place p + 1));
    }

-- and nothing stands at any of their addresses
pub standing_cleared : (a : ℕ) → standing cleared_areas a ≡ None
standing_cleared a = standing_none cleared_areas a (cleared_entry a)

-- ---- a port that stands open

-- what is known where port p stands open at address a, with the master word w
pub record Here (m : Areas) (a p w : ℕ) : Type 0 where
  pub entry : entry m a ≡ p
  pub positive : 0 < p
  pub small : p ≤ 255
  pub formed : well_formed a (port_at m p) ≡ true
  pub master : (port_at m p).master ≡ w
  pub standing : standing m a ≡ Some (standing_of m p)

-- all this is known where a port stands open
pub at_here : {m : Areas} {a p w : ℕ} → At m a p w → Here m a p w
unfolding standing_of
at_here {m} {a} {p} {w} h =
    let s = standing_at_lem m a h.seen h.there in
    let whole : h.seen ≡ standing_of m p = s.whole ∙ ap (standing_of m) h.port in
    record {
      entry = sym s.port ∙ h.port;
      positive = rw h.port at s.positive;
      small = rw h.port at s.small;
      formed = rw h.port at s.formed;
      master = ap (λ (v : Standing). v.word) (sym whole) ∙ h.word;
      standing = h.there ∙ ap Some whole;
    }

-- ---- the port that an effect concerns is its address's own: it stands open there, or it and the address are free

own_here : {m : Areas} {a p w : ℕ} → Here m a p w → Own m a p
own_here {m} {a} {p} h =
    record { small = h.small; alone = λ b f. one_address b a (port_at m p) f h.formed; only = λ _. h.entry }

own_free : {m : Areas} (a p : ℕ) → p ≤ 255 → entry m a ≡ 0 → (port_at m p).flags ≡ 0 → Own m a p
own_free {m} a p h free unused =
    record { small = h; alone = λ b f. absurd (formed_used b (port_at m p) f unused); only = λ pos. omega arith }

-- ---- each effect is a change at one address and its own port, and what address b then shows

module _ {m : Areas} (s : Shape m) (a p code : ℕ) (sink : Bool) (i limit : ℕ) (ha : a < 4096) (pos : 0 < p) (hp : p ≤ 255) (hc : code ≤ 4)
    (hi : i ≤ 7) (free : entry m a ≡ 0) (unused : (port_at m p).flags ≡ 0) where
  open_change : Changed m (apply (opened a p code sink i limit) m) a p p (open_words a code sink i limit)
  unfolding apply
  open_change =
      changed s (own_free a p hp free unused) (entry_set m.index a p (omega (arith, (lengths m s.fits).index)))
      (part_kept p m.page0) (part_kept p m.page1) (inr (refl, open_formed a code sink i limit ha hc hi))

  standing_open : (b : ℕ) → standing (apply (opened a p code sink i limit) m) b ≡ cond (eqb a b) (Some (just_opened a p code sink i limit)) (standing m b)
  unfolding standing_of open_words
  standing_open b =
      let fresh : standing_of (apply (opened a p code sink i limit) m) p ≡ just_opened a p code sink i limit =
      rw (open_change.words_here, flags_of_word (open_flags sink)) in
      standing_change open_change s (standing_here open_change pos refl (open_formed a code sink i limit ha hc hi) ∙ ap Some fresh) b

module _ {m : Areas} {a p w : ℕ} (s : Shape m) (h : Here m a p w) where
  close_change : Changed m (apply (closed a p) m) a p 0 no_words
  unfolding apply
  close_change =
      let low : a < length m.index = omega (arith, (lengths m s.fits).index, (formed a (port_at m p) h.formed).address) in
      changed s (own_here h) (entry_set m.index a 0 low) (part_kept p m.page0) (part_kept p m.page1) (inl (refl, refl))

  standing_close : (b : ℕ) → standing (apply (closed a p) m) b ≡ cond (eqb a b) None (standing m b)
  standing_close b = standing_change close_change s (standing_none (apply (closed a p) m) a close_change.index.here) b

  mark_change : (x : Faults) → Changed m (apply (mark p x) m) a p p (marked_words (port_at m p) x)
  unfolding apply
  mark_change x =
      changed s (own_here h) (entry_kept m.index a p h.entry) (part_kept p m.page0) (part_kept p m.page1)
      (inr (refl, marked_formed a (port_at m p) x h.formed))

  standing_of_mark : (x : Faults) → standing_of (apply (mark p x) m) p ≡ standing_of m p
  unfolding standing_of apply marked_words
  standing_of_mark x = rw ((mark_change x).words_here, flags_of_word (faulty (flags_of (port_at m p).flags) x))

  standing_mark : (x : Faults) (b : ℕ) → standing (apply (mark p x) m) b ≡ standing m b
  standing_mark x b =
      let c = mark_change x in
      dite (ℕ_discrete b a)
      (λ same.
      rw (same, h.standing, ← (standing_of_mark x))
      (standing_here c h.positive refl (marked_formed a (port_at m p) x h.formed)))
      (λ ne. standing_other c s b ne)

  fill_change : (ws : List ℕ) → length ws ≡ size_of (code_of w) → Changed m (apply (fill p ws) m) a p p (filled_words (port_at m p))
  unfolding apply filled
  fill_change ws size =
      let one = (flags_of (port_at m p).flags).vp in
      let short : length ws ≤ 16 = omega (arith, size_small (code_of w)) in
      changed s (own_here h) (entry_kept m.index a p h.entry)
      (part_either one (part_set p m.page0 ws short) (part_kept p m.page0))
      (part_either one (part_kept p m.page1) (part_set p m.page1 ws short))
      (inr (refl, filled_formed a (port_at m p) h.formed))

  standing_of_fill : (ws : List ℕ) → length ws ≡ size_of (code_of w) → standing_of (apply (fill p ws) m) p ≡ refill ws (standing_of m p)
  unfolding standing_of apply filled filled_words
  standing_of_fill ws size =
      let f = flags_of (port_at m p).flags in
      rw ((fill_change ws size).words_here, flags_of_word (turned f), shown f.vp)
    where
      stored : (page : List ℕ) → length page ≡ 4096 → part_of (with_part page p ws) p (size_of (code_of (port_at m p).master)) ≡ ws
      stored page long = rw (h.master, ← size) (part_same page p ws (omega (arith, h.small, size_small (code_of w))))

      shown : (v : Bool)
          → part_of (cond (not v) (cond v m.page1 (with_part m.page1 p ws)) (cond v (with_part m.page0 p ws) m.page0)) p
          (size_of (code_of (port_at m p).master)) ≡ ws
      shown true = stored m.page0 (lengths m s.fits).page0
      shown false = stored m.page1 (lengths m s.fits).page1

  -- no other address shows the port
  unfilled : (ws : List ℕ) (b : ℕ) → b ≢ a → refill_if p ws (standing m b) ≡ standing m b
  unfilled ws b ne = go (standing m b) refl
    where
      go : (o : Option Standing) → standing m b ≡ o → refill_if p ws o ≡ o
      go None e = refl
      go (Some v) e = rw (ne_eqb v.port p (λ same. ne ((own_here h).alone b (rw same at (standing_at_lem m b v e).formed))))

  standing_fill : (ws : List ℕ) → length ws ≡ size_of (code_of w) → (b : ℕ) → standing (apply (fill p ws) m) b ≡ refill_if p ws (standing m b)
  unfolding standing_of
  standing_fill ws size b =
      let c = fill_change ws size in
      dite (ℕ_discrete b a)
      (λ same.
      rw (same, h.standing, eq-eqb p p refl, ← (standing_of_fill ws size))
      (standing_here c h.positive refl (filled_formed a (port_at m p) h.formed)))
      (λ ne. standing_other c s b ne ∙ sym (unfilled ws b ne))

-- ---- every effect

-- Every valid effect keeps the shape of the areas.
pub shape_apply : (e : Effect) (m : Areas) → Shape m → Valid m e → Shape (apply e m)
unfolding apply
shape_apply e m s nothing = s
shape_apply e m s (filling {ws = ws} at size) = shape_change (fill_change s (at_here at) ws size) s
shape_apply e m s (marking {x = x} at) = shape_change (mark_change s (at_here at) x) s
shape_apply e m s (opening {a} {p} {code} {sink} {i} {limit} ha pos hp hc hi free unused) =
    shape_change (open_change s a p code sink i limit ha pos hp hc hi free unused) s
shape_apply e m s (closing at) = shape_change (close_change s (at_here at)) s

-- Every valid effect does to what stands at an address what `standing_after` says.
pub standing_apply : (e : Effect) (m : Areas) (b : ℕ) → Shape m → Valid m e → standing (apply e m) b ≡ standing_after e b (standing m b)
unfolding apply
standing_apply e m b s nothing = refl
standing_apply e m b s (filling {ws = ws} at size) = standing_fill s (at_here at) ws size b
standing_apply e m b s (marking {x = x} at) = standing_mark s (at_here at) x b
standing_apply e m b s (opening {a} {p} {code} {sink} {i} {limit} ha pos hp hc hi free unused) =
    standing_open s a p code sink i limit ha pos hp hc hi free unused b
standing_apply e m b s (closing at) = standing_close s (at_here at) b
