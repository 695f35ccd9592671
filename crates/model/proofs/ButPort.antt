-- Areas that are the same but for ages, and for status bits of one port, stay so under one effect, and the port that the effect concerns is
-- then the same too. Assumes nothing.
use Prim.Native.Nat.{ℕ, ◌+◌, ◌≤◌}
use mathlib.Core.Path.{◌≡◌, refl, sym, ◌∙◌, ap, subst}
use mathlib.Core.Logic.{◌⊎◌, inl, inr}
use mathlib.Core.List.{List}
use Rattle.std.specs.Prelude.{Option, Some}
use native.Mathlib.Decide.{ℕ_discrete}
use lib.ListN.{length}
use borrow.Author.Tests.{ne_eqb}
use Rattle.model.specs.declared.Words.{Words}
use Rattle.model.specs.declared.Flags.{Flags}
use Rattle.model.specs.declared.Faults.{Faults}
use Rattle.model.specs.Layout.{Areas, stride, place, words_at, with_words, port_at, flags_of}
use Rattle.model.specs.Ports.{Effect, untouched, fill, mark, opened, closed, filled_words, faulty, marked_words, filled, apply}
use Rattle.model.specs.Taken.{ageless, ButAges, StatusAndAges}
use Rattle.model.proofs.Shape.{Shape, Valid, filling, marking, opening, closing}
use Rattle.model.proofs.PortDoubt.{port_affected, settle}
use Rattle.model.proofs.PortWords.{words_same, words_other}
use Rattle.model.proofs.Bits.{flags_of_word}
use Rattle.model.proofs.Formed.{room}
use Rattle.model.proofs.ShapeKept.{at_here}

-- n is m, but for ages, and for status bits of port o, if there is one
pub record ButPort (o : Option ℕ) (m n : Areas) : Type 0 where
  pub only : StatusAndAges m n
  pub same : (p : ℕ) → (o ≡ Some p → ⊥) → ageless (port_at n p) ≡ ageless (port_at m p)

-- words that are the same but for status bits and age
abbrev Near : Words → Words → Type 0
Near w v = (ageless v ≡ ageless w) ⊎ ((x : Faults) × (ageless v ≡ marked_words (ageless w) x))

-- of such words a fill makes the same, and a mark the same but for the age
near_filled : (w v : Words) → Near w v → filled_words v ≡ filled_words w
unfolding filled_words marked_words
near_filled w v (inl e) = ap filled_words e
near_filled w v (inr e) = ap filled_words e.1 ∙ rw (flags_of_word (faulty (flags_of w.flags) e.0))

near_marked : (w v : Words) (x : Faults) → Near w v → ageless (marked_words v x) ≡ ageless (marked_words w x)
unfolding marked_words
near_marked w v x (inl e) = ap (λ (z : Words). marked_words z x) e
near_marked w v x (inr e) =
    ap (λ (z : Words). marked_words z x) e.1 ∙ rw (flags_of_word (faulty (flags_of w.flags) e.0))

-- they have the same valid page
near_page : (w v : Words) → Near w v → (flags_of v.flags).vp ≡ (flags_of w.flags).vp
unfolding marked_words
near_page w v (inl e) = ap (λ (z : Words). (flags_of z.flags).vp) e
near_page w v (inr e) =
    ap (λ (z : Words). (flags_of z.flags).vp) e.1 ∙ ap (λ (f : Flags). f.vp) (flags_of_word (faulty (flags_of w.flags) e.0))

-- ---- the port words

record Ports (o : Option ℕ) (l k : List ℕ) : Type 0 where
  same : (p : ℕ) → (o ≡ Some p → ⊥) → ageless (words_at k p) ≡ ageless (words_at l p)
  only : (p : ℕ) → Near (words_at l p) (words_at k p)

-- the words of port p are set in both
ports_with : (o : Option ℕ) (l k : List ℕ) (p : ℕ) (w v : Words) → place p + stride ≤ length l → place p + stride ≤ length k → ageless v ≡ ageless w
    → Ports o l k → Ports (settle (Some p) o) (with_words l p w) (with_words k p v)
ports_with o l k p w v hl hk e h =
    record { same = λ q n. here q n (ℕ_discrete q p); only = λ q. there q (ℕ_discrete q p) }
  where
    set : (q : ℕ) → q ≡ p → ageless (words_at (with_words k p v) q) ≡ ageless (words_at (with_words l p w) q)
    set q i = rw i (ap ageless (words_same k p v hk) ∙ e ∙ sym (ap ageless (words_same l p w hl)))

    left : (q : ℕ) → (q ≡ p → ⊥) → (settle (Some p) o ≡ Some q → ⊥) → o ≡ Some q → ⊥
    left q ne n i = n (rw (i, ne_eqb p q (λ z. ne (sym z))))

    here : (q : ℕ) → (settle (Some p) o ≡ Some q → ⊥) → Dec (q ≡ p)
        → ageless (words_at (with_words k p v) q) ≡ ageless (words_at (with_words l p w) q)
    here q n (yes i) = set q i
    here q n (no ne) = ap ageless (words_other k p q v ne) ∙ h.same q (left q ne n) ∙ sym (ap ageless (words_other l p q w ne))

    there : (q : ℕ) → Dec (q ≡ p) → Near (words_at (with_words l p w) q) (words_at (with_words k p v) q)
    there q (yes i) = inl (set q i)
    there q (no ne) = rw (words_other k p q v ne, words_other l p q w ne) (h.only q)

-- ---- the areas

module _ (o : Option ℕ) (m n : Areas) (s : Shape m) (t : Shape n) (b : ButPort o m n) where
  ports : Ports o m.ports n.ports
  ports = record { same = b.same; only = b.only.ports }

  with_port_lem : (p : ℕ) (w v : Words) → p ≤ 255 → ageless v ≡ ageless w
      → Ports (settle (Some p) o) (with_words m.ports p w) (with_words n.ports p v)
  with_port_lem p w v h e =
      ports_with o m.ports n.ports p w v (room m s.fits p h) (room n t.fits p h) e ports

  -- One effect on both leaves them so; where it concerns port o, its status bits are the same too.
  but_apply : (e : Effect) → Valid m e → ButPort (settle (port_affected e) o) (apply e m) (apply e n)
  unfolding apply filled
  but_apply untouched v = b
  but_apply (fill p ws) (filling at size) =
      let near = b.only.ports p in
      let r = with_port_lem p (filled_words (port_at m p)) (filled_words (port_at n p)) (at_here at).small
      (ap ageless (near_filled (port_at m p) (port_at n p) near)) in
      rw (near_page (port_at m p) (port_at n p) near, b.only.page0, b.only.page1)
      (record { only = record { index = b.only.index; page0 = refl; page1 = refl; ports = r.only }; same = r.same })
  but_apply (mark p x) (marking at) =
      let r = with_port_lem p (marked_words (port_at m p) x) (marked_words (port_at n p) x) (at_here at).small
      (near_marked (port_at m p) (port_at n p) x (b.only.ports p)) in
      record { only = record { index = b.only.index; page0 = b.only.page0; page1 = b.only.page1; ports = r.only }; same = r.same }
  but_apply (opened a p code sink i limit) (opening ha pos hp hc hi free unused) =
      let r = with_port_lem p _ _ hp refl in
      record { only = record { index = rw b.only.index; page0 = b.only.page0; page1 = b.only.page1; ports = r.only }; same = r.same }
  but_apply (closed a p) (closing at) =
      let r = with_port_lem p _ _ (at_here at).small refl in
      record { only = record { index = rw b.only.index; page0 = b.only.page0; page1 = b.only.page1; ports = r.only }; same = r.same }

  -- the same where each of the two has its own effect, and these are equal
  pub but_effects : {e f : Effect} → e ≡ f → Valid m f → ButPort (settle (port_affected f) o) (apply f m) (apply e n)
  but_effects {e} {f} i v = subst (λ (g : Effect). ButPort (settle (port_affected f) o) (apply f m) (apply g n)) (sym i) (but_apply f v)

-- other ages on either side are no matter
pub but_ages : (o : Option ℕ) {m n r t : Areas} → ButPort o m n → ButAges m r → ButAges n t → ButPort o r t
but_ages o {m} {n} {r} {t} b f g =
    record {
      only =
          record {
            index = g.index ∙ b.only.index ∙ sym f.index;
            page0 = g.page0 ∙ b.only.page0 ∙ sym f.page0;
            page1 = g.page1 ∙ b.only.page1 ∙ sym f.page1;
            ports = λ p. by p (b.only.ports p);
          };
      same = λ p x. g.ports p ∙ b.same p x ∙ sym (f.ports p);
    }
  where
    by : (p : ℕ) → Near (port_at m p) (port_at n p) → Near (port_at r p) (port_at t p)
    by p (inl e) = inl (g.ports p ∙ e ∙ sym (f.ports p))
    by p (inr e) = inr (e.0, g.ports p ∙ e.1 ∙ sym (ap (λ (w : Words). marked_words w e.0) (f.ports p)))
