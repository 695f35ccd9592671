-- Two results that a promise of this crate allows are equal, with what they leave in the areas. The contracts are cited as they stand.
-- Assumes nothing.
use Prim.Native.Nat.{ℕ, ◌<◌}
use mathlib.Core.Path.{◌≡◌, sym, ◌∙◌, ap}
use mathlib.Core.List.{List}
use lib.ListN.{length}
use denote.Ref.{Bor}
use Rattle.model.specs.Layout.{Areas, areas, words_at, flags_of, page_place}
use Rattle.areas.specs.Lent.{valid_lent, Lies}
use Rattle.areas.proofs.store.fill.Reads as fill-reads
use Rattle.areas.proofs.port.valid_words.Reads as valid-words-reads
use Rattle.areas.proofs.port.state_of.Reads as state-of-reads
use Rattle.model.proofs.Asking.{one_shown}

-- the areas as one record: where it is the same, so are port words, page 0 and page 1
pub one_areas : {i j p q z y o x : List ℕ} {m : Areas} → areas i p z o ≡ m → areas j q y x ≡ m → (p ≡ q) × (z ≡ y) × (o ≡ x)
one_areas e f =
    let same = e ∙ sym f in
    (ap (λ (m : Areas). m.ports) same, ap (λ (m : Areas). m.page0) same, ap (λ (m : Areas). m.page1) same)

-- `fill` leaves the same port words and pages.
pub one_fill : (κs : _) (a : _) (r s : _) (e f : _) → fill-reads.Learnt κs a r e → fill-reads.Learnt κs a s f
    → (e.0.now ≡ f.0.now) × (e.1.0.now ≡ f.1.0.now) × (e.1.1.0.now ≡ f.1.1.0.now)
one_fill κs a r s e f p q = one_areas p q

-- two parts lie in one block of memory, and in one place of it if the page has that place
abbrev pub OnePlace : Bor (List ℕ) → Bor (List ℕ) → Bor (List ℕ) → ℕ → Type 0
OnePlace r s page p = (r.ref_ptr.0 ≡ s.ref_ptr.0) × (page_place p < length page.now → r.ref_ptr.1 ≡ s.ref_ptr.1)

-- Two parts that lie in the place of one port lie in one place.
pub one_place : (r s page : Bor (List ℕ)) (p : ℕ) → Lies r page p → Lies s page p → OnePlace r s page p
one_place r s page p x y = (x.0 ∙ sym y.0, λ h. x.1 h ∙ sym (y.1 h))

-- What `valid_words` hands back holds the same words, in one place.
pub one_valid_words : (κs : _) (a : _) (r s : _) (e f : _) → valid-words-reads.Learnt κs a r e → valid-words-reads.Learnt κs a s f
    → let p = a.1.1.1.0 in
    (r.now ≡ s.now) × OnePlace r s (valid_lent a.1.0 a.1.1.0 (flags_of (words_at a.0.now p).flags)) p
one_valid_words κs a r s e f p q =
    let page = valid_lent a.1.0 a.1.1.0 (flags_of (words_at a.0.now a.1.1.1.0).flags) in
    (p.0 ∙ sym q.0, one_place r s page a.1.1.1.0 p.1 q.1)

-- `state_of` answers one state.
pub one_state_of : (κs : _) (a : _) (r s : _) (e f : _) → state-of-reads.Learnt κs a r e → state-of-reads.Learnt κs a s f → r ≡ s
one_state_of κs a r s e f p q = one_shown r s (p ∙ sym q)
