-- What every effect on the areas has in common: it concerns one address and the one port that is this address's own. Then the shape of
-- the areas is kept, and every other address shows what it showed. Assumes nothing.
use Prim.Native.Nat.{ℕ, ◌+◌, ◌≤◌, ◌<◌}
use mathlib.Core.Path.{◌≡◌, refl, sym, ◌∙◌}
use mathlib.Core.Logic.{◌≢◌, ◌⊎◌, inl, inr, ⊎_elim, dite}
use mathlib.Core.Bool.{Bool, true, false, cond}
use mathlib.Core.List.{List}
use Rattle.std.specs.Prelude.{Option, Some}
use native.Mathlib.Decide.{ℕ_discrete}
use native.Mathlib.Omega.{arith}
use borrow.Author.Tests.{eq-eqb, ne_eqb}
use lib.Dec.{eqb}
use lib.ListN.{length, get_or, set, length-set}
use lib.Seq.{get_or-set_same, get_or-set_other}
use Rattle.model.specs.declared.Words.{Words}
use Rattle.model.specs.Layout.{Areas, areas, stride, tables_fit, pages_fit, areas_fit, entry, place, with_words, port_at, flags_of, part_of, with_part}
use Rattle.model.specs.declared.Flags.{Flags}
use Rattle.model.specs.Ports.{valid_page, code_of, address_of, size_of, well_formed, Standing, standing_of, standing}
use Rattle.model.proofs.Shape.{Leads, Shape}
use Rattle.model.proofs.PortWords.{length_with, words_same, words_other}
use Rattle.model.proofs.Pages.{length_part, part_other}
use Rattle.model.proofs.Formed.{lengths, formed, size_small}
use Rattle.model.proofs.Standings.{Stands, standing_none, standing_port, look}

-- ---- one area, before and after

-- in an index table, the entry of address a becomes e
pub record EntrySet (x y : List ℕ) (a e : ℕ) : Type 0 where
  pub long : length y ≡ length x
  pub here : get_or y a 0 ≡ e
  pub other : (b : ℕ) → b ≢ a → get_or y b 0 ≡ get_or x b 0

-- an index table whose entry is e already may stay as it is
pub entry_kept : (x : List ℕ) (a e : ℕ) → get_or x a 0 ≡ e → EntrySet x x a e
entry_kept x a e h = record { long = refl; here = h; other = λ b ne. refl }

-- setting the entry of an address inside the table changes no other entry
pub entry_set : (x : List ℕ) (a e : ℕ) → a < length x → EntrySet x (set x a e) a e
entry_set x a e h =
    record { long = length-set x a e; here = get_or-set_same x a e 0 h; other = λ b ne. get_or-set_other x a b e 0 ne }

-- in a page, no part changes but port p's
pub record PartSet (p : ℕ) (x y : List ℕ) : Type 0 where
  pub long : length y ≡ length x
  pub other : (q k : ℕ) → q ≢ p → k ≤ 16 → part_of y q k ≡ part_of x q k

-- a page may stay as it is
pub part_kept : (p : ℕ) (x : List ℕ) → PartSet p x x
part_kept p x = record { long = refl; other = λ q k ne h. refl }

-- at most sixteen words stored in port p's part change no other part
pub part_set : (p : ℕ) (x ws : List ℕ) → length ws ≤ 16 → PartSet p x (with_part x p ws)
part_set p x ws short = record { long = length_part x p ws; other = λ q k ne h. part_other x p q ws k ne short h }

-- of two such pages either may be chosen
pub part_either : {p : ℕ} {x y z : List ℕ} (b : Bool) → PartSet p x y → PartSet p x z → PartSet p x (cond b y z)
part_either true h l = h
part_either false h l = l

-- ---- the areas, before and after

-- the words of port p are well formed for no address but a, and address a has no port but p
pub record Own (m : Areas) (a p : ℕ) : Type 0 where
  pub small : p ≤ 255
  pub alone : (b : ℕ) → well_formed b (port_at m p) ≡ true → b ≡ a
  pub only : 0 < entry m a → entry m a ≡ p

-- after a change address a has no port, and word 1 of p is 0; or a has the port p
abbrev pub After : ℕ → ℕ → ℕ → Words → Type 0
After a p e w = ((e ≡ 0) × (w.flags ≡ 0)) ⊎ ((e ≡ p) × (well_formed a w ≡ true))

-- the entry of address a becomes e, and the words of its own port p become w
pub record Changed (m n : Areas) (a p e : ℕ) (w : Words) : Type 0 where
  pub own : Own m a p
  pub fits : areas_fit n ≡ true
  pub index : EntrySet m.index n.index a e
  pub words_here : port_at n p ≡ w
  pub words_other : (q : ℕ) → q ≢ p → port_at n q ≡ port_at m q
  pub page0 : PartSet p m.page0 n.page0
  pub page1 : PartSet p m.page1 n.page1
  pub after : After a p e w

-- areas put together of such a table, the new words of port p and such pages are changed so
pub changed : {m : Areas} {a p e : ℕ} {w : Words} {i x y : List ℕ} → Shape m → Own m a p → EntrySet m.index i a e
    → PartSet p m.page0 x → PartSet p m.page1 y → After a p e w → Changed m (areas i (with_words m.ports p w) x y) a p e w
unfolding areas_fit tables_fit pages_fit
changed {m} {p = p} {w = w} s own index page0 page1 after =
    let inside : place p + stride ≤ length m.ports = omega (arith, own.small, (lengths m s.fits).ports) in
    record {
      own = own;
      fits = rw (index.long, length_with m.ports p w, page0.long, page1.long) s.fits;
      index = index;
      words_here = words_same m.ports p w inside;
      words_other = λ q ne. words_other m.ports p q w ne;
      page0 = page0;
      page1 = page1;
      after = after;
    }

module _ {m n : Areas} {a p e : ℕ} {w : Words} (c : Changed m n a p e w) where
  leads_here : e ≡ p → well_formed a w ≡ true → Leads n a
  leads_here ep f =
      let there : entry n a ≡ p = c.index.here ∙ ep in
      record { small = rw there c.own.small; formed = rw (there, c.words_here) f }

  -- another address leads to another port
  apart : (b : ℕ) → b ≢ a → Leads m b → entry m b ≢ p
  apart b ne l same = ne (c.own.alone b (rw same at l.formed))

  leads_other : (b : ℕ) → b ≢ a → Leads m b → Leads n b
  leads_other b ne l =
      record {
        small = rw (c.index.other b ne) l.small;
        formed = rw (c.index.other b ne, c.words_other (entry m b) (apart b ne l)) l.formed;
      }

  standing_of_other : (q : ℕ) → q ≢ p → standing_of n q ≡ standing_of m q
  unfolding standing_of
  standing_of_other q ne =
      let code = code_of (port_at m q).master in
      rw (c.words_other q ne, part (flags_of (port_at m q).flags) (size_of code) (size_small code))
    where
      part : (f : Flags) (k : ℕ) → k ≤ 16 → part_of (valid_page n f) q k ≡ part_of (valid_page m f) q k
      part f k h = go f.vp
        where
          with_page : Bool → Flags
          with_page v = record { vp = v; ever = f.ever; src = f.src; sink = f.sink; faults = f.faults }

          go : (v : Bool) → part_of (valid_page n (with_page v)) q k ≡ part_of (valid_page m (with_page v)) q k
          go true = search (c.page0.other q k ne h, c.page1.other q k ne h)
          go false = search (c.page0.other q k ne h, c.page1.other q k ne h)

  module _ (s : Shape m) where
    entries : (b : ℕ) → (entry n b ≡ 0) ⊎ Leads n b
    entries b =
        dite (ℕ_discrete b a)
        (λ same.
        rw same (⊎_elim (λ None. inl (c.index.here ∙ None.0)) (λ one. inr (leads_here one.0 one.1)) c.after))
        (λ ne. ⊎_elim (λ z. inl (c.index.other b ne ∙ z)) (λ l. inr (leads_other b ne l)) (s.entries b))

    ports : (q : ℕ) → 0 < q → q ≤ 255 → ((port_at n q).flags ≡ 0) ⊎ (entry n (address_of (port_at n q).master) ≡ q)
    ports q h few =
        dite (ℕ_discrete q p)
        (λ same.
        rw (same, c.words_here)
        (⊎_elim (λ None. inl None.1) (λ one. inr (rw (formed a w one.1).address (c.index.here ∙ one.0))) c.after))
        (λ ne.
        rw (c.words_other q ne)
        (⊎_elim inl
        (λ back.
        let b = address_of (port_at m q).master in
        let elsewhere : b ≢ a =
        λ there.
        let led : entry m a ≡ q = rw there at back in
        ne (sym led ∙ c.own.only (omega arith)) in
        inr (c.index.other b elsewhere ∙ back))
        (s.ports q h few)))

    -- areas changed so keep their shape
    pub shape_change : Shape n
    shape_change = record { fits = c.fits; entries = entries; ports = ports }

    -- every other address shows what it showed before the change
    pub standing_other : (b : ℕ) → b ≢ a → standing n b ≡ standing m b
    standing_other b ne =
        ⊎_elim (λ z. standing_none n b (c.index.other b ne ∙ z) ∙ sym (standing_none m b z))
        (λ st.
        let st' : Stands n b = record { positive = rw (c.index.other b ne) st.positive; leads = leads_other b ne st.leads } in
        standing_port n b st' ∙ rw (c.index.other b ne, standing_of_other (entry m b) (apart b ne st.leads)) (sym (standing_port m b st)))
        (look m b s)

    -- what a shows is all that changes
    pub standing_change : {v : Option Standing} → standing n a ≡ v → (b : ℕ) → standing n b ≡ cond (eqb a b) v (standing m b)
    standing_change here b =
        dite (ℕ_discrete b a) (λ same. rw (same, eq-eqb a a refl) here)
        (λ ne. rw (ne_eqb a b (λ same. ne (sym same))) (standing_other b ne))

  -- where a has the port p, it shows p
  pub standing_here : 0 < p → e ≡ p → well_formed a w ≡ true → standing n a ≡ Some (standing_of n p)
  standing_here h ep f =
      let there : entry n a ≡ p = c.index.here ∙ ep in
      rw there at (standing_port n a (record { positive = rw there h; leads = leads_here ep f }))
