-- Laws of ageing: the words of each port k milliseconds later, and that nothing but ages changes, so every address shows the same and the
-- areas keep their shape. Assumes nothing.
use Prim.Native.Nat.{ℕ, zero, suc, ◌+◌, ◌*◌, ◌≤◌, ◌<◌, min}
use mathlib.Core.Path.{◌≡◌, refl, sym, ◌∙◌, ap}
use mathlib.Core.Logic.{inl, inr, ⊎_elim}
use mathlib.Core.Bool.{Bool, true, false, cond, ◌&&◌}
use mathlib.Core.List.{List}
use Rattle.std.specs.Prelude.{Some}
use native.Mathlib.Decide.{ℕ_discrete}
use native.Mathlib.Omega.{arith}
use lib.Dec.{eqb, leb, ltb, lit≤}
use borrow.Author.Tests.{ltb-true, ltb-false, leb-true, leb-false, lt-ltb, le-leb}
use lib.ListN.{length}
use Rattle.model.specs.declared.Words.{Words}
use Rattle.model.specs.declared.Faults.{Faults}
use Rattle.std.specs.Prelude.{None, Some, Ok, Err}
use Rattle.constants.specs.declared.refusals.Refusal.TheVariants.{Damaged}
use Rattle.model.specs.Layout.{Areas, areas, stride, tables_fit, pages_fit, areas_fit, entry, words_at, with_words, port_at, with_port, flags_of}
use Rattle.model.specs.Ports.{well_formed, seek, standing_of, seen, standing, oldest, faulty, marked_words, mark, apply}
use Rattle.model.specs.Ports.{open_sink, with_age, aged_words, aged_to, aged}
use Rattle.model.specs.Taken.{ageless, ButAges}
use Rattle.model.proofs.Shape.{Shape}
use Rattle.model.proofs.PortWords.{length_with, words_same, words_other, ports_equal}
use Rattle.model.proofs.Formed.{lengths, room, formed, marked_formed}
use Rattle.model.proofs.Bits.{flags_of_word}

-- ---- the walk over the ports

length_to : (n k : ℕ) (l : List ℕ) → length (aged_to n k l) ≡ length l
unfolding aged_to
length_to zero k l = refl
length_to (suc n) k l = length_with (aged_to n k l) (suc n) (aged_words k (words_at (aged_to n k l) (suc n))) ∙ length_to n k l

-- a port that the walk does not come to stays as it is
to_outside : (n k : ℕ) (l : List ℕ) (p : ℕ) → (0 < p → p ≤ n → ⊥) → words_at (aged_to n k l) p ≡ words_at l p
unfolding aged_to
to_outside zero k l p out = refl
to_outside (suc n) k l p out =
    words_other (aged_to n k l) (suc n) p _ (λ e. out (omega arith) (omega arith)) ∙ to_outside n k l p (λ h b. out h (omega arith))

-- a port that it comes to ages once
to_inside : (n k : ℕ) (l : List ℕ) (p : ℕ) → n ≤ 255 → length l ≡ stride * 256 → 0 < p → p ≤ n → words_at (aged_to n k l) p ≡ aged_words k (words_at l p)
unfolding aged_to
to_inside zero k l p few fits pos b = absurd (omega arith)
to_inside (suc n) k l p few fits pos b = by (ℕ_discrete p (suc n)) (to_inside n k l p (omega arith) fits pos)
  where
    by : Dec (p ≡ suc n) → (p ≤ n → words_at (aged_to n k l) p ≡ aged_words k (words_at l p))
        → words_at (with_words (aged_to n k l) (suc n) (aged_words k (words_at (aged_to n k l) (suc n)))) p ≡ aged_words k (words_at l p)
    by (yes e) before =
        rw e
        (words_same (aged_to n k l) (suc n) _ (omega (arith, length_to n k l))
        ∙ ap (aged_words k) (to_outside n k l (suc n) (λ h c. omega arith)))
    by (no ne) before = words_other (aged_to n k l) (suc n) p _ ne ∙ before (omega arith)

-- the words of port p, k milliseconds later: ports 1 to 255 age
abbrev aged_port : ℕ → ℕ → Words → Words
aged_port k p w = cond (ltb 0 p && leb p 255) (aged_words k w) w

aged_any : (k : ℕ) (m : Areas) → areas_fit m ≡ true → (p : ℕ) → port_at (aged k m) p ≡ aged_port k p (port_at m p)
unfolding aged
aged_any k m fits p = go (ltb 0 p) (leb p 255) refl refl
  where
    go : (b c : Bool) → ltb 0 p ≡ b → leb p 255 ≡ c
        → words_at (aged_to 255 k m.ports) p ≡ cond (b && c) (aged_words k (port_at m p)) (port_at m p)
    go true true eb ec = to_inside 255 k m.ports p (lit≤ tt) (lengths m fits).ports (ltb-true 0 p eb) (leb-true p 255 ec)
    go true false eb ec = to_outside 255 k m.ports p (λ h few. omega (arith, leb-false p 255 ec))
    go false c eb ec = to_outside 255 k m.ports p (λ h few. omega (arith, ltb-false 0 p eb))

module _ (k : ℕ) (m : Areas) (fits : areas_fit m ≡ true) (p : ℕ) where
  -- Each of the ports 1 to 255 is k milliseconds older, if it is an open sink.
  pub aged_at : 0 < p → p ≤ 255 → port_at (aged k m) p ≡ aged_words k (port_at m p)
  aged_at pos few = aged_any k m fits p ∙ rw (lt-ltb 0 p pos, le-leb p 255 few)

-- Port 0 and what lies behind port 255 do not age.
pub aged_else : (k : ℕ) (m : Areas) (p : ℕ) → (0 < p → p ≤ 255 → ⊥) → port_at (aged k m) p ≡ port_at m p
unfolding aged
aged_else k m p out = to_outside 255 k m.ports p out

-- ---- nothing but ages changes

words_ageless : (k : ℕ) (w : Words) → ageless (aged_words k w) ≡ ageless w
unfolding aged_words
words_ageless k w = go (open_sink w)
  where
    go : (b : Bool) → ageless (cond b (with_age (min oldest (w.age + k)) w) w) ≡ ageless w
    go true = refl
    go false = refl

-- Ageing changes nothing but ages.
pub aged_ages : (k : ℕ) (m : Areas) → areas_fit m ≡ true → ButAges m (aged k m)
unfolding aged
aged_ages k m fits =
    record {
      index = refl;
      long = length_to 255 k m.ports;
      ports = λ p. ap ageless (aged_any k m fits p) ∙ port_ageless p (ltb 0 p && leb p 255);
      page0 = refl;
      page1 = refl;
    }
  where
    port_ageless : (p : ℕ) (b : Bool) → ageless (cond b (aged_words k (port_at m p)) (port_at m p)) ≡ ageless (port_at m p)
    port_ageless p true = words_ageless k (port_at m p)
    port_ageless p false = refl

-- areas left as they were are the same but for ages
pub ages_same : (m : Areas) → ButAges m m
ages_same m = record { index = refl; long = refl; ports = λ p. refl; page0 = refl; page1 = refl }

module _ {m n : Areas} (b : ButAges m n) where
  -- whether words are well formed does not go by their age
  formed_ages : (a p : ℕ) → well_formed a (port_at n p) ≡ well_formed a (port_at m p)
  unfolding well_formed
  formed_ages a p = ap (λ (w : Words). well_formed a w) (b.ports p)

  entry_ages : (a : ℕ) → entry n a ≡ entry m a
  entry_ages a = rw b.index

  -- the areas keep their lengths
  pub fits_ages : areas_fit m ≡ true → areas_fit n ≡ true
  unfolding areas_fit tables_fit pages_fit
  fits_ages f = rw (b.index, b.long, b.page0, b.page1) f

  -- a part of port words that is not the age is the same
  part_ages : {A : Type 0} (f : Words → A) → ((w : Words) → f (ageless w) ≡ f w) → (p : ℕ) → f (port_at n p) ≡ f (port_at m p)
  part_ages f same p = sym (same (port_at n p)) ∙ ap f (b.ports p) ∙ same (port_at m p)

  standing_of_ages : (p : ℕ) → standing_of n p ≡ standing_of m p
  unfolding standing_of
  standing_of_ages p =
      rw (
        part_ages (λ w. w.master) (λ w. refl) p,
        part_ages (λ w. w.flags) (λ w. refl) p,
        part_ages (λ w. w.interrupt) (λ w. refl) p,
        part_ages (λ w. w.fills) (λ w. refl) p,
        part_ages (λ w. w.limit) (λ w. refl) p,
        b.page0,
        b.page1,
      )

  -- Where only ages differ the same stands at every address.
  pub standing_ages : (a : ℕ) → standing n a ≡ standing m a
  unfolding standing seek
  standing_ages a = rw (entry_ages a, formed_ages a (entry m a)) (go (eqb (entry m a) 0) (leb (entry m a) 255 && well_formed a (port_at m (entry m a))))
    where
      go : (c d : Bool)
          → seen n (cond c (Ok None) (cond d (Ok (Some (entry m a))) (Err Damaged))) ≡ seen m (cond c (Ok None) (cond d (Ok (Some (entry m a))) (Err Damaged)))
      go true d = refl
      go false true = ap Some (standing_of_ages (entry m a))
      go false false = refl

  -- and the shape of the areas is kept
  pub shape_ages : Shape m → Shape n
  shape_ages s =
      record {
        fits = fits_ages s.fits;
        entries =
            λ a. rw (entry_ages a)
            (⊎_elim inl
            (λ l. inr (record { small = rw (entry_ages a) l.small; formed = rw (entry_ages a) (formed_ages a (entry m a) ∙ l.formed) }))
            (s.entries a));
        ports =
            λ p pos few. rw (part_ages (λ w. w.flags) (λ w. refl) p, part_ages (λ w. w.master) (λ w. refl) p, entry_ages) (s.ports p pos few);
      }

-- ---- ageing twice, and ageing beside a mark

-- areas whose port words are the same at every port are the same
areas_with : (m : Areas) (l k : List ℕ) → length k ≡ length l → ((p : ℕ) → words_at k p ≡ words_at l p)
    → areas m.index k m.page0 m.page1 ≡ areas m.index l m.page0 m.page1
areas_with m l k e h = ap (λ (x : List ℕ). areas m.index x m.page0 m.page1) (ports_equal l k e h)

words_twice : (j k : ℕ) (w : Words) → aged_words j (aged_words k w) ≡ aged_words (k + j) w
unfolding aged_words open_sink well_formed
words_twice j k w = go (open_sink w) refl
  where
    go : (b : Bool) → open_sink w ≡ b
        → cond (open_sink (cond b (with_age (min oldest (w.age + k)) w) w))
        (with_age (min oldest ((cond b (with_age (min oldest (w.age + k)) w) w).age + j)) (cond b (with_age (min oldest (w.age + k)) w) w))
        (cond b (with_age (min oldest (w.age + k)) w) w)
        ≡ cond b (with_age (min oldest (w.age + (k + j))) w) w
    go true e = rw e (ap (λ (x : ℕ). with_age x w) (omega arith))
    go false e = rw e

-- k milliseconds and then j are k + j.
pub aged_twice : (j k : ℕ) (m : Areas) → areas_fit m ≡ true → aged j (aged k m) ≡ aged (k + j) m
unfolding aged
aged_twice j k m fits =
    let later = aged_ages k m fits in
    areas_with m (aged (k + j) m).ports (aged j (aged k m)).ports
    ((aged_ages j (aged k m) (fits_ages later fits)).long ∙ later.long ∙ sym (aged_ages (k + j) m fits).long)
    (λ p.
    aged_any j (aged k m) (fits_ages later fits) p ∙ ap (aged_port j p) (aged_any k m fits p)
    ∙ port_twice p (ltb 0 p && leb p 255) ∙ sym (aged_any (k + j) m fits p))
  where
    port_twice : (p : ℕ) (b : Bool)
        → cond b (aged_words j (cond b (aged_words k (port_at m p)) (port_at m p))) (cond b (aged_words k (port_at m p)) (port_at m p))
        ≡ cond b (aged_words (k + j) (port_at m p)) (port_at m p)
    port_twice p true = words_twice j k (port_at m p)
    port_twice p false = refl

-- words that are well formed for some address are those of an open sink exactly if they are a sink's
pub sink_formed : (a : ℕ) (w : Words) → well_formed a w ≡ true → open_sink w ≡ (flags_of w.flags).sink
unfolding open_sink
sink_formed a w e = rw ((formed a w e).address, e)

-- A mark leaves an open sink one: it may come before ageing, or after it.
words_marked : (k a : ℕ) (w : Words) (x : Faults) → well_formed a w ≡ true → aged_words k (marked_words w x) ≡ marked_words (aged_words k w) x
unfolding aged_words marked_words
words_marked k a w x e =
    rw (
      sink_formed a (marked_words w x) (marked_formed a w x e),
      flags_of_word (faulty (flags_of w.flags) x),
      sink_formed a w e,
    )
    (go (flags_of w.flags).sink)
  where
    go : (b : Bool)
        → cond b (with_age (min oldest (w.age + k)) (marked_words w x)) (marked_words w x)
        ≡ marked_words (cond b (with_age (min oldest (w.age + k)) w) w) x
    go true = refl
    go false = refl

-- a port's words written anew leave the areas their lengths
pub port_fits : (m : Areas) (p : ℕ) (w : Words) → areas_fit m ≡ true → areas_fit (with_port m p w) ≡ true
unfolding areas_fit tables_fit pages_fit
port_fits m p w f = rw (length_with m.ports p w) f

-- Ageing and a mark of a port with well formed words, in either order, leave the same areas.
pub aged_mark : (k : ℕ) (m : Areas) (a p : ℕ) (x : Faults) → areas_fit m ≡ true → p ≤ 255 → well_formed a (port_at m p) ≡ true
    → apply (mark p x) (aged k m) ≡ aged k (apply (mark p x) m)
unfolding apply aged
aged_mark k m a p x fits few well =
    let later = aged_ages k m fits in
    let w = marked_words (port_at m p) x in
    let long = length_with m.ports p w in
    let marked = port_fits m p w fits in
    areas_with m (aged k (with_port m p w)).ports (with_words (aged k m).ports p (marked_words (port_at (aged k m) p) x))
    (length_with (aged k m).ports p (marked_words (port_at (aged k m) p) x) ∙ later.long ∙ sym ((aged_ages k (with_port m p w) marked).long ∙ long))
    (λ q. by q (ℕ_discrete q p) ∙ sym (aged_any k (with_port m p w) marked q))
  where
    port_marked : (b : Bool)
        → marked_words (cond b (aged_words k (port_at m p)) (port_at m p)) x ≡ cond b (aged_words k (marked_words (port_at m p) x)) (marked_words (port_at m p) x)
    port_marked true = sym (words_marked k a (port_at m p) x well)
    port_marked false = refl

    by : (q : ℕ) → Dec (q ≡ p)
        → words_at (with_words (aged k m).ports p (marked_words (port_at (aged k m) p) x)) q
        ≡ aged_port k q (words_at (with_words m.ports p (marked_words (port_at m p) x)) q)
    by q (yes e) =
        rw (
          e,
          words_same (aged k m).ports p (marked_words (port_at (aged k m) p) x) (rw (aged_ages k m fits).long (room m fits p few)),
          words_same m.ports p (marked_words (port_at m p) x) (room m fits p few),
          aged_any k m fits p,
        )
        (port_marked (ltb 0 p && leb p 255))
    by q (no ne) =
        rw (
          words_other (aged k m).ports p q (marked_words (port_at (aged k m) p) x) ne,
          words_other m.ports p q (marked_words (port_at m p) x) ne,
        )
        (aged_any k m fits q)
