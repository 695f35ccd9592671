-- The parts of a piece: each goes up to a newline and with it, or to the end of the piece. Assumes nothing.
use Rattle.std.proofs.Common.{ℕ, suc, zero, ◌+◌, ◌-◌, ◌<◌, ◌≤◌, ◌≡◌, refl, sym, ◌∙◌, ap, Bool, true, false, ◌&&◌, cond, List, [], ◌∷◌, ◌++◌, append-nil, append_assoc, arith, eqb, eqb-true, ltb, ltb-true, ltb-false, min, length, take, drop, length-append, take_all, take_at}
use Rattle.std.proofs.Math.Bool.{false≢true}
use Rattle.std.specs.Prelude.{get_or}
use lib.Pointwise.{pointwise}
use Rattle.std.specs.List.{IsFirstMatchOrLen}
use Rattle.port_digits.specs.Marks.{newline}
use Rattle.port_digits.specs.Cut.{text_before, text_after, has}
use Rattle.port_digits.proofs.Cutting.{lacks, before_joined, after_joined}
use Rattle.port_digits.specs.Write.{Paper}
use Rattle.port_digits.proofs.Pasting.{onto_more}
use Rattle.port_run.specs.Fed.{Feeding, fed, part_fed, Left, left_by}
use Rattle.port_run.proofs.Fed.{part_next}
use Rattle.port_run.proofs.Leaving.{no_bytes}

-- before the first newline there is none
none_before : (t : List ℕ) (n : ℕ) → ((k d : ℕ) → k < n → eqb (get_or t k d) newline ≡ false) → n ≤ length t → has newline (take n t) ≡ false
unfolding has
none_before t zero h m = refl
none_before [] (suc n) h m = absurd (omega (arith, m))
none_before (c ∷ t) (suc n) h m =
    rw (h 0 0 (omega arith)) (none_before t n (λ k d l. h (suc k) d (omega (arith, l))) (omega (arith, m)))

-- a text with a newline in it has one
has_joined : (t u : List ℕ) → has newline (t ++ newline ∷ u) ≡ true
unfolding has
has_joined [] u = refl
has_joined (c ∷ t) u = go (eqb c newline) (has_joined t u)
  where
    go : (e : Bool) → has newline (t ++ newline ∷ u) ≡ true → cond e true (has newline (t ++ newline ∷ u)) ≡ true
    go true h = refl
    go false h = h

-- a text without a newline ends no line
before_none : (t : List ℕ) → has newline t ≡ false → (text_before newline t ≡ t) × (text_after newline t ≡ [])
unfolding text_before text_after
before_none [] h = (refl, refl)
before_none (c ∷ t) h =
    let l = lacks newline c t h in
    let m = before_none t l.1 in
    rw l.0 (ap (λ (u : List ℕ). c ∷ u) m.0, m.1)

-- the byte behind a text
at_end : (t u : List ℕ) (c : ℕ) → get_or (t ++ c ∷ u) (length t) 0 ≡ c
at_end [] u c = refl
at_end (d ∷ t) u c = at_end t u c

-- the last byte of a text stands behind the others
last_of : (t : List ℕ) (n : ℕ) → n + 1 ≡ length t → (c : ℕ) × (t ≡ take n t ++ c ∷ []) × (drop n t ≡ c ∷ [])
last_of [] n e = absurd (omega (arith, e))
last_of (c ∷ t) zero e = rw (no_bytes t (omega (arith, e))) (c, refl, refl)
last_of (c ∷ t) (suc n) e = let r = last_of t n (omega (arith, e)) in (r.0, ap (λ (u : List ℕ). c ∷ u) r.1, r.2)

and_true : (a : Bool) → (a && true) ≡ a
and_true true = refl
and_true false = refl

-- a part x of the text t, and the rest of it
module _ (t x rest : List ℕ) (i : ℕ) (whole : t ≡ x ++ rest) (long : length x ≡ min (i + 1) (length t))
    (first : IsFirstMatchOrLen (λ (c : ℕ). eqb c newline) t i) where
  -- one that ends with a newline has no other
  ended : (text : List ℕ) → x ≡ text ++ newline ∷ [] → (has newline text ≡ false) × (t ≡ text ++ newline ∷ rest)
  ended text e =
      let split : t ≡ text ++ newline ∷ rest = whole ∙ rw (e, append_assoc text (newline ∷ []) rest) in
      let n : length x ≡ length text + 1 = ap length e ∙ length-append text (newline ∷ []) in
      let m : length t ≡ length x + length rest = ap length whole ∙ length-append x rest in
      let within : length text ≤ length t = omega (arith, n, m) in
      let front : take (length text) t ≡ text = rw split (take_at text (newline ∷ rest) (length text) refl) in
      (rw front at (none_before t (length text) (λ k d l. first.0 k d (omega arith) (omega (arith, l, n, long))) within), split)

  -- so it ends a line
  pub part_ended : (room : ℕ) (f : Feeding) (p : Paper) (text : List ℕ) {y : Left}
      → pointwise eqb (drop (length x - 1) x) (newline ∷ []) ≡ true → text ≡ take (length x - 1) x → length text + 1 ≡ length x
      → length f.line ≤ room → y ≡ left_by p (part_fed room f text true)
      → left_by y.out (fed room y.next rest) ≡ left_by p (fed room f t)
  part_ended room f p text {y} same cut one short z =
      let last = last_of x (length x - 1) (omega (arith, one)) in
      let c : last.0 ≡ newline = eqb-true last.0 newline (sym (and_true (eqb last.0 newline)) ∙ rw last.2 at same) in
      let n = ended text (last.1 ∙ rw (c, cut)) in
      let w = part_fed room f text true in
      let before : text_before newline t ≡ text = rw n.1 (before_joined newline text rest n.0) in
      let after : text_after newline t ≡ rest = rw n.1 (after_joined newline text rest n.0) in
      let ends : has newline t ≡ true = rw n.1 (has_joined text rest) in
      rw (part_next room f t short, before, after, ends)
      (ap (λ (v : Left). left_by v.out (fed room v.next rest)) z ∙ rw (onto_more p w.said (fed room w.next rest).said))

  -- one that does not is all of the text
  unended : (text : List ℕ) (c : ℕ) → x ≡ text ++ c ∷ [] → eqb c newline ≡ false → (has newline t ≡ false) × (x ≡ t) × (rest ≡ [])
  unended text c e other = go (ltb i (length t)) refl
    where
      n : length x ≡ length text + 1
      n = ap length e ∙ length-append text (c ∷ [])

      m : length t ≡ length x + length rest
      m = ap length whole ∙ length-append x rest

      go : (b : Bool) → ltb i (length t) ≡ b → (has newline t ≡ false) × (x ≡ t) × (rest ≡ [])
      go true h =
          let k : i < length t = ltb-true i (length t) h in
          let place : i ≡ length text = omega (arith, k, long, n) in
          let split : t ≡ text ++ c ∷ rest = whole ∙ rw (e, append_assoc text (c ∷ []) rest) in
          let found : get_or t i 0 ≡ c = rw (place, split) (at_end text rest c) in
          absurd (false≢true (sym other ∙ rw found at (first.1 k 0)))
      go false h =
          let k : length t ≤ i = ltb-false i (length t) h in
          let none : rest ≡ [] = no_bytes rest (omega (arith, k, long, m)) in
          let all : has newline (take (length t) t) ≡ false = none_before t (length t) (λ j d l. first.0 j d (omega arith) (omega (arith, k, l))) (omega arith) in
          (rw (take_all (length t) t (omega arith)) at all, sym (rw (none, append-nil x) at whole), none)

  -- so it waits for the rest of its line
  pub part_unended : (room : ℕ) (f : Feeding) (p : Paper) {y : Left} → 0 < length t
      → pointwise eqb (drop (length x - 1) x) (newline ∷ []) ≡ false → length f.line ≤ room → y ≡ left_by p (part_fed room f x false)
      → left_by y.out (fed room y.next rest) ≡ left_by p (fed room f t)
  part_unended room f p {y} some differs short z =
      let last = last_of x (length x - 1) (omega (arith, some, long)) in
      let other : eqb last.0 newline ≡ false = sym (and_true (eqb last.0 newline)) ∙ rw last.2 at differs in
      let n = unended (take (length x - 1) x) last.0 last.1 other in
      let w = part_fed room f x false in
      let before : text_before newline t ≡ x = (before_none t n.0).0 ∙ sym n.1 in
      let after : text_after newline t ≡ rest = (before_none t n.0).1 ∙ sym n.2 in
      rw (part_next room f t short, before, after, n.0)
      (ap (λ (v : Left). left_by v.out (fed room v.next rest)) z ∙ rw (onto_more p w.said (fed room w.next rest).said))
