-- What the code leaves of a line, in the terms of the definitions. Assumes nothing.
use Rattle.std.proofs.Common.{min, ◌∷◌, suc-ne-zero, ℕ, ◌+◌, ◌<◌, ◌≤◌, ◌≡◌, refl, sym, ◌∙◌, ap, Bool, true, false, cond, List, [], ◌++◌, append-nil, arith, eqb-true, le-ltb, ltb-true, ltb-false, eqb, ltb, length, take, drop, length-append, take_at, take_all, length-take-le}
use Rattle.std.proofs.Math.Bool.{false≢true}
use Rattle.std.proofs.Math.Seq.{sets, sets-eq}
use Rattle.port_digits.specs.Read.{cut}
use Rattle.port_digits.specs.Write.{Paper, paper, onto, last_place}
use Rattle.port_digits.proofs.Pasting.{onto_more, written}
use Rattle.port_line.specs.Meaning.{State, Ended, Step, ended_by, misplaced, meaning}
use Rattle.port_run.specs.Printed.{line_in}
use Rattle.port_run.specs.Fed.{Feeding, feeding, Fed, fed_with, stop_text, worked, unended, part_fed, last_fed, Left, left_by}
use Rattle.port_run.proofs.Fed.{worked_over}

-- ---- a line that has ended

-- after it the number of its refusal is printed
abbrev pub after_line : Ended → Left
after_line x = left_by x.out (fed_with (stop_text x.refusal) (feeding x.next [] x.refusal))

-- so it is worked
pub line_worked : (room : ℕ) (l : List ℕ) (s : State) (p : Paper) {x : Ended} → x ≡ ended_by p (meaning (line_in room l) s)
    → after_line x ≡ left_by p (worked room l s)
unfolding worked
line_worked room l s p e =
    let y : Step = meaning (line_in room l) s in
    ap after_line e ∙ rw (onto_more p y.said (stop_text y.refusal))

-- one for which there is no room is refused
pub over_worked : (room : ℕ) (l : List ℕ) (s : State) (p : Paper) {x : Ended} → room < length l → x ≡ ended_by p (misplaced s)
    → after_line x ≡ left_by p (worked room l s)
unfolding onto
over_worked room l s p h e = ap after_line e ∙ rw (worked_over room l s h)

-- ---- a line that has not ended

-- bytes behind those that are in the buffer, where there is room for them
module _ (l t : List ℕ) (at n : ℕ) {k : List ℕ} (short : length l ≤ last_place) (h : at + length t ≤ length l)
    (e : paper k n ≡ onto (paper l at) t) where
  ends : paper k n ≡ paper (sets l at t) (cut last_place (at + length t))
  ends = e ∙ written l at t short (omega (arith, h, short))

  -- the place after them
  pub put_length : n ≡ at + length t
  put_length = ap (λ (p : Paper). p.at) ends ∙ rw (le-ltb last_place (at + length t) (omega (arith, h, short)))

  -- they stand behind the others
  pub put_behind : take n k ≡ take at l ++ t
  put_behind =
      let m : length (take at l ++ t) ≡ n = omega (arith, put_length, length-append (take at l) t, length-take-le at l (omega (arith, h))) in
      rw (ap (λ (p : Paper). p.text) ends, sets-eq t l at h)
      (take_at (take at l ++ t) (drop (at + length t) l) n m)

-- what is left of a line that has not ended, by whether it was refused
module _ (room : ℕ) (l : List ℕ) (s : State) (p : Paper) {x : Left} (e : x ≡ left_by p (unended room l s)) where
  -- without room for it, it was
  over_refused : x ≡ left_by p (worked room l s) → ltb room (length l) ≡ true → x.next.refusal ≡ 7
  over_refused k o = ap (λ (y : Left). y.next.refusal) k ∙ ap (λ (y : Fed). y.next.refusal) (worked_over room l s (ltb-true room (length l) o))

  -- one that was not waits for the rest of it
  pub waits : eqb x.next.refusal 0 ≡ true → x ≡ left_by p (fed_with [] (feeding s l 0))
  waits k = go (ltb room (length l)) refl e
    where
      go : (b : Bool) → ltb room (length l) ≡ b → x ≡ left_by p (cond b (worked room l s) (fed_with [] (feeding s l 0)))
          → x ≡ left_by p (fed_with [] (feeding s l 0))
      go true o z = absurd (let n = over_refused z o in let m = eqb-true x.next.refusal 0 k in omega (arith, n, m))
      go false o z = z

  -- one that was is worked
  pub refused : eqb x.next.refusal 0 ≡ false → x ≡ left_by p (worked room l s)
  refused k = go (ltb room (length l)) e
    where
      go : (b : Bool) → x ≡ left_by p (cond b (worked room l s) (fed_with [] (feeding s l 0))) → x ≡ left_by p (worked room l s)
      go true z = z
      go false z = absurd (false≢true (sym k ∙ ap (λ (y : Left). eqb y.next.refusal 0) z))

-- ---- the next part of a piece

-- a count that is cut to a list's length takes as much of the list
pub take_cut : (n k : ℕ) (l : List ℕ) → k ≡ min n (length l) → take k l ≡ take n l
take_cut n k l cut = go (ltb (length l) n) refl
  where
    go : (b : Bool) → ltb (length l) n ≡ b → take k l ≡ take n l
    go true e =
        let h : length l < n = ltb-true (length l) n e in
        take_all k l (omega (arith, cut, h)) ∙ sym (take_all n l (omega (arith, h)))
    go false e =
        let h : n ≤ length l = ltb-false (length l) n e in
        let m : k ≡ n = omega (arith, cut, h) in
        rw m

-- no byte is left
pub no_bytes : (t : List ℕ) → length t ≡ 0 → t ≡ []
no_bytes [] e = refl
no_bytes (c ∷ t) e = absurd (suc-ne-zero (length t) e)

-- ---- at the end

-- a line of which some byte has come ends there
pub last_ended : (room : ℕ) (f : Feeding) → eqb (length f.line) 0 ≡ false → part_fed room f [] true ≡ last_fed room f
last_ended room f e = rw (append-nil f.line, e)
