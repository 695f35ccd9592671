-- The port in doubt by its number and by its address: after every accepted run they are the same. Assumes nothing.
use Prim.Native.Nat.{ℕ, ◌%◌}
use mathlib.Core.Path.{◌≡◌, refl, sym, ◌∙◌, ap}
use mathlib.Core.Bool.{Bool, true, false, cond, not, ◌&&◌}
use mathlib.Core.List.{List, [], ◌∷◌, ◌++◌}
use Rattle.std.specs.Prelude.{Option, None, Some}
use native.Mathlib.Omega.{arith}
use lib.Dec.{eqb}
use lib.ListN.{length}
use borrow.Author.Tests.{eqb-true, eqb-false, eq-eqb, ne_eqb}
use Rattle.model.specs.Layout.{Areas, entry, port_at}
use Rattle.model.specs.Ports.{address_of, Standing, standing_of, standing, opened}
use Rattle.model.specs.Quiet.{is_some}
use Rattle.model.specs.Calls.{Call, hear, quiet, open_port, close_port, write_port, read_port, setting, refusal, effect}
use Rattle.model.specs.Past.{hears, passes, happening, Change, keeps, closes, writes, leaves, after, Accepted, on_trusted, is_slave}
use Rattle.model.specs.Past.{is_word, awaited, Opening, opening_of, last_of, fillings}
use Rattle.model.specs.Differ.{is_sink_of, sink_at, waiting_address, touches, finished_by, finishes, remains, doubtful}
use Rattle.model.specs.Differ.{ButStatus}
use Rattle.model.proofs.ToldPort.{standing_with}
use Rattle.model.proofs.Shape.{Valid, opening}
use Rattle.model.proofs.ButPort.{ButPort}
use Rattle.model.proofs.PortDoubt.{port_number, port_at_address, sink_open, waiting_port, over, finished, settle, doubtful_port}
use Rattle.model.proofs.Formed.{formed_used}
use Rattle.model.proofs.Standings.{standing_at_lem, distinct}
use Rattle.model.proofs.Alike.{at_entry}
use Rattle.model.proofs.Accepted.{valid_open, found_close, found_write}
use Rattle.model.proofs.Invariant.{ToldBy}
use Rattle.model.proofs.Told.{past_told}
use Rattle.model.proofs.Finishes.{entry_told, hear_concerns}

settle_none : (f : Option ℕ) → settle f None ≡ None
settle_none None = refl
settle_none (Some p) = refl

waiting_port_lem : (past : List Call) → port_at_address past (waiting_address past) ≡ waiting_port past
unfolding waiting_port waiting_address
waiting_port_lem past = go (awaited past 0)
  where
    go : (o : Option ℕ) → port_at_address past (sink_at past o) ≡ sink_open past o
    go None = refl
    go (Some w) = by (opening_of past (address_of w)) refl
      where
        by : (q : Option Opening) → opening_of past (address_of w) ≡ q → port_at_address past (sink_at past (Some w)) ≡ sink_open past (Some w)
        by None e = rw e
        by (Some q) e = rw e (on (eqb q.word w && q.sink))
          where
            on : (b : Bool) → port_at_address past (cond b (Some (address_of w)) None) ≡ cond b (Some q.port) None
            on true = rw e
            on false = refl

module _ (past : List Call) (h : ToldBy past (after past)) where
  abbrev M : Areas
  M = (after past).areas

  shown : ℕ → Opening → Standing
  shown a o = standing_with o (last_of (fillings past a o)) (length (fillings past a o) % 65536)

  shows : (a : ℕ) (o : Opening) → opening_of past a ≡ Some o → standing M a ≡ Some (shown a o)
  unfolding shown
  shows a o e = h.holds.stands a ∙ rw e

  same_number : (b a : ℕ) (q o : Opening) → opening_of past b ≡ Some q → opening_of past a ≡ Some o → eqb q.port o.port ≡ eqb b a
  unfolding shown
  same_number b a q o eq eo = go (eqb b a) refl
    where
      go : (c : Bool) → eqb b a ≡ c → eqb q.port o.port ≡ c
      go true e =
          let s : Some q ≡ Some o = sym eq ∙ ap (opening_of past) (eqb-true b a e) ∙ eo in
          let w : q ≡ o = cc in
          eq-eqb _ _ (ap (λ (x : Opening). x.port) w)
      go false e = ne_eqb _ _ (λ p. eqb-false b a e (distinct M b a (shown b q) (shown a o) (shows b q eq) (shows a o eo) p))

  -- the port at address b is concerned
  one_address : (b a : ℕ) (q : Opening) → opening_of past b ≡ Some q
      → cond (eqb b a) None (port_number (opening_of past a)) ≡ settle (Some q.port) (port_number (opening_of past a))
  one_address b a q e = go (opening_of past a) refl
    where
      go : (o : Option Opening) → opening_of past a ≡ o → cond (eqb b a) None (port_number o) ≡ settle (Some q.port) (port_number o)
      go None i = by (eqb b a)
        where
          by : (c : Bool) → ◌≡◌ {A = Option ℕ} (cond c None None) None
          by true = refl
          by false = refl
      go (Some o) i = rw (same_number b a q o e i)

  -- the port that waits is concerned, if k
  if_waiting : (k : Bool) (a : ℕ)
      → port_at_address past (cond (k && is_word (waiting_address past) a) None (Some a)) ≡ settle (cond k (waiting_port past) None) (port_number (opening_of past a))
  unfolding waiting_port waiting_address
  if_waiting false a = refl
  if_waiting true a = go (awaited past 0)
    where
      numbers : (c : Bool) → port_at_address past (cond c None (Some a)) ≡ cond c None (port_number (opening_of past a))
      numbers true = refl
      numbers false = refl

      go : (o : Option ℕ)
          → port_at_address past (cond (is_word (sink_at past o) a) None (Some a)) ≡ settle (sink_open past o) (port_number (opening_of past a))
      go None = refl
      go (Some w) = by (opening_of past (address_of w)) refl
        where
          by : (q : Option Opening) → opening_of past (address_of w) ≡ q
              → port_at_address past (cond (is_word (cond (is_sink_of w q) (Some (address_of w)) None) a) None (Some a))
              ≡ settle (sink_open past (Some w)) (port_number (opening_of past a))
          by None e = rw e
          by (Some q) e = rw e (on (eqb q.word w && q.sink))
            where
              on : (b : Bool) → port_at_address past (cond (is_word (cond b (Some (address_of w)) None) a) None (Some a))
                  ≡ settle (cond b (Some q.port) None) (port_number (opening_of past a))
              on true = numbers (eqb (address_of w) a) ∙ one_address (address_of w) a q e
              on false = refl

  -- address b alone changes
  at_one : (b a : ℕ) (x : Change) → touches x ≡ true
      → (c : Bool) → eqb b a ≡ c
      → cond {A = Option ℕ} (touches (cond c x keeps)) None (port_number (leaves (cond c x keeps) (opening_of past a)))
      ≡ cond c None (port_number (opening_of past a))
  at_one b a x t true e = rw t
  at_one b a x t false e = refl

  touched : (b a : ℕ) (x : Change) → touches x ≡ true
      → (past' : List Call) → opening_of past' a ≡ leaves (cond (eqb b a) x keeps) (opening_of past a)
      → port_at_address past' (cond (touches (cond (eqb b a) x keeps)) None (Some a)) ≡ cond (eqb b a) None (port_number (opening_of past a))
  touched b a x t past' e = numbers (touches (cond (eqb b a) x keeps)) ∙ rw e (at_one b a x t (eqb b a) refl)
    where
      numbers : (c : Bool) → port_at_address past' (cond c None (Some a)) ≡ cond c None (port_number (opening_of past' a))
      numbers true = refl
      numbers false = refl

  -- the port that stands at address b, by its number
  by_number : (b a : ℕ) → standing M b ≡ Some (standing_of M (entry M b))
      → cond (eqb b a) None (port_number (opening_of past a)) ≡ settle (Some (entry M b)) (port_number (opening_of past a))
  by_number b a e = go (opening_of past b) refl (entry_told past M h.holds.stands b e)
    where
      go : (o : Option Opening) → opening_of past b ≡ o → port_number o ≡ Some (entry M b)
          → cond (eqb b a) None (port_number (opening_of past a)) ≡ settle (Some (entry M b)) (port_number (opening_of past a))
      go None i z = let y : ◌≡◌ {A = ℕ} 0 1 = cc in absurd (omega arith)
      go (Some q) i z = let p : entry M b ≡ q.port = cc in rw p (one_address b a q i)

  -- a free address and a free port
  by_free : (b p a : ℕ) → entry M b ≡ 0 → (port_at M p).flags ≡ 0
      → cond (eqb b a) None (port_number (opening_of past a)) ≡ settle (Some p) (port_number (opening_of past a))
  unfolding shown
  by_free b p a free unused = go (opening_of past a) refl
    where
      go : (o : Option Opening) → opening_of past a ≡ o → cond (eqb b a) None (port_number o) ≡ settle (Some p) (port_number o)
      go None i = by (eqb b a)
        where
          by : (c : Bool) → ◌≡◌ {A = Option ℕ} (cond c None None) None
          by true = refl
          by false = refl
      go (Some o) i =
          let s = standing_at_lem M a (shown a o) (shows a o i) in
          let elsewhere : b ≡ a → ⊥ = λ e. let z : entry M a ≡ 0 = ap (entry M) (sym e) ∙ free in omega (arith, s.port, s.positive) in
          let other : p ≡ o.port → ⊥ = λ e. formed_used a (port_at M o.port) s.formed (rw (← e) unused) in
          rw (ne_eqb b a elsewhere, ne_eqb p o.port other)

  same_place : (past' : List Call) (a : ℕ) (c : Bool) → opening_of past' a ≡ opening_of past a
      → port_at_address past' (cond c None (Some a)) ≡ port_at_address past (cond c None (Some a))
  same_place past' a true e = refl
  same_place past' a false e = ap port_number e

  -- each call: the port in doubt after it is the port at the address in doubt after it
  step_number : (c : Call) → refusal c (after past) ≡ 0 → (x : Option ℕ)
      → port_at_address (c ∷ past) (remains (finished_by past (happening c)) x) ≡ settle (finished past c) (port_at_address past x)
  unfolding finished effect opening_of finishes
  step_number c r None = sym (settle_none (finished past c))
  step_number (hear x y) r (Some a) =
      same_place (hear x y ∷ past) a (finished_by past (hears x y) a) refl ∙ if_waiting (is_slave (on_trusted past x y).kind) a
      ∙ ap (λ (f : Option ℕ). settle f (port_number (opening_of past a))) (hear_concerns past h x y)
  step_number (quiet n) r (Some a) = same_place (quiet n ∷ past) a (finished_by past (passes n) a) refl ∙ go (awaited past n)
    where
      go : (o : Option ℕ) → port_at_address past (cond (not (is_some o) && is_word (waiting_address past) a) None (Some a)) ≡ settle (over o (waiting_port past)) (port_number (opening_of past a))
      go None = if_waiting true a
      go (Some w) = refl
  step_number (open_port b p code sink i limit) r (Some a) = go (valid_open b p code sink i limit (after past) r)
    where
      go : Valid M (opened b p code sink i limit)
          → port_at_address (open_port b p code sink i limit ∷ past) (remains (finished_by past (happening (open_port b p code sink i limit))) (Some a))
          ≡ settle (Some p) (port_number (opening_of past a))
      go (opening ha pos hp hc hi free unused) = touched b a _ refl (open_port b p code sink i limit ∷ past) refl ∙ by_free b p a free unused
  step_number (close_port b) r (Some a) = touched b a closes refl (close_port b ∷ past) refl ∙ by_number b a (found_close b (after past) r)
  step_number (write_port b ws) r (Some a) =
      touched b a (writes ws) refl (write_port b ws ∷ past) refl ∙ by_number b a (found_write b ws (after past) r)
  step_number (read_port b) r (Some a) = refl
  step_number (setting t) r (Some a) = refl

  -- a port stands at one address alone
  pub here_alone : (x : Option ℕ) (a : ℕ) → port_at_address past x ≡ Some (entry M a) → x ≡ Some a
  unfolding shown standing_of
  here_alone None a e = let y : ◌≡◌ {A = ℕ} 0 1 = cc in absurd (omega arith)
  here_alone (Some b) a e = go (opening_of past b) refl e
    where
      go : (o : Option Opening) → opening_of past b ≡ o → port_number o ≡ Some (entry M a) → Some b ≡ Some a
      go None i z = let y : ◌≡◌ {A = ℕ} 0 1 = cc in absurd (omega arith)
      go (Some q) i z =
          let p : q.port ≡ entry M a = cc in
          let s = standing_at_lem M b (shown b q) (shows b q i) in
          let there = at_entry M a h.holds.shape (λ n. omega (arith, p, n, s.positive)) in
          ap Some (distinct M b a (shown b q) (standing_of M (entry M a)) (shows b q i) there p)

  -- what differs in status bits of the port at an address, by its number, differs so by its address
  pub at_address : (x : Option ℕ) (n : Areas) → ButPort (port_at_address past x) M n → ButStatus x M n
  unfolding shown
  at_address x n b =
      record {
        only = b.only;
        same = λ p away. b.same p (other x p away);
      }
    where
      other : (x : Option ℕ) (p : ℕ) → ((a : ℕ) → x ≡ Some a → entry M a ≡ p → ⊥) → port_at_address past x ≡ Some p → ⊥
      other None p away e = let y : ◌≡◌ {A = ℕ} 0 1 = cc in omega arith
      other (Some a) p away e = go (opening_of past a) refl e
        where
          go : (o : Option Opening) → opening_of past a ≡ o → port_number o ≡ Some p → ⊥
          go None i z = let y : ◌≡◌ {A = ℕ} 0 1 = cc in omega arith
          go (Some q) i z =
              let number : q.port ≡ p = cc in
              away a refl (sym (standing_at_lem M a (shown a q) (shows a q i)).port ∙ number)

-- So after every accepted run the port in doubt is the one at the address in doubt.
by_address : (past : List Call) (x : Option ℕ) (calls : List Call) → Accepted (calls ++ past)
    → port_at_address (calls ++ past) (doubtful past x calls) ≡ doubtful_port past (port_at_address past x) calls
unfolding doubtful_port doubtful finishes
by_address past x [] acc = refl
by_address past x (c ∷ calls) acc =
    step_number (calls ++ past) (past_told (calls ++ past) acc.2) c acc.1 (doubtful past x calls)
    ∙ ap (settle (finished (calls ++ past) c)) (by_address past x calls acc.2)

-- So from the port that waited on, the port in doubt is the one at the address in doubt.
pub waiting_address_lem : (before calls : List Call) → Accepted (calls ++ before)
    → port_at_address (calls ++ before) (doubtful before (waiting_address before) calls) ≡ doubtful_port before (waiting_port before) calls
waiting_address_lem before calls acc =
    by_address before (waiting_address before) calls acc ∙ ap (λ (o : Option ℕ). doubtful_port before o calls) (waiting_port_lem before)
