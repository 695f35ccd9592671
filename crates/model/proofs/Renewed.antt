-- What a host call does to the port that stands open at an address: it opens it anew, writes to it, or leaves it. By this goes all that is
-- kept for each port, as its age and its status bits. Assumes nothing.
use Prim.Native.Nat.{ℕ, ◌%◌}
use mathlib.Core.Path.{◌≡◌, refl, sym, ◌∙◌, ap, subst}
use mathlib.Core.Bool.{Bool, true, false, cond}
use mathlib.Core.List.{List, ◌∷◌}
use Rattle.std.specs.Prelude.{None, Some}
use Rattle.std.proofs.lemmas.Option.{none-some, same_Some}
use lib.Dec.{eqb}
use lib.ListN.{length}
use borrow.Author.Tests.{eqb-true, eqb-false, eq-eqb, ne_eqb}
use Rattle.model.specs.Layout.{Areas, entry, port_at}
use Rattle.model.specs.Ports.{well_formed, Standing, standing_of, standing, Effect, untouched, fill, mark, opened, closed}
use Rattle.model.specs.Calls.{Call, hear, quiet, open_port, close_port, write_port, read_port, setting, refusal, effect}
use Rattle.model.specs.Past.{opening as an_opening, keeps, opens, writes, change_of, happening, anew, after, Opening, opening_of, last_of, fillings}
use Rattle.model.specs.Differ.{Hosts}
use Rattle.model.proofs.Shape.{Valid, opening}
use Rattle.model.proofs.Formed.{formed_used}
use Rattle.model.proofs.Standings.{standing_at_lem, distinct}
use Rattle.model.proofs.ToldPort.{standing_with}
use Rattle.model.proofs.Invariant.{ToldBy}
use Rattle.model.proofs.Accepted.{valid_open, found_close, found_write, write_source}

-- an effect sets anew what is kept for port q: filling, opening and closing do
abbrev pub renews : Effect → ℕ → Bool
renews untouched q = false
renews (fill p ws) q = eqb q p
renews (mark p x) q = false
renews (opened a p code sink i limit) q = eqb q p
renews (closed a p) q = eqb q p

-- what stands where the past tells of an open port
abbrev pub open_standing : List Call → ℕ → Opening → Standing
open_standing past a o = standing_with o (last_of (fillings past a o)) (length (fillings past a o) % 65536)

-- what a host call is to the port that stands open at address a after it, by its opening o
pub data Renewal (past : List Call) (c : Call) (a : ℕ) (o : Opening) : Type 0 where
  -- it leaves the port, which stood open before it
  not_concerned : change_of (happening c) a ≡ keeps → opening_of past a ≡ Some o → renews (effect c (after past)) o.port ≡ false → Renewal past c a o
  -- it opens it
  opened_anew : {x : Opening} → change_of (happening c) a ≡ opens x → renews (effect c (after past)) o.port ≡ true → Renewal past c a o
  -- it writes to it, and it is a source
  written_to : {ws : List ℕ} → change_of (happening c) a ≡ writes ws → opening_of past a ≡ Some o → o.sink ≡ false
      → renews (effect c (after past)) o.port ≡ true → Renewal past c a o

module _ (past : List Call) (h : ToldBy past (after past)) where
  abbrev M : Areas
  M = (after past).areas

  shows : (a : ℕ) (o : Opening) → opening_of past a ≡ Some o → standing M a ≡ Some (open_standing past a o)
  shows a o e = h.holds.stands a ∙ rw e

  -- the port that stands at another address
  elsewhere : (a b : ℕ) (o : Opening) → opening_of past a ≡ Some o → eqb b a ≡ false → standing M b ≡ Some (standing_of M (entry M b))
      → eqb o.port (entry M b) ≡ false
  unfolding standing_of
  elsewhere a b o e ne there =
      ne_eqb _ _ (λ p. eqb-false b a ne (sym (distinct M a b (open_standing past a o) (standing_of M (entry M b)) (shows a o e) there p)))

  -- the port that stands at this one
  this_port : (a b : ℕ) (o : Opening) → opening_of past a ≡ Some o → eqb b a ≡ true → standing M b ≡ Some (standing_of M (entry M b))
      → open_standing past a o ≡ standing_of M (entry M b)
  this_port a b o e same there =
      same_Some _ _ (sym (shows a o e) ∙ ap (standing M) (sym (eqb-true b a same)) ∙ there)

  -- a free port stands at no address
  free_elsewhere : (a p : ℕ) (o : Opening) → opening_of past a ≡ Some o → (port_at M p).flags ≡ 0 → eqb o.port p ≡ false
  free_elsewhere a p o e unused =
      ne_eqb _ _ (λ i. formed_used a (port_at M p)
      (subst (λ (q : ℕ). well_formed a (port_at M q) ≡ true) i (standing_at_lem M a (open_standing past a o) (shows a o e)).formed) unused)

  -- An accepted host call opens the port of an address anew, writes to it, or leaves it.
  pub host_renews : (c : Call) → Hosts c → refusal c (after past) ≡ 0 → (a : ℕ) (o : Opening) → opening_of (c ∷ past) a ≡ Some o
      → Renewal past c a o
  unfolding opening_of effect standing_of
  host_renews (hear x y) host r a o e = absurd host
  host_renews (quiet n) host r a o e = absurd host
  host_renews (open_port b p code sink i limit) host r a o e = go (eqb b a) refl (valid_open b p code sink i limit (after past) r)
    where
      go : (k : Bool) → eqb b a ≡ k → Valid M (opened b p code sink i limit) → Renewal past (open_port b p code sink i limit) a o
      go true k ok =
          let same : Some (an_opening b p code sink i limit) ≡ Some o = rw k at e in
          opened_anew {x = an_opening b p code sink i limit} (rw k)
          (eq-eqb o.port p (sym (ap (λ (x : Opening). x.port) (same_Some _ _ same))))
      go false k (opening ha pos hp hc hi absent unused) =
          let before : opening_of past a ≡ Some o = rw k at e in
          not_concerned (rw k) before (free_elsewhere a p o before unused)
  host_renews (close_port b) host r a o e = go (eqb b a) refl
    where
      go : (k : Bool) → eqb b a ≡ k → Renewal past (close_port b) a o
      go true k = let gone : None ≡ Some o = rw k at e in absurd (none-some o gone)
      go false k =
          let before : opening_of past a ≡ Some o = rw k at e in
          not_concerned (rw k) before (elsewhere a b o before k (found_close b (after past) r))
  host_renews (write_port b ws) host r a o e = go (eqb b a) refl
    where
      go : (k : Bool) → eqb b a ≡ k → Renewal past (write_port b ws) a o
      go true k =
          let before : opening_of past a ≡ Some o = rw k at e in
          let here = this_port a b o before k (found_write b ws (after past) r) in
          written_to {ws = ws} (rw k) before (ap (λ (v : Standing). v.sink) here ∙ write_source b ws (after past) r)
          (eq-eqb o.port (entry M b) (ap (λ (v : Standing). v.port) here))
      go false k =
          let before : opening_of past a ≡ Some o = rw k at e in
          not_concerned (rw k) before (elsewhere a b o before k (found_write b ws (after past) r))
  host_renews (read_port b) host r a o e = not_concerned refl e refl
  host_renews (setting t) host r a o e = not_concerned refl e refl

-- What is kept for that port: `first` where the call opens or fills it, else what it was. So the past tells it after the call too, if it told
-- it before; of a source there is nothing but `first` to tell.
pub renewed : {A : Type 0} (first : A) (cap : A → A) → cap first ≡ first → (past : List Call) (c : Call) (a : ℕ) (o : Opening) → Renewal past c a o
    → (old since : A) → (opening_of past a ≡ Some o → old ≡ cond o.sink (cap since) first)
    → cond (renews (effect c (after past)) o.port) first old ≡ cond o.sink (cap (anew first (change_of (happening c) a) since)) first
renewed first cap capped past c a o (not_concerned keep before none_set) old since told = rw (keep, none_set) (told before)
renewed first cap capped past c a o (opened_anew opens-it set) old since told = rw (opens-it, set) (go o.sink)
  where
    go : (b : Bool) → first ≡ cond b (cap first) first
    go true = sym capped
    go false = refl
renewed first cap capped past c a o (written_to write before source set) old since told = rw (source, set)
