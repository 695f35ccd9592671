-- Which bus events fill a port: exactly those in which a sound slave frame answers the master word of an open sink. Assumes nothing.
use Prim.Native.Nat.{ℕ}
use mathlib.Core.Path.{◌≡◌, refl, sym, ◌∙◌, ap}
use mathlib.Core.Bool.{Bool, true, false, cond, ◌&&◌, true≢false, false≢true, and-false, and-eq-true_iff}
use mathlib.Core.List.{List, ◌∷◌}
use Rattle.std.specs.Prelude.{Option, None, Some}
use native.Mathlib.Decide.{ℕ_discrete}
use lib.Dec.{eqb}
use lib.ListN.{length}
use borrow.Author.Tests.{eqb-true, eq-eqb, ne_eqb, le-leb}
use Rattle.frames.specs.declared.Kind.{Kind}
use Rattle.frames.specs.declared.Kind.TheVariants.{Silence, Noise, Master as MasterFrame, Slave as SlaveFrame}
use Rattle.frames.specs.declared.Hearing.{Hearing}
use Rattle.frames.specs.declared.Judgement.{Judgement}
use Rattle.frames.specs.declared.Wrong.{Wrong}
use Rattle.frames.specs.declared.Judgement.TheVariants.{Sound, Unsound as Bad}
use Rattle.frames.specs.Hearing.{words_of}
use Rattle.frames.specs.Judge.{judged_master, judged_slave, is_sound}
use Rattle.interrupts.specs.Names.{SFC}
use Rattle.model.specs.declared.Exchange.{Exchange}
use Rattle.model.specs.declared.Exchange.TheVariants.{Idle, Waiting, Done}
use Rattle.model.specs.declared.Times.{Times}
use Rattle.model.specs.Layout.{Areas}
use Rattle.model.specs.Ports.{code_of, address_of, Standing, standing, view_of, viewed, refilled, Effect, untouched, fill, mark, opened, closed}
use Rattle.model.specs.Ports.{apply}
use Rattle.model.specs.declared.Heard.TheVariants.{Reply}
use Rattle.model.specs.Event.{interrupt_of, as_master, as_heard, port_for, sink_for, taken}
use Rattle.model.specs.Taken.{still, marks, Took, takes, spares}
use Rattle.model.specs.Past.{is_slave, is_word, taken_if}
use Rattle.model.proofs.Shape.{Shape, Valid, nothing, refill, standing_after}
use Rattle.model.proofs.Tables.{raised0, effect_of}
use Rattle.model.proofs.Standings.{standing_at_lem, distinct}
use Rattle.model.proofs.ShapeKept.{standing_apply}
use Rattle.model.proofs.Accepted.{nowhere, Sink, sink_open_lem, valid_taken}
use Rattle.model.proofs.Waits.{wait_now, Live, waits_now}

-- a frame of this kind is a sound answer to w, where o is waited for
abbrev sound_answer : Kind → Option ℕ → Hearing → ℕ → Bool
sound_answer k o h w = is_slave k && is_word o w && is_sound (judged_slave (code_of w) h)

-- what stands at an address, if the sinks whose master word passes the test take these words
abbrev pub taken_by : (ℕ → Bool) → List ℕ → Option Standing → Option Standing
taken_by f ws None = None
taken_by f ws (Some v) = Some (cond (v.sink && f v.word) (refill ws v) v)

-- and what the address shows
pub taken_viewed : (f : ℕ → Bool) (ws : List ℕ) (o : Option Standing) → viewed (taken_by f ws o) ≡ taken_if f ws (viewed o)
taken_viewed f ws None = refl
taken_viewed f ws (Some v) = go (v.sink && f v.word)
  where
    go : (b : Bool) → Some (view_of (cond b (refill ws v) v)) ≡ Some (cond b (refilled ws (view_of v)) (view_of v))
    go true = refl
    go false = refl

-- where no word passes, nothing is taken
none_taken : (f : ℕ → Bool) (ws : List ℕ) (o : Option Standing) → ((w : ℕ) → f w ≡ false) → o ≡ taken_by f ws o
none_taken f ws None h = refl
none_taken f ws (Some v) h = rw (h v.word, and-false v.sink)

-- the sink that stands open for a word is the one that is found for it
pub sink_found : (m : Areas) (a : ℕ) (v : Standing) → standing m a ≡ Some v → v.sink ≡ true → sink_for m v.word ≡ Some v
unfolding port_for
sink_found m a v e k =
    let at = standing_at_lem m a v e in
    rw (le-leb (code_of v.word) 4 at.code, at.address, e, eq-eqb v.word v.word refl, k)

-- no sink is found for w: then none with this word is open
pub none_found : (m : Areas) (w : ℕ) → sink_for m w ≡ None → (a : ℕ) (v : Standing) → standing m a ≡ Some v → (v.sink && eqb w v.word) ≡ false
none_found m w n a v e = go v.sink (eqb w v.word) refl refl
  where
    go : (b c : Bool) → v.sink ≡ b → eqb w v.word ≡ c → (b && c) ≡ false
    go true true eb ec = absurd (nowhere (sym n ∙ ap (sink_for m) (eqb-true _ _ ec) ∙ sink_found m a v e eb))
    go true false eb ec = refl
    go false c eb ec = refl

-- the sink u is found for w: it is the one port that stands open as a sink with this word
pub found_port : (m : Areas) (w : ℕ) (u : Standing) → sink_for m w ≡ Some u → (a : ℕ) (v : Standing) → standing m a ≡ Some v
    → eqb v.port u.port ≡ (v.sink && eqb w v.word)
found_port m w u found a v e = go (ℕ_discrete v.port u.port)
  where
    at : Sink m w u
    at = sink_open_lem m w u found

    go : Dec (v.port ≡ u.port) → eqb v.port u.port ≡ (v.sink && eqb w v.word)
    go (yes p) =
        let here : a ≡ address_of w = distinct m a (address_of w) v u e at.there p in
        let seen : Some v ≡ Some u = sym e ∙ ap (standing m) here ∙ at.there in
        let same : v ≡ u = cc in
        rw (eq-eqb _ _ p, ap (λ (x : Standing). x.sink) same ∙ at.sink, ap (λ (x : Standing). x.word) same ∙ at.word, eq-eqb w w refl)
    go (no n) = rw (ne_eqb _ _ n) (sym (other v.sink (eqb w v.word) refl refl))
      where
        other : (b c : Bool) → v.sink ≡ b → eqb w v.word ≡ c → (b && c) ≡ false
        other true true eb ec =
            let q : Some u ≡ Some v = sym found ∙ ap (sink_for m) (eqb-true _ _ ec) ∙ sink_found m a v e eb in
            let z : u ≡ v = cc in
            absurd (n (sym (ap (λ (x : Standing). x.port) z)))
        other true false eb ec = refl
        other false c eb ec = refl

module _ (m : Areas) (h : Hearing) (w : ℕ) where
  -- the words that pass while w is waited for
  passes : ℕ → Bool
  passes v = eqb w v && is_sound (judged_slave (code_of v) h)

  unsound_passes : {wrong : Wrong} → judged_slave (code_of w) h ≡ Bad wrong → (v : ℕ) → passes v ≡ false
  unfolding passes
  unsound_passes e v = go (eqb w v) refl
    where
      go : (b : Bool) → eqb w v ≡ b → (b && is_sound (judged_slave (code_of v) h)) ≡ false
      go true eb = rw (← (eqb-true w v eb), e)
      go false eb = refl

  -- no sink is found for w: then none whose word passes is open
  none_open : sink_for m w ≡ None → (a : ℕ) (v : Standing) → standing m a ≡ Some v → (v.sink && passes v.word) ≡ false
  unfolding passes
  none_open n a v e =
      go v.sink (eqb w v.word) (none_found m w n a v e)
    where
      go : (b c : Bool) → (b && c) ≡ false → (b && (c && is_sound (judged_slave (code_of v.word) h))) ≡ false
      go true true f = absurd (true≢false f)
      go true false f = refl
      go false c f = refl

  -- the sink u is found for w: it is the one port that takes the frame
  module _ (u : Standing) (found : sink_for m w ≡ Some u) (sound : judged_slave (code_of w) h ≡ Sound) where
    one_port : (a : ℕ) (v : Standing) → standing m a ≡ Some v → eqb v.port u.port ≡ (v.sink && passes v.word)
    unfolding passes
    one_port a v e = found_port m w u found a v e ∙ ap (λ (b : Bool). v.sink && b) (go (eqb w v.word) refl)
      where
        go : (c : Bool) → eqb w v.word ≡ c → c ≡ (c && is_sound (judged_slave (code_of v.word) h))
        go true ec = rw (← (eqb-true w v.word ec), sound)
        go false ec = refl

  -- while w is waited for, a slave frame is taken by the sinks whose word passes
  while_waiting : Shape m → length h.words ≡ 16 → (a : ℕ)
      → standing (apply (taken (sink_for m w) (judged_slave (code_of w) h) h) m) a ≡ taken_by passes (words_of h) (standing m a)
  while_waiting shape l a =
      standing_apply (taken (sink_for m w) (judged_slave (code_of w) h) h) m a shape (valid_taken m w h (judged_slave (code_of w) h) l refl)
      ∙ go (sink_for m w) refl (judged_slave (code_of w) h) refl (standing m a) refl
    where
      go : (o : Option Standing) → sink_for m w ≡ o → (j : Judgement) → judged_slave (code_of w) h ≡ j → (x : Option Standing) → standing m a ≡ x
          → standing_after (taken o j h) a x ≡ taken_by passes (words_of h) x
      go o eo j ej None ex = blank o j
        where
          blank : (o : Option Standing) (j : Judgement) → standing_after (taken o j h) a None ≡ None
          blank None j = refl
          blank (Some u) Sound = refl
          blank (Some u) (Bad wrong) = refl
      go None eo j ej (Some v) ex = rw (none_open eo a v ex)
      go (Some u) eo Sound ej (Some v) ex = rw (one_port u eo ej a v ex)
      go (Some u) eo (Bad wrong) ej (Some v) ex = none_taken passes (words_of h) (Some v) (unsound_passes ej)

-- A slave frame is taken exactly when it is a sound answer to the master word of an open sink; no other frame is seen at any address.
pub taken_exactly : (m : Areas) → Shape m → (h : Hearing) → length h.words ≡ 16 → (k : Kind) (x : Exchange) (t : Times) → Live x t
    → (a : ℕ)
    → standing (apply (effect_of m (as_heard k x h) h) m) a ≡ taken_by (sound_answer k (wait_now x t 0) h) (words_of h) (standing m a)
unfolding apply passes
taken_exactly m s h l Silence x t v a = none_taken _ (words_of h) (standing m a) (λ w. refl)
taken_exactly m s h l Noise x t v a = none_taken _ (words_of h) (standing m a) (λ w. refl)
taken_exactly m s h l MasterFrame x t v a = go (judged_master h)
  where
    go : (j : Judgement)
        → standing (apply (effect_of m (as_master j h) h) m) a ≡ taken_by (sound_answer MasterFrame (wait_now x t 0) h) (words_of h) (standing m a)
    go Sound = none_taken _ (words_of h) (standing m a) (λ w. refl)
    go (Bad wrong) = none_taken _ (words_of h) (standing m a) (λ w. refl)
taken_exactly m s h l SlaveFrame Idle t v a = none_taken _ (words_of h) (standing m a) (λ w. refl)
taken_exactly m s h l SlaveFrame Done t v a = none_taken _ (words_of h) (standing m a) (λ w. refl)
taken_exactly m s h l SlaveFrame (Waiting w) t v a = rw (waits_now w t v) (while_waiting m h w s l a)

-- an effect fills port q
abbrev pub fills_port : Effect → ℕ → Bool
fills_port untouched q = false
fills_port (fill p ws) q = eqb q p
fills_port (mark p x) q = false
fills_port (opened a p code sink i limit) q = false
fills_port (closed a p) q = false

-- So the port of an address is filled exactly when it is a sink whose master word is soundly answered.
pub fills_exactly : (m : Areas) (h : Hearing) (k : Kind) (x : Exchange) (t : Times) → Live x t → (a : ℕ) (v : Standing) → standing m a ≡ Some v
    → fills_port (effect_of m (as_heard k x h) h) v.port ≡ (v.sink && sound_answer k (wait_now x t 0) h v.word)
unfolding passes
fills_exactly m h Silence x t l a v e = sym (and-false v.sink)
fills_exactly m h Noise x t l a v e = sym (and-false v.sink)
fills_exactly m h MasterFrame x t l a v e = go (judged_master h) ∙ sym (and-false v.sink)
  where
    go : (j : Judgement) → fills_port (effect_of m (as_master j h) h) v.port ≡ false
    go Sound = refl
    go (Bad wrong) = refl
fills_exactly m h SlaveFrame Idle t l a v e = sym (and-false v.sink)
fills_exactly m h SlaveFrame Done t l a v e = sym (and-false v.sink)
fills_exactly m h SlaveFrame (Waiting w) t l a v e = rw (waits_now w t l) (go (sink_for m w) refl (judged_slave (code_of w) h) refl)
  where
    go : (o : Option Standing) → sink_for m w ≡ o → (j : Judgement) → judged_slave (code_of w) h ≡ j
        → fills_port (taken o j h) v.port ≡ (v.sink && passes m h w v.word)
    go None eo j ej = sym (none_open m h w eo a v e)
    go (Some u) eo Sound ej = one_port m h w u eo ej a v e
    go (Some u) eo (Bad wrong) ej = sym (ap (λ (b : Bool). v.sink && b) (unsound_passes m h w ej v.word) ∙ and-false v.sink)

-- What a bus event does to the areas is valid.
pub valid_heard : (m : Areas) (h : Hearing) → length h.words ≡ 16 → (k : Kind) (x : Exchange) → Valid m (effect_of m (as_heard k x h) h)
valid_heard m h l Silence x = nothing
valid_heard m h l Noise x = nothing
valid_heard m h l MasterFrame x = go (judged_master h)
  where
    go : (j : Judgement) → Valid m (effect_of m (as_master j h) h)
    go Sound = nothing
    go (Bad wrong) = nothing
valid_heard m h l SlaveFrame Idle = nothing
valid_heard m h l SlaveFrame Done = nothing
valid_heard m h l SlaveFrame (Waiting w) = valid_taken m w h (judged_slave (code_of w) h) l refl

-- ---- the same of the effect itself: it fills the sink whose master word is answered, or no sink's is and status bits alone change

module _ (m : Areas) (h : Hearing) where
  -- a slave frame, while w is waited for, fills the sink with w if it is sound; else status bits alone change
  pub waiting_took : (w : ℕ) → Took (sound_answer SlaveFrame (Some w) h) m h (taken (sink_for m w) (judged_slave (code_of w) h) h)
  unfolding passes
  waiting_took w = go (sink_for m w) refl (judged_slave (code_of w) h) refl
    where
      open_sink_lem : sink_for m w ≡ None → (a : ℕ) (v : Standing) → standing m a ≡ Some v → v.sink ≡ true → passes m h w v.word ≡ false
      open_sink_lem n a v e k = rw k at (none_open m h w n a v e)

      go : (o : Option Standing) → sink_for m w ≡ o → (j : Judgement) → judged_slave (code_of w) h ≡ j
          → Took (sound_answer SlaveFrame (Some w) h) m h (taken o j h)
      go None eo j ej = spares still (open_sink_lem eo)
      go (Some u) eo Sound ej = let k = sink_open_lem m w u eo in takes (address_of w) u k.there k.sink (rw (k.word, eq-eqb w w refl, ej))
      go (Some u) eo (Bad wrong) ej = spares marks (λ a v e k. unsound_passes m h w ej v.word)

  -- whatever is heard fills the sink whose waiting word it soundly answers; else status bits alone change
  pub took_heard : (k : Kind) (x : Exchange) (t : Times) → Live x t
      → Took (sound_answer k (wait_now x t 0) h) m h (effect_of m (as_heard k x h) h)
  took_heard Silence x t l = spares still (λ a v e s. refl)
  took_heard Noise x t l = spares still (λ a v e s. refl)
  took_heard MasterFrame x t l = go (judged_master h)
    where
      go : (j : Judgement) → Took (sound_answer MasterFrame (wait_now x t 0) h) m h (effect_of m (as_master j h) h)
      go Sound = spares still (λ a v e s. refl)
      go (Bad wrong) = spares still (λ a v e s. refl)
  took_heard SlaveFrame Idle t l = spares still (λ a v e s. refl)
  took_heard SlaveFrame Done t l = spares still (λ a v e s. refl)
  took_heard SlaveFrame (Waiting w) t l = rw (waits_now w t l) (waiting_took w)

-- The port that takes a frame raises its interrupt, after SFC.
pub taken_raises : (m : Areas) (h : Hearing) (k : Kind) (x : Exchange) (t : Times) → Live x t → (a : ℕ) (v : Standing) → standing m a ≡ Some v
    → v.sink ≡ true
    → sound_answer k (wait_now x t 0) h v.word ≡ true → raised0 m x t (as_heard k x h) ≡ SFC ∷ interrupt_of (Some v)
taken_raises m h Silence x t l a v e s f = absurd (false≢true f)
taken_raises m h Noise x t l a v e s f = absurd (false≢true f)
taken_raises m h MasterFrame x t l a v e s f = absurd (false≢true f)
taken_raises m h SlaveFrame Idle t l a v e s f = absurd (false≢true f)
taken_raises m h SlaveFrame Done t l a v e s f = absurd (false≢true f)
taken_raises m h SlaveFrame (Waiting w) t l a v e s f = go ((and-eq-true_iff _ _).0 (rw (waits_now w t l) at f))
  where
    sound : (j : Judgement) → is_sound j ≡ true → j ≡ Sound
    sound Sound q = refl
    sound (Bad wrong) q = absurd (false≢true q)

    go : (eqb w v.word ≡ true) × (is_sound (judged_slave (code_of v.word) h) ≡ true)
        → raised0 m (Waiting w) t (Reply w (judged_slave (code_of w) h)) ≡ SFC ∷ interrupt_of (Some v)
    go p =
        let same : w ≡ v.word = eqb-true _ _ p.0 in
        rw (same, sound (judged_slave (code_of v.word) h) p.1, sink_found m a v e s)
