-- Ages through bus events and quiet time: what each effect does to the age of a port, and that the phase and the ages stay what the past
-- tells. Assumes nothing.
use Prim.Native.Nat.{ℕ, zero, suc, ◌+◌, ◌/◌, ◌%◌, ◌≤◌, min}
use mathlib.Core.Path.{◌≡◌, refl, ◌∙◌, ap}
use mathlib.Core.Bool.{Bool, true, false, cond, ◌&&◌}
use mathlib.Core.List.{List, ◌∷◌}
use Rattle.std.specs.Prelude.{Option, None, Some}
use native.Mathlib.Decide.{ℕ_discrete}
use native.Mathlib.Omega.{arith}
use lib.Dec.{eqb}
use lib.ListN.{length}
use borrow.Author.Tests.{eqb-true, eq-eqb, ne_eqb}
use Rattle.frames.specs.declared.Hearing.{Hearing}
use Rattle.frames.specs.declared.Judgement.{Judgement}
use Rattle.frames.specs.declared.Judgement.TheVariants.{Sound, Unsound as Bad}
use Rattle.model.specs.declared.Words.{Words}
use Rattle.model.specs.declared.Controller.{Controller}
use Rattle.model.specs.declared.Heard.{Heard}
use Rattle.model.specs.declared.Heard.TheVariants.{Nothing, Unsound, Master, Reply, Stray}
use Rattle.model.specs.Layout.{Areas, areas_fit, words_at, with_words, port_at}
use Rattle.model.specs.Ports.{Standing, standing_of, standing, filled_words, marked_words, open_words, with_age}
use Rattle.model.specs.Ports.{oldest, aged_words, aged, Effect, filled, apply}
use Rattle.model.specs.Event.{World, as_heard, heard, heard_by, sink_for, taken}
use Rattle.model.specs.Quiet.{millisecond, pulse, pulse_effect, pulses, missed, effect_later, due}
use Rattle.model.specs.Calls.{Call, hear, quiet, effect, step}
use Rattle.model.specs.Past.{after, Typed, on_trusted, awaited, answers, Opening, opening_of}
use Rattle.model.specs.Age.{quiet_since, endings, age_since, age_told}
use Rattle.model.proofs.Shape.{Valid, nothing, filling, marking, opening, closing}
use Rattle.model.proofs.PortWords.{read_with}
use Rattle.model.proofs.Formed.{room}
use Rattle.model.proofs.ShapeKept.{at_here}
use Rattle.model.specs.Grown.{phase_reached, ends_within, phase_after, aged_if, grown_by}
use Rattle.model.proofs.Grown.{pulse_fits, pulses_fits, ticks_grown}
use Rattle.model.proofs.Taken.{fills_port, fills_exactly, valid_heard}
use Rattle.model.proofs.Tables.{effect_of, hear_controller_lem, hear_effect_lem}
use Rattle.model.proofs.ToldPort.{told_standing}
use Rattle.model.proofs.Standings.{Seen, standing_at_lem}
use Rattle.model.proofs.Ageing.{sink_formed, aged_at}
use Rattle.model.proofs.Holds.{later_valid, pulses_phase, pulses_hold, ticks_phase}
use Rattle.model.proofs.Invariant.{one_of, ToldBy}
use Rattle.model.proofs.Renewed.{renews, open_standing}

-- ---- the age of a port after an effect

module _ (m : Areas) (fits : areas_fit m ≡ true) where
  -- the words of port p are set
  set_age : (p : ℕ) (w : Words) → p ≤ 255 → (q : ℕ) → (words_at (with_words m.ports p w) q).age ≡ cond (eqb q p) w.age (port_at m q).age
  set_age p w small q = read_with (λ v. v.age) m.ports p w (room m fits p small) q

  -- Filling, opening and closing set the age of their port to 0; nothing else changes an age.
  pub age_apply : (e : Effect) → Valid m e → (q : ℕ) → (port_at (apply e m) q).age ≡ cond (renews e q) 0 (port_at m q).age
  unfolding apply filled filled_words marked_words open_words
  age_apply e nothing q = refl
  age_apply e (filling {p = p} at size) q = set_age p _ (at_here at).small q
  age_apply e (marking {p = p} {x = x} at) q = set_age p (marked_words (port_at m p) x) (at_here at).small q ∙ go (ℕ_discrete q p)
    where
      go : Dec (q ≡ p) → cond (eqb q p) (port_at m p).age (port_at m q).age ≡ (port_at m q).age
      go (yes e) = rw (eq-eqb q p e, e)
      go (no n) = rw (ne_eqb q p n)
  age_apply e (opening {p = p} ha pos hp hc hi free unused) q = set_age p _ hp q
  age_apply e (closing {p = p} at) q = set_age p _ (at_here at).small q

-- ---- the invariant: the phase and every open port's age are what the past tells

pub record AgesTold (past : List Call) (c : Controller) (m : Areas) : Type 0 where
  pub phase : c.phase ≡ quiet_since past % millisecond
  pub ages : (a : ℕ) (o : Opening) → opening_of past a ≡ Some o → (port_at m o.port).age ≡ age_told past a o

-- ---- a bus event

heard_renews : (m : Areas) (h : Heard) (y : Hearing) (q : ℕ) → renews (effect_of m h y) q ≡ fills_port (effect_of m h y) q
heard_renews m Nothing y q = refl
heard_renews m Unsound y q = refl
heard_renews m (Master w) y q = refl
heard_renews m (Reply w j) y q = go (sink_for m w) j
  where
    go : (o : Option Standing) (j : Judgement) → renews (taken o j y) q ≡ fills_port (taken o j y) q
    go None j = refl
    go (Some v) Sound = refl
    go (Some v) (Bad wrong) = refl
heard_renews m Stray y q = refl

-- a frame that is taken sets the age to 0
taken_age : (sink : Bool) (taken : Bool) (n old : ℕ) → old ≡ cond sink (min oldest n) 0
    → cond (sink && taken) 0 old ≡ cond sink (min oldest (cond taken 0 n)) 0
taken_age true true n old e = refl
taken_age true false n old e = e
taken_age false taken n old e = e

-- The phase and the ages are told after a bus event.
pub hear_ages : (past : List Call) (x y : Hearing) → Typed (hear x y) → ToldBy past (after past) → AgesTold past (after past).controller (after past).areas
    → AgesTold (hear x y ∷ past) (step (hear x y) (after past)).controller (step (hear x y) (after past)).areas
unfolding step effect heard_by heard age_since quiet_since opening_of answers
hear_ages past x y ty h told =
    let s = after past in
    let c = s.controller in
    let m = s.areas in
    let k = on_trusted past x y in
    let l : length k.words ≡ 16 = one_of c.lines.laa (λ (z : Hearing). length z.words ≡ 16) ty.0 ty.1 in
    let ok = valid_heard m k l k.kind c.exchange in
    rw (hear_controller_lem s x y, hear_effect_lem s x y)
    (record {
      phase = told.phase;
      ages =
          λ a o e.
          age_apply m h.holds.shape.fits _ ok o.port
          ∙ ap (λ (b : Bool). cond b 0 (port_at m o.port).age)
          (heard_renews m (as_heard k.kind c.exchange k) k o.port
          ∙ fills_exactly m k k.kind c.exchange c.times h.holds.live a (open_standing past a o) (h.holds.stands a ∙ rw e))
          ∙ rw (h.holds.waits 0) (taken_age o.sink _ (age_since past a o.word) _ (told.ages a o e));
    })

-- ---- quiet time

late_renews : (m : Areas) (o : Option ℕ) (q : ℕ) → renews (effect_later m o) q ≡ false
late_renews m None q = refl
late_renews m (Some w) q = go (sink_for m w)
  where
    go : (f : Option Standing) → renews (missed f) q ≡ false
    go None = refl
    go (Some v) = refl

-- the rules of a bit time change no age
pulses_age : (n : ℕ) (s : World) → areas_fit s.areas ≡ true → (q : ℕ) → (port_at (pulses n s).areas q).age ≡ (port_at s.areas q).age
unfolding pulses pulse pulse_effect
pulses_age zero s fits q = refl
pulses_age (suc n) s fits q =
    pulses_age n (pulse s) (pulse_fits s fits) q
    ∙ age_apply s.areas fits (effect_later s.areas (due s)) (later_valid s.areas (due s)) q
    ∙ rw (late_renews s.areas (due s) q)

-- its end adds the milliseconds that end to the age of a sink
aged_age : (k : ℕ) (m : Areas) → areas_fit m ≡ true → (a : ℕ) (v : Standing) → standing m a ≡ Some v → (n : ℕ)
    → (port_at m v.port).age ≡ cond v.sink (min oldest n) 0 → (port_at (aged_if k m) v.port).age ≡ cond v.sink (min oldest (n + k)) 0
unfolding aged_words standing_of
aged_age k m fits a v there n old = go (eqb k 0) refl
  where
    at : Seen m a v
    at = standing_at_lem m a v there

    go : (b : Bool) → eqb k 0 ≡ b → (port_at (cond b m (aged k m)) v.port).age ≡ cond v.sink (min oldest (n + k)) 0
    go true e = old ∙ ap (λ (x : ℕ). cond v.sink (min oldest x) 0) (omega (arith, eqb-true k 0 e))
    go false e =
        ap (λ (z : Words). z.age) (aged_at k m fits v.port at.positive at.small)
        ∙ rw (sink_formed a (port_at m v.port) at.formed, ← (ap (λ (z : Standing). z.sink) at.whole)) (by v.sink refl)
      where
        by : (b : Bool) → v.sink ≡ b
            → (cond b (with_age (min oldest ((port_at m v.port).age + k)) (port_at m v.port)) (port_at m v.port)).age
            ≡ cond b (min oldest (n + k)) 0
        by true i = let now : (port_at m v.port).age ≡ min oldest n = rw i at old in omega arith
        by false i = rw i at old

-- the phase and the milliseconds that end, by the quiet bit times since reset
phase_told : (q n : ℕ) → phase_after (q % millisecond) n ≡ (q + n) % millisecond
phase_told q n = go (eqb (ends_within (q % millisecond) n) 0) refl
  where
    go : (b : Bool) → eqb (ends_within (q % millisecond) n) 0 ≡ b
        → cond b (q % millisecond + n) ((phase_reached (q % millisecond) + n) % millisecond) ≡ (q + n) % millisecond
    go true e = let few : ends_within (q % millisecond) n ≡ 0 = eqb-true _ _ e in omega arith
    go false e = omega arith

ends_told : (q n : ℕ) → ends_within (q % millisecond) n ≡ endings q n
ends_told q n = ap (λ (x : ℕ). x / millisecond) (omega arith)

-- The phase and the ages are told after quiet time.
pub quiet_ages : (past : List Call) (n : ℕ) → ToldBy past (after past) → AgesTold past (after past).controller (after past).areas
    → AgesTold (quiet n ∷ past) (step (quiet n) (after past)).controller (step (quiet n) (after past)).areas
unfolding step age_since quiet_since opening_of grown_by
quiet_ages past n h told =
    let s = after past in
    let fits = h.holds.shape.fits in
    let r = pulses_hold n (awaited past) (λ a. told_standing past a (opening_of past a)) s h.holds in
    let k : ends_within (pulses n s).controller.phase n ≡ endings (quiet_since past) n =
    ap (λ (p : ℕ). ends_within p n) (pulses_phase n s ∙ told.phase) ∙ ends_told (quiet_since past) n in
    record {
      phase = ticks_phase n s fits ∙ ap (λ (p : ℕ). phase_after p n) told.phase ∙ phase_told (quiet_since past) n;
      ages =
          λ a o e.
          rw (ticks_grown n s fits, k)
          (aged_age (endings (quiet_since past) n) (pulses n s).areas (pulses_fits n s fits) a (open_standing past a o) (r.stands a ∙ rw e)
          (age_since past a o.word) (pulses_age n s fits o.port ∙ told.ages a o e));
    }
