-- Quiet time in closed form: n bit times are n times the rules of document 01, and then as many milliseconds of ageing at once as end within
-- them. So the code may jump. Assumes nothing.
use Prim.Native.Nat.{ℕ, zero, suc, ◌+◌, ◌/◌, ◌%◌, ◌≤◌, ◌<◌}
use mathlib.Core.Path.{◌≡◌, refl, sym, ◌∙◌, ap, ap₂}
use mathlib.Core.Bool.{Bool, true, false, cond}
use Rattle.std.specs.Prelude.{Option, None, Some}
use native.Mathlib.Omega.{arith}
use borrow.Author.Tests.{leb-true, leb-false, eqb-true, eq-eqb, ne_eqb}
use lib.Dec.{eqb}
use Rattle.model.specs.Layout.{Areas, areas_fit}
use Rattle.model.specs.Ports.{address_of, Standing, aged, Effect, apply}
use Rattle.model.specs.Parts.{with_phase}
use Rattle.model.specs.Event.{World, world, port_for, sink_for}
use Rattle.model.specs.Quiet.{millisecond, missed, effect_later, due, pulse_effect, pulse_controller, pulse, pulses, millisecond_ends, grown_if, grown}
use Rattle.model.specs.Quiet.{tick, ticks}
use Rattle.model.specs.Grown.{phase_reached, ends_within, phase_after, aged_if, grown_by}
use Rattle.model.specs.Taken.{ButAges}
use Rattle.model.proofs.Standings.{standing_at_lem}
use Rattle.model.proofs.Accepted.{sink_open_lem}
use Rattle.model.proofs.Ageing.{aged_ages, ages_same, fits_ages, standing_ages, aged_twice, aged_mark, port_fits}

-- ---- ageing commutes with the rest of a bit time

-- a reply that is missing has the same effect
late_effect : {m n : Areas} → ButAges m n → (o : Option ℕ) → effect_later n o ≡ effect_later m o
unfolding port_for
late_effect b None = refl
late_effect b (Some w) = rw (standing_ages b (address_of w))

late_aged : (k : ℕ) (m : Areas) → areas_fit m ≡ true → (o : Option ℕ)
    → apply (effect_later (aged k m) o) (aged k m) ≡ aged k (apply (effect_later m o) m)
unfolding apply
late_aged k m fits o = ap (λ (e : Effect). apply e (aged k m)) (late_effect (aged_ages k m fits) o) ∙ by o
  where
    by : (o : Option ℕ) → apply (effect_later m o) (aged k m) ≡ aged k (apply (effect_later m o) m)
    by None = refl
    by (Some w) = go (sink_for m w) refl
      where
        go : (f : Option Standing) → sink_for m w ≡ f → apply (missed f) (aged k m) ≡ aged k (apply (missed f) m)
        go None e = refl
        go (Some v) e =
            let at = standing_at_lem m (address_of w) v (sink_open_lem m w v e).there in
            aged_mark k m (address_of w) v.port _ fits at.small at.formed

-- Ageing and the rest of a bit time commute: no caller can tell their order.
pub pulse_grown : (s : World) → areas_fit s.areas ≡ true → pulse (grown s) ≡ grown (pulse s)
unfolding grown pulse pulse_controller pulse_effect
pulse_grown s fits = go (millisecond_ends s)
  where
    go : (b : Bool) → pulse (grown_if b s) ≡ grown_if b (pulse s)
    go true = ap (λ (m : Areas). world (with_phase 0 (pulse s).controller) m) (late_aged 1 s.areas fits (due s))
    go false = refl

late_fits : (m : Areas) → areas_fit m ≡ true → (o : Option ℕ) → areas_fit (apply (effect_later m o) m) ≡ true
unfolding apply
late_fits m fits None = fits
late_fits m fits (Some w) = go (sink_for m w)
  where
    go : (f : Option Standing) → areas_fit (apply (missed f) m) ≡ true
    go None = fits
    go (Some v) = port_fits m v.port _ fits

-- the areas keep their lengths
pub pulse_fits : (s : World) → areas_fit s.areas ≡ true → areas_fit (pulse s).areas ≡ true
unfolding pulse pulse_effect
pulse_fits s fits = late_fits s.areas fits (due s)

pulses_grown : (n : ℕ) (s : World) → areas_fit s.areas ≡ true → pulses n (grown s) ≡ grown (pulses n s)
unfolding pulses
pulses_grown zero s fits = refl
pulses_grown (suc n) s fits = ap (pulses n) (pulse_grown s fits) ∙ pulses_grown n (pulse s) (pulse_fits s fits)

-- and after n bit times
pub pulses_fits : (n : ℕ) (s : World) → areas_fit s.areas ≡ true → areas_fit (pulses n s).areas ≡ true
unfolding pulses
pulses_fits zero s fits = fits
pulses_fits (suc n) s fits = pulses_fits n (pulse s) (pulse_fits s fits)

-- ---- the end of one bit time, and then of n, is the end of n + 1

-- the phase has come to its millisecond
phase_ended : (p n : ℕ) → millisecond ≤ p + 1 → phase_after 0 n ≡ phase_after p (suc n)
phase_ended p n h = rw (ne_eqb (ends_within p (suc n)) 0 (λ e. omega arith)) (go (eqb (ends_within 0 n) 0) refl)
  where
    go : (b : Bool) → eqb (ends_within 0 n) 0 ≡ b → cond b (0 + n) ((phase_reached 0 + n) % millisecond) ≡ (phase_reached p + suc n) % millisecond
    go true e = let None : ends_within 0 n ≡ 0 = eqb-true _ _ e in omega arith
    go false e = omega arith

ages_ended : (p n : ℕ) (m : Areas) → areas_fit m ≡ true → millisecond ≤ p + 1
    → aged_if (ends_within 0 n) (aged 1 m) ≡ aged_if (ends_within p (suc n)) m
ages_ended p n m fits h = rw (ne_eqb (ends_within p (suc n)) 0 (λ e. omega arith)) (go (eqb (ends_within 0 n) 0) refl)
  where
    go : (b : Bool) → eqb (ends_within 0 n) 0 ≡ b → cond b (aged 1 m) (aged (ends_within 0 n) (aged 1 m)) ≡ aged (ends_within p (suc n)) m
    go true e = let None : ends_within 0 n ≡ 0 = eqb-true _ _ e in ap (λ (k : ℕ). aged k m) (omega arith)
    go false e = aged_twice (ends_within 0 n) 1 m fits ∙ ap (λ (k : ℕ). aged k m) (omega arith)

-- it has not
more_within : (p n : ℕ) → p + 1 < millisecond → ends_within (p + 1) n ≡ ends_within p (suc n)
more_within p n h = ap (λ (x : ℕ). x / millisecond) (omega arith)

phase_later : (p n : ℕ) → p + 1 < millisecond → phase_after (p + 1) n ≡ phase_after p (suc n)
phase_later p n h = rw (more_within p n h) (go (eqb (ends_within p (suc n)) 0))
  where
    go : (b : Bool) → cond b (p + 1 + n) ((phase_reached (p + 1) + n) % millisecond) ≡ cond b (p + suc n) ((phase_reached p + suc n) % millisecond)
    go true = omega arith
    go false = ap (λ (x : ℕ). x % millisecond) (omega arith)

grown_more : (n : ℕ) (s : World) → areas_fit s.areas ≡ true → grown_by n (grown s) ≡ grown_by (suc n) s
unfolding grown grown_by
grown_more n s fits = go (millisecond_ends s) refl
  where
    go : (b : Bool) → millisecond_ends s ≡ b → grown_by n (grown_if b s) ≡ grown_by (suc n) s
    go true e =
        let h = leb-true millisecond (s.controller.phase + 1) e in
        ap₂ (λ (p : ℕ) (m : Areas). world (with_phase p s.controller) m) (phase_ended s.controller.phase n h)
        (ages_ended s.controller.phase n s.areas fits h)
    go false e =
        let h = leb-false millisecond (s.controller.phase + 1) e in
        ap₂ (λ (p : ℕ) (m : Areas). world (with_phase p s.controller) m) (phase_later s.controller.phase n h)
        (ap (λ (k : ℕ). aged_if k s.areas) (more_within s.controller.phase n h))

-- the areas keep their lengths
grown_fits : (s : World) → areas_fit s.areas ≡ true → areas_fit (grown s).areas ≡ true
unfolding grown
grown_fits s fits = go (millisecond_ends s)
  where
    go : (b : Bool) → areas_fit (grown_if b s).areas ≡ true
    go true = fits_ages (aged_ages 1 s.areas fits) fits
    go false = fits

-- where no bit time passes nothing ends
grown_none : (s : World) → grown_by 0 s ≡ s
unfolding grown_by
grown_none s =
    rw (eq-eqb (ends_within s.controller.phase 0) 0 (omega arith)) (ap (λ (p : ℕ). world (with_phase p s.controller) s.areas) (omega arith))

-- QUIET TIME AT ONCE: n bit times are n times the rules of document 01, and then the end of n bit times at once. For every controller, and
-- all areas of the right lengths; with others quiet time is refused.
pub ticks_grown : (n : ℕ) (s : World) → areas_fit s.areas ≡ true → ticks n s ≡ grown_by n (pulses n s)
unfolding ticks tick pulses
ticks_grown zero s fits = sym (grown_none s)
ticks_grown (suc n) s fits =
    let f = pulse_fits s fits in
    ticks_grown n (tick s) (grown_fits (pulse s) f) ∙ ap (grown_by n) (pulses_grown n (pulse s) f)
    ∙ grown_more n (pulses n (pulse s)) (pulses_fits n (pulse s) f)

-- ---- what the end of n bit times leaves: all but the phase and ages

-- the areas are the same but for ages
pub grown_ages : (n : ℕ) (s : World) → areas_fit s.areas ≡ true → ButAges s.areas (grown_by n s).areas
unfolding grown_by
grown_ages n s fits = go (eqb (ends_within s.controller.phase n) 0)
  where
    go : (b : Bool) → ButAges s.areas (cond b s.areas (aged (ends_within s.controller.phase n) s.areas))
    go true = ages_same s.areas
    go false = aged_ages (ends_within s.controller.phase n) s.areas fits
