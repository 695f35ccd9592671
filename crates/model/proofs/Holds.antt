-- Areas and exchange, against what is to be shown and waited for: both go through quiet time as the past has it. Assumes nothing.
use Prim.Native.Nat.{ℕ, zero, suc, ◌+◌, ◌≤◌}
use mathlib.Core.Path.{◌≡◌, refl, ◌∙◌, ap}
use mathlib.Core.Bool.{true}
use Rattle.std.specs.Prelude.{Option, None, Some}
use native.Mathlib.Nat.{zero-add}
use native.Mathlib.Omega.{arith}
use Rattle.model.specs.declared.Exchange.{Exchange}
use Rattle.model.specs.declared.Times.{Times}
use Rattle.model.specs.declared.Controller.{Controller}
use Rattle.model.specs.Layout.{Areas, areas_fit}
use Rattle.model.specs.Ports.{Standing, standing}
use Rattle.model.specs.Event.{World, sink_for}
use Rattle.model.specs.Quiet.{missed, effect_later, due, pulse_effect, pulse_controller, pulse, pulses, ticks}
use Rattle.model.proofs.Shape.{Shape, Valid, nothing, marking, standing_after}
use Rattle.model.proofs.ShapeKept.{shape_apply, standing_apply}
use Rattle.model.proofs.Accepted.{sink_at_lem}
use Rattle.model.proofs.Ageing.{standing_ages, shape_ages}
use Rattle.model.specs.Grown.{phase_after, grown_by}
use Rattle.model.proofs.Grown.{ticks_grown, grown_ages}
use Rattle.model.proofs.Waits.{wait_now, Live, waits_later, live_later}

-- ---- areas and exchange, against what is to be shown and waited for

-- S has what stands at each address, W the master word that is waited for after so many quiet bit times more; the adopted reply time is at
-- most 128
pub record Holds (W : ℕ → Option ℕ) (S : ℕ → Option Standing) (x : Exchange) (t : Times) (m : Areas) : Type 0 where
  pub shape : Shape m
  pub stands : (a : ℕ) → standing m a ≡ S a
  pub waits : (q : ℕ) → wait_now x t q ≡ W q
  pub live : Live x t
  pub short : t.adopted ≤ 128

-- ---- quiet time: marks are not seen, and the wait goes on or ends

missed_valid : (m : Areas) (w : ℕ) → Valid m (missed (sink_for m w))
missed_valid m w = go (sink_for m w) refl
  where
    go : (o : Option Standing) → sink_for m w ≡ o → Valid m (missed o)
    go None e = nothing
    go (Some v) e = marking (sink_at_lem m w v e)

-- what a reply time that is reached does to the areas is valid
pub later_valid : (m : Areas) (o : Option ℕ) → Valid m (effect_later m o)
later_valid m None = nothing
later_valid m (Some w) = missed_valid m w

-- and it is seen at no address
pub unseen : (m : Areas) (o : Option ℕ) (a : ℕ) (v : Option Standing) → standing_after (effect_later m o) a v ≡ v
unseen m None a v = refl
unseen m (Some w) a v = go (sink_for m w)
  where
    go : (o : Option Standing) → standing_after (missed o) a v ≡ v
    go None = refl
    go (Some u) = refl

-- a world whose areas, exchange and times hold so
abbrev pub HoldsAt : (ℕ → Option ℕ) → (ℕ → Option Standing) → World → Type 0
HoldsAt W S s = Holds W S s.controller.exchange s.controller.times s.areas

-- the rules of a bit time are seen at no address, and the wait is a bit time further
pub pulse_holds : (W : ℕ → Option ℕ) (S : ℕ → Option Standing) (s : World) → HoldsAt W S s → HoldsAt (λ q. W (1 + q)) S (pulse s)
unfolding pulse pulse_controller pulse_effect
pulse_holds W S s h =
    let x = s.controller.exchange in
    let t = s.controller.times in
    let e = effect_later s.areas (due s) in
    let ok = later_valid s.areas (due s) in
    record {
      shape = shape_apply e s.areas h.shape ok;
      stands = λ a. standing_apply e s.areas a h.shape ok ∙ unseen s.areas (due s) a (standing s.areas a) ∙ h.stands a;
      waits = λ q. waits_later x t h.live h.short q ∙ h.waits (1 + q);
      live = live_later x t h.live;
      short = h.short;
    }

-- what n bit times leave of the controller: all but exchange, times, lines, interrupts and the phase
pub record Lasting (c e : Controller) : Type 0 where
  pub chosen : e.times.chosen ≡ c.times.chosen
  pub counts : e.counts ≡ c.counts
  pub device : e.device ≡ c.device

pulses_lasting : (n : ℕ) (s : World) → Lasting s.controller (pulses n s).controller
unfolding pulses pulse pulse_controller
pulses_lasting zero s = record { chosen = refl; counts = refl; device = refl }
pulses_lasting (suc n) s = let h = pulses_lasting n (pulse s) in record { chosen = h.chosen; counts = h.counts; device = h.device }

-- they leave the phase
pub pulses_phase : (n : ℕ) (s : World) → (pulses n s).controller.phase ≡ s.controller.phase
unfolding pulses pulse pulse_controller
pulses_phase zero s = refl
pulses_phase (suc n) s = pulses_phase n (pulse s)

-- the rules of n bit times are seen at no address, and the wait is n bit times further
pub pulses_hold : (n : ℕ) (W : ℕ → Option ℕ) (S : ℕ → Option Standing) (s : World) → HoldsAt W S s → HoldsAt (λ q. W (n + q)) S (pulses n s)
unfolding pulses
pulses_hold zero W S s h =
    record { shape = h.shape; stands = h.stands; waits = λ q. rw zero-add (h.waits q); live = h.live; short = h.short }
pulses_hold (suc n) W S s h =
    let r = pulses_hold n (λ q. W (1 + q)) S (pulse s) (pulse_holds W S s h) in
    record { shape = r.shape; stands = r.stands; waits = λ q. r.waits q ∙ ap W (omega arith); live = r.live; short = r.short }

-- the end of n bit times is seen at no address
grown_holds : (n : ℕ) (W : ℕ → Option ℕ) (S : ℕ → Option Standing) (s : World) → HoldsAt W S s → HoldsAt W S (grown_by n s)
unfolding grown_by
grown_holds n W S s h =
    let b = grown_ages n s h.shape.fits in
    record {
      shape = shape_ages b h.shape;
      stands = λ a. standing_ages b a ∙ h.stands a;
      waits = h.waits;
      live = h.live;
      short = h.short;
    }

-- n quiet bit times leave the chosen reply time, the counts and the device
pub ticks_lasting : (n : ℕ) (s : World) → areas_fit s.areas ≡ true → Lasting s.controller (ticks n s).controller
unfolding grown_by
ticks_lasting n s fits =
    let h = pulses_lasting n s in
    rw (ticks_grown n s fits) (record { chosen = h.chosen; counts = h.counts; device = h.device })

-- and the phase is n bit times further
pub ticks_phase : (n : ℕ) (s : World) → areas_fit s.areas ≡ true → (ticks n s).controller.phase ≡ phase_after s.controller.phase n
unfolding grown_by
ticks_phase n s fits = rw (ticks_grown n s fits) (ap (λ (p : ℕ). phase_after p n) (pulses_phase n s))

-- after n quiet bit times every address shows the same, and the wait is n bit times further
pub ticks_hold : (n : ℕ) (W : ℕ → Option ℕ) (S : ℕ → Option Standing) (s : World) → HoldsAt W S s → HoldsAt (λ q. W (n + q)) S (ticks n s)
ticks_hold n W S s h =
    rw (ticks_grown n s h.shape.fits) (grown_holds n (λ q. W (n + q)) S (pulses n s) (pulses_hold n W S s h))
