-- Two worlds whose addresses show the same, with the same exchange, times and device, stay so under any call that both lines hear alike.
-- Assumes nothing.
use Prim.Native.Nat.{ℕ, zero, suc}
use mathlib.Core.Path.{◌≡◌, refl, sym, ◌∙◌, ap, ap₂, subst}
use mathlib.Core.Bool.{Bool, true, false, cond}
use Rattle.std.specs.Prelude.{Option, None, Some}
use lib.ListN.{length}
use Rattle.frames.specs.declared.Hearing.{Hearing}
use Rattle.model.specs.declared.Exchange.{Exchange}
use Rattle.model.specs.declared.Times.{Times}
use Rattle.model.specs.declared.Device.{Device}
use Rattle.model.specs.declared.Controller.{Controller}
use Rattle.model.specs.declared.Heard.{Heard}
use Rattle.model.specs.declared.Heard.TheVariants.{Nothing, Unsound, Master, Reply, Stray}
use Rattle.model.specs.Layout.{Areas, entry}
use Rattle.model.specs.Ports.{address_of, Standing, standing, Effect, fill, closed, apply}
use Rattle.model.specs.Lines.{trusted}
use Rattle.model.specs.declared.Lines.{Lines}
use Rattle.model.specs.Host.{device, Setting, address, status, reply_time, slm, ls, ec_clear, reset, group0, group1, tell}
use Rattle.model.specs.Calls.{Call, hear, quiet, open_port, close_port, write_port, read_port, setting, refusal, effect, step}
use Rattle.model.specs.Past.{Happening, hears, passes, sets, changes, happening, Typed}
use Rattle.model.specs.Damage.{HeardAlike}
use Rattle.model.specs.Differ.{Hosts}
use Rattle.model.specs.Event.{World, port_for, answer_to, exchange_for, heard, heard_by, as_heard}
use Rattle.model.specs.Quiet.{times, expired, due, effect_later, exchange_later, times_later, pulse_effect, pulse_controller, pulse, pulses, ticks}
use Rattle.model.proofs.Shape.{Shape, Valid, standing_after}
use Rattle.model.proofs.Tables.{hear_controller_lem, hear_effect_lem, exchange_after, times_after, effect_of}
use Rattle.model.proofs.HostCalls.{Sort, event, pause, host, sort, hosted, host_step, host_valid}
use Rattle.model.proofs.Taken.{valid_heard}
use Rattle.model.proofs.Holds.{later_valid}
use Rattle.model.proofs.Standings.{standing_at_lem, none_entry}
use Rattle.model.proofs.ShapeKept.{shape_apply, standing_apply}
use Rattle.model.proofs.Ageing.{standing_ages, shape_ages}
use Rattle.model.specs.Grown.{grown_by}
use Rattle.model.proofs.Grown.{ticks_grown, grown_ages}

-- two areas whose addresses show the same
pub record Alike (m n : Areas) : Type 0 where
  pub shape : Shape m
  pub shape' : Shape n
  pub stands : (a : ℕ) → standing m a ≡ standing n a

module _ (m n : Areas) (k : Alike m n) where
  -- the same port is open for a master word
  pub same_port : (w : ℕ) → port_for m w ≡ port_for n w
  unfolding port_for
  same_port w = rw (k.stands (address_of w))

  -- a sound master frame gets the same answer
  pub same_answer : (d : Device) (w : ℕ) → answer_to d m w ≡ answer_to d n w
  unfolding answer_to
  same_answer d w = rw (same_port w)

  -- whatever is heard leaves the same exchange, if it was the same before
  pub same_exchange : (d : Device) (x : Exchange) (h : Heard) → exchange_after d m x h ≡ exchange_after d n x h
  unfolding exchange_for
  same_exchange d x Nothing = refl
  same_exchange d x Unsound = refl
  same_exchange d x (Master w) = rw (same_answer d w)
  same_exchange d x (Reply w j) = refl
  same_exchange d x Stray = refl

  -- whatever is heard has the same effect
  pub same_effect : (h : Heard) (y : Hearing) → effect_of m h y ≡ effect_of n h y
  same_effect Nothing y = refl
  same_effect Unsound y = refl
  same_effect (Master w) y = refl
  same_effect (Reply w j) y = rw (same_port w)
  same_effect Stray y = refl

  -- a reply time that is reached has the same effect
  pub same_missed : (o : Option ℕ) → effect_later m o ≡ effect_later n o
  same_missed None = refl
  same_missed (Some w) = rw (same_port w)

  -- the same entries
  pub same_entry : (a : ℕ) → entry m a ≡ entry n a
  same_entry a = go (standing m a) refl
    where
      go : (o : Option Standing) → standing m a ≡ o → entry m a ≡ entry n a
      go None e = none_entry m a k.shape e ∙ sym (none_entry n a k.shape' (sym (k.stands a) ∙ e))
      go (Some v) e =
          sym (standing_at_lem m a v e).port ∙ (standing_at_lem n a v (sym (k.stands a) ∙ e)).port

  -- one effect on both
  alike_apply : (e : Effect) → Valid m e → Valid n e → Alike (apply e m) (apply e n)
  alike_apply e p q =
      record {
        shape = shape_apply e m k.shape p;
        shape' = shape_apply e n k.shape' q;
        stands = λ a. standing_apply e m a k.shape p ∙ ap (standing_after e a) (k.stands a) ∙ sym (standing_apply e n a k.shape' q);
      }

  -- two effects that are equal, one on each
  alike_effects : {e f : Effect} → e ≡ f → Valid m e → Valid n f → Alike (apply e m) (apply f n)
  alike_effects {e} {f} i p q = subst (λ (g : Effect). Alike (apply e m) (apply g n)) i (alike_apply e p (subst (Valid n) (sym i) q))

-- ---- worlds

-- two worlds whose addresses show the same, with the same exchange, times and device
pub record Same (s u : World) : Type 0 where
  pub areas : Alike s.areas u.areas
  pub exchange : s.controller.exchange ≡ u.controller.exchange
  pub times : s.controller.times ≡ u.controller.times
  pub device : s.controller.device ≡ u.controller.device

-- both lines heard alike: whichever is trusted
pub either_line : (l : Lines) (y : Hearing) → trusted l y y ≡ y
either_line l y = go l.laa
  where
    go : (b : Bool) → cond b y y ≡ y
    go true = refl
    go false = refl

module _ (s u : World) (k : Same s u) where
  abbrev M : Areas
  M = s.areas

  abbrev N : Areas
  N = u.areas

  abbrev C : Controller
  C = s.controller

  abbrev E : Controller
  E = u.controller

  same_hear : (y : Hearing) → length y.words ≡ 16 → Same (step (hear y y) s) (step (hear y y) u)
  unfolding step effect heard_by heard
  same_hear y l =
      rw (
        hear_controller_lem s y y,
        hear_controller_lem u y y,
        hear_effect_lem s y y,
        hear_effect_lem u y y,
        either_line C.lines y,
        either_line E.lines y,
      )
      (record {
        areas = alike_effects M N k.areas
            (same_effect M N k.areas (as_heard y.kind C.exchange y) y ∙ ap (λ (x : Exchange). effect_of N (as_heard y.kind x y) y) k.exchange)
            (valid_heard M y l y.kind C.exchange) (valid_heard N y l y.kind E.exchange);
        exchange = same_exchange M N k.areas C.device C.exchange (as_heard y.kind C.exchange y)
            ∙ ap₂ (λ (d : Device) (x : Exchange). exchange_after d N x (as_heard y.kind x y)) k.device k.exchange;
        times = ap₂ (λ (t : Times) (x : Exchange). times_after t (as_heard y.kind x y)) k.times k.exchange;
        device = k.device;
      })

  -- the reply time of the same master word is reached, if any is
  pub same_due : due s ≡ due u
  same_due = ap₂ expired k.exchange k.times

  -- the rules of a quiet bit time leave them the same
  pub same_pulse : Same (pulse s) (pulse u)
  unfolding pulse pulse_controller pulse_effect
  same_pulse =
      record {
        areas =
            alike_effects M N k.areas (same_missed M N k.areas (due s) ∙ ap (effect_later N) same_due) (later_valid M (due s))
            (later_valid N (due u));
        exchange = ap₂ exchange_later k.exchange same_due;
        times = ap times_later k.times;
        device = k.device;
      }

same_pulses : (n : ℕ) (s u : World) → Same s u → Same (pulses n s) (pulses n u)
unfolding pulses
same_pulses zero s u k = k
same_pulses (suc n) s u k = same_pulses n (pulse s) (pulse u) (same_pulse s u k)

-- so do their ends, whatever the two phases
same_grown : (n : ℕ) (s u : World) → Same s u → Same (grown_by n s) (grown_by n u)
unfolding grown_by
same_grown n s u k =
    let b = grown_ages n s k.areas.shape.fits in
    let d = grown_ages n u k.areas.shape'.fits in
    record {
      areas =
          record {
            shape = shape_ages b k.areas.shape;
            shape' = shape_ages d k.areas.shape';
            stands = λ a. standing_ages b a ∙ k.areas.stands a ∙ sym (standing_ages d a);
          };
      exchange = k.exchange;
      times = k.times;
      device = k.device;
    }

same_ticks : (n : ℕ) (s u : World) → Same s u → Same (ticks n s) (ticks n u)
same_ticks n s u k =
    rw (ticks_grown n s k.areas.shape.fits, ticks_grown n u k.areas.shape'.fits)
    (same_grown n (pulses n s) (pulses n u) (same_pulses n s u k))

same_pause : (n : ℕ) (s u : World) → Same s u → Same (step (quiet n) s) (step (quiet n) u)
unfolding step
same_pause n s u k = same_ticks n s u k

-- ---- the host's calls

-- the same effect
pub same_host : (s u : World) → Alike s.areas u.areas → (c : Call) → Hosts c → effect c s ≡ effect c u
unfolding effect
same_host s u k (hear a b) h = absurd h
same_host s u k (quiet n) h = absurd h
same_host s u k (open_port a p code sink i limit) h = refl
same_host s u k (close_port a) h = ap (closed a) (same_entry _ _ k a)
same_host s u k (write_port a ws) h = ap (λ (n : ℕ). fill n ws) (same_entry _ _ k a)
same_host s u k (read_port a) h = refl
same_host s u k (setting t) h = refl

-- accepted in both, it leaves areas that show the same
pub alike_host : (s u : World) → Alike s.areas u.areas → (c : Call) → Hosts c → refusal c s ≡ 0 → refusal c u ≡ 0
    → Alike (step c s).areas (step c u).areas
alike_host s u k c h p q =
    rw (host_step c h s, host_step c h u) (alike_effects _ _ k (same_host s u k c h) (host_valid c h s p) (host_valid c h u q))

-- a part of the controller that a setting makes the same from the same
module _ {A : Type 0} (f : Controller → A) (set : (t : Setting) (c d : Controller) → f c ≡ f d → f (tell t c) ≡ f (tell t d)) where
  -- it is the same after a host call, if it was before
  pub part_host : (c : Call) → Hosts c → (s u : World) → f s.controller ≡ f u.controller
      → f (step c s).controller ≡ f (step c u).controller
  part_host c h s u e = rw (host_step c h s, host_step c h u) (by (happening c))
    where
      by : (x : Happening) → f (hosted x s.controller) ≡ f (hosted x u.controller)
      by (hears a b) = e
      by (passes n) = e
      by (sets t) = set t s.controller u.controller e
      by (changes g) = e

exchange_set : (t : Setting) (c d : Controller) → c.exchange ≡ d.exchange → (tell t c).exchange ≡ (tell t d).exchange
unfolding tell
exchange_set (address a) c d e = e
exchange_set (status w) c d e = e
exchange_set (reply_time n) c d e = e
exchange_set (slm b) c d e = e
exchange_set (ls b) c d e = e
exchange_set ec_clear c d e = e
exchange_set reset c d e = refl
exchange_set (group0 g) c d e = e
exchange_set (group1 g) c d e = e

times_set : (t : Setting) (c d : Controller) → c.times ≡ d.times → (tell t c).times ≡ (tell t d).times
unfolding tell
times_set (address a) c d e = e
times_set (status w) c d e = e
times_set (reply_time n) c d e = ap (λ (x : Times). times x.since x.line n x.adopted) e
times_set (slm b) c d e = e
times_set (ls b) c d e = e
times_set ec_clear c d e = e
times_set reset c d e = refl
times_set (group0 g) c d e = e
times_set (group1 g) c d e = e

-- a setting leaves the same device where it was the same
pub device_set : (t : Setting) (c d : Controller) → c.device ≡ d.device → (tell t c).device ≡ (tell t d).device
unfolding tell
device_set (address a) c d e = ap (λ (x : Device). device a x.set x.status) e
device_set (status w) c d e = ap (λ (x : Device). device x.address true w) e
device_set (reply_time n) c d e = e
device_set (slm b) c d e = e
device_set (ls b) c d e = e
device_set ec_clear c d e = e
device_set reset c d e = refl
device_set (group0 g) c d e = e
device_set (group1 g) c d e = e

-- The same call, heard alike on both lines and accepted in both worlds, leaves them the same.
pub same_step : (s u : World) → Same s u → (c : Call) → Typed c → HeardAlike c → refusal c s ≡ 0 → refusal c u ≡ 0
    → Same (step c s) (step c u)
same_step s u k c ty l p q = go c (sort c) ty l p q
  where
    go : (c : Call) → Sort c → Typed c → HeardAlike c → refusal c s ≡ 0 → refusal c u ≡ 0 → Same (step c s) (step c u)
    go c (event {a} {b}) ty l p q = subst (λ (y : Hearing). Same (step (hear a y) s) (step (hear a y) u)) l (same_hear s u k a ty.0)
    go c (pause {n}) ty l p q = same_pause n s u k
    go c (host h) ty l p q =
        record {
          areas = alike_host s u k.areas c h p q;
          exchange = part_host (λ (d : Controller). d.exchange) exchange_set c h s u k.exchange;
          times = part_host (λ (d : Controller). d.times) times_set c h s u k.times;
          device = part_host (λ (d : Controller). d.device) device_set c h s u k.device;
        }
