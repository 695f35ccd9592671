-- What we hand out we take back: the controller that a call leaves is again one of ours, whatever the areas hold. By each part: times stay
-- below their timeouts, raised bits stay inside their group, and a setting that is accepted is in its range. Assumes nothing.
use Rattle.std.proofs.Common.{ℕ, ◌+◌, ◌≤◌, ◌<◌, ◌≡◌, ◌∙◌, [], ◌∷◌, ◌++◌, Bool, List, zero, suc, refl, ap, true, false, cond, true≢false}
use Rattle.std.proofs.Common.{arith, eqb, leb, ltb, eqb-true, ltb-true, ltb-false, leb-false}
use Rattle.std.proofs.lemmas.Bool.{not-false}
use Rattle.frames.specs.declared.Hearing.{Hearing}
use Rattle.interrupts.specs.declared.Group.{Group}
use Rattle.interrupts.specs.Group.{raised}
use Rattle.interrupts.specs.Names.{RTI, BTI, used0, used1}
use Rattle.interrupts.specs.Calls.{raise, group_after}
use Rattle.interrupts.specs.Shape.{Shaped}
use Rattle.interrupts.proofs.Theorems.{shaped_fresh, shaped_after}
use Rattle.model.specs.declared.Controller.{Controller}
use Rattle.model.specs.declared.Heard.{Heard}
use Rattle.model.specs.declared.Heard.TheVariants.{Nothing, Unsound, Master, Reply, Stray}
use Rattle.model.specs.declared.Times.{Times}
use Rattle.model.specs.Event.{World, raise_all, when, heard_by, hear_controller}
use Rattle.model.proofs.Tables.{raised0, raised1, times_after}
use Rattle.model.specs.Quiet.{bus_timeout, line_timeout, millisecond, times_later, is_some, bus_silent, due, pulse_controller, pulse, millisecond_ends}
use Rattle.model.specs.Quiet.{grown_if, grown, tick, ticks}
use Rattle.model.specs.Host.{Setting, address, status, reply_time, slm, ls, ec_clear, reset, group0, group1, is_reply_time, setting_out}
use Rattle.model.specs.Host.{fresh_controller, tell}
use Rattle.model.specs.Calls.{Call, hear, quiet, open_port, close_port, write_port, read_port, setting, refusal, step, outcome}
use Rattle.model.proofs.Tables.{hear_controller_lem}
use Rattle.firmware_layout.specs.declared.FlatController.{FlatController}
use Rattle.firmware_layout.specs.Controller.{controller_of, ours}
use Rattle.firmware_layout.specs.Kept.{Ours}
use Rattle.firmware_layout.proofs.Inverse.{same_numbers}
use Rattle.firmware_layout.proofs.Right.{RightTimes, RightDevice, Right, right, ours_right}

-- Numbers of ours stand for a controller of ours.
pub ours_taken : (f : FlatController) → ours f ≡ true → Ours (controller_of f)
unfolding controller_of
ours_taken f e = record { first = refl; second = refl; numbers = ap ours (same_numbers f e) ∙ e }

-- ---- the groups

raised_shaped : {u : ℕ} (bs : List ℕ) (g : Group) → Shaped u g → Shaped u (raise_all bs g)
unfolding group_after
raised_shaped [] g s = s
raised_shaped (b ∷ bs) g s = raised_shaped bs (raised g b) (shaped_after (raise b) g s)

-- ---- the times

heard_times : (t : Times) (h : Heard) → RightTimes t → RightTimes (times_after t h)
heard_times t Nothing r = r
heard_times t Unsound r = r
heard_times t (Master w) r = record { since = omega arith; line = omega arith; chosen = r.chosen; adopted = r.chosen }
heard_times t (Reply w j) r = r
heard_times t Stray r = r

later_times : (t : Times) → RightTimes t → RightTimes (times_later t)
later_times t r =
    record {
      since = at (ltb t.since bus_timeout) refl;
      line = counted (leb line_timeout (t.line + 1)) refl;
      chosen = r.chosen;
      adopted = r.adopted;
    }
  where
    at : (b : Bool) → ltb t.since bus_timeout ≡ b → cond b (t.since + 1) t.since ≤ bus_timeout
    at true e = omega (arith, ltb-true t.since bus_timeout e)
    at false e = r.since

    counted : (b : Bool) → leb line_timeout (t.line + 1) ≡ b → cond b 0 (t.line + 1) < line_timeout
    counted true e = omega arith
    counted false e = leb-false line_timeout (t.line + 1) e

-- ---- the calls

heard_right : (s : World) (a b : Hearing) → Right s.controller → Right (hear_controller s a b)
heard_right s a b r =
    let c = s.controller in
    let h = heard_by c a b in
    rw (hear_controller_lem s a b)
    (record {
      times = heard_times c.times h r.times;
      group0 = raised_shaped (raised0 s.areas c.exchange c.times h) c.group0 r.group0;
      group1 = raised_shaped (raised1 c.counts h) c.group1 r.group1;
      device = r.device;
      phase = r.phase;
    })

pulse_right : (s : World) → Right s.controller → Right (pulse s).controller
unfolding pulse pulse_controller
pulse_right s r =
    let c = s.controller in
    record {
      times = later_times c.times r.times;
      group0 = raised_shaped (when (is_some (due s)) RTI ++ when (bus_silent c.times) BTI) c.group0 r.group0;
      group1 = r.group1;
      device = r.device;
      phase = r.phase;
    }

-- the phase restarts with the millisecond
grown_right : (s : World) → Right s.controller → Right (grown s).controller
unfolding grown
grown_right s r = go (millisecond_ends s) refl
  where
    go : (b : Bool) → millisecond_ends s ≡ b → Right (grown_if b s).controller
    go true e = record { times = r.times; group0 = r.group0; group1 = r.group1; device = r.device; phase = omega arith }
    go false e =
        record {
          times = r.times;
          group0 = r.group0;
          group1 = r.group1;
          device = r.device;
          phase = leb-false millisecond (s.controller.phase + 1) e;
        }

ticks_right : (n : ℕ) (s : World) → Right s.controller → Right (ticks n s).controller
unfolding ticks tick
ticks_right zero s r = r
ticks_right (suc n) s r = ticks_right n (tick s) (grown_right (pulse s) (pulse_right s r))

fresh_right : Right fresh_controller
unfolding fresh_controller
fresh_right =
    record {
      times = record { since = omega arith; line = omega arith; chosen = refl; adopted = refl };
      group0 = shaped_fresh used0;
      group1 = shaped_fresh used1;
      device = record { address = omega arith; unset = λ e. refl };
      phase = omega arith;
    }

-- a controller by the parts that a setting may change
parts : {c : Controller} → c.phase < millisecond → RightTimes c.times → Shaped used0 c.group0 → Shaped used1 c.group1
    → RightDevice c.device → Right c
parts p t g h d = record { times = t; group0 = g; group1 = h; device = d; phase = p }

-- a setting that is in its range
told_right : (t : Setting) (c : Controller) → setting_out t ≡ false → Right c → Right (tell t c)
unfolding tell
told_right (address a) c e r =
    parts r.phase r.times r.group0 r.group1 (record { address = ltb-false 4095 a e; unset = r.device.unset })
told_right (status w) c e r =
    parts r.phase r.times r.group0 r.group1 (record { address = r.device.address; unset = λ f. absurd (true≢false f) })
told_right (reply_time t) c e r =
    let x = r.times in
    parts r.phase (record { since = x.since; line = x.line; chosen = not-false (is_reply_time t) e; adopted = x.adopted }) r.group0 r.group1
    r.device
told_right (slm b) c e r = parts r.phase r.times r.group0 r.group1 r.device
told_right (ls b) c e r = parts r.phase r.times r.group0 r.group1 r.device
told_right ec_clear c e r = parts r.phase r.times r.group0 r.group1 r.device
told_right reset c e r = fresh_right
told_right (group0 g) c e r = parts r.phase r.times (shaped_after g c.group0 r.group0) r.group1 r.device
told_right (group1 g) c e r = parts r.phase r.times r.group0 (shaped_after g c.group1 r.group1) r.device

-- an accepted call
step_right : (c : Call) (s : World) → refusal c s ≡ 0 → Right s.controller → Right (step c s).controller
unfolding step refusal
step_right (hear a b) s e r = heard_right s a b r
step_right (quiet n) s e r = ticks_right n s r
step_right (open_port a p code sink i limit) s e r = r
step_right (close_port a) s e r = r
step_right (write_port a ws) s e r = r
step_right (read_port a) s e r = r
step_right (setting t) s e r = told_right t s.controller (accepted (setting_out t) e) r
  where
    accepted : (b : Bool) → ◌≡◌ {A = ℕ} (cond b 2 0) 0 → b ≡ false
    accepted true z = absurd (omega arith)
    accepted false z = refl

-- The controller that a call leaves is again one of ours.
pub ours_kept : (c : Call) (s : World) → Ours s.controller → Ours (outcome c s).world.controller
unfolding outcome
ours_kept c s o = go (eqb (refusal c s) 0) refl
  where
    go : (b : Bool) → eqb (refusal c s) 0 ≡ b → Ours (cond b (step c s) s).controller
    go true e = ours_right _ (step_right c s (eqb-true (refusal c s) 0 e) (right s.controller o))
    go false e = o

-- A fresh controller is one of ours.
pub ours_fresh : Ours fresh_controller
ours_fresh = ours_right fresh_controller fresh_right

-- A setting that is in its range makes of a controller of ours one of ours.
pub ours_told : (t : Setting) (c : Controller) → setting_out t ≡ false → Ours c → Ours (tell t c)
ours_told t c e o = ours_right _ (told_right t c e (right c o))
