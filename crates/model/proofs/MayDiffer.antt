-- Demand 3, damage: what may differ after a stretch. With any host calls between the stretch and the sound master frame that ends it, and
-- any calls heard alike afterwards, the run without the stretch is accepted too, and the two worlds differ in no more than documents 01
-- and 02 allow. Assumes nothing.
use Prim.Native.Nat.{ℕ, zero, suc, ◌≤◌}
use mathlib.Core.Path.{◌≡◌, refl, ◌∙◌, ap, subst}
use mathlib.Core.Bool.{true}
use mathlib.Core.List.{List, [], ◌∷◌, ◌++◌}
use Rattle.std.specs.Prelude.{Option}
use lib.ListN.{length}
use Rattle.frames.specs.declared.Hearing.{Hearing}
use Rattle.model.specs.declared.Exchange.{Exchange}
use Rattle.model.specs.declared.Controller.{Controller}
use Rattle.model.specs.Layout.{areas_fit}
use Rattle.model.specs.Ports.{untouched, apply}
use Rattle.model.specs.Event.{World, as_heard, heard, heard_by}
use Rattle.model.specs.Quiet.{due, effect_later, pulse_effect, pulse_controller, pulse, pulses, ticks}
use Rattle.model.specs.Host.{Setting, address, status, reply_time, slm, ls, ec_clear, reset, group0, group1, tell}
use Rattle.model.specs.Calls.{Call, hear, refusal, effect, step}
use Rattle.model.specs.Past.{Happening, hears, passes, sets, changes, happening, after, Typed, Accepted}
use Rattle.model.specs.Damage.{Damage, HeardAlike, SoundMaster}
use Rattle.model.specs.Differ.{ByHost, Hosts, AllHosts, Follows, ended, then, waiting_address, doubtful, MayDiffer, Unseen}
use Rattle.model.proofs.Shape.{Valid}
use Rattle.model.proofs.Tables.{effect_of, hear_effect_lem}
use Rattle.model.proofs.PortDoubt.{waiting_port, over, finished_as, finished, settle, doubtful_port, port_affected}
use Rattle.model.proofs.ButPort.{ButPort, but_effects, but_ages}
use Rattle.model.proofs.Grown.{pulses_fits, ticks_grown, grown_ages}
use Rattle.model.proofs.HostCalls.{Sort, event, pause, host, sort, host_step, host_valid}
use Rattle.model.proofs.Taken.{valid_heard}
use Rattle.model.proofs.Waits.{wait_now, Live, live_later}
use Rattle.model.proofs.Holds.{later_valid}
use Rattle.model.proofs.Invariant.{ToldBy}
use Rattle.model.proofs.Told.{past_told}
use Rattle.model.proofs.Same.{Alike, same_effect, same_missed, Same, either_line, same_due, same_pulse}
use Rattle.model.proofs.Same.{same_host, alike_host, part_host, device_set, same_step}
use Rattle.model.proofs.Alike.{accepts_same}
use Rattle.model.proofs.Damage.{Unharmed, kept_stretch, heard_master, same_master, master_accepted, earlier, same_reply, unseen_same}
use Rattle.model.proofs.Finishes.{sink_port, waiting_told, over_now, over_later}
use Rattle.model.proofs.ByAddress.{at_address, waiting_address_lem}
use Rattle.model.proofs.Waned.{stretch_but}

-- ---- one host call on two areas that show the same

host_finished : (past : List Call) (c : Call) → Hosts c → finished past c ≡ port_affected (effect c (after past))
unfolding finished
host_finished past c h = by (happening c) h
  where
    by : (x : Happening) → ByHost x → finished_as past x (effect c (after past)) ≡ port_affected (effect c (after past))
    by (hears a b) y = absurd y
    by (passes n) y = absurd y
    by (sets t) y = refl
    by (changes f) y = refl

but_host : (past : List Call) (s : World) (o : Option ℕ) → Alike s.areas (after past).areas → ButPort o (after past).areas s.areas
    → (c : Call) → Hosts c → refusal c (after past) ≡ 0
    → ButPort (settle (finished past c) o) (step c (after past)).areas (step c s).areas
but_host past s o k b c h q =
    rw (host_finished past c h, host_step c h (after past), host_step c h s)
    (but_effects o (after past).areas s.areas k.shape' k.shape b (same_host s (after past) k c h) (host_valid c h (after past) q))

-- ---- between the stretch and the master frame that ends it: exchange and times may differ too

pub record Near (o : Option ℕ) (u s : World) : Type 0 where
  pub areas : Alike s.areas u.areas
  pub but : ButPort o u.areas s.areas
  pub chosen : s.controller.times.chosen ≡ u.controller.times.chosen
  pub device : s.controller.device ≡ u.controller.device

-- of such worlds all is the same that a stretch of damage leaves the same
pub near_kept : {o : Option ℕ} {u s : World} → Near o u s → Unharmed u s
near_kept n = record { areas = n.areas; only = n.but.only; chosen = n.chosen; device = n.device }

chosen_set : (t : Setting) (c d : Controller) → c.times.chosen ≡ d.times.chosen → (tell t c).times.chosen ≡ (tell t d).times.chosen
unfolding tell
chosen_set (address a) c d e = e
chosen_set (status w) c d e = e
chosen_set (reply_time n) c d e = refl
chosen_set (slm b) c d e = e
chosen_set (ls b) c d e = e
chosen_set ec_clear c d e = e
chosen_set reset c d e = refl
chosen_set (group0 g) c d e = e
chosen_set (group1 g) c d e = e

-- from two accepted runs, of which the one is a longer past, any host calls
near_hosts : (short long : List Call) (o : Option ℕ) → Accepted short → Near o (after short) (after long) → (between : List Call)
    → AllHosts between → Accepted (between ++ long)
    → Accepted (between ++ short) × Near (doubtful_port short o between) (after (between ++ short)) (after (between ++ long))
unfolding after doubtful_port
near_hosts short long o run n [] hs acc = (run, n)
near_hosts short long o run n (c ∷ between) hs acc =
    let r = near_hosts short long o run n between hs.1 acc.2 in
    let s = after (between ++ long) in
    let u = after (between ++ short) in
    let k = r.1 in
    let q = accepts_same s u k.areas c acc.1 in (
      (acc.0, q, r.0),
      record {
        areas = alike_host s u k.areas c hs.0 acc.1 q;
        but = but_host (between ++ short) s _ k.areas k.but c hs.0 q;
        chosen = part_host (λ (d : Controller). d.times.chosen) chosen_set c hs.0 s u k.chosen;
        device = part_host (λ (d : Controller). d.device) device_set c hs.0 s u k.device;
      },
    )

-- a stretch of damage
near_stretch : (before stretch : List Call) → Damage before stretch → Accepted (stretch ++ before)
    → Near (waiting_port before) (after before) (after (stretch ++ before))
near_stretch before stretch d acc =
    let k = kept_stretch before stretch acc d in
    record { areas = k.areas; but = stretch_but before stretch acc d; chosen = k.chosen; device = k.device }

-- a stretch of damage and any host calls after it: the run without the stretch is accepted too, and the worlds are near
pub near_between : (before stretch between : List Call) → Damage before stretch → AllHosts between
    → Accepted (between ++ (stretch ++ before))
    → Accepted (between ++ before)
    × Near (doubtful_port before (waiting_port before) between) (after (between ++ before)) (after (between ++ (stretch ++ before)))
near_between before stretch between d hs acc =
    let run = earlier between (stretch ++ before) acc in
    near_hosts before (stretch ++ before) (waiting_port before) (earlier stretch before run) (near_stretch before stretch d run) between hs
    acc

-- ---- the master frame, and what follows

-- a sound master frame touches no area
master_effect : (x : Hearing) → SoundMaster x → (s : World) → effect (hear x x) s ≡ untouched
unfolding effect heard_by heard
master_effect x m s =
    rw (hear_effect_lem s x x, either_line s.controller.lines x) (ap (λ h. effect_of s.areas h x) (heard_master x m s.controller.exchange))

effect_hear : (s u : World) → Same s u → (y : Hearing) → effect (hear y y) s ≡ effect (hear y y) u
unfolding effect heard_by heard
effect_hear s u k y =
    rw (hear_effect_lem s y y, hear_effect_lem u y y, either_line s.controller.lines y, either_line u.controller.lines y)
    (same_effect s.areas u.areas k.areas (as_heard y.kind s.controller.exchange y) y
    ∙ ap (λ (x : Exchange). effect_of u.areas (as_heard y.kind x y) y) k.exchange)

valid_hear : (s : World) (y : Hearing) → length y.words ≡ 16 → Valid s.areas (effect (hear y y) s)
unfolding effect heard_by heard
valid_hear s y l = rw (hear_effect_lem s y y, either_line s.controller.lines y) (valid_heard s.areas y l y.kind s.controller.exchange)

pulse_but : (s u : World) (o : Option ℕ) → Same s u → ButPort o u.areas s.areas
    → ButPort (settle (port_affected (effect_later u.areas (due u))) o) (pulse u).areas (pulse s).areas
unfolding pulse pulse_effect
pulse_but s u o k b =
    but_effects o u.areas s.areas k.areas.shape' k.areas.shape b
    (same_missed s.areas u.areas k.areas (due s) ∙ ap (effect_later u.areas) (same_due s u k)) (later_valid u.areas (due u))

pulses_but : (n : ℕ) (s u : World) (o : Option ℕ) → Same s u → Live u.controller.exchange u.controller.times
    → u.controller.times.adopted ≤ 128 → ButPort o u.areas s.areas
    → ButPort
    (settle (over (wait_now u.controller.exchange u.controller.times n)
    (sink_port u.areas (wait_now u.controller.exchange u.controller.times 0))) o) (pulses n u).areas (pulses n s).areas
unfolding pulses pulse pulse_controller pulse_effect
pulses_but zero s u o k l a b = rw (over_now u.areas (wait_now u.controller.exchange u.controller.times 0)) b
pulses_but (suc n) s u o k l a b =
    let x = u.controller.exchange in
    let t = u.controller.times in
    let r =
    pulses_but n (pulse s) (pulse u) (settle (port_affected (effect_later u.areas (due u))) o) (same_pulse s u k) (live_later x t l) a
    (pulse_but s u o k b) in
    subst (λ (p : Option ℕ). ButPort p (pulses n (pulse u)).areas (pulses n (pulse s)).areas) (over_later u.areas o n x t l a) r

-- the ends of the bit times change ages alone, whatever the two phases
ticks_but : (n : ℕ) (s u : World) (o : Option ℕ) → areas_fit u.areas ≡ true → areas_fit s.areas ≡ true
    → ButPort o (pulses n u).areas (pulses n s).areas → ButPort o (ticks n u).areas (ticks n s).areas
ticks_but n s u o f g b =
    rw (ticks_grown n s g, ticks_grown n u f)
    (but_ages o b (grown_ages n (pulses n u) (pulses_fits n u f)) (grown_ages n (pulses n s) (pulses_fits n s g)))

-- one call, heard alike and accepted in both
but_step : (past : List Call) (s : World) (o : Option ℕ) → ToldBy past (after past) → Same s (after past)
    → ButPort o (after past).areas s.areas → (c : Call) → Sort c → Typed c → HeardAlike c → refusal c (after past) ≡ 0
    → ButPort (settle (finished past c) o) (step c (after past)).areas (step c s).areas
unfolding step finished
but_step past s o h k b c (event {a} {b = y}) ty al q =
    subst (λ (z : Hearing). ButPort (settle (finished past (hear a z)) o) (step (hear a z) (after past)).areas (step (hear a z) s).areas) al
    (but_effects o (after past).areas s.areas k.areas.shape' k.areas.shape b (effect_hear s (after past) k a)
    (valid_hear (after past) a ty.0))
but_step past s o h k b c (pause {n}) ty al q =
    ticks_but n s (after past) _ k.areas.shape'.fits k.areas.shape.fits
    (rw (← (h.holds.waits n), ← (waiting_told past h)) (pulses_but n s (after past) o k h.holds.live h.holds.short b))
but_step past s o h k b c (host x) ty al q = but_host past s o k.areas b c x q

-- the master frame that ends the stretch
but_master : (past : List Call) (s : World) (o : Option ℕ) → ButPort o (after past).areas s.areas
    → (x : Hearing) → SoundMaster x
    → ButPort (settle (finished past (hear x x)) o) (step (hear x x) (after past)).areas (step (hear x x) s).areas
unfolding step apply finished
but_master past s o b x m = rw (master_effect x m (after past), master_effect x m s) b

-- after the master frame: the worlds are the same, but for ages, and for status bits of port o, if there is one
pub record Joined (o : Option ℕ) (u s : World) : Type 0 where
  pub same : Same s u
  pub but : ButPort o u.areas s.areas

-- from two accepted runs whose worlds are near, any calls that may follow a stretch lead to joined worlds
joined_from : (short long : List Call) (o : Option ℕ) → Accepted short → Near o (after short) (after long) → (calls : List Call)
    → Follows calls → Accepted (calls ++ long)
    → Accepted (calls ++ short) × Joined (doubtful_port short o calls) (after (calls ++ short)) (after (calls ++ long))
unfolding after doubtful_port
joined_from short long o run n calls (ended {x} {between} m hs) acc =
    let r = near_hosts short long o run n between hs acc.2 in
    let s = after (between ++ long) in
    let u = after (between ++ short) in
    let k = near_kept r.1 in (
      (acc.0, master_accepted u s k x acc.1, r.0),
      record {
        same = same_master u s k x m;
        but = but_master (between ++ short) s _ r.1.but x m;
      },
    )
joined_from short long o run n calls (then {c} {calls = later} al f) acc =
    let r = joined_from short long o run n later f acc.2 in
    let s = after (later ++ long) in
    let u = after (later ++ short) in
    let k = r.1.same in
    let q = accepts_same s u k.areas c acc.1 in (
      (acc.0, q, r.0),
      record {
        same = same_step s u k c acc.0 al acc.1 q;
        but = but_step (later ++ short) s _ (past_told (later ++ short) r.0) k r.1.but c (sort c) acc.0 al q;
      },
    )

-- a stretch of damage and any calls that may follow it: the run without the stretch is accepted too, and the worlds are joined
pub joined : (before stretch : List Call) → Damage before stretch → (calls : List Call) → Follows calls
    → Accepted (calls ++ (stretch ++ before))
    → Accepted (calls ++ before)
    × Joined (doubtful_port before (waiting_port before) calls) (after (calls ++ before)) (after (calls ++ (stretch ++ before)))
joined before stretch d calls f acc =
    let run = earlier calls (stretch ++ before) acc in
    joined_from before (stretch ++ before) (waiting_port before) (earlier stretch before run) (near_stretch before stretch d run) calls f acc

-- WHAT MAY DIFFER. Any run before; any stretch of damage on two lines; any host calls, a sound master frame heard on both lines, and any
-- calls heard alike on both lines. If this run is accepted, so is the one without the stretch, and after both exchange, times and device,
-- index table, pages and every port's words are the same, but for ages, and for status bits of the one port whose master word was waited
-- for when the stretch began; and the status bits too once the exchange at its address has finished, or it was written, closed or opened.
pub may_differ : (before stretch calls : List Call) → Damage before stretch → Follows calls → Accepted (calls ++ (stretch ++ before))
    → Accepted (calls ++ before)
    × MayDiffer (doubtful before (waiting_address before) calls) (after (calls ++ before)) (after (calls ++ (stretch ++ before)))
may_differ before stretch calls d f acc =
    let r = joined before stretch d calls f acc in
    let k = r.1.same in (
      r.0,
      record {
        exchange = k.exchange;
        times = k.times;
        device = k.device;
        areas =
            at_address (calls ++ before) (past_told (calls ++ before) r.0) _ _ (rw (waiting_address_lem before calls r.0) r.1.but);
        replies = λ y n. same_reply _ _ k.areas y n;
      },
    )

-- THE DAMAGE THEOREM, demand 3: every address then shows the same words with the same fills, and gets the same data replies.
pub damage_unseen : (before stretch calls : List Call) → Damage before stretch → Follows calls → Accepted (calls ++ (stretch ++ before))
    → Accepted (calls ++ before) × Unseen (after (calls ++ (stretch ++ before))) (after (calls ++ before))
damage_unseen before stretch calls d f acc =
    let r = joined before stretch d calls f acc in
    (r.0, unseen_same _ _ r.1.same)
