-- An exported call whose arguments are a controller of ours, hearings and flags is an inner call, by `Made` of the crate `demands`: through
-- the conversions, which are inverse on what we hand out. Assumes nothing.
use Prim.Native.Nat.{ℕ}
use mathlib.Core.Path.{◌≡◌, refl, sym, ◌∙◌, ap, subst}
use mathlib.Core.Bool.{Bool, true, false, cond, ◌&&◌, and-eq-true_iff}
use Rattle.frames.specs.declared.Hearing.{Hearing}
use Rattle.model.specs.Answer.{Answer}
use Rattle.model.specs.Answer.{Never, Good, Held, Stale, Refused}
use Rattle.model.specs.declared.Controller.{Controller}
use Rattle.model.specs.Layout.{Areas}
use Rattle.model.specs.Event.{World, world, silent}
use Rattle.model.specs.Host.{Setting, setting_out, address, reply_time, reset, group0, group1, fresh_controller, tell}
use Rattle.model.specs.Calls.{Call, read_port, setting, Outcome, outcome, asked, refusal_of}
use Rattle.host_ports.specs.Host.{Out, host_call}
use Rattle.host_controller.specs.declared.GroupCall.{GroupCall}
use Rattle.std.specs.Prelude.{Ok, Err}
use Rattle.constants.specs.declared.refusals.Refusal.TheVariants.{Range}
use Rattle.constants.specs.Refusal.{told}
use Rattle.host_controller.specs.Settings.{told_for, after_told}
use Rattle.host_controller.specs.Groups.{call_of, reading0, reading1}
use Rattle.demands.specs.Made as inner
use Rattle.demands.specs.Made.{Made}
use Rattle.firmware_layout.specs.declared.FlatController.{FlatController}
use Rattle.firmware_layout.specs.Flags.{is_bit, is_set}
use Rattle.firmware_layout.specs.Controller.{flat, controller_of, ours}
use Rattle.firmware_layout.specs.Hearing.{hearing_of}
use Rattle.firmware_layout.specs.Kept.{Ours}
use Rattle.firmware_layout.proofs.Inverse.{same_controller, same_hearing}
use Rattle.firmware_layout.proofs.Kept.{ours_taken, ours_kept, ours_fresh, ours_told}
use Rattle.firmware.specs.declared.FlatTold.{FlatTold}
use Rattle.firmware.specs.declared.FlatReading.{FlatReading}
use Rattle.firmware.specs.declared.Number.{Number}
use Rattle.firmware.specs.declared.Fetched.{Fetched}
use Rattle.firmware.specs.Promise.{FlatOutcome, leaves, through, open_through, answer_number, fetching, set_through, read_through}
use Rattle.firmware_demands.specs.Clauses.{Set, set_address, set_status, set_reply_time, set_slm, set_ls, clear_ec, OnGroup}
use Rattle.firmware_demands.specs.Called.{Called, by_hear, by_quiet, by_open, by_close, by_write, by_ask, by_fetch, by_reset, by_setting}
use Rattle.firmware_demands.specs.Called.{by_group, group_call}
use Rattle.firmware_demands.proofs.Promised.{hears_promised, quiets_promised, opens_promised, closes_promised, writes_promised, asks_promised}
use Rattle.firmware_demands.proofs.Promised.{fetches_promised, resets_promised, set_promised, group_promised}

-- The controller that is handed out stands for the one inside.
pub back : (c : Controller) → Ours c → controller_of (flat c) ≡ c
back c o = same_controller c o.first o.second

-- the outcome of the call inside, as an answer and the areas tell it
abbrev in_outcome : FlatOutcome → Outcome
in_outcome x =
    record {
      refusal = x.answered.refusal;
      reply = hearing_of x.answered.reply;
      world = world (controller_of x.answered.controller) x.areas;
    }

through_outcome : (given : Bool) (c : Call) (f : FlatController) (m : Areas) (x : FlatOutcome) → x ≡ through given c f m → given ≡ true
    → ours f ≡ true → in_outcome x ≡ outcome c (world (controller_of f) m)
unfolding through
through_outcome given c f m x e g t =
    let s = world (controller_of f) m in
    let o = outcome c s in
    rw (e, g, same_hearing o.reply, back o.world.controller (ours_kept c s (ours_taken f t)))

opened_through : (given : Bool) (c : Call) (m : Areas) (x : Out) → x ≡ open_through given c m → given ≡ true → x ≡ host_call c m
unfolding open_through
opened_through given c m x e g = e ∙ rw g

-- The number that asking answers is that of a refusal, 0 for any other answer.
pub answer_refusal : (x : Answer) → refusal_of x ≡ (answer_number x).refusal
answer_refusal Never = refl
answer_refusal Good = refl
answer_refusal Held = refl
answer_refusal Stale = refl
answer_refusal (Refused n) = refl

read_made : (s : World) (a n : ℕ) → refusal_of (asked s.areas a) ≡ n → Made s (read_port a) n silent s
read_made s a n e = subst (λ (k : ℕ). Made s (read_port a) k silent s) e (inner.by_ask {x = asked s.areas a} refl)

reset_made : (s : World) (r : FlatController) → r ≡ flat fresh_controller → Made s (setting reset) 0 silent (world (controller_of r) s.areas)
reset_made s r e = inner.by_reset (ap controller_of e ∙ back fresh_controller ours_fresh)

-- each setting as the promise inside has it
told_made : {f : FlatController} {given : Bool} {t : Setting} {r : FlatTold} → Set f given t r → (s : World)
    → Made s (setting t) (told (told_for t s.controller)) silent (world (after_told s.controller (told_for t s.controller)) s.areas)
unfolding told_for
told_made (set_address κs {a = a} left p) s = inner.by_set_address {r = told_for (address a) s.controller} refl
told_made (set_status κs left p) s = inner.by_set_status refl
told_made (set_reply_time κs {t = t} left p) s = inner.by_set_reply_time {r = told_for (reply_time t) s.controller} refl
told_made (set_slm κs on left p) s = inner.by_set_slm refl
told_made (set_ls κs on left p) s = inner.by_set_ls refl
told_made (clear_ec κs left p) s = inner.by_clear_ec refl

set_ours : {f : FlatController} {given : Bool} {t : Setting} {r : FlatTold} → Set f given t r → given ≡ true → ours f ≡ true
set_ours (set_address κs left p) g = g
set_ours (set_status κs left p) g = g
set_ours (set_reply_time κs left p) g = g
set_ours (set_slm κs on left p) g = ((and-eq-true_iff _ _).0 g).0
set_ours (set_ls κs on left p) g = ((and-eq-true_iff _ _).0 g).0
set_ours (clear_ec κs left p) g = g

ours_told_for : (t : Setting) (c : Controller) → Ours c → Ours (after_told c (told_for t c))
unfolding told_for
ours_told_for t c o = go (setting_out t) refl
  where
    go : (b : Bool) → setting_out t ≡ b → Ours (after_told c (cond b (Err Range) (Ok (tell t c))))
    go true e = o
    go false e = ours_told t c e o

set_made : {f : FlatController} {given : Bool} {t : Setting} (m : Areas) (r : FlatTold) → Set f given t r → given ≡ true
    → Made (world (controller_of f) m) (setting t) r.refusal silent (world (controller_of r.controller) m)
unfolding set_through
set_made {f = f} {t = t} m r s g =
    let c = controller_of f in
    rw (set_promised s, g, back (after_told c (told_for t c)) (ours_told_for t c (ours_taken f (set_ours s g)))) (told_made s (world c m))

group_made : {f : FlatController} (m : Areas) (n : ℕ) (k : GroupCall) (r : FlatReading) → OnGroup f n k r → (ours f && is_bit n) ≡ true
    → Made (world (controller_of f) m) (setting (group_call n k)) r.refusal silent (world (controller_of r.controller) m)
unfolding read_through reading0 reading1
group_made {f} m n k r o g = rw (group_promised o, g) (go (is_set n))
  where
    c : Controller
    c = controller_of f

    kept : (t : Setting) → setting_out t ≡ false → controller_of (flat (tell t c)) ≡ tell t c
    kept t e = back (tell t c) (ours_told t c e (ours_taken f ((and-eq-true_iff _ _).0 g).0))

    go : (one : Bool)
        → Made (world c m) (setting (cond one (group1 (call_of k)) (group0 (call_of k)))) 0 silent
        (world (controller_of (flat (cond one (reading1 k c) (reading0 k c)).controller)) m)
    go true = rw (kept (group1 (call_of k)) refl) (inner.by_on_group1 k refl)
    go false = rw (kept (group0 (call_of k)) refl) (inner.by_on_group0 k refl)

-- Where its arguments are given, an exported call is the inner call that it stands for, whatever the areas hold.
pub called_made : {given : Bool} {f g : FlatController} {m m' : Areas} {c : Call} {n : ℕ} {h : Hearing} → Called given f m c n h g m'
    → given ≡ true → Made (world (controller_of f) m) c n h (world (controller_of g) m')
unfolding fetching
called_made (by_hear x y r s) t =
    inner.by_hear (through_outcome _ _ _ _ (leaves _ r) (hears_promised s) t ((and-eq-true_iff _ _).0 ((and-eq-true_iff _ _).0 t).0).0)
called_made (by_quiet r s) t = inner.by_quiet (through_outcome _ _ _ _ (leaves _ r) (quiets_promised s) t t)
called_made (by_open side s) t = inner.by_open (opened_through _ _ _ _ (opens_promised s) t)
called_made (by_close s) t = inner.by_close (closes_promised s)
called_made (by_write s) t = inner.by_write (writes_promised s)
called_made {m = m} (by_ask {a = a} r s) t =
    read_made _ a _ (answer_refusal (asked m a) ∙ ap (λ (x : Number). x.refusal) (sym (asks_promised s)))
called_made {m = m} (by_fetch {a = a} r s) t =
    read_made _ a _
    (sym (ap (λ (x : Fetched). x.refusal) (fetches_promised s) ∙ ap (λ (fit : Bool). cond fit (refusal_of (asked m a)) 1) t))
called_made (by_reset s) t = reset_made _ _ (resets_promised s)
called_made (by_setting r s) t = set_made _ r s t
called_made (by_group n k r s) t = group_made _ n k r s t
