-- What a call answers and leaves is the model's outcome of it; so a promise allows one result alone. Assumes nothing.
use Prim.Native.Nat.{ℕ}
use mathlib.Core.Path.{◌≡◌, refl, sym, ◌∙◌, ap}
use mathlib.Core.Bool.{Bool, true, false, cond}
use Rattle.std.specs.Prelude.{None, Result, Ok, Err}
use Rattle.constants.specs.declared.refusals.Refusal.{Refusal}
use Rattle.constants.specs.declared.refusals.Refusal.TheVariants.{Range}
use Rattle.constants.specs.Refusal.{told}
use lib.Dec.{eqb}
use Rattle.frames.specs.declared.Hearing.{Hearing}
use Rattle.model.specs.Answer.{Answer}
use Rattle.model.specs.declared.Controller.{Controller}
use Rattle.model.specs.Layout.{Areas}
use Rattle.model.specs.Event.{World, world, silent}
use Rattle.model.specs.Host.{Setting, setting_out, tell}
use Rattle.model.specs.Calls.{Call, Outcome, outcome_of, outcome, read_port, setting, refusal, step, effect, answer, fresh_over, port_refusal}
use Rattle.model.specs.Calls.{asked, refusal_of}
use Rattle.host_ports.specs.Host.{Out, out, host_call, port_areas}
use Rattle.host_controller.specs.declared.Reading.{Reading}
use Rattle.host_controller.specs.Groups.{reading0, reading1}
use Rattle.host_controller.specs.Settings.{told_for, after_told}
use Rattle.model.proofs.Reading.{asked_number}
use Rattle.demands.specs.Made.{Made, by_hear, by_quiet, by_open, by_close, by_write, by_ask, by_set_address, by_set_reply_time}
use Rattle.demands.specs.Made.{by_set_status, by_set_slm, by_set_ls, by_clear_ec, by_reset, by_on_group0, by_on_group1}

-- the outcome of a call with this number, this reply and this world afterwards
abbrev pub outcome_with : ℕ → Hearing → World → Outcome
outcome_with n r t = record { refusal = n; reply = r; world = t }

-- ---- the host's calls on ports ask nothing of the controller, and leave it

module _ (c : Call) (s : World) (number : refusal c (fresh_over s.areas) ≡ refusal c s) (mute : answer c s ≡ None)
    (left : step c s ≡ world s.controller (step c (fresh_over s.areas)).areas) where
  on_ports : {m : Areas} {n : ℕ} → out m n ≡ host_call c s.areas → outcome c s ≡ outcome_with n silent (world s.controller m)
  unfolding host_call port_areas port_refusal outcome
  on_ports {m} {n} e =
      rw (ap (λ (x : Out). x.number) e, ap (λ (x : Out). x.after) e, number) (go (eqb (refusal c s) 0) refl)
    where
      go : (b : Bool) → eqb (refusal c s) 0 ≡ b
          → outcome_of (refusal c s) c s
          ≡ outcome_with (refusal c s) silent (world s.controller (outcome_of (refusal c s) c (fresh_over s.areas)).world.areas)
      go true z = rw (z, mute, left)
      go false z = rw z

-- ---- settings

set : (s : World) (t : Setting)
    → outcome (setting t) s
    ≡ cond (setting_out t) (outcome_with 2 silent s) (outcome_with 0 silent (world (tell t s.controller) s.areas))
unfolding outcome refusal step answer
set s t = go (setting_out t)
  where
    go : (b : Bool)
        → outcome_of (cond b 2 0) (setting t) s
        ≡ cond b (outcome_with 2 silent s) (outcome_with 0 silent (world (tell t s.controller) s.areas))
    go true = refl
    go false = refl

ranged : (s : World) (t : Setting) {r : Result Controller Refusal} → r ≡ told_for t s.controller
    → outcome (setting t) s ≡ outcome_with (told r) silent (world (after_told s.controller r) s.areas)
unfolding told_for
ranged s t e = set s t ∙ rw e (go (setting_out t))
  where
    go : (b : Bool) → cond b (outcome_with 2 silent s) (outcome_with 0 silent (world (tell t s.controller) s.areas))
        ≡ outcome_with (told (cond b (Err Range) (Ok (tell t s.controller)))) silent
        (world (after_told s.controller (cond b (Err Range) (Ok (tell t s.controller)))) s.areas)
    go true = refl
    go false = refl

unranged : (s : World) (t : Setting) {c : Controller} → setting_out t ≡ false → c ≡ tell t s.controller
    → outcome (setting t) s ≡ outcome_with 0 silent (world c s.areas)
unranged s t z e = set s t ∙ rw (z, e)

-- ---- reading: what asking refuses is what the call refuses

read_outcome : (k : ℕ) (a : ℕ) (s : World) → outcome_of k (read_port a) s ≡ outcome_with k silent s
unfolding step answer
read_outcome k a s = go (eqb k 0)
  where
    go : (b : Bool) → record { refusal = k; reply = cond b silent silent; world = cond b s s } ≡ outcome_with k silent s
    go true = refl
    go false = refl

read_number : (s : World) (a : ℕ) {x : Answer} → x ≡ asked s.areas a → refusal_of x ≡ refusal (read_port a) s
unfolding port_refusal refusal
read_number s a e = ap refusal_of e ∙ asked_number s.areas a

read : (s : World) (a : ℕ) {x : Answer} → x ≡ asked s.areas a → outcome (read_port a) s ≡ outcome_with (refusal_of x) silent s
unfolding outcome
read s a e = read_outcome (refusal (read_port a) s) a s ∙ rw (read_number s a e)

-- ---- every call

-- What a call of the code answers and leaves is the model's outcome of it.
pub made_outcome : {s t : World} {c : Call} {n : ℕ} {r : Hearing} → Made s c n r t → outcome c s ≡ outcome_with n r t
unfolding refusal step effect answer tell reading0 reading1
made_outcome (by_hear e) = sym e
made_outcome (by_quiet e) = sym e
made_outcome {s} {c = c} (by_open e) = on_ports c s refl refl refl e
made_outcome {s} {c = c} (by_close e) = on_ports c s refl refl refl e
made_outcome {s} {c = c} (by_write e) = on_ports c s refl refl refl e
made_outcome {s} (by_ask e) = read s _ e
made_outcome {s} (by_set_address e) = ranged s _ e
made_outcome {s} (by_set_reply_time e) = ranged s _ e
made_outcome {s} (by_set_status e) = unranged s _ refl e
made_outcome {s} (by_set_slm e) = unranged s _ refl e
made_outcome {s} (by_set_ls e) = unranged s _ refl e
made_outcome {s} (by_clear_ec e) = unranged s _ refl e
made_outcome {s} (by_reset e) = unranged s _ refl e
made_outcome {s} (by_on_group0 k e) = unranged s _ refl (ap (λ (x : Reading). x.controller) e)
made_outcome {s} (by_on_group1 k e) = unranged s _ refl (ap (λ (x : Reading). x.controller) e)

-- Two results that the promise of a call allows are equal: the number, the reply, and controller and areas afterwards. (What a call on a
-- group reads is equal too: `one_reading0`, `one_reading1` of Bridge.antt.)
pub one_answer : {s t u : World} {c : Call} {n k : ℕ} {r q : Hearing} → Made s c n r t → Made s c k q u
    → outcome_with n r t ≡ outcome_with k q u
one_answer x y = sym (made_outcome x) ∙ made_outcome y
