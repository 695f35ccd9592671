-- What the promises of the public calls say of one call, and sequences of calls. Assumes nothing.
use Rattle.std.specs.Prelude.{ℕ, ◌≡◌, Bool, List, [], ◌∷◌, Result}
use Rattle.constants.specs.declared.refusals.Refusal.{Refusal}
use Rattle.constants.specs.Refusal.{told}
use Rattle.frames.specs.declared.Hearing.{Hearing}
use Rattle.model.specs.Answer.{Answer}
use Rattle.model.specs.declared.Controller.{Controller}
use Rattle.model.specs.Layout.{Areas}
use Rattle.model.specs.Event.{World, world, silent}
use Rattle.model.specs.Host.{address, status, reply_time, slm, ls, ec_clear, reset, group0, group1, fresh_controller, tell}
use Rattle.model.specs.Calls.{Call, hear, quiet, open_port, close_port, write_port, read_port, setting, Outcome, outcome, asked, refusal_of, start}
use Rattle.model.specs.Past.{Typed}
use Rattle.host_ports.specs.Host.{out, host_call}
use Rattle.host_controller.specs.declared.GroupCall.{GroupCall}
use Rattle.host_controller.specs.declared.Reading.{Reading}
use Rattle.host_controller.specs.Groups.{call_of, reading0, reading1}
use Rattle.host_controller.specs.Settings.{told_for, after_told}

-- A call was made with the controller and the areas of s: it answered a number, 0 or its refusal, and a reply, and left t. Each line is
-- the promise of the function that it names, for whatever that function answers; what a function is not lent stays as it was.
pub data Made (s : World) : Call → ℕ → Hearing → World → Type 0 where
  -- bus::calls, whose answer and areas afterwards make up an outcome
  by_hear : {a b : Hearing} {o : Outcome} → o ≡ outcome (hear a b) s → Made s (hear a b) o.refusal o.reply o.world
  by_quiet : {n : ℕ} {o : Outcome} → o ≡ outcome (quiet n) s → Made s (quiet n) o.refusal o.reply o.world
  -- host_ports::calls; asking and fetching change nothing
  by_open : {a p code : ℕ} {sink : Bool} {i limit : ℕ} {m : Areas} {n : ℕ} → out m n ≡ host_call (open_port a p code sink i limit) s.areas
      → Made s (open_port a p code sink i limit) n silent (world s.controller m)
  by_close : {a : ℕ} {m : Areas} {n : ℕ} → out m n ≡ host_call (close_port a) s.areas
      → Made s (close_port a) n silent (world s.controller m)
  by_write : {a : ℕ} {ws : List ℕ} {m : Areas} {n : ℕ} → out m n ≡ host_call (write_port a ws) s.areas
      → Made s (write_port a ws) n silent (world s.controller m)
  by_ask : {a : ℕ} {x : Answer} → x ≡ asked s.areas a → Made s (read_port a) (refusal_of x) silent s
  -- host_controller::settings
  by_set_address : {a : ℕ} {r : Result Controller Refusal} → r ≡ told_for (address a) s.controller
      → Made s (setting (address a)) (told r) silent (world (after_told s.controller r) s.areas)
  by_set_reply_time : {t : ℕ} {r : Result Controller Refusal} → r ≡ told_for (reply_time t) s.controller
      → Made s (setting (reply_time t)) (told r) silent (world (after_told s.controller r) s.areas)
  by_set_status : {w : ℕ} {c : Controller} → c ≡ tell (status w) s.controller
      → Made s (setting (status w)) 0 silent (world c s.areas)
  by_set_slm : {b : Bool} {c : Controller} → c ≡ tell (slm b) s.controller → Made s (setting (slm b)) 0 silent (world c s.areas)
  by_set_ls : {b : Bool} {c : Controller} → c ≡ tell (ls b) s.controller → Made s (setting (ls b)) 0 silent (world c s.areas)
  by_clear_ec : {c : Controller} → c ≡ tell ec_clear s.controller → Made s (setting ec_clear) 0 silent (world c s.areas)
  by_reset : {c : Controller} → c ≡ fresh_controller → Made s (setting reset) 0 silent (world c s.areas)
  -- host_controller::groups
  by_on_group0 : (k : GroupCall) {r : Reading} → r ≡ reading0 k s.controller
      → Made s (setting (group0 (call_of k))) 0 silent (world r.controller s.areas)
  by_on_group1 : (k : GroupCall) {r : Reading} → r ≡ reading1 k s.controller
      → Made s (setting (group1 (call_of k))) 0 silent (world r.controller s.areas)

-- A sequence of calls from a fresh controller and cleared areas that only our calls change, with the controller and the areas after it.
-- The list has the calls that were accepted, the newest first: a refused call is no step of a run.
pub data Ran : List Call → World → Type 0 where
  begun : Ran [] start
  accepted : {past : List Call} {s t : World} {c : Call} {r : Hearing} → Ran past s → Typed c → Made s c 0 r t → Ran (c ∷ past) t
  refused : {past : List Call} {s t : World} {c : Call} {n : ℕ} {r : Hearing} → Ran past s → (n ≡ 0 → ⊥) → Made s c n r t → Ran past t
