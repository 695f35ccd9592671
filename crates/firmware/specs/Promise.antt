-- What the exported calls answer and leave: the outcomes of the crates `model` and `host_controller`, through the conversions; and what
-- is turned away before it comes to a call. Assumes nothing.
use Rattle.std.specs.Prelude.{ℕ, Bool, cond, ◌&&◌, List, length, Result}
use Rattle.constants.specs.declared.refusals.Refusal.{Refusal}
use Rattle.constants.specs.Refusal.{told}
use Rattle.sequence.specs.Frame.{frame_checks}
use Rattle.interrupts.specs.declared.Group.{Group}
use Rattle.model.specs.Answer.{Answer}
use Rattle.model.specs.Answer.{Never, Good, Held, Stale, Refused}
use Rattle.model.specs.declared.Controller.{Controller}
use Rattle.model.specs.Layout.{Areas, pages_fit, areas_fit}
use Rattle.model.specs.Event.{world, padded, silent}
use Rattle.model.specs.Host.{Setting}
use Rattle.model.specs.Calls.{Call, Outcome, outcome, asked, fetched, refusal_of}
use Rattle.host_controller.specs.declared.GroupCall.{GroupCall}
use Rattle.host_controller.specs.declared.Reading.{Reading}
use Rattle.host_controller.specs.Settings.{told_for, after_told}
use Rattle.host_controller.specs.Groups.{reading0, reading1}
use Rattle.host_ports.specs.Host.{Out, out, host_call}
use Rattle.firmware_layout.specs.declared.FlatController.{FlatController}
use Rattle.firmware_layout.specs.declared.FlatHearing.{FlatHearing}
use Rattle.firmware.specs.declared.FlatAnswered.{FlatAnswered}
use Rattle.firmware.specs.declared.FlatTold.{FlatTold}
use Rattle.firmware.specs.declared.FlatReading.{FlatReading}
use Rattle.firmware.specs.declared.Number.{Number}
use Rattle.firmware.specs.declared.Fetched.{Fetched}
use Rattle.firmware.specs.declared.FlatChecks.{FlatChecks}
use Rattle.firmware_layout.specs.Flags.{is_bit, is_set}
use Rattle.firmware_layout.specs.Controller.{flat, controller_of, ours}
use Rattle.firmware_layout.specs.Hearing.{flat_hearing}

-- ---- calls that are lent the areas: an argument out of range is 2, after 1 where an area has another length

abbrev pub away_number : Areas → ℕ
away_number m = cond (areas_fit m) 2 1

-- the number of a call that is turned away, or 0 where its areas have their lengths and its arguments are given
abbrev pub admitted : Bool → Areas → ℕ
admitted given m = cond (areas_fit m) (cond given 0 2) 1

-- ---- bus events and quiet time

-- an answer and the areas afterwards
pub record FlatOutcome : Type 0 where
  pub answered : FlatAnswered
  pub areas : Areas

abbrev pub answers : ℕ → FlatController → FlatHearing → FlatAnswered
answers n f h = record { refusal = n; controller = f; reply = h }

abbrev pub leaves : Areas → FlatAnswered → FlatOutcome
leaves m r = record { answered = r; areas = m }

abbrev pub flat_outcome : Outcome → FlatOutcome
flat_outcome o = leaves o.world.areas (answers o.refusal (flat o.world.controller) (flat_hearing o.reply))

-- turned away: controller and areas as they were, and no reply
abbrev pub away : FlatController → Areas → FlatOutcome
away f m = leaves m (answers (away_number m) f (flat_hearing silent))

-- a call over a controller of numbers, where its arguments are controllers and hearings
unfoldable pub through : Bool → Call → FlatController → Areas → FlatOutcome
through given c f m = cond given (flat_outcome (outcome c (world (controller_of f) m))) (away f m)

-- the check bytes of a frame
unfoldable pub flat_checks : List ℕ → FlatChecks
flat_checks ws = record { count = (frame_checks ws).count; bytes = (frame_checks ws).bytes }

-- ---- the host's calls on ports, in which the controller plays no part

-- opening with a side that is neither 0 nor 1 is turned away
unfoldable pub open_through : Bool → Call → Areas → Out
open_through given c m = cond given (host_call c m) (out m (away_number m))

abbrev pub number_with : ℕ → ℕ → Number
number_with n v = record { refusal = n; value = v }

-- 0 never, 1 good, 2 held, 3 stale
abbrev pub answer_number : Answer → Number
answer_number Never = number_with 0 0
answer_number Good = number_with 0 1
answer_number Held = number_with 0 2
answer_number Stale = number_with 0 3
answer_number (Refused n) = number_with n 0

-- a number, and words with their count, zeros after them
abbrev pub fetched_with : ℕ → List ℕ → Fetched
fetched_with n ws = record { refusal = n; size = length ws; words = padded ws }

-- fetching: 1 where a page has another length, else what asking answers; and the words
unfoldable pub fetching : Areas → ℕ → Fetched
fetching m a = fetched_with (cond (pages_fit m) (refusal_of (asked m a)) 1) (fetched m a)

-- ---- settings

abbrev pub flat_told : Controller → Result Controller Refusal → FlatTold
flat_told c answer = record { refusal = told answer; controller = flat (after_told c answer) }

abbrev pub away_told : FlatController → FlatTold
away_told f = record { refusal = 2; controller = f }

unfoldable pub set_through : Bool → Setting → FlatController → FlatTold
set_through given s f = cond given (flat_told (controller_of f) (told_for s (controller_of f))) (away_told f)

-- ---- interrupt groups, 0 or 1

abbrev pub reading : ℕ → GroupCall → Controller → Reading
reading n k c = cond (is_set n) (reading1 k c) (reading0 k c)

abbrev pub group_at : ℕ → Controller → Group
group_at n c = cond (is_set n) c.group1 c.group0

abbrev pub flat_reading : Reading → FlatReading
flat_reading r = record { refusal = 0; value = r.value; controller = flat r.controller }

abbrev pub away_reading : FlatController → FlatReading
away_reading f = record { refusal = 2; value = 0; controller = f }

unfoldable pub read_through : ℕ → GroupCall → FlatController → FlatReading
read_through n k f = cond (ours f && is_bit n) (flat_reading (reading n k (controller_of f))) (away_reading f)

-- ---- a number of the controller: the outgoing line of a group, 1 while it is active; FC; EC

abbrev pub asks : Bool → ℕ → Number
asks given v = cond given (number_with 0 v) (number_with 2 0)
