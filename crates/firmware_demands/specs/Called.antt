-- One exported call of the crate `firmware`, as a host makes it. Assumes nothing.
use Rattle.std.specs.Prelude.{ℕ, Bool, true, cond, ◌&&◌, List, length}
use Rattle.frames.specs.declared.Hearing.{Hearing}
use Rattle.model.specs.Layout.{Areas, pages_fit}
use Rattle.model.specs.Event.{padded, silent}
use Rattle.model.specs.Host.{Setting, reset, group0, group1}
use Rattle.model.specs.Calls.{Call, hear, quiet, open_port, close_port, write_port, read_port, setting}
use Rattle.host_controller.specs.declared.GroupCall.{GroupCall}
use Rattle.host_controller.specs.Groups.{call_of}
use Rattle.firmware_layout.specs.declared.FlatController.{FlatController}
use Rattle.firmware_layout.specs.declared.FlatHearing.{FlatHearing}
use Rattle.firmware_layout.specs.Flags.{is_bit, is_set}
use Rattle.firmware_layout.specs.Controller.{ours}
use Rattle.firmware_layout.specs.Hearing.{hearing_of, formed}
use Rattle.firmware.specs.declared.FlatAnswered.{FlatAnswered}
use Rattle.firmware.specs.declared.FlatTold.{FlatTold}
use Rattle.firmware.specs.declared.FlatReading.{FlatReading}
use Rattle.firmware.specs.declared.Number.{Number}
use Rattle.firmware.specs.declared.Fetched.{Fetched}
use Rattle.firmware.specs.declared.FlatChecks.{FlatChecks}
use Rattle.firmware.specs.Promise.{away_number}
use Rattle.firmware_demands.specs.Clauses.{Hears, Quiets, Opens, Closes, Writes, Asks, Fetches, Resets, Set, OnGroup}

-- a call on group 1 where n is 1, on group 0 else
abbrev pub group_call : ℕ → GroupCall → Setting
group_call n k = cond (is_set n) (group1 (call_of k)) (group0 (call_of k))

-- `Called given f m c n h g m'`: with the controller f and the areas m a host made an exported call, which stands for the call c of the
-- crate `model`; it answered the number n, 0 or its refusal, and replied h, and left the controller g and the areas m'. `given` says that
-- its arguments are a controller of ours, hearings and flags, and on fetching that both pages have their length; all else is the host's
-- choice.
pub data Called : Bool → FlatController → Areas → Call → ℕ → Hearing → FlatController → Areas → Type 0 where
  by_hear : {f : FlatController} {m m' : Areas} (x y : FlatHearing) (r : FlatAnswered) → Hears m f x y r m'
      → Called (ours f && formed x && formed y) f m (hear (hearing_of x) (hearing_of y)) r.refusal (hearing_of r.reply) r.controller m'
  by_quiet : {f : FlatController} {m m' : Areas} {t : ℕ} (r : FlatAnswered) → Quiets m f t r m'
      → Called (ours f) f m (quiet t) r.refusal (hearing_of r.reply) r.controller m'
  -- beside whatever controller the host holds
  by_open : {f : FlatController} {m m' : Areas} {a p code : ℕ} (side : ℕ) {interrupt limit r : ℕ} → Opens m a p code side interrupt limit r m'
      → Called (is_bit side) f m (open_port a p code (is_set side) interrupt limit) r silent f m'
  by_close : {f : FlatController} {m m' : Areas} {a r : ℕ} → Closes m a r m' → Called true f m (close_port a) r silent f m'
  by_write : {f : FlatController} {m m' : Areas} {a : ℕ} {ws : List ℕ} {r : ℕ} → Writes m a ws r m'
      → Called true f m (write_port a ws) r silent f m'
  by_ask : {f : FlatController} {m : Areas} {a : ℕ} (r : Number) → Asks m a r → Called true f m (read_port a) r.refusal silent f m
  -- a page of another length is refused here, where the call that it stands for does not ask the pages
  by_fetch : {f : FlatController} {m : Areas} {a : ℕ} (r : Fetched) → Fetches m a r
      → Called (pages_fit m) f m (read_port a) r.refusal silent f m
  -- beside whatever areas there are
  by_reset : {f r : FlatController} {m : Areas} → Resets r → Called true f m (setting reset) 0 silent r m
  by_setting : {given : Bool} {f : FlatController} {m : Areas} {t : Setting} (r : FlatTold) → Set f given t r
      → Called given f m (setting t) r.refusal silent r.controller m
  by_group : {f : FlatController} {m : Areas} (n : ℕ) (k : GroupCall) (r : FlatReading) → OnGroup f n k r
      → Called (ours f && is_bit n) f m (setting (group_call n k)) r.refusal silent r.controller m

-- the number of a call whose arguments are none: 2, after 1 where areas are lent. (Closing, writing and asking take no such argument;
-- fetching is turned away only for a page of another length, so with 1.)
abbrev pub away_from : Call → Areas → ℕ
away_from (hear a b) m = away_number m
away_from (quiet n) m = away_number m
away_from (open_port a p code sink i limit) m = away_number m
away_from (close_port a) m = away_number m
away_from (write_port a ws) m = away_number m
away_from (read_port a) m = away_number m
away_from (setting t) m = 2

-- a frame that a host sends, of this kind (2 master, 3 slave), with the check bytes that it was given
abbrev pub frame_with : ℕ → List ℕ → FlatChecks → FlatHearing
frame_with kind ws r =
    record { kind = kind; words = padded ws; size = length ws; checks = r.bytes; ends = r.count; sqe = 0; violation = 0; alo = 0 }
