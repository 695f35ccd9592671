-- What each exported function promises, as its contract says it: each contract's own reading is taken for the equation that it is, so that a
-- promise that says less is refused here. Assumes nothing.
use Prim.Native.Nat.{ℕ}
use mathlib.Core.Path.{◌≡◌, sym, ◌∙◌, ap}
use mathlib.Core.Bool.{Bool, ◌&&◌}
use mathlib.Core.List.{List}
use Rattle.interrupts.specs.Group.{active}
use Rattle.model.specs.Layout.{Areas}
use Rattle.model.specs.Host.{Setting, fresh_controller}
use Rattle.model.specs.Calls.{hear, quiet, open_port, close_port, write_port, asked}
use Rattle.model.proofs.Asking.{asks_alone}
use Rattle.host_ports.specs.Host.{out, host_call}
use Rattle.host_controller.specs.declared.GroupCall.{GroupCall}
use Rattle.firmware_layout.specs.declared.FlatController.{FlatController}
use Rattle.firmware_layout.specs.declared.FlatHearing.{FlatHearing}
use Rattle.firmware_layout.specs.Flags.{bit_of, is_bit, is_set}
use Rattle.firmware_layout.specs.Controller.{flat, controller_of, ours}
use Rattle.firmware_layout.specs.Hearing.{hearing_of, formed}
use Rattle.firmware.specs.declared.FlatAnswered.{FlatAnswered}
use Rattle.firmware.specs.declared.FlatTold.{FlatTold}
use Rattle.firmware.specs.declared.FlatReading.{FlatReading}
use Rattle.firmware.specs.declared.Number.{Number}
use Rattle.firmware.specs.declared.Fetched.{Fetched}
use Rattle.firmware.specs.declared.FlatChecks.{FlatChecks}
use Rattle.firmware.specs.Promise.{leaves, through, flat_checks, open_through, answer_number, fetching, set_through, group_at, read_through}
use Rattle.firmware.specs.Promise.{asks as number_of}
use Rattle.firmware_demands.specs.Clauses.{Hears, hears, Quiets, quiets, Checks, checks, Opens, opens, Closes, closes, Writes, writes, Asks, asks}
use Rattle.firmware_demands.specs.Clauses.{Fetches, fetches, Resets, resets, ReadsFC, fc, ReadsEC, ec, ReadsLine, line}
use Rattle.firmware_demands.specs.Clauses.{Set, set_address, set_status, set_reply_time, set_slm, set_ls, clear_ec}
use Rattle.firmware_demands.specs.Clauses.{OnGroup, read_status, read_vector, write_status, write_vector, write_pending, write_mask}

-- ---- bus_calls

-- A bus event leaves the outcome of the model's call, through the conversions, or is turned away.
pub hears_promised : {m m' : Areas} {f : FlatController} {x y : FlatHearing} {r : FlatAnswered} → Hears m f x y r m'
    → leaves m' r ≡ through (ours f && formed x && formed y) (hear (hearing_of x) (hearing_of y)) f m
hears_promised (hears κs i p z o i' p' z' o' left e) = e

-- So does quiet time.
pub quiets_promised : {m m' : Areas} {f : FlatController} {n : ℕ} {r : FlatAnswered} → Quiets m f n r m'
    → leaves m' r ≡ through (ours f) (quiet n) f m
quiets_promised (quiets κs i p z o i' p' left e) = e

-- The check bytes of a frame are those of its words.
pub checks_promised : {ws : List ℕ} {r : FlatChecks} → Checks ws r → r ≡ flat_checks ws
checks_promised (checks κs words left e) = e

-- ---- port_calls

-- Opening leaves the areas and the number of the model's call; with a side that is none it is turned away.
pub opens_promised : {m m' : Areas} {a p code side i limit r : ℕ} → Opens m a p code side i limit r m'
    → out m' r ≡ open_through (is_bit side) (open_port a p code (is_set side) i limit) m
opens_promised (opens κs i p z o i' p' left e) = e

-- Closing leaves those of the model's call.
pub closes_promised : {m m' : Areas} {a r : ℕ} → Closes m a r m' → out m' r ≡ host_call (close_port a) m
closes_promised (closes κs i p z o i' p' left e) = e

-- So does writing.
pub writes_promised : {m m' : Areas} {a : ℕ} {ws : List ℕ} {r : ℕ} → Writes m a ws r m' → out m' r ≡ host_call (write_port a ws) m
writes_promised (writes κs i p z o words i' p' z' o' left e) = e

-- Asking answers the state of the port at the address, as a number.
pub asks_promised : {m : Areas} {a : ℕ} {r : Number} → Asks m a r → r ≡ answer_number (asked m a)
asks_promised (asks κs i p z o {a} left e) = e ∙ ap answer_number (sym (asks_alone i.now p.now z o a))

-- Fetching answers its words.
pub fetches_promised : {m : Areas} {a : ℕ} {r : Fetched} → Fetches m a r → r ≡ fetching m a
fetches_promised (fetches κs i p z o left e) = e

-- ---- setting_calls

-- Reset hands out a fresh controller.
pub resets_promised : {r : FlatController} → Resets r → r ≡ flat fresh_controller
resets_promised (resets κs left e) = e

-- A setting tells what the inner one tells, or is turned away.
pub set_promised : {f : FlatController} {given : Bool} {t : Setting} {r : FlatTold} → Set f given t r → r ≡ set_through given t f
set_promised (set_address κs left e) = e
set_promised (set_status κs left e) = e
set_promised (set_reply_time κs left e) = e
set_promised (set_slm κs on left e) = e
set_promised (set_ls κs on left e) = e
set_promised (clear_ec κs left e) = e

-- ---- group_calls

-- A call on a group reads and leaves what the inner one does, or is turned away.
pub group_promised : {f : FlatController} {n : ℕ} {k : GroupCall} {r : FlatReading} → OnGroup f n k r → r ≡ read_through n k f
group_promised (read_status κs left e) = e
group_promised (read_vector κs left e) = e
group_promised (write_status κs left e) = e
group_promised (write_vector κs left e) = e
group_promised (write_pending κs left e) = e
group_promised (write_mask κs left e) = e

-- FC is that of the controller; of numbers that are none of ours the answer is 2.
pub fc_promised : {f : FlatController} {r : Number} → ReadsFC f r → r ≡ number_of (ours f) (controller_of f).counts.fc
fc_promised (fc κs left e) = e

-- So is EC.
pub ec_promised : {f : FlatController} {r : Number} → ReadsEC f r → r ≡ number_of (ours f) (controller_of f).counts.ec
ec_promised (ec κs left e) = e

-- The outgoing line is that of the group; of no group the answer is 2.
pub line_promised : {f : FlatController} {n : ℕ} {r : Number} → ReadsLine f n r
    → r ≡ number_of (ours f && is_bit n) (bit_of (active (group_at n (controller_of f))))
line_promised (line κs left e) = e
