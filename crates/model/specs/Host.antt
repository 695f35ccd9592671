-- Document 01, "Host calls on ports", "Quiet time" (reply times) and "Two lines": a fresh controller, and the host's settings of it.
-- Assumes nothing.
use Rattle.std.specs.Prelude.{ℕ, Bool, true, false, not, ◌||◌, eqb, ltb}
use Rattle.interrupts.specs.Group.{fresh}
use Rattle.interrupts.specs.Names.{used0, used1}
use Rattle.interrupts.specs.Calls.{Call as GroupCall, group_after}
use Rattle.model.specs.declared.Exchange.TheVariants.{Idle}
use Rattle.model.specs.declared.Counts.{Counts}
use Rattle.model.specs.declared.Device.{Device}
use Rattle.model.specs.declared.Controller.{Controller}
use Rattle.model.specs.Lines.{lines, fresh_lines}
use Rattle.model.specs.Parts.{with_times, with_lines, with_counts, with_group0, with_group1, with_device}
use Rattle.model.specs.Quiet.{times, first_reply_time}
pub use Rattle.model.specs.Parts.{controller}

abbrev pub device : ℕ → Bool → ℕ → Device
device a s w = record { address = a; set = s; status = w }

abbrev pub counts : ℕ → ℕ → Counts
counts f e = record { fc = f; ec = e }

-- fresh, the exchange is idle with all times and counts 0, the phase too; the device address is first 0, and no status word is set
unfoldable pub fresh_controller : Controller
fresh_controller =
    controller Idle (times 0 0 first_reply_time first_reply_time) fresh_lines (counts 0 0) (fresh used0) (fresh used1) (device 0 false 0) 0

-- what the host sets, and its calls on the two interrupt groups
pub data Setting : Type 0 where
  -- device address, status word, reply time
  address status reply_time : ℕ → Setting
  -- single line mode; a line switch filed, or withdrawn
  slm ls : Bool → Setting
  -- EC is cleared by the host; a reset makes a fresh controller, and touches no area
  ec_clear reset : Setting
  group0 group1 : GroupCall → Setting

-- reply times: 32, 64, 96, 128
abbrev pub is_reply_time : ℕ → Bool
is_reply_time t = eqb t 32 || eqb t 64 || eqb t 96 || eqb t 128

-- device address 0 to 4095, one of the four reply times; nothing else has a range
abbrev pub setting_out : Setting → Bool
setting_out (address a) = ltb 4095 a
setting_out (status w) = false
setting_out (reply_time t) = not (is_reply_time t)
setting_out (slm b) = false
setting_out (ls b) = false
setting_out ec_clear = false
setting_out reset = false
setting_out (group0 g) = false
setting_out (group1 g) = false

-- the controller after a setting
unfoldable pub tell : Setting → Controller → Controller
tell (address a) c = with_device (device a c.device.set c.device.status) c
tell (status w) c = with_device (device c.device.address true w) c
tell (reply_time t) c = with_times (times c.times.since c.times.line t c.times.adopted) c
tell (slm b) c = with_lines (lines c.lines.laa c.lines.rld c.lines.ls b) c
tell (ls b) c = with_lines (lines c.lines.laa c.lines.rld b c.lines.slm) c
tell ec_clear c = with_counts (counts c.counts.fc 0) c
tell reset c = fresh_controller
tell (group0 g) c = with_group0 (group_after g c.group0) c
tell (group1 g) c = with_group1 (group_after g c.group1) c
