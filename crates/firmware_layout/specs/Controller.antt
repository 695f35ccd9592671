-- The controller as numbers, both ways, and which numbers are a controller of ours. Each part has its own two conversions, with document
-- 01's numbers for what is an enum in the controller. Assumes nothing.
use Rattle.std.specs.Prelude.{ℕ, Bool, cond, ◌&&◌, ◌||◌, eqb, leb, ltb}
use Rattle.std.specs.Int.Bits.{bit_and}
use Rattle.interrupts.specs.declared.Group.{Group}
use Rattle.interrupts.specs.Group.{group}
use Rattle.interrupts.specs.Names.{used0, used1}
use Rattle.model.specs.declared.Exchange.{Exchange}
use Rattle.model.specs.declared.Exchange.TheVariants.{Idle, Waiting, Done}
use Rattle.model.specs.declared.Times.{Times}
use Rattle.model.specs.declared.Lines.{Lines}
use Rattle.model.specs.declared.Counts.{Counts}
use Rattle.model.specs.declared.Device.{Device}
use Rattle.model.specs.declared.Controller.{Controller}
use Rattle.model.specs.Lines.{lines}
use Rattle.model.specs.Quiet.{bus_timeout, line_timeout, millisecond, times}
use Rattle.model.specs.Host.{device, counts, controller, is_reply_time}
use Rattle.firmware_layout.specs.declared.FlatExchange.{FlatExchange}
use Rattle.firmware_layout.specs.declared.FlatTimes.{FlatTimes}
use Rattle.firmware_layout.specs.declared.FlatLines.{FlatLines}
use Rattle.firmware_layout.specs.declared.FlatCounts.{FlatCounts}
use Rattle.firmware_layout.specs.declared.FlatGroup.{FlatGroup}
use Rattle.firmware_layout.specs.declared.FlatDevice.{FlatDevice}
use Rattle.firmware_layout.specs.declared.FlatController.{FlatController}
use Rattle.firmware_layout.specs.Flags.{bit_of, is_bit, is_set}

-- ---- the exchange: 0 idle, 1 waiting with the master word, 2 done

abbrev pub flat_exchange : Exchange → FlatExchange
flat_exchange Idle = record { stage = 0; word = 0 }
flat_exchange (Waiting w) = record { stage = 1; word = w }
flat_exchange Done = record { stage = 2; word = 0 }

abbrev pub exchange_of : FlatExchange → Exchange
exchange_of f = cond (eqb f.stage 1) (Waiting f.word) (cond (eqb f.stage 2) Done Idle)

-- the word is 0 unless one is waited for
abbrev pub exchange_ours : FlatExchange → Bool
exchange_ours f = leb f.stage 2 && (eqb f.stage 1 || eqb f.word 0)

-- ---- the times

abbrev pub flat_times : Times → FlatTimes
flat_times t = record { since = t.since; line = t.line; chosen = t.chosen; adopted = t.adopted }

abbrev pub times_of : FlatTimes → Times
times_of f = times f.since f.line f.chosen f.adopted

-- the time since the last sound master frame stops at the bus timeout, and the line count restarts at its own
abbrev pub times_ours : FlatTimes → Bool
times_ours f = leb f.since bus_timeout && ltb f.line line_timeout && is_reply_time f.chosen && is_reply_time f.adopted

-- ---- the lines

abbrev pub flat_lines : Lines → FlatLines
flat_lines l = record { laa = bit_of l.laa; rld = bit_of l.rld; ls = bit_of l.ls; slm = bit_of l.slm }

abbrev pub lines_of : FlatLines → Lines
lines_of f = lines (is_set f.laa) (is_set f.rld) (is_set f.ls) (is_set f.slm)

abbrev pub lines_ours : FlatLines → Bool
lines_ours f = is_bit f.laa && is_bit f.rld && is_bit f.ls && is_bit f.slm

-- ---- FC and EC: every number of 16 bits

abbrev pub flat_counts : Counts → FlatCounts
flat_counts n = record { fc = n.fc; ec = n.ec }

abbrev pub counts_of : FlatCounts → Counts
counts_of f = counts f.fc f.ec

-- ---- an interrupt group; the bits that it uses are known by its place

abbrev pub flat_group : Group → FlatGroup
flat_group g = record { pending = g.pending; mask = g.mask; status = g.status; frozen = bit_of g.frozen }

abbrev pub group_of : ℕ → FlatGroup → Group
group_of u f = group u f.pending f.mask f.status (is_set f.frozen)

-- x has no bit outside u
abbrev pub inside : ℕ → ℕ → Bool
inside u x = eqb (bit_and x u) x

-- unused bits are zero, and nothing is pending unless the group is frozen
abbrev pub group_ours : ℕ → FlatGroup → Bool
group_ours u f =
    inside u f.pending && inside u f.mask && inside u f.status && is_bit f.frozen && (is_set f.frozen || eqb f.pending 0)

-- ---- the device

abbrev pub flat_device : Device → FlatDevice
flat_device d = record { address = d.address; set = bit_of d.set; status = d.status }

abbrev pub device_of : FlatDevice → Device
device_of f = device f.address (is_set f.set) f.status

-- the status word is 0 unless it is set
abbrev pub device_ours : FlatDevice → Bool
device_ours f = leb f.address 4095 && is_bit f.set && (is_set f.set || eqb f.status 0)

-- ---- the controller

unfoldable pub flat : Controller → FlatController
flat c =
    record {
      exchange = flat_exchange c.exchange;
      times = flat_times c.times;
      lines = flat_lines c.lines;
      counts = flat_counts c.counts;
      group0 = flat_group c.group0;
      group1 = flat_group c.group1;
      device = flat_device c.device;
      phase = c.phase;
    }

unfoldable pub controller_of : FlatController → Controller
controller_of f =
    controller (exchange_of f.exchange) (times_of f.times) (lines_of f.lines) (counts_of f.counts) (group_of used0 f.group0)
    (group_of used1 f.group1) (device_of f.device) f.phase

-- the numbers of a controller of ours; its phase restarts with each millisecond
unfoldable pub ours : FlatController → Bool
ours f =
    exchange_ours f.exchange && times_ours f.times && lines_ours f.lines && group_ours used0 f.group0 && group_ours used1 f.group1
    && device_ours f.device && ltb f.phase millisecond
