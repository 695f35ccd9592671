-- Document 01, "Quiet time": one quiet bit time, in the stated order, and n of them. Document 02, W-205: every 1500 of them since reset add
-- one to the age of each open sink. Assumes nothing.
use Rattle.std.specs.Prelude.{ℕ, zero, suc, ◌+◌, Bool, true, false, cond, not, ◌&&◌, ◌++◌, eqb, leb, ltb}
use Rattle.std.specs.Prelude.{Option, None, Some}
use Rattle.interrupts.specs.Names.{RTI, BTI}
use Rattle.model.specs.declared.Exchange.{Exchange}
use Rattle.model.specs.declared.Exchange.TheVariants.{Idle, Waiting, Done}
use Rattle.model.specs.declared.Times.{Times}
use Rattle.model.specs.declared.Lines.{Lines}
use Rattle.model.specs.declared.Controller.{Controller}
use Rattle.model.specs.Layout.{Areas}
use Rattle.model.specs.Ports.{code_of, Standing, aged, Effect, untouched, mark, reply_missing, apply}
use Rattle.model.specs.Lines.{exempt, rule1, rule2, rule5}
use Rattle.model.specs.Parts.{with_exchange, with_times, with_lines, with_group0, with_phase}
use Rattle.model.specs.Event.{World, world, sink_for, raise_all, when}

-- 1950 and 2130 bit times are 1.30 and 1.42 ms
abbrev pub bus_timeout : ℕ
bus_timeout = 1950

abbrev pub line_timeout : ℕ
line_timeout = 2130

-- a millisecond is 1500
abbrev pub millisecond : ℕ
millisecond = 1500

-- initially 64
abbrev pub first_reply_time : ℕ
first_reply_time = 64

abbrev pub times : ℕ → ℕ → ℕ → ℕ → Times
times s l c a = record { since = s; line = l; chosen = c; adopted = a }

-- ---- what a bit time more brings

-- the time since the last sound master frame, which stops at the bus timeout: no rule asks for a later time
abbrev pub since_later : Times → ℕ
since_later t = cond (ltb t.since bus_timeout) (t.since + 1) t.since

-- the master word whose reply time is reached, if one is waited for
abbrev pub expired : Exchange → Times → Option ℕ
expired Idle t = None
expired (Waiting w) t = cond (leb t.adopted (since_later t)) (Some w) None
expired Done t = None

-- BTI, once: the time comes to the bus timeout
abbrev pub bus_silent : Times → Bool
bus_silent t = ltb t.since bus_timeout && eqb (t.since + 1) bus_timeout

-- the line count comes to the line timeout, and restarts
abbrev pub line_silent : Times → Bool
line_silent t = leb line_timeout (t.line + 1)

abbrev pub times_later : Times → Times
times_later t = times (since_later t) (cond (line_silent t) 0 (t.line + 1)) t.chosen t.adopted

-- ---- the parts of the controller and of the areas

abbrev pub exchange_later : Exchange → Option ℕ → Exchange
exchange_later x None = x
exchange_later x (Some w) = Idle

abbrev pub is_some : Option ℕ → Bool
is_some None = false
is_some (Some w) = true

-- a reply timeout, the waiting code not 9, 13 or 14
abbrev pub disturbs_late : Option ℕ → Bool
disturbs_late None = false
disturbs_late (Some w) = not (exempt (code_of w))

-- rules 1, 2 and 5, in this order
abbrev pub lines_later : Lines → Option ℕ → Bool → Lines
lines_later l e timeout = rule5 (rule2 timeout (rule1 (disturbs_late e) l))

-- a SINK port with the waiting word gets STO alone among its status bits
abbrev pub missed : Option Standing → Effect
missed None = untouched
missed (Some v) = mark v.port reply_missing

abbrev pub effect_later : Areas → Option ℕ → Effect
effect_later m None = untouched
effect_later m (Some w) = missed (sink_for m w)

-- ---- the rules of document 01 in one quiet bit time

abbrev pub due : World → Option ℕ
due s = expired s.controller.exchange s.controller.times

unfoldable pub pulse_effect : World → Effect
pulse_effect s = effect_later s.areas (due s)

unfoldable pub pulse_controller : World → Controller
pulse_controller s =
    let c = s.controller in
    with_exchange (exchange_later c.exchange (due s))
    (with_times (times_later c.times)
    (with_lines (lines_later c.lines (due s) (line_silent c.times))
    (with_group0 (raise_all (when (is_some (due s)) RTI ++ when (bus_silent c.times) BTI) c.group0) c)))

unfoldable pub pulse : World → World
pulse s = world (pulse_controller s) (apply (pulse_effect s) s.areas)

-- n times
unfoldable pub pulses : ℕ → World → World
pulses zero s = s
pulses (suc n) s = pulses n (pulse s)

-- ---- its end: the phase is the quiet bit times since reset, and restarts with each millisecond

-- a millisecond ends with this bit time
abbrev pub millisecond_ends : World → Bool
millisecond_ends s = leb millisecond (s.controller.phase + 1)

-- then each open sink is a millisecond older
abbrev pub grown_if : Bool → World → World
grown_if true s = world (with_phase 0 s.controller) (aged 1 s.areas)
grown_if false s = world (with_phase (s.controller.phase + 1) s.controller) s.areas

unfoldable pub grown : World → World
grown s = grown_if (millisecond_ends s) s

-- ---- one quiet bit time, and n of them

unfoldable pub tick : World → World
tick s = grown (pulse s)

unfoldable pub ticks : ℕ → World → World
ticks zero s = s
ticks (suc n) s = ticks n (tick s)

-- the master word whose reply time is reached within n bit times, if one is
unfoldable pub due_within : ℕ → World → Option ℕ
due_within zero s = None
due_within (suc n) s = first (due s) (due_within n (pulse s))
  where
    first : Option ℕ → Option ℕ → Option ℕ
    first None o = o
    first (Some w) o = Some w
