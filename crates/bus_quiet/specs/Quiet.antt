-- Document 01, "Quiet time": the controller's part of a quiet bit time, which asks nothing of the areas, and what is due within several.
-- Assumes nothing.
use Rattle.std.specs.Prelude.{ℕ, ◌+◌, min, max, cond, ◌&&◌, leb, ltb}
use Rattle.std.specs.Prelude.{Option, None, Some}
use Rattle.interrupts.specs.Names.{RTI, BTI}
use Rattle.model.specs.declared.Exchange.{Exchange}
use Rattle.model.specs.declared.Exchange.TheVariants.{Idle, Waiting, Done}
use Rattle.model.specs.declared.Times.{Times}
use Rattle.model.specs.declared.Controller.{Controller}
use Rattle.model.specs.Event.{raise_all, when}
use Rattle.model.specs.Parts.{with_exchange, with_times, with_lines, with_group0}
use Rattle.model.specs.Quiet.{bus_timeout, expired, bus_silent, line_silent, times_later, exchange_later, is_some, lines_later}

-- the controller after the rules of one quiet bit time
unfoldable pub pulse_of : Controller → Controller
pulse_of c =
    let e = expired c.exchange c.times in
    with_exchange (exchange_later c.exchange e)
    (with_times (times_later c.times)
    (with_lines (lines_later c.lines e (line_silent c.times))
    (with_group0 (raise_all (when (bus_silent c.times) BTI) (raise_all (when (is_some e) RTI) c.group0)) c)))

-- the time since the last sound master frame, n bit times later: it stops at the bus timeout
abbrev pub since_after : ℕ → ℕ → ℕ
since_after n s = max s (min (s + n) bus_timeout)

-- the master word whose reply time is reached within n bit times, all at once
abbrev pub due_in : ℕ → Exchange → Times → Option ℕ
due_in n Idle t = None
due_in n (Waiting w) t = cond (ltb 0 n && leb t.adopted (since_after n t.since)) (Some w) None
due_in n Done t = None
