-- Document 01, "Quiet time": by the rules, how many bit times surely bring nothing but later times, the controller after as many, and how far quiet time
-- goes at once. Assumes nothing.
use Rattle.std.specs.Prelude.{ℕ, ◌+◌, ◌-◌, min, cond, ltb}
use Rattle.model.specs.declared.Exchange.{Exchange}
use Rattle.model.specs.declared.Times.{Times}
use Rattle.model.specs.declared.Controller.{Controller}
use Rattle.model.specs.Parts.{with_times}
use Rattle.model.specs.Lines.{acts5}
use Rattle.model.specs.Quiet.{bus_timeout, line_timeout, times, is_some}
use Rattle.bus_quiet.specs.declared.Passed.{Passed}
use Rattle.bus_quiet.specs.Quiet.{since_after, due_in}
use Rattle.bus_quiet.specs.Resting.{resting, rolled}

-- before the reply time is reached; where no word is due within the line timeout, that comes first
abbrev pub before_reply : Exchange → Times → ℕ
before_reply x t = cond (is_some (due_in line_timeout x t)) (t.adopted - t.since - 1) line_timeout

-- before the bus timeout; once it is reached it does not come again
abbrev pub before_bus : Times → ℕ
before_bus t = cond (ltb t.since bus_timeout) (bus_timeout - 1 - t.since) line_timeout

-- before the line timeout
abbrev pub before_line : Times → ℕ
before_line t = line_timeout - 1 - t.line

-- before the first of the three
abbrev pub before_any : Exchange → Times → ℕ
before_any x t = min (before_reply x t) (min (before_bus t) (before_line t))

-- none where rule 5 acts at the end of the next bit time
unfoldable pub free : Controller → ℕ
free c = cond (acts5 c.lines) 0 (before_any c.exchange c.times)

-- k bit times later, of which none brings anything
unfoldable pub later : ℕ → Controller → Controller
later k c =
    with_times (times (since_after k c.times.since) (c.times.line + k) c.times.chosen c.times.adopted) c

-- how many bit times are left, and the controller after the others
abbrev pub passed : ℕ → Controller → Passed
passed left c = record { left = left; controller = c }

-- of n bit times all at once where nothing but line timeouts is to come, else as many as surely bring nothing; and how many are left
unfoldable pub jumped : ℕ → Controller → Passed
jumped n c = let k = min n (free c) in cond (resting c) (passed 0 (rolled n c)) (passed (n - k) (later k c))
