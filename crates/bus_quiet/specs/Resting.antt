-- Document 01, "Quiet time": when nothing but line timeouts is to come, however long the quiet lasts, and the controller n bit times later.
-- Assumes nothing.
use Rattle.std.specs.Prelude.{ℕ, ◌+◌, ◌/◌, ◌%◌, Bool, not, ◌&&◌, ◌||◌, eqb, leb, ltb}
use Rattle.model.specs.declared.Times.{Times}
use Rattle.model.specs.declared.Controller.{Controller}
use Rattle.model.specs.Parts.{with_times, with_lines}
use Rattle.model.specs.Lines.{rule2}
use Rattle.model.specs.Quiet.{bus_timeout, line_timeout, times, expired, is_some}

-- The time since the last sound master frame has stopped at the bus timeout, so a word that is not due with the next bit time never is.
-- RLD or SLM is set, so rule 5 does not act and a line timeout does no more than switch.
unfoldable pub resting : Controller → Bool
resting c =
    leb bus_timeout c.times.since && not (is_some (expired c.exchange c.times)) && ltb c.times.line line_timeout
    && (c.lines.rld || c.lines.slm)

-- the line count n bit times later, did it not restart
abbrev pub line_count : ℕ → Times → ℕ
line_count n t = t.line + n

-- it restarts at each line timeout
abbrev pub times_rolled : ℕ → Times → Times
times_rolled n t = times t.since (line_count n t % line_timeout) t.chosen t.adopted

-- two line timeouts turn LAA there and back; what is left of k of them
abbrev pub unpaired : ℕ → ℕ
unpaired k = k % 2

-- so those within n bit times switch as one does, or not at all
abbrev pub switches : ℕ → Times → Bool
switches n t = eqb (unpaired (line_count n t / line_timeout)) 1

-- n bit times later, of which none brings anything but a line timeout
unfoldable pub rolled : ℕ → Controller → Controller
rolled n c = with_times (times_rolled n c.times) (with_lines (rule2 (switches n c.times) c.lines) c)
