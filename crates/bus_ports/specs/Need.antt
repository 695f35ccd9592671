-- Document 01, "What callers are told": the refusals of bus events, as one expression. Assumes nothing.
use Rattle.std.specs.Prelude.{ℕ, Bool, cond, not}
use Rattle.constants.specs.Refusal.{told}
use Rattle.model.specs.Answer.{Sought}

-- 1 AREA, 2 RANGE, 6 DAMAGED where what was sought is
abbrev pub event_refusal : Bool → Bool → Sought → ℕ
event_refusal fits out s = cond (not fits) 1 (cond out 2 (told s))
