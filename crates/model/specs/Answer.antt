-- Document 01, "What callers are told": what asking answers, and what stands at an address. Assumes nothing.
use Rattle.std.specs.Prelude.{ℕ, Option, None, Some, Result, Ok, Err}
use Rattle.constants.specs.declared.refusals.Refusal.{Refusal}
use Rattle.constants.specs.Refusal.{number}
use Rattle.model.specs.declared.State.{State}
use Rattle.model.specs.declared.State.TheVariants as state

-- asking answers never, good, held or stale, or a refusal with its number
pub data Answer : Type 0 where
  Never Good Held Stale : Answer
  Refused : ℕ → Answer

-- the answer that a state is
abbrev pub shown_as : State → Answer
shown_as state.Never = Never
shown_as state.Good = Good
shown_as state.Held = Held
shown_as state.Stale = Stale

-- document 01's word or number for what the call hands back
abbrev pub answer_of : Result State Refusal → Answer
answer_of (Ok x) = shown_as x
answer_of (Err e) = Refused (number e)

-- no port, a damaged entry or damaged port words, or a port with its number
abbrev pub Sought : Type 0
Sought = Result (Option ℕ) Refusal
