-- Document 01, "What callers are told": the number of each refusal; 0 is no refusal. Assumes nothing.
use Rattle.std.specs.Prelude.{ℕ, Result, Ok, Err}
use Rattle.constants.specs.declared.refusals.Refusal.{Refusal}
use Rattle.constants.specs.declared.refusals.Refusal.TheVariants.{Area, Range, NoPort, Taken, Side, Damaged}

abbrev pub number : Refusal → ℕ
number Area = 1
number Range = 2
number NoPort = 3
number Taken = 4
number Side = 5
number Damaged = 6

-- the number that a call answers
abbrev pub told : {A : Type 0} → Result A Refusal → ℕ
told (Ok x) = 0
told (Err e) = number e
