-- Request W-203, "Check bytes from the table in the gate array": a table of 256 steps of the division, and its rule against G(x).
-- Assumes nothing.
use Rattle.std.specs.Prelude.{ℕ, ◌^◌, ◌<◌, ◌≡◌, List, get_or}
use Rattle.sequence.specs.Check.{pushes}

-- step i: what the eight bits of i, most significant bit first, times x^7, leave modulo G
abbrev pub step_of : ℕ → ℕ
step_of i = pushes 8 0 i

-- the rule: entry i is step i, for each of the 256 entries
unfoldable pub StepTable : List ℕ → Type 0
StepTable t = (i : ℕ) → i < 2 ^ 8 → get_or t i 0 ≡ step_of i
