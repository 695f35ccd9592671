-- Quiet time in closed form: n bit times are n times the rules of document 01, and then as many milliseconds of ageing at once as end within
-- them. proofs/Grown.antt shows that this is the same. Assumes nothing.
use Rattle.std.specs.Prelude.{ℕ, ◌+◌, ◌-◌, ◌/◌, ◌%◌, cond, eqb, min}
use Rattle.model.specs.Layout.{Areas}
use Rattle.model.specs.Parts.{with_phase}
use Rattle.model.specs.Ports.{aged}
use Rattle.model.specs.Event.{World, world}
use Rattle.model.specs.Quiet.{millisecond}

-- how far a millisecond has come: its last bit time is reached by any phase at or above 1499
abbrev pub phase_reached : ℕ → ℕ
phase_reached p = min p (millisecond - 1)

-- the milliseconds that end within n bit times from the phase p on
abbrev pub ends_within : ℕ → ℕ → ℕ
ends_within p n = (phase_reached p + n) / millisecond

-- the phase n bit times later: where no millisecond ends it is n further, else what is left over
abbrev pub phase_after : ℕ → ℕ → ℕ
phase_after p n = cond (eqb (ends_within p n) 0) (p + n) ((phase_reached p + n) % millisecond)

-- k milliseconds later, where there are any
abbrev pub aged_if : ℕ → Areas → Areas
aged_if k m = cond (eqb k 0) m (aged k m)

-- the end of n bit times at once, in the controller and in the areas
unfoldable pub grown_by : ℕ → World → World
grown_by n s =
    let p = s.controller.phase in
    world (with_phase (phase_after p n) s.controller) (aged_if (ends_within p n) s.areas)
