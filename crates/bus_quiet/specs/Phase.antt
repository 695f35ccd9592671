-- Document 02, W-205: the controller's part of the end of n bit times at once. Assumes nothing.
use Rattle.std.specs.Prelude.{ℕ}
use Rattle.model.specs.declared.Controller.{Controller}
use Rattle.model.specs.Parts.{with_phase}
use Rattle.model.specs.Grown.{phase_after}

-- the controller with its phase n bit times further
abbrev pub phased : ℕ → Controller → Controller
phased n c = with_phase (phase_after c.phase n) c
