-- `step::step` does what a line means: it is the line of its key. Assumes nothing.
use Rattle.std.proofs.Common.{◌∙◌, sym}
use Rattle.port_text.specs.Line.{line_of, line_as}
use Rattle.port_line.specs.Meaning.{meaning}
use Rattle.port_line.proofs.step.step.Goals as goal

pub returns-in-None : goal.returns-in-None
unfolding line_of line_as meaning
returns-in-None c = rw (← c.before-2.ensures, sym c.key_of.ensures ∙ c.in-None.is) (c.misplace.ensures _ _)
