-- `step::dir_line` compares with sink and source. Assumes nothing.
use Rattle.std.proofs.Common.{sym, ◌∙◌}
use Rattle.port_text.specs.Line.{dir_of}
use Rattle.port_line.specs.Meaning.{meaning}
use Rattle.port_line.proofs.step.dir_line.Goals as goal

pub returns-else-same-2 : goal.returns-else-same-2
unfolding dir_of meaning
returns-else-same-2 c =
    λ m o. rw (sym c.same.ensures ∙ c.if-same.false, sym c.same-else-same.ensures ∙ c.if-same-2.false) (c.misplace.ensures m o)
