-- `step::by_key` does what a line with its key means. Assumes nothing.
use Rattle.port_text.specs.Line.{line_as}
use Rattle.port_line.proofs.step.by_key.Goals as goal

pub returns-in-Write : goal.returns-in-Write
unfolding line_as
returns-in-Write c = rw c.in-Write.is (c.write_line.ensures _)
