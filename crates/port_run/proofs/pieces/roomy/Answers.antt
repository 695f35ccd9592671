-- `pieces::roomy` is a text that is read as a line with room for so many bytes. Assumes nothing.
use Rattle.std.proofs.Common.{lt-ltb}
use Rattle.port_digits.specs.Cut.{text_before, text_after, same}
use Rattle.port_text.specs.Line.{line_of, line_as, key_of}
use Rattle.port_run.proofs.pieces.roomy.Goals as goal

pub returns-then-room-t : goal.returns-then-room-t
unfolding line_of line_as key_of same text_before text_after
returns-then-room-t c = rw (lt-ltb _ _ c.if-room-t.true)
