-- `write_whole` ends: each turn leaves fewer bytes of the text.
use Rattle.std.proofs.Common.{length}
use Rattle.port_stream.proofs.write_whole.Given as goal

abbrev pub decreases-loop-rest : goal.decreases-loop-rest
decreases-loop-rest g l = length l.rest
