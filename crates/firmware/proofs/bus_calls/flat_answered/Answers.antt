-- `bus_calls::flat_answered` meets its contract: numbers of ours come back from their controller. Assumes nothing.
use Rattle.firmware_layout.proofs.Inverse.{same_numbers}
use Rattle.firmware.proofs.bus_calls.flat_answered.Goals as goal

pub returns-in-Err : goal.returns-in-Err
returns-in-Err c m = rw (c.turn_away.ensures, c.in-Err.is, same_numbers c.args.c c.requires.given)
