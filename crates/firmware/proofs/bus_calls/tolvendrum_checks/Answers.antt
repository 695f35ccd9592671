-- `bus_calls::tolvendrum_checks` meets its contract: its parts are what the callee ensures, and a frame has at most four check bytes.
-- Assumes nothing.
use Rattle.std.proofs.Common.{ap, arith}
use Rattle.sequence.specs.declared.FrameChecks.{FrameChecks}
use Rattle.firmware.proofs.Short.{checks_small}
use Rattle.firmware.proofs.bus_calls.tolvendrum_checks.Goals as goal

pub overflow_cast-result : goal.overflow_cast-result
overflow_cast-result c = omega (arith, checks_small c.args.words.now, ap (λ (f : FrameChecks). f.count) c.frame_checks-f.ensures)
