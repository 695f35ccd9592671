-- `Group::read_vector` meets its contract: the bit that the logarithm names is the definition's highest, it is set, so it can be taken
-- off, and a word with that bit alone fits. Assumes nothing.
use Rattle.std.proofs.Common.{arith, ap, ◌∙◌}
use Rattle.interrupts.specs.Group.{highest, vector_read}
use Rattle.interrupts.proofs.Bits.{one_bit}
use Rattle.interrupts.proofs.Highest.{highest_at, highest_zero}
use Rattle.interrupts.proofs.Group.read_vector.Goals as goal

pub returns-then-self-eq0 : goal.returns-then-self-eq0
unfolding vector_read
returns-then-self-eq0 c = rw (ap (highest 16) c.if-self-eq0.true ∙ highest_zero)

pub overflow_sub-self : goal.overflow_sub-self
overflow_sub-self c = omega (arith, one_bit c.ilog2-bit.result c.ilog2-bit.ensures.bound)

pub returns : goal.returns
unfolding vector_read
returns c =
    let log = c.ilog2-bit in
    let sure = log.ensures in
    rw (one_bit log.result sure.bound, highest_at 16 log.result c.args.self.status sure.bound sure.power_le (omega arith))
