-- `areas::layout::flags_of` gives the defined flags, bit by bit; SINK from what its callee ensures. Assumes nothing.
use Rattle.model.specs.Layout.{bit_at, flags_of}
use Rattle.areas.proofs.layout.flags_of.Goals as goal

pub returns : goal.returns
unfolding flags_of bit_at
returns c = rw c.sink_of.ensures
