-- `areas::layout::sink_of` is the defined flag. Assumes nothing.
use mathlib.Core.Path.{refl}
use Rattle.model.specs.Layout.{bit_at, flags_of}
use Rattle.areas.proofs.layout.sink_of.Goals as goal

pub returns : goal.returns
unfolding flags_of bit_at
returns c = refl
