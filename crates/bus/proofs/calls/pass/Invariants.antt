-- `bus::calls::pass`: the loop's invariant is that the bit times left give what all n would have given. Assumes nothing.
use mathlib.Core.Path.{◌≡◌}
use lib.ListN.{length}
use Rattle.model.specs.Layout.{areas}
use Rattle.model.specs.Event.{world}
use Rattle.model.specs.Quiet.{pulses}
use Rattle.bus.proofs.calls.pass.Given as goal

abbrev pub invariant-loop-left : goal.invariant-loop-left
invariant-loop-left l =
    (length l.ports ≡ length l.initial.ports)
    × (pulses l.left (world l.d (areas l.index l.ports l.page0 l.page1)) ≡ pulses l.n (world l.initial.d (areas l.index l.initial.ports l.page0 l.page1)))

abbrev pub decreases-loop-left : goal.decreases-loop-left
decreases-loop-left l = l.left
