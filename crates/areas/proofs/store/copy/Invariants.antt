-- `areas::store::copy` leaves the page as defined. The loop's invariant: storing what is left in the page so far gives the whole.
-- Assumes nothing.
use Rattle.std.proofs.Common.{◌≡◌, ◌+◌, drop}
use lib.Seq.{sets}
use Rattle.model.specs.Layout.{page_place}
use Rattle.areas.proofs.store.copy.Given as goal

abbrev pub invariant-loop-i : goal.invariant-loop-i
invariant-loop-i l = sets l.page (page_place l.p + l.i) (drop l.i l.words) ≡ sets l.initial.page (page_place l.p) l.words
