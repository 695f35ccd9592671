-- `pieces::feed` goes through a piece part by part. The loop's invariant: what is left of the rest is what is left of the whole piece from
-- its start. Assumes nothing.
use Rattle.std.proofs.Common.{◌≤◌, ◌≡◌, length}
use Rattle.port_digits.specs.Write.{paper}
use Rattle.model.specs.Layout.{areas}
use Rattle.port_run.specs.Fed.{fed, feeding_of, left_by}
use Rattle.port_run.proofs.pieces.feed.Given as goal

abbrev pub invariant-loop-t : goal.invariant-loop-t
invariant-loop-t l =
    record {
      part_within : l.g.partial ≤ length l.initial.line;
      left :
          left_by (paper l.out l.g.stepped.at)
          (fed (length l.initial.line) (feeding_of (areas l.index l.ports l.page0 l.page1) l.line l.g) l.t-iterator.rest.now)
          ≡ left_by (paper l.initial.out l.initial.g.stepped.at)
          (fed (length l.initial.line)
          (feeding_of (areas l.initial.index l.initial.ports l.initial.page0 l.initial.page1) l.initial.line l.initial.g) l.piece);
    }
