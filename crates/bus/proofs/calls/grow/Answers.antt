-- `bus::calls::grow`: the phase alone where no millisecond ends, else the ports too. Assumes nothing.
use Rattle.std.proofs.lemmas.Bool.{eq-eqb, ne_eqb}
use Rattle.model.specs.Ports.{aged}
use Rattle.model.specs.Grown.{grown_by}
use Rattle.bus.proofs.calls.grow.Goals.{then-k-ne0, else-k-ne0}
use Rattle.bus.proofs.calls.grow.Goals as goal

pub returns : goal.returns
unfolding grown_by aged
returns c =
    elim c.if-k-ne0.branch [
      | then-k-ne0 w ↦ rw (w.ports-is, w.age_ports.ensures, c.phase_later.ensures, ← c.ends_within-k.ensures, ne_eqb _ _ w.if-k-ne0.true)
      | else-k-ne0 w ↦ rw (w.ports-is, c.phase_later.ensures, ← c.ends_within-k.ensures, eq-eqb _ _ w.if-k-ne0.false)
    ]
