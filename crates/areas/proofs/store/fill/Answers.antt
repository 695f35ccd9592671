-- `areas::store::fill` leaves the areas as defined: from what its callees ensure. Assumes nothing.
use Rattle.model.specs.Ports.{filled}
use Rattle.areas.proofs.store.fill.Goals as goal

pub returns : goal.returns
unfolding filled
returns c =
    rw (
      c.put_port.ensures,
      c.fill_words.ensures,
      c.copy_aside.ensures.zero,
      c.copy_aside.ensures.one,
      c.flags_of.ensures,
      c.get_port-w.ensures,
    )
