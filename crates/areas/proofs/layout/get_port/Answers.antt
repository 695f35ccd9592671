-- `areas::layout::get_port` gives the defined words: from what `get` ensures. Assumes nothing.
use Rattle.model.specs.Layout.{words_at}
use Rattle.areas.proofs.layout.get_port.Goals as goal

pub returns : goal.returns
unfolding words_at
returns c =
    rw (
      c.get-8.ensures,
      c.get-7.ensures,
      c.get-6.ensures,
      c.get-5.ensures,
      c.get-4.ensures,
      c.get-3.ensures,
      c.get-2.ensures,
      c.get.ensures,
    )
