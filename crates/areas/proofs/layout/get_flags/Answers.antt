-- `areas::layout::get_flags` is word 1 of the port: from what `get` ensures. Assumes nothing.
use Rattle.model.specs.Layout.{words_at}
use Rattle.areas.proofs.layout.get_flags.Goals as goal

pub returns : goal.returns
unfolding words_at
returns c = c.get.ensures
