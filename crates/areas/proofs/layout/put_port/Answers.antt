-- `areas::layout::put_port` leaves the defined port words: from what `put` ensures. Assumes nothing.
use Rattle.model.specs.Layout.{with_words}
use Rattle.areas.proofs.layout.put_port.Goals as goal

pub returns : goal.returns
unfolding with_words
returns c =
    rw (
      c.put-8.ensures,
      c.put-7.ensures,
      c.put-6.ensures,
      c.put-5.ensures,
      c.put-4.ensures,
      c.put-3.ensures,
      c.put-2.ensures,
      c.put.ensures,
    )
