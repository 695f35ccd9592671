-- `areas::layout::word_of` gives the defined word: from what `flag_part` ensures of each flag. Assumes nothing.
use Rattle.model.specs.Layout.{word_of}
use Rattle.areas.proofs.layout.word_of.Goals as goal

pub returns : goal.returns
unfolding word_of
returns c =
    rw (
      c.flag_part-13.ensures.worth,
      c.flag_part-12.ensures.worth,
      c.flag_part-11.ensures.worth,
      c.flag_part-10.ensures.worth,
      c.flag_part-9.ensures.worth,
      c.flag_part-8.ensures.worth,
      c.flag_part-7.ensures.worth,
      c.flag_part-6.ensures.worth,
      c.flag_part-5.ensures.worth,
      c.flag_part-4.ensures.worth,
      c.flag_part-3.ensures.worth,
      c.flag_part-2.ensures.worth,
      c.flag_part.ensures.worth,
    )
