-- `areas::age::age_sink` leaves the defined port words: an open sink's with another age, others as they were. Assumes nothing.
use Rattle.std.proofs.Common.{◌≡◌, sym, ◌∙◌, true, false}
use Rattle.model.specs.Ports.{open_sink, aged_words}
use Rattle.areas.proofs.Words.{with_same}
use Rattle.areas.proofs.age.age_sink.Goals as goal

pub returns-then-open_sink : goal.returns-then-open_sink
unfolding aged_words
returns-then-open_sink c =
    let opens : open_sink c.get_port-w.result ≡ true = sym c.open_sink.ensures ∙ c.if-open_sink.true in
    rw (c.put_age.ensures, c.older.ensures, ← c.get_port-w.ensures, opens)

pub returns-else-open_sink : goal.returns-else-open_sink
unfolding aged_words
returns-else-open_sink c =
    let shut : open_sink c.get_port-w.result ≡ false = sym c.open_sink.ensures ∙ c.if-open_sink.false in
    rw (← c.get_port-w.ensures, shut, c.get_port-w.ensures) (sym (with_same _ _))
