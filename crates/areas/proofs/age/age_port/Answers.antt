-- `areas::age::age_port` leaves the defined port words: where SINK is clear they do not age. Assumes nothing.
use Rattle.std.proofs.Common.{ℕ, sym, ◌∙◌, ap}
use Rattle.model.specs.Layout.{flags_of}
use Rattle.areas.proofs.Words.{no_sink}
use Rattle.areas.proofs.age.age_port.Goals as goal

pub returns-else-sink_of : goal.returns-else-sink_of
returns-else-sink_of c =
    let clear = ap (λ (x : ℕ). (flags_of x).sink) (sym c.get_flags.ensures) ∙ sym c.sink_of.ensures ∙ c.if-sink_of.false in
    sym (no_sink _ _ _ clear)
