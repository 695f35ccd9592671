-- `areas::age::age_ports` leaves the defined port words: three ports a round. Assumes nothing.
use Rattle.std.proofs.Common.{◌≡◌, ◌*◌}
use Rattle.model.specs.Ports.{aged_to}
use Rattle.areas.proofs.age.age_ports.Given as goal

abbrev pub invariant-loop-round : goal.invariant-loop-round
invariant-loop-round l = l.ports ≡ aged_to (3 * l.round) l.k l.initial.ports
