-- `bus::calls::pulse`: the rules of one bit time, for the sink first and then for the controller, which asks nothing of the areas. Assumes nothing.
use Rattle.model.specs.Layout.{areas}
use Rattle.model.specs.Event.{world}
use Rattle.model.specs.Quiet.{pulse, pulse_effect}
use Rattle.bus_quiet.proofs.BitTime.{pulse_controller_lem}
use Rattle.bus_ports.proofs.Ports.{late_found}
use Rattle.bus.proofs.calls.pulse.Goals as goal

pub returns : goal.returns
unfolding pulse pulse_effect
returns c =
    let a = c.args in
    let m = areas a.index.now a.ports.now a.page0.now a.page1.now in
    rw (
      c.pulse_controller.ensures,
      c.miss.ensures,
      c.sink_of-sink.ensures,
      c.unwrap_or-found.ensures,
      c.sought_due.ensures,
      c.due-due.ensures,
      pulse_controller_lem (world a.c m),
      late_found m,
    )
