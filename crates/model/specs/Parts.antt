-- The controller with one of its parts changed. A part more adds a line here, and its name to the others; what leaves it alone does not
-- name it. Assumes nothing.
use Rattle.std.specs.Prelude.{ℕ}
use Rattle.interrupts.specs.declared.Group.{Group}
use Rattle.model.specs.declared.Exchange.{Exchange}
use Rattle.model.specs.declared.Times.{Times}
use Rattle.model.specs.declared.Lines.{Lines}
use Rattle.model.specs.declared.Counts.{Counts}
use Rattle.model.specs.declared.Device.{Device}
use Rattle.model.specs.declared.Controller.{Controller}

abbrev pub controller : Exchange → Times → Lines → Counts → Group → Group → Device → ℕ → Controller
controller x t l n g0 g1 d p =
    record { exchange = x; times = t; lines = l; counts = n; group0 = g0; group1 = g1; device = d; phase = p }

abbrev pub with_exchange : Exchange → Controller → Controller
with_exchange x c = controller x c.times c.lines c.counts c.group0 c.group1 c.device c.phase

abbrev pub with_times : Times → Controller → Controller
with_times t c = controller c.exchange t c.lines c.counts c.group0 c.group1 c.device c.phase

abbrev pub with_lines : Lines → Controller → Controller
with_lines l c = controller c.exchange c.times l c.counts c.group0 c.group1 c.device c.phase

abbrev pub with_counts : Counts → Controller → Controller
with_counts n c = controller c.exchange c.times c.lines n c.group0 c.group1 c.device c.phase

abbrev pub with_group0 : Group → Controller → Controller
with_group0 g c = controller c.exchange c.times c.lines c.counts g c.group1 c.device c.phase

abbrev pub with_group1 : Group → Controller → Controller
with_group1 g c = controller c.exchange c.times c.lines c.counts c.group0 g c.device c.phase

abbrev pub with_device : Device → Controller → Controller
with_device d c = controller c.exchange c.times c.lines c.counts c.group0 c.group1 d c.phase

abbrev pub with_phase : ℕ → Controller → Controller
with_phase p c = controller c.exchange c.times c.lines c.counts c.group0 c.group1 c.device p
