-- How the answer of a call and the areas it leaves make up an outcome of the crate `model`. Assumes nothing.
use Rattle.std.specs.Prelude.{ℕ, cond, eqb, Option, Result, Ok, Err}
use Rattle.constants.specs.declared.refusals.Refusal.{Refusal}
use Rattle.constants.specs.Refusal.{number}
use Rattle.constants.proofs.Numbers.{with_number}
use Rattle.frames.specs.declared.Hearing.{Hearing}
use Rattle.model.specs.declared.Controller.{Controller}
use Rattle.model.specs.declared.Exchange.{Exchange}
use Rattle.model.specs.declared.Heard.{Heard}
use Rattle.model.specs.declared.Lines.{Lines}
use Rattle.model.specs.Layout.{Areas}
use Rattle.model.specs.Ports.{apply}
use Rattle.model.specs.Lines.{rule3}
use Rattle.model.specs.Event.{World, world, device_with, raise_all, silent}
use Rattle.model.proofs.Tables.{times_after, polls, lines_found, counts_after, raised1}
use Rattle.model.specs.Calls.{Outcome}
use Rattle.bus_events.specs.Raised.{bits0}
use Rattle.bus_ports.specs.Found.{sink_of, interrupt_at, standing_at, met_as, effect_by}
use Rattle.bus.specs.declared.Answered.{Answered}

-- the outcome that the answer to a call with this controller tells, with the areas afterwards: a refusal has its number and no reply, and
-- leaves the controller
abbrev pub as_outcome : Controller → Areas → Result Answered Refusal → Outcome
as_outcome c m (Ok r) = record { refusal = 0; reply = r.reply; world = world r.controller m }
as_outcome c m (Err e) = record { refusal = number e; reply = silent; world = world c m }

-- and the answer that an outcome tells
abbrev pub as_answered : Outcome → Result Answered Refusal
as_answered o = cond (eqb o.refusal 0) (Ok (record { controller = o.world.controller; reply = o.reply })) (Err (with_number o.refusal))

-- the controller after an event, with the lines that rule 3 finds, and the exchange and the interrupt that the areas tell
abbrev pub after_with : Controller → Heard → Lines → Exchange → ℕ → Controller
after_with c h l x i =
    record {
      exchange = x;
      times = times_after c.times h;
      lines = rule3 (polls c.device h) l;
      counts = counts_after c.counts h;
      group0 = raise_all (bits0 c.exchange c.times h i) c.group0;
      group1 = raise_all (raised1 c.counts h) c.group1;
      device = c.device;
      phase = c.phase;
    }

-- the outcome of an accepted event, with the port that was found for it; proofs/Outcomes.antt proves it to be the model's
abbrev pub accepted_with : World → Option ℕ → Heard → Hearing → Hearing → Outcome
accepted_with w found h t o =
    let c = w.controller in
    let m = w.areas in
    let l = lines_found c.lines h t o in
    let sink = sink_of m.ports found in
    let met = met_as (device_with l c.device) (standing_at m found) c.exchange h in
    record {
      refusal = 0;
      reply = met.reply;
      world =
          world (after_with c h l met.exchange (interrupt_at m.ports sink))
          (apply (effect_by (standing_at m sink) h t) m);
    }
