-- `bus_calls::tolvendrum_hear` meets its contract: what is let in comes to the call, anything else is turned away. Assumes nothing.
use Rattle.std.proofs.Common.{◌∙◌, refl, subst, sym, ◌&&◌}
use Rattle.model.specs.Layout.{areas}
use Rattle.model.specs.Event.{world}
use Rattle.model.specs.Calls.{Outcome, hear}
use Rattle.firmware_layout.specs.Controller.{ours}
use Rattle.firmware_layout.specs.Hearing.{hearing_of, formed}
use Rattle.firmware.proofs.Short.{Small, reply_small}
use Rattle.firmware.proofs.Through.{admitted_given, first_of_three, taken, turned_by}
use Rattle.firmware.proofs.bus_calls.tolvendrum_hear.Goals as goal

pub returns-in-Err : goal.returns-in-Err
returns-in-Err c =
    let a = c.args in
    let m = areas a.index.now a.ports.now a.page0.now a.page1.now in
    rw c.turn_away.ensures (turned_by (ours a.c && formed a.a && formed a.b) (hear (hearing_of a.a) (hearing_of a.b)) _ a.c m _ (rw c.with_hearings-given.ensures at c.in-Err.ensures) (first_of_three (ours a.c) (formed a.a) (formed a.b)) refl)

pub flat_answered-requires : goal.flat_answered-requires
flat_answered-requires c =
    let a = c.args in
    let m = areas a.index.now a.ports.now a.page0.now a.page1.now in
    let given = rw c.with_hearings-given.ensures at c.in_default.ensures in
    record {
      small =
          λ r is. subst (λ (o : Outcome). Small o.reply) (sym (rw is at c.hear.ensures))
          (reply_small (hear c.from-on_a.result c.from-on_b.result) (world c.from-x.result m));
      given = first_of_three (ours a.c) (formed a.a) (formed a.b) (admitted_given _ m given);
    }

pub returns : goal.returns
returns c =
    let a = c.args in
    let m = areas a.index.now a.ports.now a.page0.now a.page1.now in
    c.flat_answered.ensures _
    ∙ taken (ours a.c && formed a.a && formed a.b) (hear (hearing_of a.a) (hearing_of a.b)) _ a.c m _
    (rw c.with_hearings-given.ensures at c.in_default.ensures) refl
    (rw (c.from-x.ensures, c.from-on_a.ensures, c.from-on_b.ensures) at c.hear.ensures)
