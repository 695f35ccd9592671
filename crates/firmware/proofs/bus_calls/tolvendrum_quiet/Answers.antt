-- `bus_calls::tolvendrum_quiet` meets its contract: what is let in comes to the call, anything else is turned away. Assumes nothing.
use Rattle.std.proofs.Common.{◌∙◌, refl, subst, sym}
use Rattle.model.specs.Layout.{areas}
use Rattle.model.specs.Event.{world}
use Rattle.model.specs.Calls.{Outcome, quiet}
use Rattle.firmware_layout.specs.Controller.{ours}
use Rattle.firmware.proofs.Short.{Small, reply_small}
use Rattle.firmware.proofs.Through.{admitted_given, taken, turned_by}
use Rattle.firmware.proofs.bus_calls.tolvendrum_quiet.Goals as goal

pub returns-in-Err : goal.returns-in-Err
returns-in-Err c =
    let a = c.args in
    let m = areas a.index.now a.ports.now a.page0.now a.page1.now in
    rw c.turn_away.ensures (turned_by (ours a.c) (quiet a.n) _ a.c m _ (rw c.is_ours.ensures at c.in-Err.ensures) (λ e. e) refl)

pub flat_answered-requires : goal.flat_answered-requires
flat_answered-requires c =
    let a = c.args in
    let m = areas a.index.now a.ports.now a.page0.now a.page1.now in
    record {
      small =
          λ r is. subst (λ (o : Outcome). Small o.reply) (sym (rw is at c.quiet.ensures))
          (reply_small (quiet a.n) (world c.from-x.result m));
      given = admitted_given (ours a.c) m (rw c.is_ours.ensures at c.in_default.ensures);
    }

pub returns : goal.returns
returns c =
    let a = c.args in
    let m = areas a.index.now a.ports.now a.page0.now a.page1.now in
    c.flat_answered.ensures _
    ∙ taken (ours a.c) (quiet a.n) _ a.c m _ (rw c.is_ours.ensures at c.in_default.ensures) refl
    (rw c.from-x.ensures at c.quiet.ensures)
