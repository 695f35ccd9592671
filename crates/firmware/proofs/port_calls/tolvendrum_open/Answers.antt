-- `port_calls::tolvendrum_open` meets its contract: what is let in comes to the call, anything else is turned away. Assumes nothing.
use Rattle.std.proofs.Common.{◌∙◌, refl}
use Rattle.model.specs.Layout.{areas}
use Rattle.model.specs.Calls.{open_port}
use Rattle.firmware_layout.specs.Flags.{is_bit, is_set}
use Rattle.firmware.proofs.Through.{opened, not_opened_by}
use Rattle.firmware.proofs.port_calls.tolvendrum_open.Goals as goal

pub returns-in-Err : goal.returns-in-Err
returns-in-Err c =
    let a = c.args in
    let call = open_port a.a a.p a.code (is_set a.sink) a.interrupt a.limit in
    let m = areas a.index.now a.ports.now a.page0.now a.page1.now in
    rw c.from.ensures (not_opened_by (is_bit a.sink) call _ m _ (rw c.is_bit.ensures at c.in-Err.ensures) refl)

pub returns : goal.returns
returns c =
    let a = c.args in
    let call = open_port a.a a.p a.code (is_set a.sink) a.interrupt a.limit in
    let m = areas a.index.now a.ports.now a.page0.now a.page1.now in
    rw (c.told.ensures) (rw c.is_set.ensures at c.open.ensures)
    ∙ opened (is_bit a.sink) call m (rw c.is_bit.ensures at c.in_default.ensures)
