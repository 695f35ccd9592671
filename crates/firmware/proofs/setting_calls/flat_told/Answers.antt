-- `setting_calls::flat_told` meets its contract: numbers of ours come back from their controller. Assumes nothing.
use Rattle.firmware_layout.proofs.Inverse.{same_numbers}
use Rattle.firmware.proofs.setting_calls.flat_told.Goals as goal

pub returns-in-Err : goal.returns-in-Err
returns-in-Err c =
    let given = c.if-not-given.false in
    rw (given, c.in-Err.is, c.from-in-Err.ensures, same_numbers c.args.f (c.requires given))
