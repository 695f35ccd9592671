-- `report::put_report` writes the open ports. Assumes nothing.
use Rattle.std.proofs.Common.{◌≡◌, arith}
use Rattle.port_text.specs.Report.{report}
use Rattle.port_text.proofs.report.put_report.Goals as goal

pub returns : goal.returns
unfolding report
returns c =
    let l = c.loop-a in
    let h : l.a ≡ 4096 = omega (arith, l.auto.a-end, c.loop-a-test.false) in
    rw h at l.invariant.written
