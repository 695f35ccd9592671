-- `report::put_report` writes the open ports. The loop's invariant: those below the address are written. Assumes nothing.
use Rattle.std.proofs.Common.{◌≡◌, length}
use Rattle.port_digits.specs.Write.{paper, onto}
use Rattle.model.specs.Layout.{areas}
use Rattle.port_text.specs.Report.{report_below}
use Rattle.port_text.proofs.report.put_report.Given as goal

abbrev pub invariant-loop-a : goal.invariant-loop-a
invariant-loop-a l =
    record {
      same_room : length l.out ≡ length l.initial.out;
      written : paper l.out l.p ≡ onto (paper l.initial.out l.at) (report_below (areas l.index l.ports l.page0 l.page1) l.a);
    }
