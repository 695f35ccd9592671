-- `write::put_text` writes its text byte by byte. The loop's invariant: what is left, written after what stands there, gives the whole.
-- Assumes nothing.
use Rattle.std.proofs.Common.{◌≡◌, length, drop}
use Rattle.port_digits.specs.Write.{paper, onto}
use Rattle.port_digits.proofs.write.put_text.Given as goal

abbrev pub invariant-loop-b : goal.invariant-loop-b
invariant-loop-b l =
    record {
      same_room : length l.out ≡ length l.initial.out;
      left : onto (paper l.out l.p) (drop l.b-index l.t) ≡ onto (paper l.initial.out l.at) l.t;
    }
