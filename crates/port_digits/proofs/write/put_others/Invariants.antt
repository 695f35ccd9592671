-- `write::put_others` writes its numbers one after the other. The loop's invariant: what is left, written after what stands there, gives
-- the whole. Assumes nothing.
use Rattle.std.proofs.Common.{◌≡◌, true, length, drop}
use Rattle.port_digits.specs.Write.{paper, onto, commas_from}
use Rattle.port_digits.proofs.write.put_others.Given as goal

abbrev pub invariant-loop-v : goal.invariant-loop-v
invariant-loop-v l =
    record {
      same_room : length l.out ≡ length l.initial.out;
      left : onto (paper l.out l.p) (commas_from true (drop l.v-index l.vs)) ≡ onto (paper l.initial.out l.at) (commas_from true l.vs);
    }
