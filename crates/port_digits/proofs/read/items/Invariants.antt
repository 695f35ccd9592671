-- `read::items` reads a list of numbers. The loop's invariant: what is stored and told so far, with what is still to be read, is what is
-- told of the whole. Assumes nothing.
use Rattle.std.proofs.Common.{◌≡◌, ◌≤◌, false, length, drop}
use Rattle.port_digits.specs.Read.{items_from, reading_of}
use Rattle.port_digits.proofs.Items.{items_after, reading_from}
use Rattle.port_digits.proofs.read.items.Given as goal

abbrev pub invariant-loop-c : goal.invariant-loop-c
invariant-loop-c l =
    record {
      same_room : length l.into ≡ length l.initial.into;
      counted : l.count ≤ l.c-index;
      left :
          reading_from l.into l.count l.largest (items_after l.number (drop l.c-index l.t))
          ≡ reading_of l.initial.into (items_from false 0 l.t);
    }
