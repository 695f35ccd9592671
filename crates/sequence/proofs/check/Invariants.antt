-- `sequence::check` gives the check byte of all the words. The loop's invariant: the words that are left, pushed after those passed,
-- give the whole remainder, and their ones with those of the words passed, joined, the whole parity. Assumes nothing.
use Rattle.std.proofs.Common.{◌≡◌, ◌+◌, ◌%◌, ◌<◌, drop}
use lib.Count.{ones}
use Rattle.sequence.specs.Check.{rest, ones_of}
use Rattle.sequence.proofs.check.Given as goal

abbrev pub invariant-loop-w : goal.invariant-loop-w
invariant-loop-w l =
    record {
      remains : rest l.r (drop l.w-index l.words) ≡ rest 0 l.words;
      even : (ones l.all + ones_of (drop l.w-index l.words)) % 2 ≡ ones_of l.words % 2;
      small : l.r < 128;
    }
