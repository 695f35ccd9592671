-- `frames::reply_size` gives the defined size: its table is the defined list, entry by entry. Assumes nothing.
use Rattle.std.proofs.Common.{refl, sym, None}
use lib.ListN.{get_or-eq_default}
use Rattle.frames.specs.Size.{sizes, expected_of}
use Rattle.frames.proofs.reply_size.Goals as goal

pub returns-then-at-lt16 : goal.returns-then-at-lt16
unfolding expected_of sizes
returns-then-at-lt16 c = refl

pub returns-else-at-lt16 : goal.returns-else-at-lt16
unfolding expected_of sizes
returns-else-at-lt16 c = sym (get_or-eq_default sizes None c.if-at-lt16.false)
