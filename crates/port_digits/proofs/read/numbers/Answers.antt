-- `read::numbers` is an empty list for an empty text. Assumes nothing.
use Rattle.std.proofs.Common.{rules, tests}
use Rattle.port_digits.specs.Read.{largest}
use Rattle.port_digits.proofs.Items.{numbers_empty, numbers_some}
use Rattle.port_digits.proofs.read.numbers.Goals as goal

pub returns-then-is_empty : goal.returns-then-is_empty
unfolding largest
returns-then-is_empty c = rw (numbers_empty c.args.t.now (search (rules, tests)))

pub returns : goal.returns
returns c = rw (numbers_some c.args.t.now (search (rules, tests))) c.items.ensures
