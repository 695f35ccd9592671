-- `cut::before` is the defined part. Assumes nothing.
use Rattle.std.proofs.Common.{sym, length-take-le}
use Rattle.port_digits.proofs.Cutting.{until_within, take_until}
use Rattle.port_digits.proofs.cut.before.Goals as goal

pub slice_bounds-result-end : goal.slice_bounds-result-end
slice_bounds-result-end c =
    let a = c.args in
    sym (length-take-le c.find.result a.t.now (rw c.find.ensures (until_within a.b a.t.now)))

pub returns : goal.returns
returns c = rw c.find.ensures (take_until c.args.b c.args.t.now)
