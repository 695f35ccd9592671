-- `sequence::check` gives the check byte of all the words. Assumes nothing.
use Rattle.std.proofs.Common.{arith, get_or, add-zero}
use Rattle.sequence.specs.Check.{rest, ones_of}
use Rattle.sequence.proofs.Blocks.{words_cons, none_left, ended}
use Rattle.sequence.proofs.Ones.{ones_xor}
use Rattle.sequence.proofs.check.Goals as goal

pub loop-w-preserved : goal.loop-w-preserved
unfolding rest ones_of
loop-w-preserved c =
    let l = c.loop-w in
    let ws = c.args.words.now in
    let s = words_cons ws l.w-index c.loop-w-test.true in
    let o = rw s at l.invariant.even in
    let x = ones_xor l.all (get_or ws l.w-index 0) in
    record { remains = rw c.push_word-r.ensures.pushed (rw s at l.invariant.remains); even = omega arith; small = c.push_word-r.ensures.small }

pub returns : goal.returns
unfolding rest ones_of
returns c =
    let l = c.loop-w in
    let ws = c.args.words.now in
    let z = none_left ws l.w-index l.auto.w-index-end c.loop-w-test.false in
    ended ws l.r l.all l.invariant.small (rw z at l.invariant.remains) (rw (z, add-zero) at l.invariant.even)
