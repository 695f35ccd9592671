-- `frames::wrong_blocks` tests each block by itself, with the bytes that `frame_checks` gives. Assumes nothing.
use Rattle.sequence.specs.Frame.{frame_checks}
use Rattle.frames.specs.Judge.{wrong_at, wrong_of}
use Rattle.frames.proofs.Judged.{right_byte}
use Rattle.frames.proofs.wrong_blocks.Goals as goal

pub returns : goal.returns
unfolding wrong_of wrong_at frame_checks
returns c =
    let a = c.args in
    let ws = a.words.now in
    rw (
      c.is_wrong-4.ensures,
      c.is_wrong-3.ensures,
      c.is_wrong-2.ensures,
      c.is_wrong.ensures,
      c.frame_checks-f.ensures,
    )
    (rw (right_byte ws a.checks 0, right_byte ws a.checks 1, right_byte ws a.checks 2, right_byte ws a.checks 3))
