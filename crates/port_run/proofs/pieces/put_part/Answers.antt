-- `pieces::put_part` puts bytes into the buffer, where there is room for them. Assumes nothing.
use Rattle.std.proofs.Common.{◌+◌, ◌≤◌, ◌<◌, ◌∙◌, ◌++◌, arith, le-ltb, lt-ltb, length, take, length-append, length-take-le}
use Rattle.port_digits.specs.Write.{onto, last_place}
use Rattle.port_run.proofs.Leaving.{put_length, put_behind, over_worked}
use Rattle.port_run.proofs.pieces.put_part.Goals as goal

pub returns-then-t-line : goal.returns-then-t-line
unfolding onto
returns-then-t-line c =
    let l = c.args.line.now in
    let t = c.args.t.now in
    let n = c.args.f.partial in
    let short : length l ≤ last_place = omega arith in
    let room : n + length t ≤ length l = omega (arith, c.if-t-line.true, c.requires.part_lies_within) in
    let whole = length-append (take n l) t in
    let part = length-take-le n l c.requires.part_lies_within in
    let fits : length (take n l ++ t) ≤ length l = omega (arith, whole, part, room) in
    record {
      leaves = λ m. rw (le-ltb (length l) (length (take n l ++ t)) fits, put_behind l t n _ short room c.put_text.ensures, c.requires.runs);
      part_within = omega (arith, put_length l t n _ short room c.put_text.ensures, room);
    }

pub returns-else-t-line-clause-leaves : goal.returns-else-t-line-clause-leaves
returns-else-t-line-clause-leaves c =
    let l = c.args.line.now in
    let t = c.args.t.now in
    let n = c.args.f.partial in
    let whole = length-append (take n l) t in
    let part = length-take-le n l c.requires.part_lies_within in
    let over : length l < length (take n l ++ t) = omega (arith, whole, part, c.if-t-line.false, c.requires.part_lies_within) in
    λ m. rw (lt-ltb (length l) (length (take n l ++ t)) over)
    (c.after_line.ensures.leaves m _ ∙ over_worked (length l) (take n l ++ t) _ _ over (c.misplace.ensures m _))
