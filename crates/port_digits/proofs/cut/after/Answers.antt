-- `cut::after` is the defined part, empty where the byte is not there. Assumes nothing.
use Rattle.std.proofs.Common.{◌≡◌, suc, ◌+◌, ◌-◌, ◌≤◌, sym, ◌∙◌, arith, length, drop, length-drop, add-one, drop_of_length-le, take_all}
use Rattle.port_digits.specs.Cut.{until}
use Rattle.port_digits.proofs.Cutting.{drop_until}
use Rattle.port_digits.proofs.cut.after.Goals as goal

pub returns-then-n-t : goal.returns-then-n-t
returns-then-n-t c =
    let a = c.args in
    let t = a.t.now in
    let n = c.find-n.result in
    let e : length (drop (n + 1) t) ≡ length t - (n + 1) = length-drop (n + 1) t in
    take_all (length t - (n + 1)) (drop (n + 1) t) (omega arith) ∙ rw (add-one n, c.find-n.ensures) (drop_until a.b t)

pub returns-else-n-t : goal.returns-else-n-t
returns-else-n-t c =
    let a = c.args in
    let t = a.t.now in
    let e = c.find-n.ensures in
    let out : length t ≤ suc (until a.b t) = omega arith in
    sym (drop_of_length-le t out) ∙ drop_until a.b t
