-- `line::frame` is the frame of two lists, from what reading them leaves. Assumes nothing.
use Rattle.std.proofs.Common.{rules, tests}
use Rattle.port_digits.specs.Read.{cut}
use Rattle.port_text.proofs.Mapped.{mapped}
use Rattle.port_text.proofs.Frames.{read_good, read_malformed}
use Rattle.port_text.proofs.line.frame.Goals as goal

pub returns-then-is_frame : goal.returns-then-is_frame
returns-then-is_frame c =
    let a = c.args in
    let bytes = mapped (cut 255) c.numbers-y.new.into c.map.result 4 c.map.ensures.items (search rules) (λ x y p q k. search (rules, tests)) in
    rw (c.unmarked.ensures, bytes)
    (read_good a.one a.b a.v.now _ _ _ _ _ _ c.before-2.ensures c.after.ensures c.numbers-x.ensures c.numbers-y.ensures
    a.kind _ _ c.is_frame.ensures c.has.ensures c.if-is_frame.true)

pub returns-else-is_frame : goal.returns-else-is_frame
returns-else-is_frame c =
    let a = c.args in
    read_malformed a.one a.b a.v.now _ _ _ _ _ _ c.before-2.ensures c.after.ensures c.numbers-x.ensures c.numbers-y.ensures
    a.kind _ _ c.is_frame.ensures c.has.ensures c.if-is_frame.false
