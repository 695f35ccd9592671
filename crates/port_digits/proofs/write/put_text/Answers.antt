-- `write::put_text` writes its text byte by byte. Assumes nothing.
use Rattle.std.proofs.Common.{◌+◌, drop, sym, ◌∙◌, ap, rules, drop_of_length-le}
use Rattle.port_digits.specs.Write.{Paper, paper, onto}
use Rattle.port_digits.proofs.Pasting.{onto_next}
use Rattle.port_digits.proofs.write.put_text.Goals as goal

pub loop-b-preserved : goal.loop-b-preserved
loop-b-preserved c =
    let l = c.loop-b in
    let t = c.args.t.now in
    let h = onto_next (paper l.out l.p) t l.b-index c.loop-b-test.true in
    record {
      same_room = search rules;
      left = ap (λ (q : Paper). onto q (drop (l.b-index + 1) t)) c.put-p.ensures ∙ sym h ∙ l.invariant.left;
    }

pub returns : goal.returns
unfolding onto
returns c = rw (drop_of_length-le _ c.loop-b-test.false) at c.loop-b.invariant.left
