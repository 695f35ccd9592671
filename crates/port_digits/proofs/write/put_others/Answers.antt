-- `write::put_others` writes its numbers one after the other. Assumes nothing.
use Rattle.std.proofs.Common.{◌+◌, true, get_or, drop, sym, ◌∙◌, ap, rules, drop_of_length-le}
use Rattle.port_digits.specs.Write.{Paper, paper, onto, decimal, commas_from}
use Rattle.port_digits.proofs.Pasting.{commas_next}
use Rattle.port_digits.proofs.write.put_others.Goals as goal

pub loop-v-preserved : goal.loop-v-preserved
loop-v-preserved c =
    let l = c.loop-v in
    let vs = c.args.vs.now in
    let number = c.put_number-p.ensures ∙ ap (λ (q : Paper). onto q (decimal (get_or vs l.v-index 0))) c.put-p.ensures in
    record {
      same_room = search rules;
      left =
          ap (λ (q : Paper). onto q (commas_from true (drop (l.v-index + 1) vs))) number
          ∙ sym (commas_next (paper l.out l.p) vs l.v-index c.loop-v-test.true) ∙ l.invariant.left;
    }

pub returns : goal.returns
unfolding commas_from onto
returns c = rw (drop_of_length-le _ c.loop-v-test.false) at c.loop-v.invariant.left
