-- `write::put_list` writes its first number, and then the others. Assumes nothing.
use Rattle.port_digits.specs.Write.{onto}
use Rattle.port_digits.proofs.Pasting.{then, commas_first, commas_none}
use Rattle.port_digits.proofs.write.put_list.Goals as goal

pub returns-in-empty : goal.returns-in-empty
unfolding onto
returns-in-empty c = rw (commas_none c.args.vs.now c.in-empty.len_below)

pub returns-in-len1-up : goal.returns-in-len1-up
returns-in-len1-up c =
    rw (← commas_first c.args.vs.now c.in-len1-up.len_at_least)
    (then _ _ _ c.put_number-p.ensures c.put_others.ensures)
