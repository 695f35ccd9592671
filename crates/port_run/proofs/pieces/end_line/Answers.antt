-- `pieces::end_line` works a line that ends with these bytes. Assumes nothing.
use Rattle.std.proofs.Common.{ℕ, ◌≡◌, ◌∙◌, ap, eqb, true, List, ◌++◌, length, take, rules}
use Rattle.port_digits.specs.Write.{Paper, paper, onto}
use Rattle.model.specs.Layout.{areas, Areas}
use Rattle.port_line.specs.Meaning.{State, state_after}
use Rattle.port_run.specs.Fed.{worked, Left, left_by}
use Rattle.port_run.proofs.Leaving.{waits}
use Rattle.port_run.proofs.pieces.end_line.Goals as goal
use Rattle.port_run.proofs.pieces.end_line.Goals.{After-put_part-g}

-- where the bytes have been put behind those of the line that came before
module _ (put : After-put_part-g) where
  abbrev memory : Areas
  memory = let a = put.args in areas a.index.now a.ports.now a.page0.now a.page1.now

  abbrev state : State
  state = state_after memory put.args.f.stepped

  abbrev output : Paper
  output = paper put.args.out.now put.args.f.stepped.at

  abbrev room : ℕ
  room = length put.args.line.now

  abbrev whole : List ℕ
  whole = take put.args.f.partial put.args.line.now ++ put.args.t.now

pub returns-clause-leaves : goal.returns-clause-leaves
unfolding onto
returns-clause-leaves c =
    let put = (goal.at.returns-clause-leaves c).After-put_part-g in
    let runs : eqb c.put_part-g.result.stepped.refusal 0 ≡ true = search rules in
    let waiting = waits (room put) (whole put) (state put) (output put) (c.put_part-g.ensures.leaves (memory put)) runs in
    c.work-2.ensures.leaves _ ∙ ap (λ (x : Left). left_by x.out (worked (room put) x.next.line x.next.state)) waiting
