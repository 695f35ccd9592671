-- `pieces::close` ends the line that lacks its newline. Assumes nothing.
use Rattle.std.proofs.Common.{ℕ, ◌≡◌, ◌∙◌, sym, ap, true, false, List, [], eqb, eq-eqb, ne_eqb, length, take, length-take}
use Rattle.model.specs.Layout.{areas}
use Rattle.port_digits.specs.Write.{paper, onto}
use Rattle.port_line.specs.Meaning.{state_after}
use Rattle.port_run.specs.Fed.{feeding, part_fed, left_by}
use Rattle.port_run.proofs.Leaving.{take_cut, last_ended}
use Rattle.port_run.proofs.pieces.close.Goals as goal
use Rattle.port_run.proofs.pieces.close.Goals.{After-min-partial}

-- where the number of bytes of a line has been cut to what its buffer holds
module _ (cut : After-min-partial) where
  abbrev partial : ℕ
  partial = cut.args.f.partial

  abbrev line : List ℕ
  line = cut.args.line.now

  -- the bytes of the line are the same
  same : take cut.min-partial.result line ≡ take partial line
  same = take_cut partial cut.min-partial.result line cut.min-partial.ensures

  -- and so many are there
  counted : length (take partial line) ≡ cut.min-partial.result
  counted = length-take partial line ∙ sym cut.min-partial.ensures

pub returns-then-partial-eq0-clause-leaves : goal.returns-then-partial-eq0-clause-leaves
unfolding onto
returns-then-partial-eq0-clause-leaves c =
    let cut = (goal.at.returns-then-partial-eq0-clause-leaves c).After-min-partial in
    rw (counted cut, eq-eqb _ _ c.if-partial-eq0.true, same cut)

pub returns-clause-leaves : goal.returns-clause-leaves
returns-clause-leaves c =
    let cut = (goal.at.returns-clause-leaves c).After-min-partial in
    let a = c.args in
    let l = line cut in
    let s = state_after (areas a.index.now a.ports.now a.page0.now a.page1.now) a.f.stepped in
    let p = paper a.out.now a.f.stepped.at in
    let some : eqb (length (take (partial cut) l)) 0 ≡ false = rw (counted cut) (ne_eqb _ _ c.if-partial-eq0.false) in
    c.part.ensures.leaves
    ∙ ap (λ (k : List ℕ). left_by p (part_fed (length l) (feeding s k a.f.stepped.refusal) [] true)) (same cut)
    ∙ ap (left_by p) (last_ended (length l) (feeding s (take (partial cut) l) a.f.stepped.refusal) some)
