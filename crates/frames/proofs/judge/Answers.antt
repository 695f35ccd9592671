-- `frames::judge` gives the judgement: by the outcomes of its tests, and from what its callees ensure. Assumes nothing.
use Rattle.std.proofs.Common.{◌≡◌, sym, ◌∙◌, ◌||◌}
use Rattle.frames.specs.Hearing.{words_of}
use Rattle.frames.specs.Judge.{any_wrong}
use Rattle.frames.proofs.Judged.{wrong_size_lem, wrong_ends, right_counts, at_fault, faultless}
use Rattle.frames.proofs.judge.Goals.{then-h-n-via-then-h-n, then-h-n-via-else-h-n+then-h-ends, then-is_marked, else-is_marked}
use Rattle.frames.proofs.judge.Goals as goal

pub returns-then-h-n : goal.returns-then-h-n
returns-then-h-n c =
    elim c.then-h-n.branch [
      | then-h-n-via-then-h-n w ↦ wrong_size_lem _ _ w.if-h-n.true
      | then-h-n-via-else-h-n+then-h-ends w ↦
          let other = w.if-h-ends.true in
          wrong_ends _ _ w.if-h-n.false (λ e. other (e ∙ sym c.block_count-ends.ensures))
    ]

pub returns-then-any_wrong : goal.returns-then-any_wrong
unfolding words_of
returns-then-any_wrong c =
    let a = c.args in
    let wrong = c.wrong_blocks-wrong.result in
    let tested : c.if-is_marked.value ≡ (c.is_marked.result || any_wrong wrong) =
    elim c.if-is_marked.branch [
      | then-is_marked w ↦ rw w.if-is_marked.true (w.value-is ∙ w.if-is_marked.true)
      | else-is_marked w ↦ rw w.if-is_marked.false (w.value-is ∙ w.any_wrong.ensures)
    ]
    in
    at_fault c.is_marked.result wrong (sym tested ∙ c.if-any_wrong.true)
    ∙ rw (c.is_marked.ensures, c.wrong_blocks-wrong.ensures) (right_counts a.n a.h c.if-h-n.false (c.if-h-ends.false ∙ c.block_count-ends.ensures))

pub returns-else-any_wrong : goal.returns-else-any_wrong
unfolding words_of
returns-else-any_wrong c =
    let a = c.args in
    let wrong = c.wrong_blocks-wrong.result in
    let tested : c.if-is_marked.value ≡ (c.is_marked.result || any_wrong wrong) =
    elim c.if-is_marked.branch [
      | then-is_marked w ↦ rw w.if-is_marked.true (w.value-is ∙ w.if-is_marked.true)
      | else-is_marked w ↦ rw w.if-is_marked.false (w.value-is ∙ w.any_wrong.ensures)
    ]
    in
    faultless c.is_marked.result wrong (sym tested ∙ c.if-any_wrong.false)
    ∙ rw (c.is_marked.ensures, c.wrong_blocks-wrong.ensures) (right_counts a.n a.h c.if-h-n.false (c.if-h-ends.false ∙ c.block_count-ends.ensures))
