-- `sequence::table::push_word` pushes the sixteen bits of a word: those of its high byte, then those of its low byte. Assumes nothing.
use Rattle.std.proofs.Common.{ℕ, ◌%◌, ◌∙◌, sym, ap}
use Rattle.sequence.specs.Check.{pushes}
use Rattle.sequence.proofs.Steps.{word_bytes}
use Rattle.sequence.proofs.table.push_word.Goals as goal

pub returns-clause-pushed : goal.returns-clause-pushed
returns-clause-pushed c =
    let a = c.args in
    c.push_byte-2.ensures.pushed
    ∙ ap (λ (n : ℕ). pushes 8 n (a.w % 256)) c.push_byte.ensures.pushed
    ∙ sym (word_bytes a.r a.w)
