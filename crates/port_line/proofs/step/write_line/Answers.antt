-- `step::write_line` writes the words of a well-formed line. Assumes nothing.
use Rattle.std.proofs.Common.{◌≡◌, sym, ◌∙◌, ap, List, ℕ, true, false, ◌&&◌, replicate}
use Rattle.port_digits.specs.Marks.{semicolon}
use Rattle.port_digits.specs.Cut.{has}
use Rattle.port_digits.specs.Read.{reading_of, numbers_in}
use Rattle.port_text.specs.Line.{below, second_list, write_of}
use Rattle.port_line.specs.Meaning.{meaning}
use Rattle.port_text.proofs.Frames.{write_good, write_kept}
use Rattle.port_line.proofs.step.write_line.Goals.{else-has-via-then-has+else-is_below, else-has-via-else-has}
use Rattle.port_line.proofs.step.write_line.Goals as goal

pub returns-then-is_below : goal.returns-then-is_below
unfolding write_of
returns-then-is_below c =
    λ o.
    let v = c.args.v.now in
    let e = c.numbers-l.ensures ∙ ap (λ (t : List ℕ). reading_of (replicate 17 0) (numbers_in t)) c.after.ensures in
    let good : (has semicolon v && below 65535 (second_list semicolon v)) ≡ true
    = sym (write_good v _ _ e) ∙ rw (sym c.has.ensures ∙ c.if-has.true, sym c.is_below.ensures ∙ c.if-is_below.true) in
    rw (good, ← write_kept v _ _ e good, ← c.min-n.ensures, ← c.before-then-is_below.ensures, ← c.number-a.ensures) (c.write.ensures o)

pub returns-else-has : goal.returns-else-has
unfolding write_of meaning
returns-else-has c =
    λ o.
    let v = c.args.v.now in
    let e = c.numbers-l.ensures ∙ ap (λ (t : List ℕ). reading_of (replicate 17 0) (numbers_in t)) c.after.ensures in
    let bad : (has semicolon v && below 65535 (second_list semicolon v)) ≡ false
    = sym (write_good v _ _ e) ∙ elim c.else-has.branch [
      | else-has-via-then-has+else-is_below w ↦ rw (sym c.has.ensures ∙ w.if-has.true, sym w.is_below.ensures ∙ w.if-is_below.false)
      | else-has-via-else-has w ↦ rw (sym c.has.ensures ∙ w.if-has.false)
    ] in
    rw bad (c.misplace.ensures _ o)
