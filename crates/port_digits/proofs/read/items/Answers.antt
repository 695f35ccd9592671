-- `read::items` reads a list of numbers. Assumes nothing.
use Rattle.std.proofs.Common.{◌+◌, sym, ◌∙◌, ap, refl, arith, true, false, drop, [], length-set, eq-eqb, ne_eqb}
use Rattle.port_digits.specs.Read.{numbers, items_from}
use Rattle.port_digits.proofs.Items.{item_digit, item_ends, item_fault, item_missing, item_last, item_none, reading_from, reading_start, reading_with, reading_none}
use Rattle.port_digits.proofs.read.items.Goals.{then-is_digit, else-is_digit+in-Some}
use Rattle.port_digits.proofs.read.items.Goals as goal

pub loop-c-init : goal.loop-c-init
loop-c-init c = record { same_room = refl; counted = omega arith; left = reading_start _ _ }

pub loop-c-preserved : goal.loop-c-preserved
loop-c-preserved c =
    let l = c.loop-c in
    let t = c.args.t.now in
    elim c.if-is_digit.branch [
      | then-is_digit w ↦
          let e = item_digit t l.c-index c.loop-c-test.true l.number (sym c.is_digit.ensures ∙ w.if-is_digit.true) in
          rw (w.into-is, w.number-is, w.count-is, w.largest-is, w.longer.ensures, w.unwrap_or.ensures)
          (record {
            same_room = l.invariant.same_room;
            counted = omega arith;
            left = ap (reading_from l.into l.count l.largest) (sym e) ∙ l.invariant.left;
          })
      | else-is_digit+in-Some w ↦
          let v = w.in-Some.v in
          let e = item_ends t l.c-index c.loop-c-test.true v (sym c.is_digit.ensures ∙ w.if-is_digit.false) (eq-eqb _ _ w.if-c-eq44.true) in
          rw (w.into-is, w.number-is, w.count-is, w.largest-is, w.max-largest.ensures, w.store.ensures, w.word.ensures)
          (record {
            same_room = length-set l.into l.count _ ∙ l.invariant.same_room;
            counted = omega arith;
            left =
                reading_with l.into l.count l.largest v (items_from false 0 (drop (l.c-index + 1) t))
                ∙ ap (reading_from l.into l.count l.largest) (sym e) ∙ rw w.in-Some.is at l.invariant.left;
          })
    ]

pub returns-in_default-2 : goal.returns-in_default-2
returns-in_default-2 c =
    let l = c.loop-c in
    let t = c.args.t.now in
    let e = item_fault t l.c-index c.loop-c-test.true l.number (sym c.is_digit.ensures ∙ c.if-is_digit.false) (ne_eqb _ _ c.if-c-eq44.false) in
    sym (reading_none _ _ _ _) ∙ ap (reading_from l.into l.count l.largest) (sym e) ∙ l.invariant.left

pub returns-in_default-2-2 : goal.returns-in_default-2-2
returns-in_default-2-2 c =
    let l = c.loop-c in
    let t = c.args.t.now in
    let e = item_missing t l.c-index c.loop-c-test.true (sym c.is_digit.ensures ∙ c.if-is_digit.false) in
    sym (reading_none _ _ _ _) ∙ ap (reading_from l.into l.count l.largest) (sym e) ∙ rw c.in_default-2.is at l.invariant.left

pub returns-in-Some-number : goal.returns-in-Some-number
returns-in-Some-number c =
    let l = c.loop-c in
    let v = c.in-Some-number.v in
    let e = item_last c.args.t.now l.c-index c.loop-c-test.false v in
    rw (c.max.ensures, c.store-in-Some-number.ensures, c.word-in-Some-number.ensures)
    (sym (reading_none _ _ _ _) ∙ reading_with l.into l.count l.largest v (numbers true []) ∙ ap
    (reading_from l.into l.count l.largest) (sym e) ∙ rw c.in-Some-number.is at l.invariant.left)

pub returns-in-None : goal.returns-in-None
returns-in-None c =
    let l = c.loop-c in
    let e = item_none c.args.t.now l.c-index c.loop-c-test.false in
    sym (reading_none _ _ _ _) ∙ ap (reading_from l.into l.count l.largest) (sym e) ∙ rw c.in-None.is at l.invariant.left
