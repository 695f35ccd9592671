-- `bus::calls::pass`: the loop's invariant is that the bit times left give what all n would have given. Assumes nothing.
use mathlib.Core.Path.{◌≡◌, refl, ◌∙◌, ap}
use native.Mathlib.Omega.{arith}
use borrow.Author.Rules.{rules}
use Rattle.model.specs.Quiet.{pulses}
use Rattle.bus.proofs.Passing.{left_less, jump_left, pulse_left}
use Rattle.bus.proofs.calls.pass.Goals as goal

pub loop-left-init : goal.loop-left-init
loop-left-init c = (refl, refl)

pub loop-left-smaller-then-left-gt0 : goal.loop-left-smaller-then-left-gt0
loop-left-smaller-then-left-gt0 c =
    let h = left_less _ _ _ c.jump-j.ensures in
    omega arith

pub loop-left-preserved-then-left-gt0 : goal.loop-left-preserved-then-left-gt0
loop-left-preserved-then-left-gt0 c =
    let l = c.loop-left in (
      search rules,
      ap (pulses _) c.pulse-d.ensures ∙ pulse_left _ _ c.if-left-gt0.true ∙ jump_left _ _ _ c.jump-j.ensures
          ∙ l.invariant.1,
    )

pub loop-left-preserved : goal.loop-left-preserved
loop-left-preserved c =
    let l = c.loop-left in
    (l.invariant.0, jump_left _ _ _ c.jump-j.ensures ∙ l.invariant.1)

pub shape_of-ports : goal.shape_of-ports
shape_of-ports c = c.loop-left.invariant.0

pub returns : goal.returns
unfolding pulses
returns c =
    let h : c.loop-left.left ≡ 0 = omega arith in
    rw h at c.loop-left.invariant.1
