-- Quiet time by jumps and single bit times, for the loop of `calls::pass`. Assumes nothing.
use Prim.Native.Nat.{ℕ, zero, suc, ◌-◌, ◌≤◌, ◌<◌}
use mathlib.Core.Path.{◌≡◌, sym, ap}
use native.Mathlib.Omega.{arith}
use Rattle.model.specs.declared.Controller.{Controller}
use Rattle.model.specs.Event.{World, world}
use Rattle.model.specs.Quiet.{pulse, pulses}
use Rattle.bus_quiet.specs.declared.Passed.{Passed}
use Rattle.bus_quiet.specs.Jump.{jumped}
use Rattle.bus_quiet.proofs.Jump.{left_at_most, jump_on}

-- a jump leaves no more than there was
pub left_less : (n : ℕ) (c : Controller) (j : Passed) → j ≡ jumped n c → j.left ≤ n
left_less n c j e = rw e (left_at_most n c)

-- after a jump, what is left of the bit times gives what all would have given
pub jump_left : (n : ℕ) (s : World) (j : Passed) → j ≡ jumped n s.controller
    → pulses j.left (world j.controller s.areas) ≡ pulses n s
jump_left n s j e = rw e (sym (jump_on n s))

-- one bit time by itself
pub pulse_left : (n : ℕ) (s : World) → 0 < n → pulses (n - 1) (pulse s) ≡ pulses n s
unfolding pulses
pulse_left zero s h = absurd (omega arith)
pulse_left (suc n) s h =
    let one_less : suc n - 1 ≡ n = omega arith in
    ap (λ (k : ℕ). pulses k (pulse s)) one_less
