-- The rules of one quiet bit time: the controller's part asks nothing of the areas, each part of it as the code computes it; and those of one
-- bit time after n. Assumes nothing.
use Rattle.std.proofs.Common.{ℕ, ◌+◌, ◌≡◌, ◌++◌, Bool, zero, suc, refl, true, false, cond, arith, ltb, ltb-true, ltb-false}
use Rattle.interrupts.specs.declared.Group.{Group}
use Rattle.interrupts.specs.Names.{RTI, BTI}
use Rattle.model.specs.declared.Times.{Times}
use Rattle.model.specs.Event.{World, raise_all, when}
use Rattle.model.specs.Quiet.{bus_timeout, since_later, expired, bus_silent, is_some, pulse_controller, pulse, pulses}
use Rattle.bus_quiet.specs.Quiet.{pulse_of, since_after}

raise_both : (a b : Bool) (i j : ℕ) (g : Group) → raise_all (when a i ++ when b j) g ≡ raise_all (when b j) (raise_all (when a i) g)
raise_both true b i j g = refl
raise_both false b i j g = refl

-- the controller after the rules of one quiet bit time does not depend on the areas
pub pulse_controller_lem : (s : World) → pulse_controller s ≡ pulse_of s.controller
unfolding pulse_controller pulse_of
pulse_controller_lem s =
    let c = s.controller in
    let e = expired c.exchange c.times in
    rw (raise_both (is_some e) (bus_silent c.times) RTI BTI c.group0)

-- the time since the last sound master frame, one bit time later
pub one_later : (t : Times) → since_later t ≡ since_after 1 t.since
one_later t = go (ltb t.since bus_timeout) refl
  where
    go : (b : Bool) → ltb t.since bus_timeout ≡ b → cond b (t.since + 1) t.since ≡ since_after 1 t.since
    go true e = omega (arith, ltb-true t.since bus_timeout e)
    go false e = omega (arith, ltb-false t.since bus_timeout e)

-- the rules of n bit times and then of one
pub pulses_suc : (n : ℕ) (s : World) → pulses (suc n) s ≡ pulse (pulses n s)
unfolding pulses
pulses_suc zero s = refl
pulses_suc (suc n) s = pulses_suc n (pulse s)
