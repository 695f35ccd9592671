-- The rules of quiet time all at once: bit times that surely bring nothing only make the times later, whatever the controller holds. By one
-- bit time after the other, none of which reaches a timeout or lets a rule act. Assumes nothing.
use Rattle.std.proofs.Common.{ℕ, ◌+◌, ◌-◌, ◌≤◌, ◌<◌, ◌≡◌, ◌∙◌, Bool, None, Some, zero, suc, min, refl, ap, true, false, cond, true≢false}
use Rattle.std.proofs.Common.{zero-add, add-zero, suc-add, arith, leb, ltb, le-ltb, leb-false, ne_eqb, ltb-false}
use Rattle.std.proofs.Math.Bool.{and-false}
use Rattle.std.proofs.lemmas.Bool.{lt-leb}
use Rattle.model.specs.declared.Exchange.{Exchange}
use Rattle.model.specs.declared.Exchange.TheVariants.{Idle, Waiting, Done}
use Rattle.model.specs.declared.Times.{Times}
use Rattle.model.specs.declared.Lines.{Lines}
use Rattle.model.specs.declared.Controller.{Controller}
use Rattle.model.specs.Layout.{Areas}
use Rattle.model.specs.Ports.{apply}
use Rattle.model.specs.Lines.{lines, acts5, rule1, rule2, rule5}
use Rattle.model.specs.Event.{World, world}
use Rattle.model.specs.Quiet.{bus_timeout, line_timeout, times, since_later, expired, bus_silent, line_silent, is_some, lines_later}
use Rattle.model.specs.Quiet.{pulse_effect, pulse_controller, pulse, pulses}
use Rattle.bus_quiet.specs.Quiet.{since_after}
use Rattle.bus_quiet.specs.Jump.{before_reply, before_bus, before_line, before_any, free, later, passed, jumped}
use Rattle.bus_quiet.specs.Resting.{resting, rolled}
use Rattle.bus_quiet.proofs.BitTime.{one_later, pulses_suc}
use Rattle.bus_quiet.proofs.Roll.{roll}

-- rules 1, 2 and 5 without an occasion
unmoved : (l : Lines) → acts5 l ≡ false → lines_later l None false ≡ l
unfolding rule1 rule2 rule5
unmoved l h = go l.laa l.rld l.ls l.slm h
  where
    go : (a r s m : Bool) → acts5 (lines a r s m) ≡ false → rule5 (rule2 false (rule1 false (lines a r s m))) ≡ lines a r s m
    go a true false m h = refl
    go a true true m h = refl
    go a false false m h = refl
    go a false true true h = refl
    go a false true false h = absurd (true≢false h)

-- ---- bit times that bring nothing

module _ (n : ℕ) (t : Times) where
  -- the times after n of them
  on : Times
  on = times (since_after n t.since) (t.line + n) t.chosen t.adopted

  next : since_later on ≡ since_after (suc n) t.since
  unfolding on
  next = one_later on ∙ omega arith

  no_reply : (x : Exchange) → n < before_reply x t → expired x on ≡ None
  unfolding on
  no_reply Idle h = refl
  no_reply (Waiting w) h = go (leb t.adopted (since_after line_timeout t.since)) refl h
    where
      go : (b : Bool) → leb t.adopted (since_after line_timeout t.since) ≡ b
          → n < cond (is_some (cond b (Some w) None)) (t.adopted - t.since - 1) line_timeout → expired (Waiting w) on ≡ None
      go true e k = rw (lt-leb t.adopted (since_later on) (omega (arith, next)))
      go false e k =
          let h = leb-false t.adopted (since_after line_timeout t.since) e in
          rw (lt-leb t.adopted (since_later on) (omega (arith, next)))
  no_reply Done h = refl

  no_bus : n < before_bus t → bus_silent on ≡ false
  unfolding on
  no_bus h = go (ltb t.since bus_timeout) refl h
    where
      go : (b : Bool) → ltb t.since bus_timeout ≡ b → n < cond b (bus_timeout - 1 - t.since) line_timeout → bus_silent on ≡ false
      go true e k = rw (ne_eqb (since_after n t.since + 1) bus_timeout (λ q. omega arith), and-false)
      go false e k = rw (le-ltb (since_after n t.since) bus_timeout (omega (arith, ltb-false t.since bus_timeout e)))

  no_line : n < before_line t → line_silent on ≡ false
  unfolding on
  no_line h = lt-leb line_timeout (t.line + n + 1) (omega arith)

-- no jump goes beyond the line timeout
pub free_line : (c : Controller) → free c ≤ before_line c.times
unfolding free
free_line c = go (acts5 c.lines)
  where
    go : (b : Bool) → cond b 0 (before_any c.exchange c.times) ≤ before_line c.times
    go true = omega arith
    go false = omega arith

-- one bit time more
still : (n : ℕ) (c : Controller) (m : Areas) → n < free c → pulse (world (later n c) m) ≡ world (later (suc n) c) m
unfolding pulse pulse_controller pulse_effect apply free later on
still n c m h = go (acts5 c.lines) refl h
  where
    go : (b : Bool) → acts5 c.lines ≡ b → n < cond b 0 (before_any c.exchange c.times)
        → pulse (world (later n c) m) ≡ world (later (suc n) c) m
    go true e k = absurd (omega arith)
    go false e k =
        let line : c.times.line + n + 1 ≡ c.times.line + suc n = omega arith in
        rw (
          no_reply n c.times c.exchange (omega arith),
          no_bus n c.times (omega arith),
          no_line n c.times (omega arith),
          unmoved c.lines e,
          next n c.times,
          line,
        )

-- a bit times and then b
pulses_add : (a b : ℕ) (s : World) → pulses (a + b) s ≡ pulses b (pulses a s)
unfolding pulses
pulses_add zero b s = rw zero-add
pulses_add (suc a) b s = rw suc-add (pulses_add a b (pulse s))

-- k bit times that surely bring nothing, passed at once.
jump : (k : ℕ) (s : World) → k ≤ free s.controller → pulses k s ≡ world (later k s.controller) s.areas
unfolding pulses later
jump zero s h =
    let since : since_after 0 s.controller.times.since ≡ s.controller.times.since = omega arith in
    rw (since, add-zero)
jump (suc n) s h = pulses_suc n s ∙ ap pulse (jump n s (omega arith)) ∙ still n s.controller s.areas h

-- No jump leaves more bit times than there were.
pub left_at_most : (n : ℕ) (c : Controller) → (jumped n c).left ≤ n
unfolding jumped
left_at_most n c = go (resting c)
  where
    go : (b : Bool) → (cond b (passed 0 (rolled n c)) (passed (n - min n (free c)) (later (min n (free c)) c))).left ≤ n
    go true = omega arith
    go false = omega arith

-- the rules of n bit times: a jump, and what is left of them
pub jump_on : (n : ℕ) (s : World)
    → pulses n s ≡ pulses (jumped n s.controller).left (world (jumped n s.controller).controller s.areas)
unfolding jumped pulses
jump_on n s = go (resting s.controller) refl
  where
    go : (b : Bool) → resting s.controller ≡ b
        → pulses n s ≡ pulses (jumped n s.controller).left (world (jumped n s.controller).controller s.areas)
    go true e = rw e (roll n s e)
    go false e =
        let k = min n (free s.controller) in
        let all : n ≡ k + (n - k) = omega arith in
        rw e (ap (λ (j : ℕ). pulses j s) all ∙ pulses_add k (n - k) s ∙ ap (pulses (n - k)) (jump k s (omega arith)))
