-- The rules of quiet time to its end: where nothing but line timeouts is to come, any number of bit times passed at once. By one bit time after the
-- other, which brings a line timeout or only later times. Assumes nothing.
use Rattle.std.proofs.Common.{ℕ, ◌+◌, ◌/◌, ◌%◌, ◌≤◌, ◌<◌, ◌≡◌, ◌∙◌, ◌&&◌, ◌||◌, Bool, None, Some, zero, suc, refl, sym, ap, true, false}
use Rattle.std.proofs.Common.{cond, not, true≢false, arith, eqb, leb, leb-true, leb-false, ltb-true, le-ltb, eqb-true, eq-eqb, ne_eqb}
use Rattle.std.proofs.Math.Bool.{false≢true, and-eq-true_iff, and-false, not-not}
use Rattle.std.proofs.lemmas.Bool.{eqb-false, not-true}
use Rattle.model.specs.declared.Exchange.{Exchange}
use Rattle.model.specs.declared.Exchange.TheVariants.{Idle, Waiting, Done}
use Rattle.model.specs.declared.Times.{Times}
use Rattle.model.specs.declared.Lines.{Lines}
use Rattle.model.specs.declared.Controller.{Controller}
use Rattle.model.specs.Layout.{Areas}
use Rattle.model.specs.Ports.{apply}
use Rattle.model.specs.Lines.{lines, rule1, rule2, rule5}
use Rattle.model.specs.Event.{World, world}
use Rattle.model.specs.Quiet.{bus_timeout, line_timeout, since_later, expired, line_silent, is_some, lines_later, pulse_effect, pulse_controller}
use Rattle.model.specs.Quiet.{pulse, pulses}
use Rattle.bus_quiet.specs.Resting.{resting, line_count, times_rolled, unpaired, switches, rolled}
use Rattle.bus_quiet.proofs.BitTime.{pulses_suc}

-- what `resting` tests
record Resting (c : Controller) : Type 0 where
  past : bus_timeout ≤ c.times.since
  undue : is_some (expired c.exchange c.times) ≡ false
  short : c.times.line < line_timeout
  fixed : (c.lines.rld || c.lines.slm) ≡ true

tests : (c : Controller) → resting c ≡ true → Resting c
unfolding resting
tests c h =
    let four = (and-eq-true_iff _ _).0 h in
    let three = (and-eq-true_iff _ _).0 four.0 in
    let two = (and-eq-true_iff _ _).0 three.0 in
    record {
      past = leb-true bus_timeout c.times.since two.0;
      undue = not-true _ two.1;
      short = ltb-true c.times.line line_timeout three.1;
      fixed = four.1;
    }

-- with RLD or SLM set another line timeout only switches, and rule 5 does not act
switch : (l : Lines) (b t : Bool) → (l.rld || l.slm) ≡ true → lines_later (rule2 b l) None t ≡ rule2 (cond t (not b) b) l
unfolding rule1 rule2 rule5
switch l b t h = go l.rld l.slm b t l.laa l.ls h
  where
    go : (r m b t a s : Bool) → (r || m) ≡ true
        → rule5 (rule2 t (rule1 false (rule2 b (lines a r s m)))) ≡ rule2 (cond t (not b) b) (lines a r s m)
    go true true true true a s h = rw (and-false s)
    go true true true false a s h = rw (and-false s)
    go true true false true a s h = rw (and-false s)
    go true true false false a s h = rw (and-false s)
    go false true true true a s h = rw (and-false (s && true))
    go false true true false a s h = rw (and-false (s && true))
    go false true false true a s h = rw (and-false (s && true))
    go false true false false a s h = rw (and-false (s && true))
    go true false true true a s h = rw (and-false s, not-not a)
    go true false true false a s h = rw (and-false s)
    go true false false true a s h = rw (and-false s)
    go true false false false a s h = rw (and-false s)
    go false false b t a s h = absurd (false≢true h)

odd_next : (k : ℕ) → not (eqb (unpaired k) 1) ≡ eqb (unpaired (suc k)) 1
odd_next k = go (eqb (unpaired k) 1) refl
  where
    go : (b : Bool) → eqb (unpaired k) 1 ≡ b → not b ≡ eqb (unpaired (suc k)) 1
    go true e = sym (ne_eqb (unpaired (suc k)) 1 (λ q. omega (arith, eqb-true (unpaired k) 1 e)))
    go false e = let h = eqb-false (unpaired k) 1 e in sym (eq-eqb (unpaired (suc k)) 1 (omega arith))

-- ---- one bit time after n

module _ (n : ℕ) (t : Times) where
  not_due : (x : Exchange) → is_some (expired x t) ≡ false → expired x (times_rolled n t) ≡ None
  not_due Idle h = refl
  not_due (Waiting w) h = go (leb t.adopted (since_later t)) h
    where
      go : (b : Bool) → is_some (cond b (Some w) None) ≡ false → cond b (Some w) None ≡ None
      go true h = absurd (true≢false h)
      go false h = refl
  not_due Done h = refl

  count_on : cond (line_silent (times_rolled n t)) 0 (line_count n t % line_timeout + 1) ≡ line_count (suc n) t % line_timeout
  count_on = go (line_silent (times_rolled n t)) refl
    where
      go : (b : Bool) → line_silent (times_rolled n t) ≡ b → cond b 0 (line_count n t % line_timeout + 1) ≡ line_count (suc n) t % line_timeout
      go true e = omega (arith, leb-true line_timeout (line_count n t % line_timeout + 1) e)
      go false e = omega (arith, leb-false line_timeout (line_count n t % line_timeout + 1) e)

  switches_on : cond (line_silent (times_rolled n t)) (not (switches n t)) (switches n t) ≡ switches (suc n) t
  switches_on = go (line_silent (times_rolled n t)) refl
    where
      go : (b : Bool) → line_silent (times_rolled n t) ≡ b → cond b (not (switches n t)) (switches n t) ≡ switches (suc n) t
      go true e =
          let h = leb-true line_timeout (line_count n t % line_timeout + 1) e in
          let more : line_count (suc n) t / line_timeout ≡ suc (line_count n t / line_timeout) = omega arith in
          rw more (odd_next (line_count n t / line_timeout))
      go false e =
          let h = leb-false line_timeout (line_count n t % line_timeout + 1) e in
          let same : line_count (suc n) t / line_timeout ≡ line_count n t / line_timeout = omega arith in
          rw same

one_more : (n : ℕ) (c : Controller) (m : Areas) → Resting c → pulse (world (rolled n c) m) ≡ world (rolled (suc n) c) m
unfolding pulse pulse_controller pulse_effect apply rolled
one_more n c m h =
    let t = c.times in
    rw (
      not_due n t c.exchange h.undue,
      le-ltb t.since bus_timeout h.past,
      switch c.lines (switches n t) (line_silent (times_rolled n t)) h.fixed,
      switches_on n t,
      count_on n t,
    )

-- no bit time changes nothing
none_passed : (c : Controller) → Resting c → rolled 0 c ≡ c
unfolding rolled rule2
none_passed c h =
    let t = c.times in
    let count : line_count 0 t % line_timeout ≡ t.line = omega (arith, h.short) in
    let timeouts : line_count 0 t / line_timeout ≡ 0 = omega (arith, h.short) in
    rw (count, timeouts)

-- the rules of n bit times where nothing but line timeouts is to come, passed at once
pub roll : (n : ℕ) (s : World) → resting s.controller ≡ true → pulses n s ≡ world (rolled n s.controller) s.areas
unfolding pulses
roll zero s h = ap (λ (c : Controller). world c s.areas) (sym (none_passed s.controller (tests s.controller h)))
roll (suc n) s h = pulses_suc n s ∙ ap pulse (roll n s h) ∙ one_more n s.controller s.areas (tests s.controller h)
