-- The port that waits and the port whose exchange a call finishes, as the past tells them and as the areas have them. Assumes nothing.
use Prim.Native.Nat.{ℕ, suc, ◌%◌, ◌≤◌}
use mathlib.Core.Path.{◌≡◌, refl, sym, ◌∙◌, ap}
use mathlib.Core.Bool.{Bool, true, false, cond, ◌&&◌, true≢false}
use mathlib.Core.List.{List}
use Rattle.std.specs.Prelude.{Option, None, Some}
use native.Mathlib.Omega.{arith}
use lib.Dec.{eqb, leb}
use lib.ListN.{length}
use borrow.Author.Tests.{eqb-true, le-leb, leb-false}
use Rattle.frames.specs.declared.Kind.{Kind}
use Rattle.frames.specs.declared.Kind.TheVariants.{Silence, Noise, Master as MasterFrame, Slave as SlaveFrame}
use Rattle.frames.specs.declared.Hearing.{Hearing}
use Rattle.frames.specs.declared.Judgement.{Judgement}
use Rattle.frames.specs.declared.Judgement.TheVariants.{Sound, Unsound as Bad}
use Rattle.frames.specs.Judge.{judged_master, judged_slave}
use Rattle.model.specs.declared.Exchange.{Exchange}
use Rattle.model.specs.declared.Exchange.TheVariants.{Idle, Waiting, Done}
use Rattle.model.specs.declared.Times.{Times}
use Rattle.model.specs.Layout.{Areas, entry}
use Rattle.model.specs.Ports.{code_of, address_of, has_ports, Standing, standing_of, standing, apply}
use Rattle.model.specs.Event.{open_for, port_for, if_sink, sink_for, as_master, as_heard, taken, heard, heard_by}
use Rattle.model.specs.Quiet.{since_later, expired, exchange_later, times_later, missed, effect_later}
use Rattle.model.specs.Calls.{Call, hear, effect}
use Rattle.model.specs.Past.{after, on_trusted, is_slave, Opening, opening_of, last_of, fillings}
use Rattle.model.proofs.ToldPort.{standing_with, told_standing}
use Rattle.model.proofs.Tables.{effect_of, hear_effect_lem}
use Rattle.model.proofs.PortDoubt.{port_number, sink_number, sink_open, waiting_port, over, settle, port_affected}
use Rattle.model.proofs.Standings.{standing_at_lem}
use Rattle.model.proofs.Accepted.{nowhere}
use Rattle.model.proofs.Waits.{wait_now, Live, waits_now, waits_later}
use Rattle.model.proofs.Invariant.{ToldBy}

-- the number of a port, if there is one
abbrev pub port_in : Option Standing → Option ℕ
port_in None = None
port_in (Some v) = Some v.port

-- the number of the sink with the word, by the areas
abbrev pub sink_port : Areas → Option ℕ → Option ℕ
sink_port m None = None
sink_port m (Some w) = port_in (sink_for m w)

module _ (past : List Call) (m : Areas) (stands : (a : ℕ) → standing m a ≡ told_standing past a (opening_of past a)) where
  sink_told : (w : ℕ) → port_in (sink_for m w) ≡ sink_number w (opening_of past (address_of w))
  unfolding port_for
  sink_told w = go (has_ports (code_of w)) refl (opening_of past (address_of w)) (stands (address_of w))
    where
      shown : Opening → Standing
      shown o = standing_with o (last_of (fillings past (address_of w) o)) (length (fillings past (address_of w) o) % 65536)

      go : (b : Bool) → has_ports (code_of w) ≡ b → (o : Option Opening) → standing m (address_of w) ≡ told_standing past (address_of w) o
          → port_in (if_sink (cond b (open_for w (standing m (address_of w))) None)) ≡ sink_number w o
      go true p None e = rw e
      go true p (Some o) e = rw e (by (eqb o.word w) o.sink refl)
        where
          by : (c k : Bool) → o.sink ≡ k → port_in (if_sink (cond c (Some (shown o)) None)) ≡ cond (c && k) (Some o.port) None
          by true true i = rw i
          by true false i = rw i
          by false k i = refl
      go false p None e = refl
      go false p (Some o) e = by (eqb o.word w) refl
        where
          by : (c : Bool) → eqb o.word w ≡ c → None ≡ cond (c && o.sink) (Some o.port) None
          by true i =
              absurd (true≢false
              (sym (le-leb (code_of w) 4 (rw (eqb-true o.word w i) at (standing_at_lem m (address_of w) (shown o) e).code)) ∙ p))
          by false i = refl

  -- the open sink with a master word has the same number by the areas and by the past
  sink_open_told : (o : Option ℕ) → sink_port m o ≡ sink_open past o
  sink_open_told None = refl
  sink_open_told (Some w) = sink_told w

  -- the port that stands open at an address
  pub entry_told : (a : ℕ) → standing m a ≡ Some (standing_of m (entry m a)) → port_number (opening_of past a) ≡ Some (entry m a)
  unfolding standing_of
  entry_told a e = go (opening_of past a) (sym (stands a) ∙ e)
    where
      go : (o : Option Opening) → told_standing past a o ≡ Some (standing_of m (entry m a)) → port_number o ≡ Some (entry m a)
      go None i = absurd (nowhere i)
      go (Some o) i =
          let j : standing_with o (last_of (fillings past a o)) (length (fillings past a o) % 65536) ≡ standing_of m (entry m a) = cc in
          ap Some (ap (λ (v : Standing). v.port) j)

-- ---- which port an effect concerns

-- a missing reply concerns the sink that waited for it, if there is one
pub missed_port : (o : Option Standing) → port_affected (missed o) ≡ port_in o
missed_port None = refl
missed_port (Some v) = refl

taken_port : (o : Option Standing) (j : Judgement) (h : Hearing) → port_affected (taken o j h) ≡ port_in o
taken_port None j h = refl
taken_port (Some v) Sound h = refl
taken_port (Some v) (Bad wrong) h = refl

-- a slave frame that is judged concerns the sink whose word is waited for, and no other frame concerns a port
pub heard_port : (m : Areas) (h : Hearing) (k : Kind) (x : Exchange) (t : Times) → Live x t
    → port_affected (effect_of m (as_heard k x h) h) ≡ cond (is_slave k) (sink_port m (wait_now x t 0)) None
heard_port m h Silence x t l = refl
heard_port m h Noise x t l = refl
heard_port m h MasterFrame x t l = go (judged_master h)
  where
    go : (j : Judgement) → port_affected (effect_of m (as_master j h) h) ≡ None
    go Sound = refl
    go (Bad wrong) = refl
heard_port m h SlaveFrame Idle t l = refl
heard_port m h SlaveFrame Done t l = refl
heard_port m h SlaveFrame (Waiting w) t l = rw (waits_now w t l) (taken_port (sink_for m w) (judged_slave (code_of w) h) h)

module _ (past : List Call) (h : ToldBy past (after past)) where
  -- the sink whose word the controller waits for is the port that waits by the past
  pub waiting_told : sink_port (after past).areas (wait_now (after past).controller.exchange (after past).controller.times 0) ≡ waiting_port past
  unfolding waiting_port
  waiting_told =
      let c = (after past).controller in
      sink_open_told past (after past).areas h.holds.stands (wait_now c.exchange c.times 0)
      ∙ ap (sink_open past) (h.holds.waits 0)

  -- a slave frame concerns the port that waits, and no other frame concerns a port
  pub hear_concerns : (a b : Hearing)
      → cond (is_slave (on_trusted past a b).kind) (waiting_port past) None ≡ port_affected (effect (hear a b) (after past))
  unfolding effect heard_by heard
  hear_concerns a b =
      let c = (after past).controller in
      let k = on_trusted past a b in
      sym (ap port_affected (hear_effect_lem (after past) a b) ∙ heard_port (after past).areas k k.kind c.exchange c.times h.holds.live
      ∙ ap (λ (o : Option ℕ). cond (is_slave k.kind) o None) waiting_told)

-- ---- quiet time: the port in doubt, bit time for bit time and at once

-- before any bit time has passed no wait is over
pub over_now : (m : Areas) (o : Option ℕ) → over o (sink_port m o) ≡ None
over_now m None = refl
over_now m (Some w) = refl

-- one bit time and then n more leave the same port in doubt as n + 1 at once
pub over_later : (m : Areas) (o : Option ℕ) (n : ℕ) (x : Exchange) (t : Times) → Live x t → t.adopted ≤ 128
    → settle
    (over (wait_now (exchange_later x (expired x t)) (times_later t) n)
    (sink_port (apply (effect_later m (expired x t)) m) (wait_now (exchange_later x (expired x t)) (times_later t) 0)))
    (settle (port_affected (effect_later m (expired x t))) o)
    ≡ settle (over (wait_now x t (suc n)) (sink_port m (wait_now x t 0))) o
unfolding apply
over_later m o n Idle t l a = refl
over_later m o n Done t l a = refl
over_later m o n (Waiting w) t l a =
    let e : wait_now (Waiting w) t (suc n) ≡ wait_now (exchange_later (Waiting w) (expired (Waiting w) t)) (times_later t) n =
    ap (wait_now (Waiting w) t) (omega arith) ∙ sym (waits_later (Waiting w) t l a n) in
    rw (waits_now w t l, e) (go (leb t.adopted (since_later t)) refl)
  where
    go : (b : Bool) → leb t.adopted (since_later t) ≡ b
        → settle
        (over (wait_now (exchange_later (Waiting w) (cond b (Some w) None)) (times_later t) n)
        (sink_port (apply (effect_later m (cond b (Some w) None)) m) (wait_now (exchange_later (Waiting w) (cond b (Some w) None)) (times_later t) 0)))
        (settle (port_affected (effect_later m (cond b (Some w) None))) o)
        ≡ settle (over (wait_now (exchange_later (Waiting w) (cond b (Some w) None)) (times_later t) n) (port_in (sink_for m w))) o
    go true e = rw (missed_port (sink_for m w))
    go false e =
        let now : wait_now (Waiting w) (times_later t) 0 ≡ Some w = waits_now w (times_later t) (leb-false _ _ e) in
        rw now
