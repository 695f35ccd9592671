-- A stretch of damage concerns one port: that whose word was waited for at its start. What is waited for stays or ends. Assumes nothing.
use Prim.Native.Nat.{ℕ, zero, suc}
use mathlib.Core.Path.{◌≡◌, refl, sym, ◌∙◌, ap}
use mathlib.Core.Logic.{◌⊎◌, inl, inr}
use mathlib.Core.Bool.{Bool, true, false, cond, not, false≢true}
use mathlib.Core.List.{List, [], ◌∷◌, ◌++◌}
use Rattle.std.specs.Prelude.{Option, None, Some}
use native.Mathlib.Omega.{arith}
use lib.Dec.{leb}
use Rattle.frames.specs.declared.Kind.{Kind}
use Rattle.frames.specs.declared.Kind.TheVariants.{Silence, Noise, Master as MasterFrame, Slave as SlaveFrame}
use Rattle.frames.specs.declared.Hearing.{Hearing}
use Rattle.frames.specs.declared.Judgement.{Judgement}
use Rattle.frames.specs.declared.Judgement.TheVariants.{Sound, Unsound as Bad}
use Rattle.frames.specs.Judge.{judged_master, is_sound}
use Rattle.model.specs.declared.Exchange.{Exchange}
use Rattle.model.specs.declared.Exchange.TheVariants.{Idle, Waiting, Done}
use Rattle.model.specs.declared.Times.{Times}
use Rattle.model.specs.declared.Device.{Device}
use Rattle.model.specs.Layout.{Areas, port_at}
use Rattle.model.specs.Ports.{Effect, untouched, fill, mark, opened, closed, marked_words, apply}
use Rattle.model.specs.Event.{World, as_master, as_heard, heard, heard_by, sink_for, hear_effect}
use Rattle.model.specs.Quiet.{since_later, expired, exchange_later, due, effect_later, pulse_effect, pulse_controller, pulse, pulses, ticks}
use Rattle.model.specs.Calls.{Call, hear, effect, step}
use Rattle.model.specs.Past.{after, Typed, Accepted, on_trusted, is_slave, awaited}
use Rattle.model.specs.Taken.{Gentle, still, marks, ageless}
use Rattle.model.specs.Damage.{harmless, Damaged, Damage}
use Rattle.model.proofs.Shape.{Shape}
use Rattle.model.proofs.Tables.{exchange_after, hear_controller_lem, hear_effect_lem}
use Rattle.model.proofs.HostCalls.{Sort, event, pause, host, sort, host_undamaged}
use Rattle.model.proofs.ButPort.{ButPort}
use Rattle.model.proofs.PortDoubt.{waiting_port, port_affected}
use Rattle.model.proofs.PortWords.{words_other}
use Rattle.model.proofs.Waits.{wait_now, Live, waits_now}
use Rattle.model.proofs.Invariant.{one_of, ToldBy}
use Rattle.model.proofs.Told.{past_told}
use Rattle.model.proofs.Same.{Alike, same_port}
use Rattle.model.proofs.Gentle.{gentle_late, gentle_heard}
use Rattle.model.proofs.Damage.{Unharmed, kept_trans, kept_pulse, kept_grown, kept_hear, kept_stretch, earlier}
use Rattle.model.specs.Grown.{grown_by}
use Rattle.model.proofs.Grown.{ticks_grown, grown_ages}
use Rattle.model.proofs.Finishes.{port_in, sink_port, missed_port, heard_port, waiting_told}

-- the word that is waited for
abbrev wait_word : Exchange → Option ℕ
wait_word Idle = None
wait_word (Waiting w) = Some w
wait_word Done = None

wait_word_lem : (x : Exchange) (t : Times) → Live x t → wait_now x t 0 ≡ wait_word x
wait_word_lem Idle t l = refl
wait_word_lem (Waiting w) t l = waits_now w t l
wait_word_lem Done t l = refl

-- where there is no port there is no port p
nothing_there : {p : ℕ} → None ≡ Some p → ⊥
nothing_there e = let z : ◌≡◌ {A = ℕ} 0 1 = cc in omega arith

-- a change of status bits leaves every other port's words
gentle_same : (e : Effect) (m : Areas) (p : ℕ) → Gentle e → (port_affected e ≡ Some p → ⊥) → port_at (apply e m) p ≡ port_at m p
unfolding apply
gentle_same untouched m p still n = refl
gentle_same (mark q x) m p marks n = words_other m.ports q p (marked_words (port_at m q) x) (λ i. n (ap Some (sym i)))
gentle_same (fill q ws) m p never n = elim never [ ]
gentle_same (opened a q code sink interrupt limit) m p never n = elim never [ ]
gentle_same (closed a q) m p never n = elim never [ ]

-- the port whose word is waited for, by the world
abbrev waits_at : World → Option ℕ
waits_at s = sink_port s.areas (wait_word s.controller.exchange)

-- what a part of a stretch leaves: what is waited for stays or ends, and the words of any port but the waiting one are the same, age aside
record Waned (u s : World) : Type 0 where
  kept : Unharmed u s
  wait : (wait_word s.controller.exchange ≡ wait_word u.controller.exchange) ⊎ (wait_word s.controller.exchange ≡ None)
  same : (p : ℕ) → (waits_at u ≡ Some p → ⊥) → ageless (port_at s.areas p) ≡ ageless (port_at u.areas p)

same_sink : (m n : Areas) → Alike m n → (o : Option ℕ) → sink_port m o ≡ sink_port n o
same_sink m n k None = refl
same_sink m n k (Some w) = rw (same_port m n k w)

waned_trans : (u s r : World) → Waned u s → Waned s r → Waned u r
waned_trans u s r f g =
    record {
      kept = kept_trans u s r f.kept g.kept;
      wait = join f.wait g.wait;
      same = λ p n. g.same p (λ e. n (still_waits p e f.wait)) ∙ f.same p n;
    }
  where
    join : {a b c : Option ℕ} → (b ≡ a) ⊎ (b ≡ None) → (c ≡ b) ⊎ (c ≡ None) → (c ≡ a) ⊎ (c ≡ None)
    join (inl p) (inl q) = inl (q ∙ p)
    join (inr p) (inl q) = inr (q ∙ p)
    join p (inr q) = inr q

    still_waits : (p : ℕ) → waits_at s ≡ Some p
        → (wait_word s.controller.exchange ≡ wait_word u.controller.exchange) ⊎ (wait_word s.controller.exchange ≡ None)
        → waits_at u ≡ Some p
    still_waits p e (inl i) =
        sym (same_sink s.areas u.areas f.kept.areas (wait_word u.controller.exchange))
        ∙ ap (sink_port s.areas) (sym i) ∙ e
    still_waits p e (inr i) = absurd (nothing_there (ap (sink_port s.areas) (sym i) ∙ e))

-- ---- quiet time

late_wait : (x : Exchange) (t : Times)
    → (wait_word (exchange_later x (expired x t)) ≡ wait_word x) ⊎ (wait_word (exchange_later x (expired x t)) ≡ None)
late_wait Idle t = inl refl
late_wait Done t = inl refl
late_wait (Waiting w) t = go (leb t.adopted (since_later t))
  where
    go : (b : Bool) → (wait_word (exchange_later (Waiting w) (cond b (Some w) None)) ≡ Some w)
        ⊎ (wait_word (exchange_later (Waiting w) (cond b (Some w) None)) ≡ None)
    go true = inr refl
    go false = inl refl

late_port : (m : Areas) (x : Exchange) (t : Times) (p : ℕ) → port_affected (effect_later m (expired x t)) ≡ Some p → sink_port m (wait_word x) ≡ Some p
late_port m Idle t p e = e
late_port m Done t p e = e
late_port m (Waiting w) t p e = go (leb t.adopted (since_later t)) e
  where
    go : (b : Bool) → port_affected (effect_later m (cond b (Some w) None)) ≡ Some p → port_in (sink_for m w) ≡ Some p
    go true i = sym (missed_port (sink_for m w)) ∙ i
    go false i = absurd (nothing_there i)

waned_pulse : (s : World) → Shape s.areas → Waned s (pulse s)
unfolding pulse pulse_controller pulse_effect
waned_pulse s h =
    let x = s.controller.exchange in
    let t = s.controller.times in
    record {
      kept = kept_pulse s h;
      wait = late_wait x t;
      same = λ p n. ap ageless (gentle_same _ s.areas p (gentle_late s.areas (due s)) (λ e. n (late_port s.areas x t p e)));
    }

waned_none : (s : World) → Unharmed s s → Waned s s
waned_none s k = record { kept = k; wait = inl refl; same = λ p n. refl }

waned_pulses : (n : ℕ) (s : World) → Shape s.areas → Waned s (pulses n s)
unfolding pulses
waned_pulses zero s h =
    waned_none s
    (record {
      areas = record { shape = h; shape' = h; stands = λ a. refl };
      only = record { index = refl; page0 = refl; page1 = refl; ports = λ p. inl refl };
      chosen = refl;
      device = refl;
    })
waned_pulses (suc n) s h =
    let k = waned_pulse s h in
    waned_trans s (pulse s) (pulses n (pulse s)) k (waned_pulses n (pulse s) k.kept.areas.shape)

waned_grown : (n : ℕ) (s : World) → Shape s.areas → Waned s (grown_by n s)
unfolding grown_by
waned_grown n s h = record { kept = kept_grown n s h; wait = inl refl; same = λ p x. (grown_ages n s h.fits).ports p }

waned_ticks : (n : ℕ) (s : World) → Shape s.areas → Waned s (ticks n s)
waned_ticks n s h =
    let k = waned_pulses n s h in
    rw (ticks_grown n s h.fits)
    (waned_trans s (pulses n s) (grown_by n (pulses n s)) k (waned_grown n (pulses n s) k.kept.areas.shape))

-- ---- a harmless event

harmless_wait : (d : Device) (m : Areas) (h : Hearing) (k : Kind) (x : Exchange) (o : Option ℕ) → harmless k o h ≡ true
    → (wait_word (exchange_after d m x (as_heard k x h)) ≡ wait_word x) ⊎ (wait_word (exchange_after d m x (as_heard k x h)) ≡ None)
harmless_wait d m h Silence x o e = inl refl
harmless_wait d m h Noise x o e = inl refl
harmless_wait d m h MasterFrame x o e = go (judged_master h) e
  where
    go : (j : Judgement) → not (is_sound j) ≡ true
        → (wait_word (exchange_after d m x (as_master j h)) ≡ wait_word x) ⊎ (wait_word (exchange_after d m x (as_master j h)) ≡ None)
    go Sound i = absurd (false≢true i)
    go (Bad wrong) i = inr refl
harmless_wait d m h SlaveFrame Idle o e = inl refl
harmless_wait d m h SlaveFrame (Waiting w) o e = inr refl
harmless_wait d m h SlaveFrame Done o e = inl refl

if_slave : (k : Kind) (o : Option ℕ) (p : ℕ) → cond (is_slave k) o None ≡ Some p → o ≡ Some p
if_slave Silence o p e = absurd (nothing_there e)
if_slave Noise o p e = absurd (nothing_there e)
if_slave MasterFrame o p e = absurd (nothing_there e)
if_slave SlaveFrame o p e = e

waned_hear : (past : List Call) (a b : Hearing) → Typed (hear a b) → ToldBy past (after past) → Damaged past (hear a b)
    → Waned (after past) (step (hear a b) (after past))
unfolding step effect heard_by heard
waned_hear past a b ty h d =
    let s = after past in
    let c = s.controller in
    let k = on_trusted past a b in
    let f : harmless k.kind (awaited past 0) k ≡ true =
    one_of c.lines.laa (λ (y : Hearing). harmless y.kind (awaited past 0) y ≡ true) d.0 d.1 in
    let g : Gentle (hear_effect s a b) =
    rw (hear_effect_lem s a b) (gentle_heard s.areas c.times k k.kind c.exchange h.holds.live (rw (h.holds.waits 0) f)) in
    record {
      kept = kept_hear past a b ty h d;
      wait = rw (hear_controller_lem s a b) (harmless_wait c.device s.areas k k.kind c.exchange (awaited past 0) f);
      same = λ p n. ap ageless
          (gentle_same _ s.areas p g
          (λ e. n (ap (sink_port s.areas) (sym (wait_word_lem c.exchange c.times h.holds.live))
          ∙ if_slave k.kind _ p (sym (ap port_affected (hear_effect_lem s a b) ∙ heard_port s.areas k k.kind c.exchange c.times h.holds.live) ∙ e))));
    }

waned_call : (past : List Call) (c : Call) → Sort c → Typed c → ToldBy past (after past) → Damaged past c
    → Waned (after past) (step c (after past))
unfolding step
waned_call past c (event {a} {b}) ty h d = waned_hear past a b ty h d
waned_call past c (pause {n}) ty h d = waned_ticks n (after past) h.holds.shape
waned_call past c (host x) ty h d = absurd (host_undamaged past c x d)

waned_stretch : (before stretch : List Call) → Accepted (stretch ++ before) → Damage before stretch
    → Waned (after before) (after (stretch ++ before))
unfolding after
waned_stretch before [] acc d = waned_none (after before) (kept_stretch before [] acc d)
waned_stretch before (c ∷ more) acc d =
    waned_trans _ _ _ (waned_stretch before more acc.2 d.1)
    (waned_call (more ++ before) c (sort c) acc.0 (past_told (more ++ before) acc.2) d.0)

-- A stretch of damage changes nothing in the areas but ages, and status bits of the port whose word was waited for at its start.
pub stretch_but : (before stretch : List Call) → Accepted (stretch ++ before) → Damage before stretch
    → ButPort (waiting_port before) (after before).areas (after (stretch ++ before)).areas
stretch_but before stretch acc d =
    let k = waned_stretch before stretch acc d in
    let h = past_told before (earlier stretch before acc) in
    let i : waits_at (after before) ≡ waiting_port before =
    ap (sink_port (after before).areas)
    (sym (wait_word_lem (after before).controller.exchange (after before).controller.times h.holds.live))
    ∙ waiting_told before h in
    record { only = k.kept.only; same = λ p n. k.same p (λ e. n (sym i ∙ e)) }
