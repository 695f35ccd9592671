-- The exchange as the past has it: what the controller waits for is what the past says is waited for, through bus events and through
-- quiet time. Assumes nothing.
use Prim.Native.Nat.{ℕ, ◌+◌, ◌≤◌, ◌<◌}
use mathlib.Core.Path.{◌≡◌, refl}
use mathlib.Core.Bool.{Bool, true, false, cond, ◌&&◌}
use mathlib.Core.List.{List}
use Rattle.std.specs.Prelude.{Option, None, Some}
use native.Mathlib.Nat.{zero-add, add_assoc}
use native.Mathlib.Omega.{arith}
use lib.Dec.{leb, ltb}
use borrow.Author.Tests.{lt-ltb, le-ltb, leb-true, leb-false}
use Rattle.frames.specs.declared.Kind.{Kind}
use Rattle.frames.specs.declared.Kind.TheVariants.{Silence, Noise, Master as MasterFrame, Slave as SlaveFrame}
use Rattle.frames.specs.declared.Hearing.{Hearing}
use Rattle.frames.specs.declared.Judgement.{Judgement}
use Rattle.frames.specs.declared.Judgement.TheVariants.{Sound, Unsound as Bad}
use Rattle.frames.specs.Size.{expected_of}
use Rattle.frames.specs.Judge.{judged_master}
use Rattle.model.specs.declared.Exchange.{Exchange}
use Rattle.model.specs.declared.Exchange.TheVariants.{Idle, Waiting, Done}
use Rattle.model.specs.declared.Times.{Times}
use Rattle.model.specs.declared.Device.{Device}
use Rattle.model.specs.Layout.{Areas}
use Rattle.model.specs.Ports.{code_of}
use Rattle.model.specs.Event.{as_master, as_slave, as_heard, answer_to, exchange_for, awaits}
use Rattle.model.specs.Quiet.{since_later, expired, exchange_later, times_later}
use Rattle.model.specs.Past.{first_word, asks_others, wait_after}
use Rattle.model.proofs.Tables.{exchange_after, times_after}

-- what is waited for after q quiet bit times more, by the controller's state
abbrev pub wait_now : Exchange → Times → ℕ → Option ℕ
wait_now Idle t q = None
wait_now (Waiting w) t q = cond (ltb (t.since + q) t.adopted) (Some w) None
wait_now Done t q = None

-- while a word is waited for, the reply time has not passed
abbrev pub Live : Exchange → Times → Type 0
Live Idle t = Unit
Live (Waiting w) t = t.since < t.adopted
Live Done t = Unit

-- so at once the word itself is waited for
pub waits_now : (w : ℕ) (t : Times) → Live (Waiting w) t → wait_now (Waiting w) t 0 ≡ Some w
waits_now w t l = rw (lt-ltb (t.since + 0) t.adopted (omega arith))

-- ---- a bus event

module _ (d : Device) (m : Areas) (t : Times) (h : Hearing) where
  -- the wait that a sound master frame begins, if it asks somebody else
  begun : ℕ → ℕ → Option ℕ
  begun w q = cond (asks_others (expected_of (code_of w)) (answer_to d m w) && ltb q t.chosen) (Some w) None

  by_answer : (w : ℕ) (x : Option ℕ) (r : Option (List ℕ)) (q : ℕ)
      → wait_now (awaits x w r) (record { since = 0; line = 0; chosen = t.chosen; adopted = t.chosen }) q
      ≡ cond (asks_others x r && ltb q t.chosen) (Some w) None
  by_answer w None r q = refl
  by_answer w (Some n) None q = rw zero-add
  by_answer w (Some n) (Some ws) q = refl

  by_judgement : (j : Judgement) (x : Exchange) (before : Option ℕ) (q : ℕ)
      → wait_now (exchange_after d m x (as_master j h)) (times_after t (as_master j h)) q
      ≡ wait_after MasterFrame j before (begun (first_word h) q)
  unfolding begun exchange_for
  by_judgement Sound x before q = by_answer (first_word h) (expected_of (code_of (first_word h))) (answer_to d m (first_word h)) q
  by_judgement (Bad wrong) x before q = refl

  by_exchange : (x : Exchange) (q : ℕ) → wait_now (exchange_after d m x (as_slave x h)) (times_after t (as_slave x h)) q ≡ None
  by_exchange Idle q = refl
  by_exchange (Waiting w) q = refl
  by_exchange Done q = refl

  -- a frame ends the wait, and a sound master frame that asks somebody else begins one
  pub waits_heard : (k : Kind) (x : Exchange) (q : ℕ)
      → wait_now (exchange_after d m x (as_heard k x h)) (times_after t (as_heard k x h)) q
      ≡ wait_after k (judged_master h) (wait_now x t q)
      (cond (asks_others (expected_of (code_of (first_word h))) (answer_to d m (first_word h)) && ltb q t.chosen) (Some (first_word h)) None)
  unfolding begun
  waits_heard Silence x q = refl
  waits_heard Noise x q = refl
  waits_heard MasterFrame x q = by_judgement (judged_master h) x (wait_now x t q) q
  waits_heard SlaveFrame x q = by_exchange x q

  live_answer : (w : ℕ) (x : Option ℕ) (r : Option (List ℕ)) → 0 < t.chosen
      → Live (awaits x w r) (record { since = 0; line = 0; chosen = t.chosen; adopted = t.chosen })
  live_answer w None r p = tt
  live_answer w (Some n) None p = p
  live_answer w (Some n) (Some ws) p = tt

  live_master : (j : Judgement) (x : Exchange) → 0 < t.chosen → Live (exchange_after d m x (as_master j h)) (times_after t (as_master j h))
  unfolding exchange_for
  live_master Sound x p = live_answer (first_word h) (expected_of (code_of (first_word h))) (answer_to d m (first_word h)) p
  live_master (Bad wrong) x p = tt

  live_slave : (x : Exchange) → Live x t → Live (exchange_after d m x (as_slave x h)) (times_after t (as_slave x h))
  live_slave Idle l = tt
  live_slave (Waiting w) l = tt
  live_slave Done l = tt

  -- after an event too the reply time of what is waited for has not passed, if some reply time is chosen
  pub live_heard : (k : Kind) (x : Exchange) → 0 < t.chosen → Live x t
      → Live (exchange_after d m x (as_heard k x h)) (times_after t (as_heard k x h))
  live_heard Silence x p l = l
  live_heard Noise x p l = l
  live_heard MasterFrame x p l = live_master (judged_master h) x p
  live_heard SlaveFrame x p l = live_slave x l

-- ---- a quiet bit time

-- a wait that lasts, or ends, with one bit time more
pub waits_later : (x : Exchange) (t : Times) → Live x t → t.adopted ≤ 128 → (q : ℕ)
    → wait_now (exchange_later x (expired x t)) (times_later t) q ≡ wait_now x t (1 + q)
waits_later Idle t l a q = refl
waits_later Done t l a q = refl
waits_later (Waiting w) t l a q = go (leb t.adopted (since_later t)) refl
  where
    counts : since_later t ≡ t.since + 1
    counts = rw (lt-ltb t.since 1950 (omega arith))

    go : (b : Bool) → leb t.adopted (since_later t) ≡ b
        → wait_now (exchange_later (Waiting w) (cond b (Some w) None)) (times_later t) q ≡ cond (ltb (t.since + (1 + q)) t.adopted)
        (Some w) None
    go true e = let h : t.adopted ≤ since_later t = leb-true _ _ e in rw (le-ltb (t.since + (1 + q)) t.adopted (omega (arith, counts)))
    go false e = rw counts (rw add_assoc)

-- after a quiet bit time too the reply time of what is waited for has not passed
pub live_later : (x : Exchange) (t : Times) → Live x t → Live (exchange_later x (expired x t)) (times_later t)
live_later Idle t l = tt
live_later Done t l = tt
live_later (Waiting w) t l = go (leb t.adopted (since_later t)) refl
  where
    go : (b : Bool) → leb t.adopted (since_later t) ≡ b → Live (exchange_later (Waiting w) (cond b (Some w) None)) (times_later t)
    go true e = tt
    go false e = leb-false _ _ e
