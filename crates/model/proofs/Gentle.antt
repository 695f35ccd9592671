-- Effects and changes of status bits and ages alone: which effects are of this kind, what they leave, and how such changes follow one
-- another. Assumes nothing.
use Prim.Native.Nat.{ℕ}
use mathlib.Core.Path.{◌≡◌, refl, sym, ◌∙◌, ap}
use mathlib.Core.Logic.{◌⊎◌, inl, inr}
use mathlib.Core.Bool.{true, not, false≢true}
use Rattle.std.specs.Prelude.{Option, None, Some}
use native.Mathlib.Omega.{arith}
use native.Mathlib.Decide.{ℕ_discrete}
use Rattle.frames.specs.declared.Kind.{Kind}
use Rattle.frames.specs.declared.Kind.TheVariants.{Silence, Noise, Master as MasterFrame, Slave as SlaveFrame}
use Rattle.frames.specs.declared.Hearing.{Hearing}
use Rattle.frames.specs.declared.Judgement.{Judgement}
use Rattle.frames.specs.declared.Judgement.TheVariants.{Sound, Unsound as Bad}
use Rattle.frames.specs.Judge.{judged_master, judged_slave, is_sound}
use Rattle.model.specs.declared.Exchange.{Exchange}
use Rattle.model.specs.declared.Exchange.TheVariants.{Idle, Waiting, Done}
use Rattle.model.specs.declared.Times.{Times}
use Rattle.model.specs.declared.Words.{Words}
use Rattle.model.specs.declared.Faults.{Faults}
use Rattle.model.specs.Layout.{Areas, areas_fit, port_at, words_at, with_words, flags_of}
use Rattle.model.specs.Ports.{code_of, Standing, standing, Effect, untouched, fill, mark, opened, closed, faulty, marked_words, apply}
use Rattle.model.specs.Event.{as_heard, as_master, sink_for, taken}
use Rattle.model.specs.Quiet.{missed, effect_later}
use Rattle.model.specs.Taken.{Gentle, still, marks, OnlyStatus, ageless, ButAges, StatusAndAges}
use Rattle.model.specs.Damage.{harmless}
use Rattle.model.proofs.Shape.{Shape, Valid, marking, standing_after}
use Rattle.model.proofs.Tables.{effect_of}
use Rattle.model.proofs.PortWords.{words_same, words_other}
use Rattle.model.proofs.Bits.{flags_of_word}
use Rattle.model.proofs.ShapeKept.{at_here, shape_apply, standing_apply}
use Rattle.model.proofs.Formed.{lengths}
use Rattle.model.proofs.Waits.{wait_now, Live, waits_now}
use Rattle.model.proofs.Same.{Alike}

-- ---- effects that change status bits alone

-- a reply time that is reached changes status bits alone
pub gentle_late : (m : Areas) (o : Option ℕ) → Gentle (effect_later m o)
gentle_late m None = still
gentle_late m (Some w) = go (sink_for m w)
  where
    go : (o : Option Standing) → Gentle (missed o)
    go None = still
    go (Some v) = marks

-- a harmless hearing changes status bits alone
pub gentle_heard : (m : Areas) (t : Times) (h : Hearing) (k : Kind) (x : Exchange) → Live x t → harmless k (wait_now x t 0) h ≡ true
    → Gentle (effect_of m (as_heard k x h) h)
gentle_heard m t h Silence x l e = still
gentle_heard m t h Noise x l e = still
gentle_heard m t h MasterFrame x l e = go (judged_master h)
  where
    go : (j : Judgement) → Gentle (effect_of m (as_master j h) h)
    go Sound = still
    go (Bad wrong) = still
gentle_heard m t h SlaveFrame Idle l e = still
gentle_heard m t h SlaveFrame Done l e = still
gentle_heard m t h SlaveFrame (Waiting w) l e =
    go (sink_for m w) (judged_slave (code_of w) h) (ap (λ (o : Option ℕ). harmless SlaveFrame o h) (sym (waits_now w t l)) ∙ e)
  where
    go : (o : Option Standing) (j : Judgement) → not (is_sound j) ≡ true → Gentle (taken o j h)
    go None j e = still
    go (Some v) Sound e = absurd (false≢true e)
    go (Some v) (Bad wrong) e = marks

-- ---- areas that differ in status bits and ages alone

-- what differs in status bits alone differs in no more than these and ages
pub forget_ages : {m n : Areas} → OnlyStatus m n → StatusAndAges m n
unfolding marked_words
forget_ages {m} {n} k =
    record { index = k.index; page0 = k.page0; page1 = k.page1; ports = λ p. by p (k.ports p) }
  where
    by : (p : ℕ) → (port_at n p ≡ port_at m p) ⊎ ((x : Faults) × (port_at n p ≡ marked_words (port_at m p) x))
        → (ageless (port_at n p) ≡ ageless (port_at m p)) ⊎ ((x : Faults) × (ageless (port_at n p) ≡ marked_words (ageless (port_at m p)) x))
    by p (inl e) = inl (ap ageless e)
    by p (inr e) = inr (e.0, ap ageless e.1)

-- and so does what differs in ages alone
pub ages_only : {m n : Areas} → ButAges m n → StatusAndAges m n
ages_only b = record { index = b.index; page0 = b.page0; page1 = b.page1; ports = λ p. inl (b.ports p) }

-- areas left as they were are the same but for these
pub only_same : (m : Areas) → StatusAndAges m m
only_same m = record { index = refl; page0 = refl; page1 = refl; ports = λ p. inl refl }

-- the last mark counts
marked_twice : (w : Words) (x y : Faults) → marked_words (marked_words w x) y ≡ marked_words w y
unfolding marked_words
marked_twice w x y = rw (flags_of_word (faulty (flags_of w.flags) x))

-- two changes of status bits and ages alone, one after the other, are one
pub only_trans : (l m n : Areas) → StatusAndAges l m → StatusAndAges m n → StatusAndAges l n
only_trans l m n f g =
    record {
      index = g.index ∙ f.index;
      page0 = g.page0 ∙ f.page0;
      page1 = g.page1 ∙ f.page1;
      ports = λ p. join (f.ports p) (g.ports p);
    }
  where
    join : {a b c : Words} → (b ≡ a) ⊎ ((x : Faults) × (b ≡ marked_words a x)) → (c ≡ b) ⊎ ((x : Faults) × (c ≡ marked_words b x))
        → (c ≡ a) ⊎ ((x : Faults) × (c ≡ marked_words a x))
    join (inl p) (inl q) = inl (q ∙ p)
    join (inl p) (inr q) = inr (q.0, q.1 ∙ ap (λ (w : Words). marked_words w q.0) p)
    join (inr p) (inl q) = inr (p.0, q ∙ p.1)
    join {a = a} (inr p) (inr q) = inr (q.0, q.1 ∙ ap (λ (w : Words). marked_words w q.0) p.1 ∙ marked_twice a p.0 q.0)

-- a valid effect of this kind leaves areas that are the same but for status bits
pub gentle_only : (e : Effect) (m : Areas) → areas_fit m ≡ true → Valid m e → Gentle e → OnlyStatus m (apply e m)
unfolding apply
gentle_only untouched m s v still = record { index = refl; page0 = refl; page1 = refl; ports = λ p. inl refl }
gentle_only (mark p x) m s (marking at) marks = record { index = refl; page0 = refl; page1 = refl; ports = λ q. by q (ℕ_discrete q p) }
  where
    by : (q : ℕ) → Dec (q ≡ p)
        → (words_at (with_words m.ports p (marked_words (port_at m p) x)) q ≡ port_at m q)
        ⊎ ((y : Faults) × (words_at (with_words m.ports p (marked_words (port_at m p) x)) q ≡ marked_words (port_at m q) y))
    by q (yes e) =
        inr (x, rw e (words_same m.ports p (marked_words (port_at m p) x) (omega (arith, (at_here at).small, (lengths m s).ports))))
    by q (no n) = inl (words_other m.ports p q (marked_words (port_at m p) x) n)
gentle_only (fill p ws) m s v never = elim never [ ]
gentle_only (opened a p code sink interrupt limit) m s v never = elim never [ ]
gentle_only (closed a p) m s v never = elim never [ ]

-- and every address shows the same
pub gentle_alike : (e : Effect) (m : Areas) → Shape m → Valid m e → Gentle e → Alike (apply e m) m
gentle_alike e m s v g =
    record { shape = shape_apply e m s v; shape' = s; stands = λ a. standing_apply e m a s v ∙ unseen_effect e g a (standing m a) }
  where
    unseen_effect : (e : Effect) → Gentle e → (a : ℕ) (o : Option Standing) → standing_after e a o ≡ o
    unseen_effect untouched still a o = refl
    unseen_effect (mark p x) marks a o = refl
    unseen_effect (fill p ws) never a o = elim never [ ]
    unseen_effect (opened b p code sink interrupt limit) never a o = elim never [ ]
    unseen_effect (closed b p) never a o = elim never [ ]
