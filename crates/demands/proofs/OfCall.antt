-- DEMANDS 1 AND 2, OF ONE CALL OF THE CODE, whatever the controller and the areas hold. Assumes nothing.
use Prim.Native.Nat.{ℕ}
use mathlib.Core.Path.{◌≡◌, refl, sym, ◌∙◌, ap, subst}
use mathlib.Core.Logic.{◌↔◌}
use mathlib.Core.Bool.{true, false}
use mathlib.Core.List.{List}
use Rattle.std.specs.Prelude.{Option, None, Some}
use borrow.Author.Tests.{ne_eqb}
use Rattle.frames.specs.declared.Hearing.{Hearing}
use Rattle.frames.specs.declared.Judgement.TheVariants.{Sound}
use Rattle.frames.specs.Hearing.{words_of}
use Rattle.frames.specs.Judge.{judged_slave}
use Rattle.model.specs.Ports.{code_of, Standing, standing, filled}
use Rattle.model.specs.Lines.{trusted}
use Rattle.model.specs.Event.{World, silent, spoken}
use Rattle.model.specs.Calls.{Call, hear, quiet, refusal, tests, Silent, First, step, answer, Outcome, outcome}
use Rattle.model.specs.Past.{Typed, first_word}
use Rattle.model.specs.Taken.{answers_now, OnlyStatus, StatusAndAges}
use Rattle.model.specs.Damage.{SoundMaster}
use Rattle.model.proofs.Refused.{refused as refused-with, accepted_exactly as accepts-exactly}
use Rattle.model.proofs.Anywhere as anywhere
use Rattle.demands.specs.Made.{Made}
use Rattle.demands.proofs.OneAnswer.{made_outcome}

module _ {s t : World} {c : Call} {n : ℕ} {r : Hearing} (made : Made s c n r t) where
  -- Demand 1: a call answers the number of the first of document 01's tests that holds, and 0 when none holds.
  pub number_exactly : n ≡ refusal c s
  unfolding outcome
  number_exactly = sym (ap (λ (x : Outcome). x.refusal) (made_outcome made))

  -- Where the first test that holds has a number, the call answers that number.
  pub refused_exactly : (k : ℕ) → First (tests c s) k → n ≡ k
  refused_exactly k f = number_exactly ∙ refused-with c s k f

  -- It is accepted exactly when none of the tests holds.
  pub accepted_exactly : (n ≡ 0) ↔ Silent (tests c s)
  accepted_exactly = subst (λ (k : ℕ). (k ≡ 0) ↔ Silent (tests c s)) (sym number_exactly) (accepts-exactly c s)

  left : (outcome c s).world ≡ t
  left = ap (λ (x : Outcome). x.world) (made_outcome made)

  replied : (outcome c s).reply ≡ r
  replied = ap (λ (x : Outcome). x.reply) (made_outcome made)

  -- A refused call changes nothing, and replies nothing.
  pub refused_unchanged : (n ≡ 0 → ⊥) → (t ≡ s) × (r ≡ silent)
  unfolding outcome
  refused_unchanged z =
      let k = ne_eqb (refusal c s) 0 (λ e. z (number_exactly ∙ e)) in
      (sym (rw k at left), sym (rw k at replied))

  -- an accepted call is a step of the run, with its reply
  pub accepted_step : n ≡ 0 → (step c s ≡ t) × (spoken (answer c s) ≡ r)
  unfolding outcome
  accepted_step z =
      let k : refusal c s ≡ 0 = sym number_exactly ∙ z in
      (rw k at left, rw k at replied)

-- ---- demand 2 in any memory: an accepted event

module _ {s t : World} {a b r : Hearing} (made : Made s (hear a b) 0 r t) where
  -- what the trusted line heard
  abbrev heard_on : Hearing
  heard_on = trusted s.controller.lines a b

  accepts : refusal (hear a b) s ≡ 0
  accepts = sym (number_exactly made)

  -- The reply is a sound slave frame for the code of the master frame.
  pub reply_sound : SoundMaster heard_on → (r ≡ silent → ⊥) → judged_slave (code_of (first_word heard_on)) r ≡ Sound
  reply_sound m speaks = go (answer (hear a b) s) refl (accepted_step made refl).1
    where
      go : (o : Option (List ℕ)) → answer (hear a b) s ≡ o → spoken o ≡ r → judged_slave (code_of (first_word heard_on)) r ≡ Sound
      go None e z = absurd (speaks (sym z))
      go (Some ws) e z = rw (← z) (anywhere.reply_sound_anywhere s a b accepts m ws e)

  -- It is given to a sound master frame alone.
  pub no_other_reply : (SoundMaster heard_on → ⊥) → r ≡ silent
  no_other_reply n = sym (accepted_step made refl).1 ∙ ap spoken (anywhere.no_other_reply_anywhere s a b n)

  -- A sound slave frame on the trusted line that answers the waiting word of an open sink fills its port with the words of the frame.
  pub fills : (e : ℕ) (v : Standing) → standing s.areas e ≡ Some v → v.sink ≡ true → answers_now s.controller a b v.word ≡ true
      → t.areas ≡ filled s.areas v.port (words_of heard_on)
  fills e v there sink sound =
      rw (← (accepted_step made refl).0) (anywhere.fills_anywhere s a b accepts e v there sink sound)

  -- Otherwise no area changes but for status bits.
  pub others : Typed (hear a b)
      → ((e : ℕ) (v : Standing) → standing s.areas e ≡ Some v → v.sink ≡ true → answers_now s.controller a b v.word ≡ false)
      → OnlyStatus s.areas t.areas
  others typed away = rw (← (accepted_step made refl).0) (anywhere.others_anywhere s a b accepts typed away)

-- Accepted quiet time changes no area but for status bits and ages.
pub quiet_marks : {s t : World} {n : ℕ} {r : Hearing} → Made s (quiet n) 0 r t → StatusAndAges s.areas t.areas
quiet_marks {s} {n = n} made = rw (← (accepted_step made refl).0) (anywhere.quiet_anywhere s n (sym (number_exactly made)))
