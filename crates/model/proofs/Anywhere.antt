-- Demand 2 in any memory: of every event, whatever controller and areas hold, what is replied and what becomes of the areas. Assumes nothing.
use Prim.Native.Nat.{ℕ, zero, suc}
use mathlib.Core.Path.{◌≡◌, refl, sym, ◌∙◌, ap}
use mathlib.Core.Bool.{true, false, ◌&&◌, true≢false, false≢true, and-eq-true_iff}
use mathlib.Core.List.{List}
use Rattle.std.specs.Prelude.{None, Some}
use lib.ListN.{length}
use borrow.Author.Tests.{not-false, eqb-true}
use Rattle.frames.specs.declared.Kind.{Kind}
use Rattle.frames.specs.declared.Kind.TheVariants.{Silence, Noise, Master as MasterFrame, Slave as SlaveFrame}
use Rattle.frames.specs.declared.Hearing.{Hearing}
use Rattle.frames.specs.declared.Judgement.{Judgement}
use Rattle.frames.specs.declared.Judgement.TheVariants.{Sound, Unsound as Bad}
use Rattle.frames.specs.Hearing.{words_of}
use Rattle.frames.specs.Judge.{judged_master, judged_slave, is_sound}
use Rattle.model.specs.declared.Exchange.{Exchange}
use Rattle.model.specs.declared.Exchange.TheVariants.{Idle, Waiting, Done}
use Rattle.model.specs.Layout.{areas_fit}
use Rattle.model.specs.Ports.{code_of, address_of, Standing, standing, Effect, filled, apply}
use Rattle.model.specs.declared.Device.{Device}
use Rattle.model.specs.Lines.{trusted, observed, before_rule3}
use Rattle.model.specs.Event.{World, heard, heard_by, as_master, as_heard, waits_for, device_with, answer_to, sent}
use Rattle.model.specs.Quiet.{effect_later, due, pulse, pulse_effect, pulses}
use Rattle.model.specs.Calls.{hear, quiet, bad_area, refusal, effect, step, answer}
use Rattle.model.specs.Past.{Typed, is_slave, first_word}
use Rattle.model.specs.Taken.{answers_now, still, OnlyStatus, StatusAndAges, Took, takes, spares}
use Rattle.model.specs.Damage.{SoundMaster}
use Rattle.model.proofs.Shape.{Valid}
use Rattle.model.proofs.Tables.{answer_of, lines_found, effect_of, hear_answer_lem, hear_effect_lem}
use Rattle.model.proofs.Refused.{accepted}
use Rattle.model.proofs.Standings.{standing_at_lem}
use Rattle.model.proofs.Taken.{waiting_took, valid_heard}
use Rattle.model.proofs.Invariant.{one_of}
use Rattle.model.proofs.Holds.{later_valid}
use Rattle.model.proofs.Gentle.{gentle_late, forget_ages, ages_only, only_same, only_trans, gentle_only}
use Rattle.model.proofs.Damage.{heard_master, slave_unanswered}
use Rattle.model.proofs.Grown.{pulse_fits, pulses_fits, ticks_grown, grown_ages}
use Rattle.model.proofs.Replies.{answer_sound}

module _ (s : World) (a b : Hearing) where
  -- what the trusted line heard
  abbrev heard_on : Hearing
  heard_on = trusted s.controller.lines a b

  -- and the observed one
  abbrev other_line : Hearing
  other_line = observed s.controller.lines a b

  -- ---- the reply

  -- A reply is given to a sound master frame alone.
  pub no_other_reply_anywhere : (SoundMaster heard_on → ⊥) → answer (hear a b) s ≡ None
  unfolding answer heard_by heard
  no_other_reply_anywhere n = rw (hear_answer_lem s a b) (by _ heard_on.kind refl s.controller.exchange)
    where
      by : (d : Device) (k : Kind) → heard_on.kind ≡ k → (x : Exchange) → answer_of d s.areas (as_heard k x heard_on) ≡ None
      by d Silence e x = refl
      by d Noise e x = refl
      by d MasterFrame e x = judged (judged_master heard_on) refl
        where
          judged : (j : Judgement) → judged_master heard_on ≡ j → answer_of d s.areas (as_master j heard_on) ≡ None
          judged Sound ej = absurd (n (record { kind = e; sound = ej }))
          judged (Bad wrong) ej = refl
      by d SlaveFrame e x = slave_unanswered d s.areas heard_on x

  -- to a sound master frame it is what its word is answered with, by the lines as rule 3 finds them
  pub answered : SoundMaster heard_on
      → answer (hear a b) s
      ≡ answer_to (device_with (before_rule3 false s.controller.lines heard_on other_line) s.controller.device) s.areas (first_word heard_on)
  unfolding answer heard_by heard
  answered m =
      rw (hear_answer_lem s a b)
      (ap (λ h. answer_of (device_with (lines_found s.controller.lines h heard_on other_line) s.controller.device) s.areas h)
      (heard_master heard_on m s.controller.exchange))

  -- where the areas have their lengths, each reply is a sound slave frame for the code of the master frame
  pub reply_sound_in : areas_fit s.areas ≡ true → SoundMaster heard_on → (ws : List ℕ) → answer (hear a b) s ≡ Some ws
      → judged_slave (code_of (first_word heard_on)) (sent ws) ≡ Sound
  reply_sound_in fits m ws e = answer_sound _ s.areas (first_word heard_on) fits ws (sym (answered m) ∙ e)

  -- ---- the areas

  -- A port is filled exactly when a sound slave frame on the trusted line answers the waiting word of an open sink; otherwise status bits
  -- alone change.
  pub frame_taken_anywhere : Took (answers_now s.controller a b) s.areas heard_on (effect (hear a b) s)
  unfolding effect heard_by heard
  frame_taken_anywhere = rw (hear_effect_lem s a b) (by heard_on.kind s.controller.exchange)
    where
      by : (k : Kind) (x : Exchange)
          → Took (λ w. is_slave k && waits_for x w && is_sound (judged_slave (code_of w) heard_on)) s.areas heard_on
          (effect_of s.areas (as_heard k x heard_on) heard_on)
      by Silence x = spares still (λ c v e k. refl)
      by Noise x = spares still (λ c v e k. refl)
      by MasterFrame x = judged (judged_master heard_on)
        where
          judged : (j : Judgement) → Took (λ w. false) s.areas heard_on (effect_of s.areas (as_master j heard_on) heard_on)
          judged Sound = spares still (λ c v e k. refl)
          judged (Bad wrong) = spares still (λ c v e k. refl)
      by SlaveFrame Idle = spares still (λ c v e k. refl)
      by SlaveFrame Done = spares still (λ c v e k. refl)
      by SlaveFrame (Waiting w) = waiting_took s.areas heard_on w

  module _ (ok : refusal (hear a b) s ≡ 0) where
    fitting : areas_fit s.areas ≡ true
    fitting = not-false _ (accepted (hear a b) s ok bad_area)

    -- Each reply of an accepted event is itself a sound slave frame for the code of the master frame.
    pub reply_sound_anywhere : SoundMaster heard_on → (ws : List ℕ) → answer (hear a b) s ≡ Some ws
        → judged_slave (code_of (first_word heard_on)) (sent ws) ≡ Sound
    reply_sound_anywhere = reply_sound_in fitting

    -- An accepted event in which the word of an open sink is soundly answered fills that port with the words of the frame.
    pub fills_anywhere : (e : ℕ) (v : Standing) → standing s.areas e ≡ Some v → v.sink ≡ true
        → answers_now s.controller a b v.word ≡ true
        → (step (hear a b) s).areas ≡ filled s.areas v.port (words_of heard_on)
    unfolding step apply
    fills_anywhere e v there sink sound = go (effect (hear a b) s) frame_taken_anywhere
      where
        -- the words that pass are one word
        waited : (w : ℕ) → answers_now s.controller a b w ≡ true → waits_for s.controller.exchange w ≡ true
        waited w h =
            let pair = (and-eq-true_iff (is_slave heard_on.kind && waits_for s.controller.exchange w) (is_sound (judged_slave (code_of w) heard_on))).0 h in
            ((and-eq-true_iff (is_slave heard_on.kind) (waits_for s.controller.exchange w)).0 pair.0).1

        one_word : (x : Exchange) (u w : ℕ) → waits_for x u ≡ true → waits_for x w ≡ true → u ≡ w
        one_word Idle u w p q = absurd (false≢true p)
        one_word (Waiting z) u w p q = sym (eqb-true z u p) ∙ eqb-true z w q
        one_word Done u w p q = absurd (false≢true p)

        go : (f : Effect) → Took (answers_now s.controller a b) s.areas heard_on f
            → apply f s.areas ≡ filled s.areas v.port (words_of heard_on)
        go _ (takes d u here k h) =
            let word : u.word ≡ v.word = one_word s.controller.exchange u.word v.word (waited _ h) (waited _ sound) in
            let place : d ≡ e =
            sym (standing_at_lem s.areas d u here).address ∙ ap address_of word ∙ (standing_at_lem s.areas e v there).address in
            let same : Some u ≡ Some v = sym here ∙ ap (standing s.areas) place ∙ there in
            let port : u ≡ v = cc in
            ap (λ (x : Standing). filled s.areas x.port (words_of heard_on)) port
        go f (spares g away) = absurd (true≢false (sym sound ∙ away e v there sink))

    -- In any other accepted event no area changes but for status bits.
    pub others_anywhere : Typed (hear a b)
        → ((e : ℕ) (v : Standing) → standing s.areas e ≡ Some v → v.sink ≡ true → answers_now s.controller a b v.word ≡ false)
        → OnlyStatus s.areas (step (hear a b) s).areas
    unfolding step effect heard_by heard
    others_anywhere ty away = go (effect (hear a b) s) frame_taken_anywhere valid
      where
        valid : Valid s.areas (effect (hear a b) s)
        valid =
            rw (hear_effect_lem s a b)
            (valid_heard s.areas heard_on (one_of s.controller.lines.laa (λ (y : Hearing). length y.words ≡ 16) ty.0 ty.1)
            heard_on.kind s.controller.exchange)

        go : (f : Effect) → Took (answers_now s.controller a b) s.areas heard_on f → Valid s.areas f
            → OnlyStatus s.areas (apply f s.areas)
        go _ (takes d u here k h) w = absurd (true≢false (sym h ∙ away d u here k))
        go f (spares g n) w = gentle_only f s.areas fitting w g

-- ---- quiet time

pulses_only : (n : ℕ) (s : World) → areas_fit s.areas ≡ true → StatusAndAges s.areas (pulses n s).areas
unfolding pulses pulse pulse_effect
pulses_only zero s f = only_same s.areas
pulses_only (suc n) s f =
    let m = s.areas in
    only_trans _ _ _ (forget_ages (gentle_only (effect_later m (due s)) m f (later_valid m (due s)) (gentle_late m (due s))))
    (pulses_only n (pulse s) (pulse_fits s f))

-- Accepted quiet time changes no area but for status bits and ages.
pub quiet_anywhere : (s : World) (n : ℕ) → refusal (quiet n) s ≡ 0 → StatusAndAges s.areas (step (quiet n) s).areas
unfolding step
quiet_anywhere s n ok =
    let f : areas_fit s.areas ≡ true = not-false _ (accepted (quiet n) s ok bad_area) in
    let g = pulses_fits n s f in
    rw (ticks_grown n s f) (only_trans _ _ _ (pulses_only n s f) (ages_only (grown_ages n (pulses n s) g)))
