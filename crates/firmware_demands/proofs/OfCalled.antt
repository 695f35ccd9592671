-- DEMANDS 1 AND 2, OF ONE EXPORTED CALL, whatever it is given as controller and whatever the areas hold: those of the crate `demands` on the
-- inner call that it is, and its number where it is turned away. Assumes nothing.
use Prim.Native.Nat.{ℕ}
use mathlib.Core.Path.{◌≡◌, refl, sym, ◌∙◌, ap}
use mathlib.Core.Logic.{◌↔◌}
use mathlib.Core.Bool.{Bool, true, false, cond, ◌&&◌}
use Rattle.std.specs.Prelude.{Some, Ok, Err}
use Rattle.constants.specs.declared.refusals.Refusal.TheVariants.{Range}
use Rattle.frames.specs.declared.Hearing.{Hearing}
use Rattle.frames.specs.declared.Judgement.TheVariants.{Sound}
use Rattle.frames.specs.Hearing.{words_of}
use Rattle.frames.specs.Judge.{judged_slave}
use Rattle.model.specs.declared.Controller.{Controller}
use Rattle.model.specs.Layout.{Areas}
use Rattle.model.specs.Ports.{code_of, Standing, standing, filled}
use Rattle.model.specs.Lines.{trusted}
use Rattle.model.specs.Event.{World, world, silent}
use Rattle.model.specs.Host.{Setting, setting_out, tell}
use Rattle.model.specs.Calls.{Call, hear, quiet, refusal, tests, Silent, First}
use Rattle.model.specs.Past.{Typed, first_word}
use Rattle.model.specs.Taken.{answers_now, OnlyStatus, StatusAndAges}
use Rattle.model.specs.Damage.{SoundMaster}
use Rattle.host_controller.specs.declared.GroupCall.{GroupCall}
use Rattle.host_controller.specs.Settings.{told_for}
use Rattle.demands.specs.Made.{Made}
use Rattle.demands.proofs.OfCall as inner
use Rattle.firmware_layout.specs.declared.FlatController.{FlatController}
use Rattle.firmware_layout.specs.Flags.{is_bit}
use Rattle.firmware_layout.specs.Controller.{flat, controller_of, ours}
use Rattle.firmware_layout.proofs.Inverse.{same_numbers}
use Rattle.firmware.specs.declared.FlatTold.{FlatTold}
use Rattle.firmware.specs.declared.FlatReading.{FlatReading}
use Rattle.firmware.specs.Promise.{flat_told, away_told, set_through, reading, flat_reading, away_reading, read_through}
use Rattle.firmware_demands.specs.Clauses.{Set, OnGroup}
use Rattle.firmware_demands.specs.Called.{Called, away_from}
use Rattle.firmware_demands.proofs.Promised.{set_promised, group_promised}
use Rattle.firmware_demands.proofs.Inside.{called_made}
use Rattle.firmware_demands.proofs.Away.{away_refused, called_away, called_ours}

-- ---- demand 1

module _ {given : Bool} {f g : FlatController} {m m' : Areas} {c : Call} {n : ℕ} {h : Hearing} (call : Called given f m c n h g m') where
  abbrev before : World
  before = world (controller_of f) m

  -- A call whose arguments are given answers the number of the first of document 01's tests that holds, and 0 when none holds.
  pub number_exactly : given ≡ true → n ≡ refusal c before
  number_exactly t = inner.number_exactly (called_made call t)

  -- It is refused with a number exactly when the first test that holds has that number.
  pub refused_exactly : given ≡ true → (k : ℕ) → First (tests c before) k → n ≡ k
  refused_exactly t = inner.refused_exactly (called_made call t)

  -- It is accepted exactly when none holds.
  pub accepted_exactly : given ≡ true → (n ≡ 0) ↔ Silent (tests c before)
  accepted_exactly t = inner.accepted_exactly (called_made call t)

  -- A call whose arguments are no controller of ours, no hearings or no flags answers 2, after 1 where areas are lent; fetching with a page of
  -- another length answers 1.
  pub away_number_lem : given ≡ false → n ≡ away_from c m
  away_number_lem t = (called_away call t).number

  -- So the arguments of an accepted call were given.
  pub accepted_given : n ≡ 0 → given ≡ true
  accepted_given z = go given refl
    where
      go : (b : Bool) → given ≡ b → b ≡ true
      go true e = refl
      go false e = absurd (away_refused c m (sym (away_number_lem e) ∙ z))

  -- And an accepted call is the inner call.
  pub accepted_made : n ≡ 0 → Made before c n h (world (controller_of g) m')
  accepted_made z = called_made call (accepted_given z)

  -- A refused call changes nothing, and replies nothing.
  pub refused_unchanged : (n ≡ 0 → ⊥) → (ours f ≡ true → g ≡ f) × (m' ≡ m) × (h ≡ silent)
  refused_unchanged z = go given refl
    where
      go : (b : Bool) → given ≡ b → (ours f ≡ true → g ≡ f) × (m' ≡ m) × (h ≡ silent)
      go false e = let away = called_away call e in (λ t. away.controller, away.areas, away.reply)
      go true e =
          let left = inner.refused_unchanged (called_made call e) z in (
            λ t. sym (same_numbers g (called_ours call t)) ∙ ap (λ (s : World). flat s.controller) left.0 ∙ same_numbers f t,
            ap (λ (s : World). s.areas) left.0,
            left.1,
          )

-- A setting is refused with 2 exactly when its value is out of range, or its arguments are none; the settings with no range never else.
pub set_number : {given : Bool} {f : FlatController} {t : Setting} {r : FlatTold} → Set f given t r
    → r.refusal ≡ cond given (cond (setting_out t) 2 0) 2
unfolding set_through told_for
set_number {given} {f} {t} s = rw (set_promised s) (go given (setting_out t))
  where
    c : Controller
    c = controller_of f

    go : (b out : Bool)
        → (cond b (flat_told c (cond out (Err Range) (Ok (tell t c)))) (away_told f)).refusal ≡ cond b (cond out 2 0) 2
    go true true = refl
    go true false = refl
    go false out = refl

-- A call on a group is refused with 2 exactly when its arguments are no controller of ours or no group, and never else.
pub group_number : {f : FlatController} {n : ℕ} {k : GroupCall} {r : FlatReading} → OnGroup f n k r
    → r.refusal ≡ cond (ours f && is_bit n) 0 2
unfolding read_through
group_number {f} {n} {k} o = rw (group_promised o) (go (ours f && is_bit n))
  where
    go : (b : Bool) → (cond b (flat_reading (reading n k (controller_of f))) (away_reading f)).refusal ≡ cond b 0 2
    go true = refl
    go false = refl

-- ---- demand 2: an accepted event, and accepted quiet time

module _ {given : Bool} {f g : FlatController} {m m' : Areas} {a b h : Hearing} (call : Called given f m (hear a b) 0 h g m') where
  abbrev made : Made (world (controller_of f) m) (hear a b) 0 h (world (controller_of g) m')
  made = accepted_made call refl

  -- what the trusted line heard
  abbrev heard_on : Hearing
  heard_on = trusted (controller_of f).lines a b

  -- The reply is a sound slave frame for the code of the master frame.
  pub reply_sound : SoundMaster heard_on → (h ≡ silent → ⊥) → judged_slave (code_of (first_word heard_on)) h ≡ Sound
  reply_sound = inner.reply_sound made

  -- It is given to a sound master frame alone.
  pub no_other_reply : (SoundMaster heard_on → ⊥) → h ≡ silent
  no_other_reply = inner.no_other_reply made

  -- A sound slave frame on the trusted line that answers the waiting word of an open sink fills its port with the words of the frame.
  pub fills : (e : ℕ) (v : Standing) → standing m e ≡ Some v → v.sink ≡ true → answers_now (controller_of f) a b v.word ≡ true
      → m' ≡ filled m v.port (words_of heard_on)
  fills = inner.fills made

  -- Otherwise no area changes but for status bits.
  pub others : Typed (hear a b)
      → ((e : ℕ) (v : Standing) → standing m e ≡ Some v → v.sink ≡ true → answers_now (controller_of f) a b v.word ≡ false)
      → OnlyStatus m m'
  others = inner.others made

-- Accepted quiet time changes no area but for status bits and ages.
pub quiet_marks : {given : Bool} {f g : FlatController} {m m' : Areas} {n : ℕ} {h : Hearing} → Called given f m (quiet n) 0 h g m'
    → StatusAndAges m m'
quiet_marks call = inner.quiet_marks (accepted_made call refl)
