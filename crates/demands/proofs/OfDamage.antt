-- DEMAND 3, OF THE CODE: a stretch of damage cut out of a sequence of calls. Assumes nothing.
use Prim.Native.Nat.{ℕ}
use mathlib.Core.Path.{◌≡◌, refl, sym, ◌∙◌, ap}
use mathlib.Core.List.{List, ◌++◌}
use Rattle.frames.specs.declared.Hearing.{Hearing}
use Rattle.model.specs.Ports.{code_of, view}
use Rattle.model.specs.Event.{World, spoken}
use Rattle.model.specs.Calls.{Call, hear, answer}
use Rattle.model.specs.Past.{first_word}
use Rattle.model.specs.Taken.{StatusAndAges}
use Rattle.model.specs.Damage.{Damage, SoundMaster}
use Rattle.model.specs.Differ.{AllHosts, Follows, waiting_address, doubtful, MayDiffer, Unseen}
use Rattle.model.proofs.Damage.{stretch_marks, stretch_unseen}
use Rattle.model.proofs.MayDiffer.{may_differ, damage_unseen}
use Rattle.model.proofs.Settled.{first_reply}
use Rattle.demands.specs.Made.{Made, Ran}
use Rattle.demands.proofs.OfCall.{accepted_step}
use Rattle.demands.proofs.OfCode.{ran}
use Rattle.demands.proofs.Again.{runs_without}

-- ---- during the stretch

module _ (before stretch : List Call) (d : Damage before stretch) {u s : World} (short : Ran before u) (long : Ran (stretch ++ before) s) where
  -- During a stretch of damage only status bits and ages change in the areas.
  pub only_status : StatusAndAges u.areas s.areas
  only_status = rw (← (ran short).same, ← (ran long).same) (stretch_marks before stretch (ran long).all d)

  -- No address shows anything else.
  pub unseen : (a : ℕ) → view s.areas a ≡ view u.areas a
  unseen a = rw (← (ran short).same, ← (ran long).same) (stretch_unseen before stretch (ran long).all d a)

-- ---- after it

-- two replies of the code are the same where the definitions' are
same_spoken : {s u t v : World} {y r q : Hearing} → answer (hear y y) s ≡ answer (hear y y) u → Made s (hear y y) 0 r t
    → Made u (hear y y) 0 q v → r ≡ q
same_spoken e m n = sym (accepted_step m refl).1 ∙ ap spoken e ∙ (accepted_step n refl).1

-- The master frame that ends the stretch gets the same reply, after any host calls.
pub first_replies : (before stretch between : List Call) (x : Hearing) → SoundMaster x → (code_of (first_word x) ≡ 15 → ⊥) → AllHosts between
    → Damage before stretch → {s u t v : World} {r q : Hearing} → Ran (between ++ (stretch ++ before)) s → Ran (between ++ before) u
    → Made s (hear x x) 0 r t → Made u (hear x x) 0 q v → r ≡ q
first_replies before stretch between x m poll hs d long short =
    same_spoken
    (rw (← (ran long).same, ← (ran short).same) (first_reply before stretch between x m poll hs d (ran long).all))

module _ (before stretch calls : List Call) (d : Damage before stretch) (f : Follows calls) {s : World}
    (long : Ran (calls ++ (stretch ++ before)) s) where
  -- The code runs the sequence without the stretch too.
  pub without : (u : World) × Ran (calls ++ before) u
  without = runs_without calls stretch before long (may_differ before stretch calls d f (ran long).all).0

  module _ {u : World} (short : Ran (calls ++ before) u) where
    -- After both every address shows the same words with the same fills.
    pub damage_cut : Unseen s u
    damage_cut = rw (← (ran long).same, ← (ran short).same) (damage_unseen before stretch calls d f (ran long).all).1

    -- They differ in no more than document 01 allows.
    pub differs_cut : MayDiffer (doubtful before (waiting_address before) calls) u s
    differs_cut = rw (← (ran long).same, ← (ran short).same) (may_differ before stretch calls d f (ran long).all).1

    -- And every frame that both lines hear gets the same reply, status polls aside.
    pub replies_cut : {t v : World} {y r q : Hearing} → (code_of (first_word y) ≡ 15 → ⊥) → Made s (hear y y) 0 r t → Made u (hear y y) 0 q v
        → r ≡ q
    replies_cut {y = y} poll = same_spoken (differs_cut.replies y poll)
