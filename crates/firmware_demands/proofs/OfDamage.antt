-- DEMAND 3, OF WHAT SHIPS: a stretch of damage cut out of a sequence of the exported calls. Each is the demand of the crate `demands` on the
-- inner calls. Assumes nothing.
use Prim.Native.Nat.{ℕ}
use mathlib.Core.Path.{◌≡◌, refl}
use mathlib.Core.Bool.{Bool}
use mathlib.Core.List.{List, ◌++◌}
use Rattle.frames.specs.declared.Hearing.{Hearing}
use Rattle.model.specs.Layout.{Areas}
use Rattle.model.specs.Ports.{code_of, view}
use Rattle.model.specs.Event.{World, world}
use Rattle.model.specs.Calls.{Call, hear}
use Rattle.model.specs.Past.{first_word}
use Rattle.model.specs.Taken.{StatusAndAges}
use Rattle.model.specs.Damage.{Damage, SoundMaster}
use Rattle.model.specs.Differ.{AllHosts, Follows, waiting_address, doubtful, MayDiffer, Unseen}
use Rattle.demands.specs.Made.{Ran}
use Rattle.demands.proofs.OfDamage as demand
use Rattle.firmware_layout.specs.declared.FlatController.{FlatController}
use Rattle.firmware_layout.specs.Controller.{controller_of}
use Rattle.firmware_demands.specs.Called.{Called}
use Rattle.firmware_demands.specs.Exported.{Exported}
use Rattle.firmware_demands.proofs.Stands.{ran}
use Rattle.firmware_demands.proofs.OfCalled.{accepted_made}

-- ---- during the stretch

module _ (before stretch : List Call) (d : Damage before stretch) {f g : FlatController} {m n : Areas} (short : Exported before f m)
    (long : Exported (stretch ++ before) g n) where
  -- During a stretch of damage only status bits and ages change in the areas.
  pub only_status : StatusAndAges m n
  only_status = demand.only_status before stretch d (ran short) (ran long)

  -- No address shows anything else.
  pub unseen : (a : ℕ) → view n a ≡ view m a
  unseen = demand.unseen before stretch d (ran short) (ran long)

-- ---- after it

module _ {f g f' g' : FlatController} {m n m' n' : Areas} {given given' : Bool} {y r q : Hearing}
    (in-long : Called given f m (hear y y) 0 r f' m') (in-short : Called given' g n (hear y y) 0 q g' n') where
  -- The master frame that ends the stretch gets the same reply, after any host calls.
  pub first_replies : (before stretch between : List Call) → SoundMaster y → (code_of (first_word y) ≡ 15 → ⊥) → AllHosts between
      → Damage before stretch → Exported (between ++ (stretch ++ before)) f m → Exported (between ++ before) g n → r ≡ q
  first_replies before stretch between x poll hosts d long short =
      demand.first_replies before stretch between y x poll hosts d (ran long) (ran short) (accepted_made in-long refl) (accepted_made in-short refl)

  -- And so does every frame after it that both lines hear, status polls aside.
  pub replies_cut : (before stretch calls : List Call) → Damage before stretch → Follows calls → (code_of (first_word y) ≡ 15 → ⊥)
      → Exported (calls ++ (stretch ++ before)) f m → Exported (calls ++ before) g n → r ≡ q
  replies_cut before stretch calls d follows poll long short =
      demand.replies_cut before stretch calls d follows (ran long) (ran short) poll (accepted_made in-long refl) (accepted_made in-short refl)

module _ (before stretch calls : List Call) (d : Damage before stretch) (follows : Follows calls) {f : FlatController} {m : Areas}
    (long : Exported (calls ++ (stretch ++ before)) f m) where
  -- The inner calls run the sequence without the stretch too.
  pub without : (u : World) × Ran (calls ++ before) u
  without = demand.without before stretch calls d follows (ran long)

  module _ {g : FlatController} {n : Areas} (short : Exported (calls ++ before) g n) where
    -- After both every address shows the same words with the same fills.
    pub damage_cut : Unseen (world (controller_of f) m) (world (controller_of g) n)
    damage_cut = demand.damage_cut before stretch calls d follows (ran long) (ran short)

    -- They differ in no more than document 01 allows.
    pub differs_cut : MayDiffer (doubtful before (waiting_address before) calls) (world (controller_of g) n) (world (controller_of f) m)
    differs_cut = demand.differs_cut before stretch calls d follows (ran long) (ran short)
