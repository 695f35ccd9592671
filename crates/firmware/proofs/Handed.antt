-- What the exported calls hand out: given a controller of ours, a controller of ours; and a refused call hands back exactly what it was
-- given. From the theorem on the model's calls and the conversions being inverse. Assumes nothing.
use Prim.Native.Nat.{ℕ}
use mathlib.Core.Path.{◌≡◌, refl}
use mathlib.Core.Bool.{Bool, true, false, cond, ◌&&◌}
use lib.Dec.{eqb}
use Rattle.model.specs.declared.Controller.{Controller}
use Rattle.model.specs.Layout.{Areas}
use Rattle.model.specs.Event.{world, silent}
use Rattle.model.specs.Host.{Setting, setting_out, fresh_controller, tell, group0, group1}
use Rattle.model.specs.Calls.{Call, outcome}
use Rattle.host_controller.specs.declared.GroupCall.{GroupCall}
use Rattle.host_controller.specs.Settings.{told_for, after_told}
use Rattle.constants.specs.declared.refusals.Refusal.TheVariants.{Range}
use Rattle.std.specs.Prelude.{Ok, Err}
use Rattle.host_controller.specs.Groups.{call_of, reading0, reading1}
use Rattle.firmware_layout.specs.declared.FlatController.{FlatController}
use Rattle.firmware_layout.specs.Flags.{is_bit, is_set}
use Rattle.firmware_layout.specs.Controller.{flat, controller_of, ours}
use Rattle.firmware_layout.specs.Hearing.{flat_hearing}
use Rattle.firmware.specs.Promise.{answers, leaves, through, set_through, flat_reading}
use Rattle.firmware.specs.Promise.{away_reading, read_through}
use Rattle.firmware_layout.proofs.Inverse.{same_numbers}
use Rattle.firmware_layout.proofs.Kept.{ours_taken, ours_kept, ours_fresh, ours_told}

-- ---- what is handed out is taken back

-- a fresh controller, as `tolvendrum_reset` hands it out, is one of ours
pub reset_handed : ours (flat fresh_controller) ≡ true
reset_handed = ours_fresh.numbers

-- given a controller of ours, a call hands back one of ours, whatever the areas hold
pub call_handed : (given : Bool) (c : Call) (f : FlatController) (m : Areas) → ours f ≡ true
    → ours (through given c f m).answered.controller ≡ true
unfolding through
call_handed true c f m e = (ours_kept c (world (controller_of f) m) (ours_taken f e)).numbers
call_handed false c f m e = e

-- so does a setting, in its range or not
pub setting_handed : (given : Bool) (t : Setting) (f : FlatController) → ours f ≡ true → ours (set_through given t f).controller ≡ true
unfolding set_through told_for
setting_handed false t f e = e
setting_handed true t f e = go (setting_out t) refl
  where
    c : Controller
    c = controller_of f

    go : (b : Bool) → setting_out t ≡ b → ours (flat (after_told c (cond b (Err Range) (Ok (tell t c))))) ≡ true
    go true z = (ours_taken f e).numbers
    go false z = (ours_told t c z (ours_taken f e)).numbers

-- so does a call on an interrupt group, whatever the group's number
pub group_handed : (n : ℕ) (k : GroupCall) (f : FlatController) → ours f ≡ true → ours (read_through n k f).controller ≡ true
unfolding read_through reading0 reading1
group_handed n k f e = go (ours f && is_bit n) (is_set n)
  where
    c : Controller
    c = controller_of f

    go : (given one : Bool)
        → ours (cond given (flat_reading (cond one (reading1 k c) (reading0 k c))) (away_reading f)).controller ≡ true
    go true true = (ours_told (group1 (call_of k)) c refl (ours_taken f e)).numbers
    go true false = (ours_told (group0 (call_of k)) c refl (ours_taken f e)).numbers
    go false one = e

-- ---- a refused call: its number, the controller and the areas as they were, and no reply

-- Given a controller of ours, a refused call leaves it and the areas as they were, and replies nothing.
pub refused_same : (given : Bool) (c : Call) (f : FlatController) (m : Areas) → ours f ≡ true
    → eqb (through given c f m).answered.refusal 0 ≡ false
    → through given c f m ≡ leaves m (answers (through given c f m).answered.refusal f (flat_hearing silent))
unfolding through outcome
refused_same true c f m e z = rw (z, same_numbers f e)
refused_same false c f m e z = refl
