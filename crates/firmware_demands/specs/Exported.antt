-- Sequences of the exported calls, as a host makes them: each is given the controller that the one before handed back and the areas that
-- it left. Assumes nothing.
use Rattle.std.specs.Prelude.{ℕ, Bool, cond, List, [], ◌∷◌, eqb}
use Rattle.frames.specs.declared.Hearing.{Hearing}
use Rattle.model.specs.Layout.{Areas}
use Rattle.model.specs.Calls.{Call, cleared_areas}
use Rattle.model.specs.Past.{Typed}
use Rattle.firmware_layout.specs.declared.FlatController.{FlatController}
use Rattle.firmware_demands.specs.Clauses.{Resets}
use Rattle.firmware_demands.specs.Called.{Called}

-- The calls that were accepted, the newest first: a call that answers a number other than 0 is left out.
abbrev pub noted : ℕ → Call → List Call → List Call
noted n c past = cond (eqb n 0) (c ∷ past) past

-- After these accepted calls the host holds this controller and these areas. It began with `tolvendrum_reset` and cleared areas. That a
-- call is `Typed` says of a hearing that its array has sixteen words, as the array's type has it.
pub data Exported : List Call → FlatController → Areas → Type 0 where
  begun : {r : FlatController} → Resets r → Exported [] r cleared_areas
  next : {past : List Call} {given : Bool} {f g : FlatController} {m m' : Areas} {c : Call} {n : ℕ} {h : Hearing} → Exported past f m
      → Typed c → Called given f m c n h g m' → Exported (noted n c past) g m'
