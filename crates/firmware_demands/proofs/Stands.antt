-- A sequence of the exported calls is a sequence of the inner ones: the controller that the host holds is one of ours, and the controller it
-- stands for, with the areas, is what the inner calls left that were accepted. Assumes nothing.
use Prim.Native.Nat.{ℕ, zero, suc}
use mathlib.Core.Path.{◌≡◌, refl, sym, ◌∙◌, ap, subst}
use mathlib.Core.Bool.{Bool, true, false}
use mathlib.Core.List.{List, []}
use native.Mathlib.Omega.{arith}
use borrow.Author.Tests.{ne_eqb}
use Rattle.frames.specs.declared.Hearing.{Hearing}
use Rattle.model.specs.Layout.{Areas, areas_fit}
use Rattle.model.specs.Event.{World, world}
use Rattle.model.specs.Host.{fresh_controller}
use Rattle.model.specs.Calls.{Call, cleared_areas, start}
use Rattle.model.specs.Past.{after, Typed}
use Rattle.model.proofs.Demands.{shaped}
use Rattle.demands.specs.Made.{Made, Ran, begun, accepted, refused}
use Rattle.demands.proofs.OfCode as demand
use Rattle.firmware_layout.specs.declared.FlatController.{FlatController}
use Rattle.firmware_layout.specs.Controller.{flat, controller_of, ours}
use Rattle.firmware_layout.proofs.Inverse.{same_numbers}
use Rattle.firmware_layout.proofs.Kept.{ours_fresh}
use Rattle.firmware_demands.specs.Called.{Called, away_from}
use Rattle.firmware_demands.specs.Exported as exported
use Rattle.firmware_demands.specs.Exported.{noted, Exported}
use Rattle.firmware_demands.proofs.Promised.{resets_promised}
use Rattle.firmware_demands.proofs.Inside.{back, called_made}
use Rattle.firmware_demands.proofs.Away.{TurnedAway, away_refused, called_away, called_ours}

-- what the host holds after the accepted calls `past`
pub record Stands (past : List Call) (f : FlatController) (m : Areas) : Type 0 where
  -- the controller is one of ours
  pub taken : ours f ≡ true
  -- the inner calls, of which `past` were accepted, left it and the areas
  pub runs : Ran past (world (controller_of f) m)

-- ---- one call more

noted_ran : {past : List Call} {s t : World} (c : Call) (n : ℕ) {r : Hearing} → Ran past s → Typed c → Made s c n r t → Ran (noted n c past) t
noted_ran c zero run typed made = accepted run typed made
noted_ran c (suc n) run typed made =
    let k : suc n ≡ 0 → ⊥ = λ e. omega arith in
    rw (ne_eqb (suc n) 0 k) (refused run k made)

away_ran : {past : List Call} {f g : FlatController} {m m' : Areas} {c : Call} {n : ℕ} {h : Hearing} → TurnedAway f g m m' c n h
    → Ran past (world (controller_of f) m) → Ran (noted n c past) (world (controller_of g) m')
away_ran {m = m} {c = c} away run = rw (away.number, ne_eqb (away_from c m) 0 (away_refused c m), away.controller, away.areas) run

called_ran : {past : List Call} {given : Bool} {f g : FlatController} {m m' : Areas} {c : Call} {n : ℕ} {h : Hearing}
    → Called given f m c n h g m' → Typed c → Ran past (world (controller_of f) m) → Ran (noted n c past) (world (controller_of g) m')
called_ran {past} {given} {f} {g} {m} {m'} {c} {n} call typed run = go given refl
  where
    go : (b : Bool) → given ≡ b → Ran (noted n c past) (world (controller_of g) m')
    go true e = noted_ran c n run typed (called_made call e)
    go false e = away_ran (called_away call e) run

-- ---- every sequence

first : (r : FlatController) → r ≡ flat fresh_controller → Stands [] r cleared_areas
unfolding start
first r e = rw e (record { taken = ours_fresh.numbers; runs = rw (back fresh_controller ours_fresh) begun })

-- What the host holds is always a controller of ours, and what the inner calls that were accepted left.
pub stands : {past : List Call} {f : FlatController} {m : Areas} → Exported past f m → Stands past f m
stands (exported.begun s) = first _ (resets_promised s)
stands (exported.next before typed call) =
    let s = stands before in
    record { taken = called_ours call s.taken; runs = called_ran call typed s.runs }

-- A sequence of exported calls is one of the inner calls, to which every demand of the crate `demands` applies.
pub ran : {past : List Call} {f : FlatController} {m : Areas} → Exported past f m → Ran past (world (controller_of f) m)
ran calls = (stands calls).runs

-- The accepted calls leave the world that the definitions tell.
pub same : {past : List Call} {f : FlatController} {m : Areas} → Exported past f m → after past ≡ world (controller_of f) m
same calls = (demand.ran (ran calls)).same

-- The areas keep their lengths.
pub fits : {past : List Call} {f : FlatController} {m : Areas} → Exported past f m → areas_fit m ≡ true
fits {past} calls = subst (λ (s : World). areas_fit s.areas ≡ true) (same calls) (shaped past (demand.ran (ran calls)).all).fits

-- What the host holds is told by the calls that were accepted alone: a refused call changes nothing of it.
pub one_state : {past : List Call} {f g : FlatController} {m n : Areas} → Exported past f m → Exported past g n → (f ≡ g) × (m ≡ n)
one_state {f = f} {g = g} x y =
    let e = sym (same x) ∙ same y in (
      sym (same_numbers f (stands x).taken) ∙ ap (λ (s : World). flat s.controller) e ∙ same_numbers g (stands y).taken,
      ap (λ (s : World). s.areas) e,
    )
