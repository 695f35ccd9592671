-- An exported call whose arguments are no controller of ours, no hearings or no flags is turned away, and so is fetching with a page of another
-- length; and given a controller of ours a call hands back one of ours. Assumes nothing.
use Prim.Native.Nat.{ℕ}
use mathlib.Core.Path.{◌≡◌, refl, sym, subst, ◌∙◌, ap}
use mathlib.Core.Bool.{Bool, true, false, cond, ◌&&◌, true≢false}
use native.Mathlib.Omega.{arith}
use Rattle.frames.specs.declared.Hearing.{Hearing}
use Rattle.model.specs.Layout.{Areas, tables_fit, pages_fit, areas_fit}
use Rattle.model.specs.Event.{silent}
use Rattle.model.specs.Host.{Setting}
use Rattle.model.specs.Calls.{Call, hear, quiet, open_port, close_port, write_port, read_port, setting}
use Rattle.host_ports.specs.Host.{Out, out}
use Rattle.host_controller.specs.declared.GroupCall.{GroupCall}
use Rattle.firmware_layout.specs.declared.FlatController.{FlatController}
use Rattle.firmware_layout.specs.Flags.{is_bit}
use Rattle.firmware_layout.specs.Controller.{ours}
use Rattle.firmware_layout.specs.Hearing.{hearing_of}
use Rattle.firmware_layout.proofs.Inverse.{same_hearing}
use Rattle.firmware.specs.declared.FlatTold.{FlatTold}
use Rattle.firmware.specs.declared.FlatReading.{FlatReading}
use Rattle.firmware.specs.declared.Fetched.{Fetched}
use Rattle.firmware.specs.Promise.{away_number, FlatOutcome, leaves, through, open_through, fetching, set_through, read_through}
use Rattle.firmware.proofs.Handed.{reset_handed, call_handed, setting_handed, group_handed}
use Rattle.firmware_demands.specs.Clauses.{Fetches, Set, OnGroup}
use Rattle.firmware_demands.specs.Called.{Called, by_hear, by_quiet, by_open, by_close, by_write, by_ask, by_fetch, by_reset, by_setting}
use Rattle.firmware_demands.specs.Called.{by_group, group_call, away_from}
use Rattle.firmware_demands.proofs.Promised.{hears_promised, quiets_promised, opens_promised, fetches_promised, resets_promised}
use Rattle.firmware_demands.proofs.Promised.{set_promised, group_promised}

-- ---- turned away

-- document 01's refusal: a number that is not 0, and all as it was
pub record TurnedAway (f g : FlatController) (m m' : Areas) (c : Call) (n : ℕ) (h : Hearing) : Type 0 where
  pub number : n ≡ away_from c m
  pub reply : h ≡ silent
  pub controller : g ≡ f
  pub areas : m' ≡ m

-- A call that is turned away answers another number than 0.
pub away_refused : (c : Call) (m : Areas) → away_from c m ≡ 0 → ⊥
away_refused c m = go c
  where
    lent_areas : (b : Bool) → ◌≡◌ {A = ℕ} (cond b 2 1) 0 → ⊥
    lent_areas true e = omega arith
    lent_areas false e = omega arith

    go : (x : Call) → away_from x m ≡ 0 → ⊥
    go (hear a b) = lent_areas (areas_fit m)
    go (quiet n) = lent_areas (areas_fit m)
    go (open_port a p code sink i limit) = lent_areas (areas_fit m)
    go (close_port a) = lent_areas (areas_fit m)
    go (write_port a ws) = lent_areas (areas_fit m)
    go (read_port a) = lent_areas (areas_fit m)
    go (setting t) = λ e. omega arith

through_away : (given : Bool) (c : Call) (f : FlatController) (m : Areas) (x : FlatOutcome) → x ≡ through given c f m → given ≡ false
    → away_from c m ≡ away_number m
    → TurnedAway f x.answered.controller m x.areas c x.answered.refusal (hearing_of x.answered.reply)
unfolding through
through_away given c f m x e g a =
    rw (e, g) (record { number = sym a; reply = same_hearing silent; controller = refl; areas = refl })

opened_away : (given : Bool) (c : Call) (f : FlatController) (m : Areas) (x : Out) → x ≡ open_through given c m → given ≡ false
    → away_from c m ≡ away_number m → TurnedAway f f m x.after c x.number silent
unfolding open_through
opened_away given c f m x e g a = rw (e, g) (record { number = sym a; reply = refl; controller = refl; areas = refl })

set_away : {given : Bool} {f : FlatController} {t : Setting} (m : Areas) (r : FlatTold) → Set f given t r → given ≡ false
    → TurnedAway f r.controller m m (setting t) r.refusal silent
unfolding set_through
set_away m r s g = rw (set_promised s, g) (record { number = refl; reply = refl; controller = refl; areas = refl })

group_away : {f : FlatController} (m : Areas) (n : ℕ) (k : GroupCall) (r : FlatReading) → OnGroup f n k r → (ours f && is_bit n) ≡ false
    → TurnedAway f r.controller m m (setting (group_call n k)) r.refusal silent
unfolding read_through
group_away m n k r o g = rw (group_promised o, g) (record { number = refl; reply = refl; controller = refl; areas = refl })

fetch_away : {f : FlatController} {m : Areas} {a : ℕ} (r : Fetched) → Fetches m a r → pages_fit m ≡ false
    → TurnedAway f f m m (read_port a) r.refusal silent
unfolding fetching areas_fit
fetch_away {m = m} r s t =
    record {
      number = ap (λ (x : Fetched). x.refusal) (fetches_promised s) ∙ one (tables_fit m) (pages_fit m) _ t;
      reply = refl;
      controller = refl;
      areas = refl;
    }
  where
    one : (tables pages : Bool) (n : ℕ) → pages ≡ false → cond pages n 1 ≡ cond (tables && pages) 2 1
    one tables true n e = absurd (true≢false e)
    one true false n e = refl
    one false false n e = refl

-- Where its arguments are no controller of ours, no hearings or no flags, or on fetching a page has another length, an exported call is
-- turned away.
pub called_away : {given : Bool} {f g : FlatController} {m m' : Areas} {c : Call} {n : ℕ} {h : Hearing} → Called given f m c n h g m'
    → given ≡ false → TurnedAway f g m m' c n h
called_away (by_hear x y r s) t = through_away _ _ _ _ (leaves _ r) (hears_promised s) t refl
called_away (by_quiet r s) t = through_away _ _ _ _ (leaves _ r) (quiets_promised s) t refl
called_away {f = f} (by_open side {r = r} s) t = opened_away _ _ f _ (out _ r) (opens_promised s) t refl
called_away (by_close s) t = absurd (true≢false t)
called_away (by_write s) t = absurd (true≢false t)
called_away (by_ask r s) t = absurd (true≢false t)
called_away (by_fetch r s) t = fetch_away r s t
called_away (by_reset s) t = absurd (true≢false t)
called_away (by_setting r s) t = set_away _ r s t
called_away (by_group n k r s) t = group_away _ n k r s t

-- ---- what is handed out

outcome_ours : (given : Bool) (c : Call) (f : FlatController) (m : Areas) (x : FlatOutcome) → x ≡ through given c f m → ours f ≡ true
    → ours x.answered.controller ≡ true
outcome_ours given c f m x e t = rw e (call_handed given c f m t)

-- Given a controller of ours, a call hands back one of ours.
pub called_ours : {given : Bool} {f g : FlatController} {m m' : Areas} {c : Call} {n : ℕ} {h : Hearing} → Called given f m c n h g m'
    → ours f ≡ true → ours g ≡ true
called_ours (by_hear x y r s) t = outcome_ours _ _ _ _ (leaves _ r) (hears_promised s) t
called_ours (by_quiet r s) t = outcome_ours _ _ _ _ (leaves _ r) (quiets_promised s) t
called_ours (by_open side s) t = t
called_ours (by_close s) t = t
called_ours (by_write s) t = t
called_ours (by_ask r s) t = t
called_ours (by_fetch r s) t = t
called_ours (by_reset s) t = rw (resets_promised s) reset_handed
called_ours {given} {f} (by_setting {t = t} r s) o =
    subst (λ (x : FlatTold). ours x.controller ≡ true) (sym (set_promised s)) (setting_handed given t f o)
called_ours {f = f} (by_group n k r s) t =
    subst (λ (x : FlatReading). ours x.controller ≡ true) (sym (group_promised s)) (group_handed n k f t)
