-- The invariant of runs: after any past of accepted calls, controller and areas are as the past tells. Assumes nothing.
use mathlib.Core.Path.{◌≡◌, refl}
use mathlib.Core.List.{List, [], ◌∷◌}
use Rattle.model.specs.Calls.{Call, hear, quiet, open_port, close_port, write_port, read_port, setting, out_of_range, refusal, step}
use Rattle.model.specs.Calls.{cleared_areas, start}
use Rattle.model.specs.Past.{after, Typed, Accepted, awaited, opening_of, count_since, frames_judged, last_settings, frames_unsound}
use Rattle.model.proofs.ShapeKept.{shape_cleared, standing_cleared}
use Rattle.model.proofs.Refused.{accepted}
use Rattle.model.proofs.Invariant.{Told, ToldBy, hear_told}
use Rattle.model.proofs.Hosted.{quiet_told, open_told, close_told, write_told, read_told, fresh_told, set_told}

-- ---- any run

start_told : Told [] start.controller start.areas
unfolding start awaited frames_judged frames_unsound opening_of count_since last_settings
start_told = fresh_told [] cleared_areas shape_cleared standing_cleared (λ q. refl) refl refl refl

step_told : (past : List Call) (c : Call) → Typed c → refusal c (after past) ≡ 0 → ToldBy past (after past)
    → ToldBy (c ∷ past) (step c (after past))
unfolding step
step_told past (hear a b) ty r h = hear_told past a b ty h
step_told past (quiet n) ty r h = quiet_told past n h
step_told past (open_port b p code sink i limit) ty r h = open_told past b p code sink i limit r h
step_told past (close_port b) ty r h = close_told past b r h
step_told past (write_port b ws) ty r h = write_told past b ws r h
step_told past (read_port b) ty r h = read_told past b h
step_told past (setting t) ty r h =
    set_told past (after past).controller (after past).areas h t (accepted (setting t) (after past) r out_of_range)

-- After every past of accepted calls, controller and areas are as the past tells.
pub past_told : (past : List Call) → Accepted past → Told past (after past).controller (after past).areas
unfolding after
past_told [] acc = start_told
past_told (c ∷ past) acc = step_told past c acc.0 acc.1 (past_told past acc.2)
