-- The host's calls, all at once: a host call tells the controller a setting or nothing, and changes the areas by one effect. What follows
-- for damage goes by this, and has no case for each call. Assumes nothing.
use Prim.Native.Nat.{ℕ}
use mathlib.Core.Path.{◌≡◌, refl}
use mathlib.Core.List.{List}
use Rattle.frames.specs.declared.Hearing.{Hearing}
use Rattle.model.specs.declared.Controller.{Controller}
use Rattle.model.specs.Ports.{apply}
use Rattle.model.specs.Event.{World, world}
use Rattle.model.specs.Host.{tell}
use Rattle.model.specs.Calls.{Call, hear, quiet, open_port, close_port, write_port, read_port, setting, refusal, effect, step}
use Rattle.model.specs.Past.{Happening, hears, passes, sets, changes, happening}
use Rattle.model.specs.Damage.{DamagedBy, Damaged}
use Rattle.model.specs.Differ.{ByHost, Hosts}
use Rattle.model.proofs.Shape.{Valid, nothing}
use Rattle.model.proofs.Accepted.{valid_open, valid_close, valid_write}

-- a call is a bus event, quiet time, or the host's
pub data Sort : Call → Type 0 where
  event : {a b : Hearing} → Sort (hear a b)
  pause : {n : ℕ} → Sort (quiet n)
  host : {c : Call} → Hosts c → Sort c

-- every call is of one of these sorts
pub sort : (c : Call) → Sort c
sort (hear a b) = event
sort (quiet n) = pause
sort (open_port a p code sink i limit) = host tt
sort (close_port a) = host tt
sort (write_port a ws) = host tt
sort (read_port a) = host tt
sort (setting t) = host tt

-- the controller after it
abbrev pub hosted : Happening → Controller → Controller
hosted (hears a b) c = c
hosted (passes n) c = c
hosted (sets t) c = tell t c
hosted (changes f) c = c

-- What becomes of controller and areas.
pub host_step : (c : Call) → Hosts c → (s : World) → step c s ≡ world (hosted (happening c) s.controller) (apply (effect c s) s.areas)
unfolding step effect apply
host_step (hear a b) h s = absurd h
host_step (quiet n) h s = absurd h
host_step (open_port a p code sink i limit) h s = refl
host_step (close_port a) h s = refl
host_step (write_port a ws) h s = refl
host_step (read_port a) h s = refl
host_step (setting t) h s = refl

-- An accepted host call finds what its effect needs.
pub host_valid : (c : Call) → Hosts c → (s : World) → refusal c s ≡ 0 → Valid s.areas (effect c s)
unfolding effect
host_valid (hear a b) h s r = absurd h
host_valid (quiet n) h s r = absurd h
host_valid (open_port a p code sink i limit) h s r = valid_open a p code sink i limit s r
host_valid (close_port a) h s r = valid_close a s r
host_valid (write_port a ws) h s r = valid_write a ws s r
host_valid (read_port a) h s r = nothing
host_valid (setting t) h s r = nothing

-- No host call is damage.
pub host_undamaged : (past : List Call) (c : Call) → Hosts c → Damaged past c → ⊥
host_undamaged past c h d = by (happening c) h d
  where
    by : (x : Happening) → ByHost x → DamagedBy past x → ⊥
    by (hears a b) y z = absurd y
    by (passes n) y z = absurd y
    by (sets t) y z = z
    by (changes f) y z = z
