-- The shape that our calls give the areas: from cleared areas that only our calls change, every address has no port or a port with well
-- formed words, and every port in use is the one of its address. What each effect needs to keep it, and what it does to what stands at an
-- address. Assumes nothing.
use Prim.Native.Nat.{ℕ, ◌+◌, ◌%◌, ◌≤◌, ◌<◌}
use mathlib.Core.Path.{◌≡◌}
use mathlib.Core.Logic.{◌⊎◌}
use mathlib.Core.Bool.{Bool, true, cond}
use mathlib.Core.List.{List}
use Rattle.std.specs.Prelude.{Option, None, Some}
use lib.Dec.{eqb}
use lib.ListN.{length}
use Rattle.model.specs.declared.Faults.{Faults}
use Rattle.model.specs.Layout.{Areas, areas_fit, entry, port_at}
use Rattle.model.specs.Ports.{master_word, code_of, address_of, size_of, well_formed, Standing, standing, Effect, untouched, fill, mark}
use Rattle.model.specs.Ports.{opened, closed}

-- the entry of address a leads to a port whose words are well formed for a
pub record Leads (m : Areas) (a : ℕ) : Type 0 where
  pub small : entry m a ≤ 255
  pub formed : well_formed a (port_at m (entry m a)) ≡ true

pub record Shape (m : Areas) : Type 0 where
  -- the areas have their lengths
  pub fits : areas_fit m ≡ true
  -- an address has no entry, or its entry leads to a port
  pub entries : (a : ℕ) → (entry m a ≡ 0) ⊎ Leads m a
  -- word 1 of a port is 0, or the port is the one of its address
  pub ports : (p : ℕ) → 0 < p → p ≤ 255 → ((port_at m p).flags ≡ 0) ⊎ (entry m (address_of (port_at m p).master) ≡ p)

-- port p stands open at address a, with the master word w
pub record At (m : Areas) (a p w : ℕ) : Type 0 where
  pub seen : Standing
  pub there : standing m a ≡ Some seen
  pub port : seen.port ≡ p
  pub word : seen.word ≡ w

-- what an effect needs
pub data Valid (m : Areas) : Effect → Type 0 where
  nothing : Valid m untouched
  -- a fill has the port's size
  filling : {a p w : ℕ} {ws : List ℕ} → At m a p w → length ws ≡ size_of (code_of w) → Valid m (fill p ws)
  marking : {a p w : ℕ} {x : Faults} → At m a p w → Valid m (mark p x)
  -- the address and the port are free
  opening : {a p code : ℕ} {sink : Bool} {i limit : ℕ} → a < 4096 → 0 < p → p ≤ 255 → code ≤ 4 → i ≤ 7 → entry m a ≡ 0 → (port_at m p).flags ≡ 0
      → Valid m (opened a p code sink i limit)
  closing : {a p w : ℕ} → At m a p w → Valid m (closed a p)

-- a port that shows words, with one fill more
abbrev pub refill : List ℕ → Standing → Standing
refill ws v =
    record {
      port = v.port;
      word = v.word;
      sink = v.sink;
      interrupt = v.interrupt;
      shows = Some ws;
      fills = (v.fills + 1) % 65536;
      limit = v.limit;
    }

-- a port just opened: it shows no words, and has no fills
abbrev pub just_opened : ℕ → ℕ → ℕ → Bool → ℕ → ℕ → Standing
just_opened a p code sink i limit =
    record { port = p; word = master_word code a; sink = sink; interrupt = i; shows = None; fills = 0; limit = limit }

-- what stands at an address, after words filled port p: it shows them if it is this port
abbrev pub refill_if : ℕ → List ℕ → Option Standing → Option Standing
refill_if p ws None = None
refill_if p ws (Some v) = Some (cond (eqb v.port p) (refill ws v) v)

-- what an effect does to what address a shows: a fill is seen at the address of its port alone, marks are not seen, opening and
-- closing at their own address
abbrev pub standing_after : Effect → ℕ → Option Standing → Option Standing
standing_after untouched a v = v
standing_after (fill p ws) a v = refill_if p ws v
standing_after (mark p x) a v = v
standing_after (opened b p code sink i limit) a v = cond (eqb b a) (Some (just_opened b p code sink i limit)) v
standing_after (closed b p) a v = cond (eqb b a) None v
