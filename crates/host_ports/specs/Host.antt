-- Document 01, "Host calls on ports" and "What callers are told": a host's call as one outcome, when fetching hands back words, and the
-- refusals of the calls on ports, written out in the document's order. Assumes nothing.
use Rattle.std.specs.Prelude.{ℕ, Bool, cond, not, ◌&&◌, ◌||◌, List, eqb, ltb, length}
use Rattle.model.specs.Layout.{Areas, pages_fit, areas_fit, entry, port_at, flags_of}
use Rattle.model.specs.Ports.{code_of, size_of, well_formed}
use Rattle.model.specs.Calls.{Call, open_out, fresh_over, outcome, port_refusal, asked}
use Rattle.areas.specs.Lent.{shown}

-- what a call leaves: the areas, and the number that it answers
pub record Out : Type 0 where
  pub after : Areas
  pub number : ℕ

abbrev pub out : Areas → ℕ → Out
out m n = record { after = m; number = n }

-- the areas after the host's call c over m
unfoldable pub port_areas : Call → Areas → Areas
port_areas c m = (outcome c (fresh_over m)).world.areas

-- and the number with them
unfoldable pub host_call : Call → Areas → Out
host_call c m = out (port_areas c m) (port_refusal c m)

-- fetching hands back words: both pages have their length, and the answer to asking shows them
abbrev pub hands_back : Areas → ℕ → Bool
hands_back m a = pages_fit m && shown (asked m a)

-- ---- the refusals as one expression for each call; proofs/Host.antt proves them to be those of `port_refusal`

-- opening: 1 AREA, 2 RANGE, 6 DAMAGED for the entry, 4 TAKEN
unfoldable pub open_refusal : Areas → ℕ → ℕ → ℕ → ℕ → ℕ
open_refusal m a p code i =
    cond (not (areas_fit m)) 1
    (cond (open_out a p code i) 2
    (cond (ltb 255 (entry m a)) 6
    (cond (not (eqb (entry m a) 0) || not (eqb (port_at m p).flags 0)) 4 0)))

-- a call that needs a port: 1 AREA, 2 RANGE, 6 DAMAGED for the entry, 3 NOPORT, 6 DAMAGED for the port words; then what it tests of
-- its port. Closing and asking test nothing more. `fit` says that the areas which the call is lent have their lengths; the pages are not
-- asked further
unfoldable pub reached : Bool → Areas → ℕ → ℕ → ℕ
reached fit m a later =
    cond (not fit) 1
    (cond (ltb 4095 a) 2
    (cond (ltb 255 (entry m a)) 6
    (cond (eqb (entry m a) 0) 3 (cond (not (well_formed a (port_at m (entry m a)))) 6 later))))

-- writing: 5 SIDE, 2 RANGE for the size
unfoldable pub write_refusal : Areas → ℕ → List ℕ → ℕ
write_refusal m a ws =
    reached (areas_fit m) m a
    (cond (flags_of (port_at m (entry m a)).flags).sink 5
    (cond (not (eqb (length ws) (size_of (code_of (port_at m (entry m a)).master)))) 2 0))
