-- The port that waits, the port whose exchange a call finishes, and the port in doubt, by its number: the same as by its address (ByAddress).
-- Assumes nothing.
use Prim.Native.Nat.{ℕ}
use mathlib.Core.Bool.{cond, ◌&&◌}
use mathlib.Core.List.{List, [], ◌∷◌, ◌++◌}
use Rattle.std.specs.Prelude.{Option, None, Some}
use lib.Dec.{eqb}
use Rattle.model.specs.Ports.{address_of, Effect, untouched, fill, mark, opened, closed}
use Rattle.model.specs.Calls.{Call, effect}
use Rattle.model.specs.Past.{Happening, hears, passes, sets, changes, happening, after, awaited, Opening, opening_of}

-- the number of the port that stands open
abbrev pub port_number : Option Opening → Option ℕ
port_number None = None
port_number (Some o) = Some o.port

-- the number of the port at an address, if there is one
abbrev pub port_at_address : List Call → Option ℕ → Option ℕ
port_at_address past None = None
port_at_address past (Some a) = port_number (opening_of past a)

-- the number of an open sink with exactly the master word w
abbrev pub sink_number : ℕ → Option Opening → Option ℕ
sink_number w None = None
sink_number w (Some o) = cond (eqb o.word w && o.sink) (Some o.port) None

-- the number of the open sink with this master word, if there is a word
abbrev pub sink_open : List Call → Option ℕ → Option ℕ
sink_open past None = None
sink_open past (Some w) = sink_number w (opening_of past (address_of w))

-- the open sink whose master word is waited for
unfoldable pub waiting_port : List Call → Option ℕ
waiting_port past = sink_open past (awaited past 0)

-- what was waited for is waited for no more
abbrev pub over : Option ℕ → Option ℕ → Option ℕ
over None p = p
over (Some w) p = None

-- the port that an effect concerns
abbrev pub port_affected : Effect → Option ℕ
port_affected untouched = None
port_affected (fill p ws) = Some p
port_affected (mark p x) = Some p
port_affected (opened a p code sink i limit) = Some p
port_affected (closed a p) = Some p

-- the port whose status bits a call sets: that whose wait is over in quiet time, else the one that the call's effect concerns
abbrev pub finished_as : List Call → Happening → Effect → Option ℕ
finished_as past (hears a b) e = port_affected e
finished_as past (passes n) e = over (awaited past n) (waiting_port past)
finished_as past (sets t) e = port_affected e
finished_as past (changes f) e = port_affected e

-- the port whose status bits a call sets, after a past
unfoldable pub finished : List Call → Call → Option ℕ
finished past c = finished_as past (happening c) (effect c (after past))

-- the port whose status bits may differ, after port f finished an exchange
abbrev pub settle : Option ℕ → Option ℕ → Option ℕ
settle None o = o
settle (Some p) None = None
settle (Some p) (Some q) = cond (eqb p q) None (Some q)

-- of the ports, at first o, that which is still in doubt after these calls
unfoldable pub doubtful_port : List Call → Option ℕ → List Call → Option ℕ
doubtful_port past o [] = o
doubtful_port past o (c ∷ calls) = settle (finished (calls ++ past) c) (doubtful_port past o calls)
