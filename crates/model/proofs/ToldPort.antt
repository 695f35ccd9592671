-- What the past tells of the port at an address, with its number. The demands speak of what its address shows, without it. Assumes
-- nothing.
use Prim.Native.Nat.{ℕ, ◌%◌}
use mathlib.Core.Path.{◌≡◌, refl}
use mathlib.Core.List.{List}
use Rattle.std.specs.Prelude.{Option, None, Some}
use lib.ListN.{length}
use Rattle.model.specs.Ports.{Standing, viewed}
use Rattle.model.specs.Calls.{Call}
use Rattle.model.specs.Past.{Opening, last_of, fillings, told_view}

-- an opened port that shows these words and has so many fills
abbrev pub standing_with : Opening → Option (List ℕ) → ℕ → Standing
standing_with o ws n =
    record { port = o.port; word = o.word; sink = o.sink; interrupt = o.interrupt; shows = ws; fills = n; limit = o.limit }

-- it shows the last of the words that filled it, and its fills are their number modulo 65,536
abbrev pub told_standing : List Call → ℕ → Option Opening → Option Standing
told_standing past a None = None
told_standing past a (Some o) = Some (standing_with o (last_of (fillings past a o)) (length (fillings past a o) % 65536))

-- its address shows what the past tells of the address
pub told_viewed : (past : List Call) (a : ℕ) (o : Option Opening) → viewed (told_standing past a o) ≡ told_view past a o
told_viewed past a None = refl
told_viewed past a (Some o) = refl
