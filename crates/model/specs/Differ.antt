-- Document 01, "Damage, as demand 3 means it": what may differ after a stretch of damage, and until when. "Afterwards these may differ:
-- status bits of the port then waiting until its next finished exchange, good against held, line state, counters, interrupts, status
-- poll replies. Host calls after it are the same in both runs." Document 02, W-205: "ages may change during damage and, with good against
-- stale, differ after it". Pasts have the newest call first. Assumes nothing.
use Rattle.std.specs.Prelude.{ℕ, ◌≡◌, Bool, true, false, cond, not, ◌&&◌, List, [], ◌∷◌, ◌++◌, eqb}
use Rattle.std.specs.Prelude.{Option, None, Some}
use Rattle.frames.specs.declared.Hearing.{Hearing}
use Rattle.model.specs.Answer.{Answer}
use Rattle.model.specs.Answer.{Never, Good, Held, Stale, Refused}
use Rattle.model.specs.Layout.{Areas, entry, port_at}
use Rattle.model.specs.Ports.{code_of, address_of, has_ports, view}
use Rattle.model.specs.Event.{World}
use Rattle.model.specs.Quiet.{is_some}
use Rattle.model.specs.Calls.{Call, hear, answer}
use Rattle.model.specs.Past.{Change, keeps, opens, closes, writes, Happening, hears, passes, sets, changes, happening, on_trusted}
use Rattle.model.specs.Past.{is_slave, first_word, is_word, awaited, Opening, opening_of}
use Rattle.model.specs.Taken.{ageless, StatusAndAges}
use Rattle.model.specs.Damage.{SoundMaster, HeardAlike}

-- ---- the calls after a stretch

-- the host did it
abbrev pub ByHost : Happening → Type 0
ByHost (hears a b) = ⊥
ByHost (passes n) = ⊥
ByHost (sets t) = Unit
ByHost (changes f) = Unit

-- a call of the host
abbrev pub Hosts : Call → Type 0
Hosts c = ByHost (happening c)

abbrev pub AllHosts : List Call → Type 0
AllHosts [] = Unit
AllHosts (c ∷ more) = Hosts c × AllHosts more

-- any host calls, then a sound master frame that both lines hear, then any calls that both lines hear alike
pub data Follows : List Call → Type 0 where
  ended : {x : Hearing} {between : List Call} → SoundMaster x → AllHosts between → Follows (hear x x ∷ between)
  then : {c : Call} {calls : List Call} → HeardAlike c → Follows calls → Follows (c ∷ calls)

-- ---- the address that waits, and the addresses whose exchange a call finishes, from the past alone

-- a sink stands open with exactly the master word w
abbrev pub is_sink_of : ℕ → Option Opening → Bool
is_sink_of w None = false
is_sink_of w (Some o) = eqb o.word w && o.sink

abbrev pub sink_at : List Call → Option ℕ → Option ℕ
sink_at past None = None
sink_at past (Some w) = cond (is_sink_of w (opening_of past (address_of w))) (Some (address_of w)) None

-- the address of the open sink whose master word is waited for
unfoldable pub waiting_address : List Call → Option ℕ
waiting_address past = sink_at past (awaited past 0)

-- opening, closing and writing set the status bits
abbrev pub touches : Change → Bool
touches keeps = false
touches (opens x) = true
touches closes = true
touches (writes ws) = true

-- the exchange of the port at address a finishes with a slave frame, or when the reply time is reached; a change of the address sets the
-- status bits too
abbrev pub finished_by : List Call → Happening → ℕ → Bool
finished_by past (hears x y) a = is_slave (on_trusted past x y).kind && is_word (waiting_address past) a
finished_by past (passes n) a = not (is_some (awaited past n)) && is_word (waiting_address past) a
finished_by past (sets t) a = false
finished_by past (changes f) a = touches (f a)

unfoldable pub finishes : List Call → Call → ℕ → Bool
finishes past c a = finished_by past (happening c) a

-- an address stays in doubt until its exchange is finished
abbrev pub remains : (ℕ → Bool) → Option ℕ → Option ℕ
remains f None = None
remains f (Some a) = cond (f a) None (Some a)

-- of the addresses, at first o, that which is still in doubt after these calls
unfoldable pub doubtful : List Call → Option ℕ → List Call → Option ℕ
doubtful past o [] = o
doubtful past o (c ∷ calls) = remains (finishes (calls ++ past) c) (doubtful past o calls)

-- ---- what may differ

-- n is m, but for ages, and for status bits of the port at address o, if there is one
pub record ButStatus (o : Option ℕ) (m n : Areas) : Type 0 where
  pub only : StatusAndAges m n
  pub same : (p : ℕ) → ((a : ℕ) → o ≡ Some a → entry m a ≡ p → ⊥) → ageless (port_at n p) ≡ ageless (port_at m p)

-- an answer, good against stale aside
abbrev pub stale_aside : Answer → Answer
stale_aside Never = Never
stale_aside Good = Good
stale_aside Held = Held
stale_aside Stale = Good
stale_aside (Refused n) = Refused n

-- Two worlds that differ in no more than documents 01 and 02 allow. The same are: exchange, the times with the chosen reply time, device
-- address and status word, the areas but for ages and for status bits of the port at address o, and the reply to every frame that both lines
-- hear, status polls aside. So held against good or stale may differ at that address alone, good against stale at any; lines, counts, the
-- phase and the two interrupt groups may differ.
pub record MayDiffer (o : Option ℕ) (u s : World) : Type 0 where
  pub exchange : s.controller.exchange ≡ u.controller.exchange
  pub times : s.controller.times ≡ u.controller.times
  pub device : s.controller.device ≡ u.controller.device
  pub areas : ButStatus o u.areas s.areas
  pub replies : (y : Hearing) → (code_of (first_word y) ≡ 15 → ⊥) → answer (hear y y) s ≡ answer (hear y y) u

-- Demand 3: every address shows the same words and has as many fills, and every data reply is the same.
pub record Unseen (s u : World) : Type 0 where
  pub views : (a : ℕ) → view s.areas a ≡ view u.areas a
  pub replies : (y : Hearing) → has_ports (code_of (first_word y)) ≡ true → answer (hear y y) s ≡ answer (hear y y) u
