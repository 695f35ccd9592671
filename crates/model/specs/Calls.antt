-- Document 01, "What callers are told": every call, when each number is given, in the stated order, and what an accepted call does.
-- Assumes nothing.
use Rattle.std.specs.Prelude.{ℕ, ◌*◌, ◌≡◌, ◌⊎◌, Bool, true, false, cond, not, ◌&&◌, ◌||◌, List, [], ◌∷◌, eqb, ltb, length, replicate}
use Rattle.std.specs.Prelude.{Option, None, Some}
use Rattle.frames.specs.declared.Hearing.{Hearing}
use Rattle.frames.specs.Hearing.{in_range}
use Rattle.model.specs.Answer.{Answer}
use Rattle.model.specs.Answer.{Never, Good, Held, Stale, Refused}
use Rattle.model.specs.declared.Heard.{Heard}
use Rattle.model.specs.declared.Heard.TheVariants.{Nothing, Unsound, Master, Reply, Stray}
use Rattle.model.specs.Layout.{Areas, areas, stride, tables_fit, pages_fit, areas_fit, entry, port_at, flags_of}
use Rattle.model.specs.Ports.{code_of, address_of, has_ports, size_of, well_formed, valid_words, state_of, Effect, untouched, fill, opened}
use Rattle.model.specs.Ports.{closed, apply}
use Rattle.model.specs.Event.{World, world, heard_by, hear_controller, hear_effect, hear_answer, spoken}
use Rattle.model.specs.Quiet.{ticks, due_within}
use Rattle.model.specs.Host.{fresh_controller, Setting, setting_out, tell}

pub data Call : Type 0 where
  -- a bus event: what line A and what line B heard
  hear : (a b : Hearing) → Call
  -- n quiet bit times
  quiet : (n : ℕ) → Call
  -- the host's calls on ports; reading is asking, since fetching answers no number (see `fetched`)
  open_port : (a p code : ℕ) (sink : Bool) (interrupt limit : ℕ) → Call
  close_port : (a : ℕ) → Call
  write_port : (a : ℕ) (ws : List ℕ) → Call
  read_port : (a : ℕ) → Call
  -- the host's settings of the controller
  setting : Setting → Call

-- ---- when each number is given

-- the tests, by their names
pub data TestName : Type 0 where
  bad_area out_of_range bad_entry no_port is_taken bad_words wrong_side wrong_size : TestName
  deriving Discrete as name-discrete

-- 1 AREA, 2 RANGE, 3 NOPORT, 4 TAKEN, 5 SIDE, 6 DAMAGED
abbrev pub refusal_number : TestName → ℕ
refusal_number bad_area = 1
refusal_number out_of_range = 2
refusal_number bad_entry = 6
refusal_number no_port = 3
refusal_number is_taken = 4
refusal_number bad_words = 6
refusal_number wrong_side = 5
refusal_number wrong_size = 2

pub record Test : Type 0 where
  pub name : TestName
  pub given : Bool

abbrev pub test : TestName → Bool → Test
test n b = record { name = n; given = b }

-- an area has another length
abbrev pub area_test : Areas → Test
area_test m = test bad_area (not (areas_fit m))

-- the index table or the port words have another length: of asking, which is lent these two
abbrev pub table_test : Areas → Test
table_test m = test bad_area (not (tables_fit m))

-- an argument is out of range
abbrev pub range_test : Bool → Test
range_test out = test out_of_range out

-- an index entry needed is above 255
abbrev pub entry_above : Areas → Option ℕ → Bool
entry_above m None = false
entry_above m (Some a) = ltb 255 (entry m a)

abbrev pub entry_test : Areas → Option ℕ → Test
entry_test m o = test bad_entry (entry_above m o)

-- the index entry is 0
abbrev pub no_port_test : Areas → ℕ → Test
no_port_test m a = test no_port (eqb (entry m a) 0)

-- the address has an entry, or word 1 of that port is not 0
abbrev pub taken_test : Areas → ℕ → ℕ → Test
taken_test m a p = test is_taken (not (eqb (entry m a) 0) || not (eqb (port_at m p).flags 0))

-- port words needed are not well formed
abbrev pub ill_formed : Areas → Option ℕ → Bool
ill_formed m None = false
ill_formed m (Some a) = not (eqb (entry m a) 0) && not (well_formed a (port_at m (entry m a)))

abbrev pub words_test : Areas → Option ℕ → Test
words_test m o = test bad_words (ill_formed m o)

-- the host writes to a sink
abbrev pub side_test : Areas → ℕ → Test
side_test m a = test wrong_side (flags_of (port_at m (entry m a)).flags).sink

-- a write has not the port's size
abbrev pub size_test : Areas → ℕ → List ℕ → Test
size_test m a ws = test wrong_size (not (eqb (length ws) (size_of (code_of (port_at m (entry m a)).master))))

-- ---- the order: 1, 2, 6 for the entry, 3 or 4, 6 for the port words (not on opening), 5, 2 for the size of a write

-- after 1, a host's call that needs a port, and what it asks of it
abbrev pub at_port : Areas → ℕ → List Test → List Test
at_port m a more = range_test (ltb 4095 a) ∷ entry_test m (Some a) ∷ no_port_test m a ∷ words_test m (Some a) ∷ more

-- address 0 to 4095, port 1 to 255, F-code 0 to 4 and interrupt 0 to 7 on opening; a limit is any word
abbrev pub open_out : ℕ → ℕ → ℕ → ℕ → Bool
open_out a p code i = ltb 4095 a || eqb p 0 || ltb 255 p || ltb 4 code || ltb 7 i

-- a bus event and quiet time need an entry only for codes 0 to 4: the address of a master word, if its F-code has ports. To them entry
-- 0 means no port
abbrev pub needed_for : Option ℕ → Option ℕ
needed_for None = None
needed_for (Some w) = cond (has_ports (code_of w)) (Some (address_of w)) None

abbrev pub on_bus : Areas → Bool → Option ℕ → List Test
on_bus m out w = area_test m ∷ range_test out ∷ entry_test m (needed_for w) ∷ words_test m (needed_for w) ∷ []

-- the word of a sound master, or the one waited for when a slave is judged
abbrev pub word_of_heard : Heard → Option ℕ
word_of_heard Nothing = None
word_of_heard Unsound = None
word_of_heard (Master w) = Some w
word_of_heard (Reply w j) = Some w
word_of_heard Stray = None

-- both hearings are tested; asking is lent two of the areas, a setting none
abbrev pub tests : Call → World → List Test
tests (hear a b) s = on_bus s.areas (not (in_range a) || not (in_range b)) (word_of_heard (heard_by s.controller a b))
tests (quiet n) s = on_bus s.areas (ltb 65535 n) (due_within n s)
tests (open_port a p code sink i limit) s =
    area_test s.areas ∷ range_test (open_out a p code i) ∷ entry_test s.areas (Some a) ∷ taken_test s.areas a p ∷ []
tests (close_port a) s = area_test s.areas ∷ at_port s.areas a []
tests (write_port a ws) s = area_test s.areas ∷ at_port s.areas a (side_test s.areas a ∷ size_test s.areas a ws ∷ [])
tests (read_port a) s = table_test s.areas ∷ at_port s.areas a []
tests (setting t) s = range_test (setting_out t) ∷ []

-- the number of the first test that holds, 0 for none
abbrev pub first_of : List Test → ℕ
first_of [] = 0
first_of (t ∷ ts) = cond t.given (refusal_number t.name) (first_of ts)

unfoldable pub refusal : Call → World → ℕ
refusal c s = first_of (tests c s)

-- no test of a list holds
abbrev pub Silent : List Test → Type 0
Silent [] = Unit
Silent (t ∷ ts) = (t.given ≡ false) × Silent ts

-- the first test of a list that holds has this number
pub data First : List Test → ℕ → Type 0 where
  here : {t : Test} {ts : List Test} → t.given ≡ true → First (t ∷ ts) (refusal_number t.name)
  later : {t : Test} {ts : List Test} {n : ℕ} → t.given ≡ false → First ts n → First (t ∷ ts) n

-- ---- an accepted call

-- what it does to the areas at once; quiet time does something with each bit time, see `ticks`
unfoldable pub effect : Call → World → Effect
effect (hear a b) s = hear_effect s a b
effect (quiet n) s = untouched
effect (open_port a p code sink i limit) s = opened a p code sink i limit
effect (close_port a) s = closed a (entry s.areas a)
effect (write_port a ws) s = fill (entry s.areas a) ws
effect (read_port a) s = untouched
effect (setting t) s = untouched

-- what becomes of controller and areas
unfoldable pub step : Call → World → World
step (hear a b) s = world (hear_controller s a b) (apply (effect (hear a b) s) s.areas)
step (quiet n) s = ticks n s
step (open_port a p code sink i limit) s = world s.controller (apply (effect (open_port a p code sink i limit) s) s.areas)
step (close_port a) s = world s.controller (apply (effect (close_port a) s) s.areas)
step (write_port a ws) s = world s.controller (apply (effect (write_port a ws) s) s.areas)
step (read_port a) s = s
step (setting t) s = world (tell t s.controller) s.areas

-- the words that it replies, if it does
unfoldable pub answer : Call → World → Option (List ℕ)
answer (hear a b) s = hear_answer s a b
answer (quiet n) s = None
answer (open_port a p code sink i limit) s = None
answer (close_port a) s = None
answer (write_port a ws) s = None
answer (read_port a) s = None
answer (setting t) s = None

-- ---- every call: a refusal returns its number and no reply, and leaves controller and areas unchanged

pub record Outcome : Type 0 where
  pub refusal : ℕ
  pub reply : Hearing
  pub world : World

abbrev pub outcome_of : ℕ → Call → World → Outcome
outcome_of n c s =
    record {
      refusal = n;
      reply = cond (eqb n 0) (spoken (answer c s)) (spoken None);
      world = cond (eqb n 0) (step c s) s;
    }

unfoldable pub outcome : Call → World → Outcome
outcome c s = outcome_of (refusal c s) c s

-- ---- the host's calls on ports, in which the controller plays no part

abbrev pub fresh_over : Areas → World
fresh_over m = world fresh_controller m

-- the number that a call is refused with, 0 where it is accepted
unfoldable pub port_refusal : Call → Areas → ℕ
port_refusal c m = refusal c (fresh_over m)

-- ---- reading

-- asking answers never, good, held or stale, or a refusal, from the index table and the port words alone
unfoldable pub asked : Areas → ℕ → Answer
asked m a =
    cond (eqb (port_refusal (read_port a) m) 0) (state_of (port_at m (entry m a))) (Refused (port_refusal (read_port a) m))

-- document 01's number and word for each answer
abbrev pub refusal_of : Answer → ℕ
refusal_of Never = 0
refusal_of Good = 0
refusal_of Held = 0
refusal_of Stale = 0
refusal_of (Refused n) = n

-- asking refuses, or answers never
abbrev pub ShowsNone : Answer → Type 0
ShowsNone x = (x ≡ Never) ⊎ ((n : ℕ) × (x ≡ Refused n))

-- the words where an answer shows them, else none
abbrev pub part_for : Answer → List ℕ → List ℕ
part_for Never ws = []
part_for Good ws = ws
part_for Held ws = ws
part_for Stale ws = ws
part_for (Refused n) ws = []

-- fetching hands back the port's own part of the valid page; it is empty exactly when asking refuses or answers never, or a page has
-- another length
unfoldable pub fetched : Areas → ℕ → List ℕ
fetched m a = cond (pages_fit m) (part_for (asked m a) (valid_words m (entry m a))) []

-- ---- the start of a run: a fresh controller and cleared areas

unfoldable pub cleared_areas : Areas
cleared_areas = areas (replicate 4096 0) (replicate (stride * 256) 0) (replicate 4096 0) (replicate 4096 0)

unfoldable pub start : World
start = world fresh_controller cleared_areas
