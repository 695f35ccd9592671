-- The port program by its past: the accepted calls that the lines of an input make, and what document 01's demands 2 and 3 say of its output
-- by these calls alone. Assumes nothing.
use Rattle.std.specs.Prelude.{ℕ, zero, suc, ◌%◌, ◌≡◌, Bool, false, cond, List, [], ◌∷◌, ◌++◌, eqb, length}
use Rattle.std.specs.Prelude.{Option, None, Some}
use Rattle.port_digits.specs.Write.{decimal, commas}
use Rattle.model.specs.declared.Faults.{Faults}
use Rattle.model.specs.Ports.{code_of, is_held}
use Rattle.model.specs.Event.{spoken}
use Rattle.model.specs.Calls.{Call, hear, quiet, open_port, write_port, refusal}
use Rattle.model.specs.Past.{after, Opening, opening_of, Happening, hears, passes, sets, changes, happening, reply_in, last_of, fillings}
use Rattle.model.specs.StatusBits.{faults_told}
use Rattle.port_text.specs.Words.{w_state, w_fills, w_blocks, w_data, w_never, w_good, w_held, w_none}
use Rattle.port_text.specs.Report.{line_text, blocks_text, setup_text, refused_text, reply_text}
use Rattle.port_text.specs.Line.{Line, addr, fcode, index, dir, frame, quiet as quiet_line, write, malformed}
use Rattle.port_line.specs.declared.Setup.{Setup}
use Rattle.port_line.specs.Meaning.{setup, fresh_setup, due, whole}
use Rattle.port_run.specs.Printed.{text_lines, longest, line_in}

-- ---- the calls that the lines make

-- the call that a line makes, by the setup lines before it: the fourth opens the port that they describe, without a transfer interrupt and
-- with the limit 0; an event is heard alike on both lines
abbrev pub call_in : Line → Setup → Option Call
call_in (addr n) u = None
call_in (fcode n) u = None
call_in (dir sink) u = None
call_in (index n) u = Some (open_port u.addr n u.code u.sink 0 0)
call_in (frame h) u = Some (hear h h)
call_in (quiet_line n) u = Some (quiet n)
call_in (write a ws) u = Some (write_port a ws)
call_in malformed u = None

-- a past with that call, if there is one
abbrev pub added : Option Call → List Call → List Call
added None past = past
added (Some c) past = c ∷ past

-- a line stands in its place: setup lines in their order, events and writes where no port is described in part
abbrev pub in_place : Line → Setup → Bool
in_place (addr n) u = due 0 u
in_place (fcode n) u = due 1 u
in_place (dir sink) u = due 2 u
in_place (index n) u = due 3 u
in_place (frame h) u = whole u
in_place (quiet_line n) u = whole u
in_place (write a ws) u = whole u
in_place malformed u = false

-- the number that a call is refused with after a past, 0 for none
abbrev pub call_refusal : Option Call → List Call → ℕ
call_refusal None past = 0
call_refusal (Some c) past = refusal c (after past)

-- the number that a line is refused with: 7 TEXT out of its place, and in it what its call is refused with
abbrev pub line_refusal : Line → Setup → List Call → ℕ
line_refusal l u past = cond (in_place l u) (call_refusal (call_in l u) past) 7

-- which setup line is due after a line, and what the setup lines so far said; after an event only events and writes may come
abbrev pub setup_after : Line → Setup → Setup
setup_after (addr n) u = setup 1 n u.code u.sink
setup_after (fcode n) u = setup 2 u.addr n u.sink
setup_after (dir sink) u = setup 3 u.addr u.code sink
setup_after (index n) u = setup 0 u.addr u.code u.sink
setup_after (frame h) u = setup 4 u.addr u.code u.sink
setup_after (quiet_line n) u = setup 4 u.addr u.code u.sink
setup_after (write a ws) u = setup 4 u.addr u.code u.sink
setup_after malformed u = u

-- what an input comes to: the calls that its lines made, the newest first, and the number at which it was refused, 0 if it was not
pub record Course : Type 0 where
  pub past : List Call
  pub refusal : ℕ

-- such a course, by its parts
abbrev pub course : List Call → ℕ → Course
course past n = record { past = past; refusal = n }

-- line by line up to the first refusal, with room for so many bytes of each; a port that is described in part at the end is refused
unfoldable pub course_from : ℕ → List (List ℕ) → Setup → List Call → Course
course_from room [] u past = course past (cond (whole u) 0 7)
course_from room (t ∷ ts) u past =
    let l = line_in room t in
    let n = line_refusal l u past in
    cond (eqb n 0) (course_from room ts (setup_after l u) (added (call_in l u) past)) (course past n)

-- the whole input, from a fresh controller and cleared areas
unfoldable pub course_of : List ℕ → Course
course_of t = course_from longest (text_lines t) fresh_setup []

-- no port that stands open is supervised, so none is stale
abbrev pub Unsupervised : List Call → Type 0
Unsupervised past = (a : ℕ) (o : Opening) → opening_of past a ≡ Some o → o.limit ≡ 0

-- ---- what the past tells of a port

-- `state` is never where no words filled the port, and good or held where some did; of these two the status bits decide
abbrev pub state_told : Bool → Option (List ℕ) → List ℕ
state_told held None = w_never
state_told held (Some ws) = cond held w_held w_good

-- `data` has the words that filled the port last, or the word none
abbrev pub data_told : Option (List ℕ) → List ℕ
data_told None = w_none
data_told (Some ws) = commas ws

-- the eight lines of a port with these status bits that was opened at address a and then filled with these words, the newest first; good or
-- held, and `blocks`, go by the status bits
unfoldable pub lines_told : Faults → ℕ → Opening → List (List ℕ) → List ℕ
lines_told f a o filled =
    setup_text a (code_of o.word) o.sink o.port ++ line_text w_state (state_told (is_held f) (last_of filled))
    ++ line_text w_fills (decimal (length filled % 65536)) ++ line_text w_blocks (blocks_text f) ++ line_text w_data (data_told (last_of filled))

-- of an address where nothing was opened, or what was is closed, nothing
abbrev pub told_of_port : List Call → ℕ → Option Opening → List ℕ
told_of_port past a None = []
told_of_port past a (Some o) = lines_told (faults_told past a o) a o (fillings past a o)

-- the ports below an address, by rising address
unfoldable pub told_below : List Call → ℕ → List ℕ
told_below past zero = []
told_below past (suc a) = told_below past a ++ told_of_port past a (opening_of past a)

-- all open ports
unfoldable pub report_told : List Call → List ℕ
report_told past = told_below past 4096

-- ---- what the past tells of the whole output

-- the reply to an event
abbrev pub reply_said : List Call → Happening → List ℕ
reply_said past (hears a b) = reply_text (spoken (reply_in past a b))
reply_said past (passes n) = []
reply_said past (sets t) = []
reply_said past (changes f) = []

-- the replies, as they occur
unfoldable pub replies_told : List Call → List ℕ
replies_told [] = []
replies_told (c ∷ past) = replies_told past ++ reply_said past (happening c)

-- the replies, and then the open ports or the number of the refusal
unfoldable pub output_told : Course → List ℕ
output_told k = replies_told k.past ++ cond (eqb k.refusal 0) (report_told k.past) (refused_text k.refusal)
