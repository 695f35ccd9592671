-- Document 01, "Numbers on either side", and document 02, W-206: what is printed: eight lines for each open port by rising address, replies
-- and refusals. Assumes nothing.
use Rattle.std.specs.Prelude.{ℕ, zero, suc, Bool, cond, List, [], ◌∷◌, ◌++◌, eqb, take}
use Rattle.port_digits.specs.Marks.{newline, semicolon, equals}
use Rattle.port_digits.specs.Write.{decimal, commas}
use Rattle.frames.specs.declared.Kind.{Kind}
use Rattle.frames.specs.declared.Kind.TheVariants.{Silence, Noise, Master, Slave}
use Rattle.frames.specs.declared.Hearing.{Hearing}
use Rattle.frames.specs.Hearing.{words_of}
use Rattle.model.specs.declared.Faults.{Faults}
use Rattle.model.specs.Answer.{Answer}
use Rattle.model.specs.Answer.{Never, Good, Held, Stale, Refused}
use Rattle.model.specs.Layout.{Areas, entry, port_at, flags_of, marks_number}
use Rattle.model.specs.Ports.{code_of}
use Rattle.model.specs.Calls.{asked, fetched}
use Rattle.port_text.specs.Words.{w_addr, w_fcode, w_dir, w_index, w_state, w_fills, w_blocks, w_data, w_reply, w_refused}
use Rattle.port_text.specs.Words.{w_sink, w_source, w_never, w_good, w_held, w_stale, w_none}

-- `key=`, before a value
abbrev pub key_text : List ℕ → List ℕ
key_text key = key ++ (equals ∷ [])

-- a line `key=value`
unfoldable pub line_text : List ℕ → List ℕ → List ℕ
line_text key value = key_text key ++ value ++ (newline ∷ [])

-- `dir` is sink or source
abbrev pub dir_text : Bool → List ℕ
dir_text sink = cond sink w_sink w_source

-- `state` never, good, held or stale; an open port is never refused
abbrev pub state_text : Answer → List ℕ
state_text Never = w_never
state_text Good = w_good
state_text Held = w_held
state_text Stale = w_stale
state_text (Refused n) = []

-- `data` the words, or the word none when never
abbrev pub data_text : Answer → List ℕ → List ℕ
data_text Never ws = w_none
data_text Good ws = commas ws
data_text Held ws = commas ws
data_text Stale ws = commas ws
data_text (Refused n) ws = commas ws

-- `blocks` the marks as a number
abbrev pub blocks_text : Faults → List ℕ
blocks_text f = decimal (marks_number f.wrong)

-- the setup lines of a port
abbrev pub setup_text : ℕ → ℕ → Bool → ℕ → List ℕ
setup_text a code sink p =
    line_text w_addr (decimal a) ++ line_text w_fcode (decimal code) ++ line_text w_dir (dir_text sink) ++ line_text w_index (decimal p)

-- the eight lines of the port p at address a
unfoldable pub text_of_port : Areas → ℕ → ℕ → List ℕ
text_of_port m a p =
    setup_text a (code_of (port_at m p).master) (flags_of (port_at m p).flags).sink p ++ line_text w_state (state_text (asked m a))
    ++ line_text w_fills (decimal (port_at m p).fills) ++ line_text w_blocks (blocks_text (flags_of (port_at m p).flags).faults)
    ++ line_text w_data (data_text (asked m a) (fetched m a))

-- of an address without a port nothing
unfoldable pub open_text : Areas → ℕ → List ℕ
open_text m a = cond (eqb (entry m a) 0) [] (text_of_port m a (entry m a))

-- the ports below an address, by rising address
unfoldable pub report_below : Areas → ℕ → List ℕ
report_below m zero = []
report_below m (suc a) = report_below m a ++ open_text m a

-- all open ports: addresses go up to 4,095
unfoldable pub report : Areas → List ℕ
report m = report_below m 4096

-- `refused=N`
unfoldable pub refused_text : ℕ → List ℕ
refused_text n = line_text w_refused (decimal n)

-- `reply=WORDS;CHECKS`, where the answer is a slave frame
abbrev pub spoken_text : Kind → Hearing → List ℕ
spoken_text Silence h = []
spoken_text Noise h = []
spoken_text Master h = []
spoken_text Slave h = key_text w_reply ++ commas (words_of h) ++ (semicolon ∷ []) ++ commas (take h.ends h.checks) ++ (newline ∷ [])

-- what is said of an answer: of a slave frame its line, of anything else nothing
unfoldable pub reply_text : Hearing → List ℕ
reply_text h = spoken_text h.kind h
