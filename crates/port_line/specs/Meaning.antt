-- Document 01, "Numbers on either side": what a line does. All setup lines come first, four for each port; the fourth opens it. A line
-- that does not fit here is refused as a malformed one is. Assumes nothing.
use Rattle.std.specs.Prelude.{ℕ, Bool, false, cond, ◌||◌, List, [], eqb, Option}
use Rattle.host_ports.specs.Host.{port_areas}
use Rattle.port_digits.specs.Read.{cut}
use Rattle.port_digits.specs.Write.{Paper, paper, onto}
use Rattle.model.specs.Layout.{Areas}
use Rattle.model.specs.Event.{World, world}
use Rattle.model.specs.Host.{fresh_controller}
use Rattle.model.specs.Calls.{Call, hear, quiet, open_port, write_port, Outcome, outcome, port_refusal}
use Rattle.port_line.specs.declared.Setup.{Setup}
use Rattle.port_line.specs.declared.Stepped.{Stepped}
use Rattle.port_text.specs.Report.{reply_text}
use Rattle.port_text.specs.Line.{Line, addr, fcode, index, dir, frame, quiet as quiet_line, write, malformed, numbered}

-- ---- the state between two lines

-- which setup line comes next: 0 the address, 1 the F-code, 2 the direction, 3 the port number; 4: events have begun
abbrev pub setup : ℕ → ℕ → ℕ → Bool → Setup
setup stage a code sink = record { stage = stage; addr = a; code = code; sink = sink }

-- at first an address is due
unfoldable pub fresh_setup : Setup
fresh_setup = setup 0 0 0 false

-- the port that is being described, and the controller with the areas
pub record State : Type 0 where
  pub setup : Setup
  pub world : World

-- such a state, by its parts
abbrev pub state : Setup → World → State
state u s = record { setup = u; world = s }

-- the setup line of this number comes next
abbrev pub due : ℕ → Setup → Bool
due n u = eqb u.stage n

-- no port is described in part: an event may come, or the end
abbrev pub whole : Setup → Bool
whole u = due 0 u || due 4 u

-- ---- what a line does: the number of a refusal or 0, what is printed, and the state after it

-- what a line comes to
pub record Step : Type 0 where
  pub refusal : ℕ
  pub said : List ℕ
  pub next : State

-- such a step, by its parts
abbrev pub step_with : ℕ → List ℕ → State → Step
step_with n t s = record { refusal = n; said = t; next = s }

-- 7 TEXT
abbrev pub misplaced : State → Step
misplaced s = step_with 7 [] s

-- a setup line in its place
abbrev pub describes : Bool → Setup → State → Step
describes ok u s = cond ok (step_with 0 [] (state u s.world)) (misplaced s)

-- a call on the bus, after which only events may come
abbrev pub answered : Outcome → Setup → Step
answered o u = step_with o.refusal (reply_text o.reply) (state (setup 4 u.addr u.code u.sink) o.world)

-- a call of the host's on ports
abbrev pub hosted : Call → ℕ → State → Step
hosted c stage s =
    let u = s.setup in
    let m = s.world.areas in
    step_with (port_refusal c m) [] (state (setup stage u.addr u.code u.sink) (world s.world.controller (port_areas c m)))

-- each line by its kind: setup lines in their order, events and writes where no port is described in part
unfoldable pub meaning : Line → State → Step
meaning (addr n) s = describes (due 0 s.setup) (setup 1 n s.setup.code s.setup.sink) s
meaning (fcode n) s = describes (due 1 s.setup) (setup 2 s.setup.addr n s.setup.sink) s
meaning (dir b) s = describes (due 2 s.setup) (setup 3 s.setup.addr s.setup.code b) s
meaning (index n) s =
    cond (due 3 s.setup) (hosted (open_port s.setup.addr n s.setup.code s.setup.sink 0 0) 0 s) (misplaced s)
meaning (frame h) s = cond (whole s.setup) (answered (outcome (hear h h) s.world) s.setup) (misplaced s)
meaning (quiet_line n) s = cond (whole s.setup) (answered (outcome (quiet n) s.world) s.setup) (misplaced s)
meaning (write a ws) s = cond (whole s.setup) (hosted (write_port a ws) 4 s) (misplaced s)
meaning malformed s = misplaced s

-- a line that says a word
abbrev pub worded : (ℕ → Line) → Option ℕ → Line
worded f n = numbered (λ (v : ℕ). f (cut 65535 v)) n

-- ---- a step of the code, with the areas and the buffer that it leaves

-- what the code leaves of a line: the number of a refusal or 0, the state, and the buffer
pub record Ended : Type 0 where
  pub refusal : ℕ
  pub next : State
  pub out : Paper

-- before the first line
abbrev pub begun : Stepped
begun = record { refusal = 0; controller = fresh_controller; setup = fresh_setup; at = 0 }

-- what the next line finds
abbrev pub state_after : Areas → Stepped → State
state_after m s = state s.setup (world s.controller m)

-- a result of the code, with the areas and the bytes that it leaves
abbrev pub ended : Areas → List ℕ → Stepped → Ended
ended m o r = record { refusal = r.refusal; next = state_after m r; out = paper o r.at }

-- what is said is written
abbrev pub ended_by : Paper → Step → Ended
ended_by p x = record { refusal = x.refusal; next = x.next; out = onto p x.said }
