-- Document 01, "What one bus event does": a hearing for line A and one for line B. Document 02, W-201: the lines in the reply to a status
-- poll. Assumes nothing.
use Rattle.std.specs.Prelude.{ℕ, ◌+◌, ◌%◌, Bool, true, false, cond, not, ◌&&◌, List, [], ◌∷◌, eqb, ltb, length, get_or, replicate}
use Rattle.std.specs.Prelude.{Option, None, Some}
use Rattle.std.proofs.lemmas.List.Edits.{sets}
use Rattle.sequence.specs.Frame.{frame_checks}
use Rattle.frames.specs.declared.Kind.{Kind}
use Rattle.frames.specs.declared.Kind.TheVariants.{Silence, Noise, Master as MasterFrame, Slave as SlaveFrame}
use Rattle.frames.specs.declared.Hearing.{Hearing}
use Rattle.frames.specs.declared.Judgement.{Judgement}
use Rattle.frames.specs.declared.Judgement.TheVariants.{Sound, Unsound as Bad}
use Rattle.frames.specs.Hearing.{words_of}
use Rattle.frames.specs.Size.{expected_of}
use Rattle.frames.specs.Judge.{judged_master, judged_slave, is_sound}
use Rattle.interrupts.specs.declared.Group.{Group}
use Rattle.interrupts.specs.Group.{raised}
use Rattle.interrupts.specs.Names.{EMF, ESF, DMF, DSF, SFC, FEV, data_transfer}
use Rattle.model.specs.declared.Exchange.{Exchange}
use Rattle.model.specs.declared.Exchange.TheVariants.{Idle, Waiting, Done}
use Rattle.model.specs.declared.Times.{Times}
use Rattle.model.specs.declared.Lines.{Lines}
use Rattle.model.specs.declared.Counts.{Counts}
use Rattle.model.specs.declared.Device.{Device}
use Rattle.model.specs.declared.Controller.{Controller}
use Rattle.model.specs.declared.Heard.{Heard}
use Rattle.model.specs.declared.Heard.TheVariants.{Nothing, Unsound, Master, Reply, Stray}
use Rattle.model.specs.Layout.{Areas}
use Rattle.model.specs.Ports.{code_of, address_of, has_ports, Standing, standing, Effect, untouched, fill, mark, reply_bad}
use Rattle.model.specs.Lines.{trusted, observed, exempt, before_rule3, ruled, status_with}

-- the controller and the lent areas
pub record World : Type 0 where
  pub controller : Controller
  pub areas : Areas

abbrev pub world : Controller → Areas → World
world c m = record { controller = c; areas = m }

-- ---- what was heard

abbrev pub as_master : Judgement → Hearing → Heard
as_master Sound h = Master (get_or h.words 0 0)
as_master (Bad wrong) h = Unsound

abbrev pub as_slave : Exchange → Hearing → Heard
as_slave Idle h = Stray
as_slave (Waiting w) h = Reply w (judged_slave (code_of w) h)
as_slave Done h = Stray

-- silence or noise of the trusted line is ignored; a master frame is judged, and a slave frame while a master word is waited for
abbrev pub as_heard : Kind → Exchange → Hearing → Heard
as_heard Silence x h = Nothing
as_heard Noise x h = Nothing
as_heard MasterFrame x h = as_master (judged_master h) h
as_heard SlaveFrame x h = as_slave x h

unfoldable pub heard : Exchange → Hearing → Heard
heard x h = as_heard h.kind x h

-- ---- our ports

-- the port that is open for a master word, exactly this one, if its F-code has ports
abbrev pub open_for : ℕ → Option Standing → Option Standing
open_for w None = None
open_for w (Some v) = cond (eqb v.word w) (Some v) None

unfoldable pub port_for : Areas → ℕ → Option Standing
port_for m w = cond (has_ports (code_of w)) (open_for w (standing m (address_of w))) None

abbrev pub if_sink : Option Standing → Option Standing
if_sink None = None
if_sink (Some v) = cond v.sink (Some v) None

-- a SINK port with the word
abbrev pub sink_for : Areas → ℕ → Option Standing
sink_for m w = if_sink (port_for m w)

-- the words of a filled SRC port with the word
abbrev pub if_source : Option Standing → Option (List ℕ)
if_source None = None
if_source (Some v) = cond v.sink None v.shows

abbrev pub source_for : Areas → ℕ → Option (List ℕ)
source_for m w = if_source (port_for m w)

-- ---- what a sound master frame is met with

-- a status poll, F-code 15, to our address
abbrev pub polls_us : Device → ℕ → Bool
polls_us d w = eqb (code_of w) 15 && eqb (address_of w) d.address

-- our device with these lines in its status word
abbrev pub device_with : Lines → Device → Device
device_with l d = record { address = d.address; set = d.set; status = status_with l d.status }

-- what we reply: the valid words of the source port, or the status word, if the host set one
abbrev pub own_words : Device → ℕ → Option (List ℕ) → Option (List ℕ)
own_words d w None = cond (polls_us d w && d.set) (Some (d.status ∷ [])) None
own_words d w (Some ws) = Some ws

abbrev pub if_expected : Option ℕ → Option (List ℕ) → Option (List ℕ)
if_expected (Some n) r = r
if_expected None r = None

-- the words that we answer a sound master frame with, if we do; an unfilled source or an unset status stays silent
unfoldable pub answer_to : Device → Areas → ℕ → Option (List ℕ)
answer_to d m w = if_expected (expected_of (code_of w)) (own_words d w (source_for m w))

abbrev pub awaits : Option ℕ → ℕ → Option (List ℕ) → Exchange
awaits None w r = Idle
awaits (Some n) w None = Waiting w
awaits (Some n) w (Some ws) = Done

-- codes 5, 6, 7, 10, 11: idle; a reply of ours: done; otherwise waiting
unfoldable pub exchange_for : Device → Areas → ℕ → Exchange
exchange_for d m w = awaits (expected_of (code_of w)) w (answer_to d m w)

-- ---- a reply, as a line hears it

-- sixteen words that begin with these
abbrev pub padded : List ℕ → List ℕ
padded ws = sets (replicate 16 0) 0 ws

-- these words with these check bytes and no quality mark
abbrev pub unmarked : Kind → List ℕ → List ℕ → ℕ → Hearing
unmarked k ws checks n =
    record { kind = k; words = padded ws; size = length ws; checks = checks; ends = n; sqe = false; violation = false; alo = false }

-- a slave frame of these words with its check bytes
unfoldable pub sent : List ℕ → Hearing
sent ws = unmarked SlaveFrame ws (frame_checks ws).bytes (frame_checks ws).count

-- no reply
unfoldable pub silent : Hearing
silent = unmarked Silence [] (replicate 4 0) 0

abbrev pub spoken : Option (List ℕ) → Hearing
spoken None = silent
spoken (Some ws) = sent ws

-- ---- what an event brings

-- both counts of times return to 0, and the chosen reply time is adopted
abbrev pub times_restarted : Times → Times
times_restarted t = record { since = 0; line = 0; chosen = t.chosen; adopted = t.chosen }

-- a judged frame: FC counts it modulo 65,536; EC counts it if it is unsound, and stops at 65,535
abbrev pub judged_one : Bool → Counts → Counts
judged_one unsound n =
    record { fc = (n.fc + 1) % 65536; ec = cond (unsound && ltb n.ec 65535) (n.ec + 1) n.ec }

-- bits raised one after the other
abbrev pub raise_all : List ℕ → Group → Group
raise_all [] g = g
raise_all (b ∷ bs) g = raise_all bs (raised g b)

abbrev pub when : Bool → ℕ → List ℕ
when true b = b ∷ []
when false b = []

-- waiting with an equal word
abbrev pub waits_for : Exchange → ℕ → Bool
waits_for Idle w = false
waits_for (Waiting v) w = eqb v w
waits_for Done w = false

abbrev pub is_done : Exchange → Bool
is_done Idle = false
is_done (Waiting w) = false
is_done Done = true

-- a data transfer interrupt, 0 for none
abbrev pub transfer_bit : ℕ → List ℕ
transfer_bit i = when (not (eqb i 0)) (data_transfer i)

abbrev pub interrupt_of : Option Standing → List ℕ
interrupt_of None = []
interrupt_of (Some v) = transfer_bit v.interrupt

-- the slave frame that is judged: ESF if it is unsound, else the interrupt of the port that it fills
abbrev pub raised_by_reply : Areas → ℕ → Judgement → List ℕ
raised_by_reply m w Sound = interrupt_of (sink_for m w)
raised_by_reply m w (Bad wrong) = ESF ∷ []

-- a sound slave frame fills the sink port with the waiting word; of an unsound one only the status bits change
abbrev pub taken : Option Standing → Judgement → Hearing → Effect
taken None j h = untouched
taken (Some v) Sound h = fill v.port (words_of h)
taken (Some v) (Bad wrong) h = mark v.port (reply_bad wrong h.sqe h.alo)

pub record Brings : Type 0 where
  pub exchange : Exchange
  pub times : Times
  -- the bits that are raised in group 0
  pub raises : List ℕ
  -- whether a judged frame was unsound, if one was judged
  pub judged : Option Bool
  -- the occasions of rules 1 and 3
  pub disturbs : Bool
  pub polls : Bool
  -- what becomes of the areas, and the words that we reply, if we do
  pub effect : Effect
  pub answer : Option (List ℕ)

-- what no port of ours plays a part in: the times and the areas stay, and nothing is replied
abbrev pub aside : Controller → Exchange → List ℕ → Option Bool → Bool → Brings
aside c x bits unsound disturbed =
    record {
      exchange = x;
      times = c.times;
      raises = bits;
      judged = unsound;
      disturbs = disturbed;
      polls = false;
      effect = untouched;
      answer = None;
    }

-- One equation for each thing that the trusted line may have heard. Nothing: silence or noise is ignored. Unsound: an unsound master
-- frame, EMF and idle; it disturbs. Master: a sound master frame, DMF if an equal word is waited for; a poll is answered with the lines in
-- the status word as rule 3 finds them. Reply: a slave frame while waiting, SFC and done; it disturbs if it is unsound and the waiting code
-- is not 9, 13 or 14. Stray: a slave frame while idle or done, SFC, and DSF too if done and less than the reply time has passed since the
-- last sound master; it is not judged
abbrev pub brings : Controller → Areas → Hearing → Hearing → Heard → Brings
brings c m t o Nothing = aside c c.exchange [] None false
brings c m t o Unsound = aside c Idle (EMF ∷ []) (Some true) true
brings c m t o (Master w) =
    record {
      exchange = exchange_for c.device m w;
      times = times_restarted c.times;
      raises = when (waits_for c.exchange w) DMF;
      judged = Some false;
      disturbs = false;
      polls = polls_us c.device w;
      effect = untouched;
      answer = answer_to (device_with (before_rule3 false c.lines t o) c.device) m w;
    }
brings c m t o (Reply w j) =
    record {
      exchange = Done;
      times = c.times;
      raises = SFC ∷ raised_by_reply m w j;
      judged = Some (not (is_sound j));
      disturbs = not (is_sound j) && not (exempt (code_of w));
      polls = false;
      effect = taken (sink_for m w) j t;
      answer = None;
    }
brings c m t o Stray =
    aside c c.exchange (SFC ∷ when (is_done c.exchange && ltb c.times.since c.times.adopted) DSF) None false

-- the counts after it, and FEV when FC returns to 0
abbrev pub counting : Option Bool → Counts → Counts
counting None n = n
counting (Some unsound) n = judged_one unsound n

abbrev pub overflow : Option Bool → Counts → List ℕ
overflow None n = []
overflow (Some unsound) n = when (eqb (judged_one unsound n).fc 0) FEV

abbrev pub brought : Brings → Controller → Hearing → Hearing → Controller
brought e c t o =
    record {
      exchange = e.exchange;
      times = e.times;
      lines = ruled e.disturbs e.polls c.lines t o;
      counts = counting e.judged c.counts;
      group0 = raise_all e.raises c.group0;
      group1 = raise_all (overflow e.judged c.counts) c.group1;
      device = c.device;
      phase = c.phase;
    }

-- ---- the event: the trusted line is the one at its start

-- what the trusted line heard
unfoldable pub heard_by : Controller → Hearing → Hearing → Heard
heard_by c a b = heard c.exchange (trusted c.lines a b)

-- what it brings
unfoldable pub event : World → Hearing → Hearing → Brings
event s a b = let c = s.controller in brings c s.areas (trusted c.lines a b) (observed c.lines a b) (heard_by c a b)

unfoldable pub hear_controller : World → Hearing → Hearing → Controller
hear_controller s a b = let c = s.controller in brought (event s a b) c (trusted c.lines a b) (observed c.lines a b)

unfoldable pub hear_effect : World → Hearing → Hearing → Effect
hear_effect s a b = (event s a b).effect

-- the words that we reply, if we do
unfoldable pub hear_answer : World → Hearing → Hearing → Option (List ℕ)
hear_answer s a b = (event s a b).answer
