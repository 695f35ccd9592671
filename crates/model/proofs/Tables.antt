-- What one bus event does, part by part, as the code computes it: `brings` cut the other way, and that it is the same. The contracts of
-- the crates above cite these tables; for belief `brings` is enough. Assumes nothing.
use Prim.Native.Nat.{ℕ}
use mathlib.Core.Bool.{Bool, true, false, not, ◌&&◌}
use mathlib.Core.List.{List, [], ◌∷◌}
use Rattle.std.specs.Prelude.{Option, None}
use lib.Dec.{eqb, ltb}
use mathlib.Core.Path.{◌≡◌, refl}
use Rattle.frames.specs.Judge.{is_sound}
use Rattle.frames.specs.declared.Hearing.{Hearing}
use Rattle.interrupts.specs.Names.{EMF, DMF, DSF, SFC, FEV}
use Rattle.model.specs.declared.Exchange.{Exchange}
use Rattle.model.specs.declared.Exchange.TheVariants.{Idle, Done}
use Rattle.model.specs.declared.Times.{Times}
use Rattle.model.specs.declared.Lines.{Lines}
use Rattle.model.specs.declared.Counts.{Counts}
use Rattle.model.specs.declared.Device.{Device}
use Rattle.model.specs.declared.Controller.{Controller}
use Rattle.model.specs.declared.Heard.{Heard}
use Rattle.model.specs.declared.Heard.TheVariants.{Nothing, Unsound, Master, Reply, Stray}
use Rattle.model.specs.Layout.{Areas}
use Rattle.model.specs.Ports.{code_of, Effect, untouched}
use Rattle.model.specs.Lines.{exempt, trusted, observed, rule3, before_rule3}
use Rattle.model.specs.Event.{sink_for, polls_us, device_with, answer_to, exchange_for, times_restarted, judged_one, raise_all, when, waits_for}
use Rattle.model.specs.Event.{is_done, raised_by_reply, taken, World, brings, brought, heard_by, event, hear_controller}
use Rattle.model.specs.Event.{hear_effect, hear_answer}

-- the words that we reply, if we do: a sound master frame alone is answered
abbrev pub answer_of : Device → Areas → Heard → Option (List ℕ)
answer_of d m Nothing = None
answer_of d m Unsound = None
answer_of d m (Master w) = answer_to d m w
answer_of d m (Reply w j) = None
answer_of d m Stray = None

-- unsound master: idle; sound master: as above; slave while waiting: done
abbrev pub exchange_after : Device → Areas → Exchange → Heard → Exchange
exchange_after d m x Nothing = x
exchange_after d m x Unsound = Idle
exchange_after d m x (Master w) = exchange_for d m w
exchange_after d m x (Reply w j) = Done
exchange_after d m x Stray = x

-- sound master: the time since the last sound master and the line count return to 0, and the chosen reply time is adopted
abbrev pub times_after : Times → Heard → Times
times_after t Nothing = t
times_after t Unsound = t
times_after t (Master w) = times_restarted t
times_after t (Reply w j) = t
times_after t Stray = t

-- FC counts every judged frame, EC the unsound ones
abbrev pub counts_after : Counts → Heard → Counts
counts_after n Nothing = n
counts_after n Unsound = judged_one true n
counts_after n (Master w) = judged_one false n
counts_after n (Reply w j) = judged_one (not (is_sound j)) n
counts_after n Stray = n

-- EMF for an unsound master; DMF if a sound one finds an equal word waited for; SFC for every slave frame; DSF too if done and less
-- than the reply time has passed since the last sound master
abbrev pub raised0 : Areas → Exchange → Times → Heard → List ℕ
raised0 m x t Nothing = []
raised0 m x t Unsound = EMF ∷ []
raised0 m x t (Master w) = when (waits_for x w) DMF
raised0 m x t (Reply w j) = SFC ∷ raised_by_reply m w j
raised0 m x t Stray = SFC ∷ when (is_done x && ltb t.since t.adopted) DSF

-- a frame was judged, so FC counts it
abbrev pub is_counted : Heard → Bool
is_counted Nothing = false
is_counted Unsound = true
is_counted (Master w) = true
is_counted (Reply w j) = true
is_counted Stray = false

-- FEV when FC returns to 0
abbrev pub raised1 : Counts → Heard → List ℕ
raised1 n h = when (is_counted h && eqb (counts_after n h).fc 0) FEV

-- a judged unsound frame, the waiting code not 9, 13 or 14; an unsound master always counts
abbrev pub disturbs : Heard → Bool
disturbs Nothing = false
disturbs Unsound = true
disturbs (Master w) = false
disturbs (Reply w j) = not (is_sound j) && not (exempt (code_of w))
disturbs Stray = false

-- the event is a status poll to our address
abbrev pub polls : Device → Heard → Bool
polls d Nothing = false
polls d Unsound = false
polls d (Master w) = polls_us d w
polls d (Reply w j) = false
polls d Stray = false

-- rules 1 and 4: the lines as rule 3 finds them
abbrev pub lines_found : Lines → Heard → Hearing → Hearing → Lines
lines_found l h t o = before_rule3 (disturbs h) l t o

-- a slave frame while waiting is taken by the sink with the waiting word; nothing else touches the areas
abbrev pub effect_of : Areas → Heard → Hearing → Effect
effect_of m Nothing h = untouched
effect_of m Unsound h = untouched
effect_of m (Master w) h = untouched
effect_of m (Reply w j) h = taken (sink_for m w) j h
effect_of m Stray h = untouched

-- the controller of all these parts; t is what the trusted line heard, o what the observed one did
abbrev pub controller_after : Controller → Areas → Heard → Hearing → Hearing → Controller
controller_after c m h t o =
    record {
      exchange = exchange_after c.device m c.exchange h;
      times = times_after c.times h;
      lines = rule3 (polls c.device h) (lines_found c.lines h t o);
      counts = counts_after c.counts h;
      group0 = raise_all (raised0 m c.exchange c.times h) c.group0;
      group1 = raise_all (raised1 c.counts h) c.group1;
      device = c.device;
      phase = c.phase;
    }

-- ---- they are what the event brings

module _ (c : Controller) (m : Areas) (t o : Hearing) where
  controller_table : (h : Heard) → brought (brings c m t o h) c t o ≡ controller_after c m h t o
  controller_table Nothing = refl
  controller_table Unsound = refl
  controller_table (Master w) = refl
  controller_table (Reply w j) = refl
  controller_table Stray = refl

  effect_table : (h : Heard) → (brings c m t o h).effect ≡ effect_of m h t
  effect_table Nothing = refl
  effect_table Unsound = refl
  effect_table (Master w) = refl
  effect_table (Reply w j) = refl
  effect_table Stray = refl

  answer_table : (h : Heard) → (brings c m t o h).answer ≡ answer_of (device_with (lines_found c.lines h t o) c.device) m h
  answer_table Nothing = refl
  answer_table Unsound = refl
  answer_table (Master w) = refl
  answer_table (Reply w j) = refl
  answer_table Stray = refl

module _ (s : World) (a b : Hearing) where
  abbrev C : Controller
  C = s.controller

  abbrev told : Hearing
  told = trusted C.lines a b

  abbrev other : Hearing
  other = observed C.lines a b

  -- the controller after an event is that of the tables
  pub hear_controller_lem : hear_controller s a b ≡ controller_after C s.areas (heard_by C a b) told other
  unfolding hear_controller event
  hear_controller_lem = controller_table C s.areas told other (heard_by C a b)

  -- what an event does to the areas is what the table says
  pub hear_effect_lem : hear_effect s a b ≡ effect_of s.areas (heard_by C a b) told
  unfolding hear_effect event
  hear_effect_lem = effect_table C s.areas told other (heard_by C a b)

  -- what is replied to an event is what the table says, with the lines as rule 3 finds them
  pub hear_answer_lem :
      hear_answer s a b ≡ answer_of (device_with (lines_found C.lines (heard_by C a b) told other) C.device) s.areas (heard_by C a b)
  unfolding hear_answer event
  hear_answer_lem = answer_table C s.areas told other (heard_by C a b)
