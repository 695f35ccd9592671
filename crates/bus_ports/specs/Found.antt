-- Our port for a master word, sought once, and what a sound master frame, a judged slave frame and a reply time that is reached meet there.
-- proofs/Ports.antt proves that this is what the model's `port_for` and `sink_for` say. Assumes nothing.
use Rattle.std.specs.Prelude.{ℕ, Bool, cond, not, ◌&&◌, List, [], eqb}
use Rattle.std.specs.Prelude.{Option, None, Some, Ok, Err}
use Rattle.std.specs.Result.{result_unwrap_or}
use Rattle.frames.specs.declared.Hearing.{Hearing}
use Rattle.frames.specs.Size.{expected_of}
use Rattle.model.specs.declared.Device.{Device}
use Rattle.model.specs.declared.Exchange.{Exchange}
use Rattle.model.specs.declared.Exchange.TheVariants.{Idle, Done}
use Rattle.model.specs.declared.Heard.{Heard}
use Rattle.model.specs.declared.Heard.TheVariants.{Nothing, Unsound, Master, Reply, Stray}
use Rattle.model.specs.Answer.{Sought}
use Rattle.model.specs.Layout.{Areas, areas, words_at, with_words, flags_of}
use Rattle.model.specs.Ports.{code_of, address_of, has_ports, seek, reply_missing, marked_words, Standing, standing_of, Effect, untouched}
use Rattle.model.specs.Event.{if_source, own_words, if_expected, awaits, sent, silent, spoken, taken}
use Rattle.bus_ports.specs.declared.Met.{Met}

-- ---- what is sought

-- a port counts only if it has exactly the master word w
abbrev pub with_word : List ℕ → ℕ → Sought → Sought
with_word l w (Ok None) = Ok None
with_word l w (Ok (Some p)) = cond (eqb (words_at l p).master w) (Ok (Some p)) (Ok None)
with_word l w (Err e) = Err e

-- what stands open for a master word by the index table and the port words; only F-codes 0 to 4 have ports, and the pages are not asked
abbrev pub sought_for : List ℕ → List ℕ → ℕ → Sought
sought_for i l w = cond (has_ports (code_of w)) (with_word l w (seek (areas i l [] []) (address_of w))) (Ok None)

-- the same of the master word that is needed, if one is
abbrev pub sought_by : List ℕ → List ℕ → Option ℕ → Sought
sought_by i l None = Ok None
sought_by i l (Some w) = sought_for i l w

-- ---- the port that is found, if one is

-- of what is sought
abbrev pub port_of : Sought → Option ℕ
port_of s = result_unwrap_or s None

-- the same, if the port is a sink
abbrev pub sink_of : List ℕ → Option ℕ → Option ℕ
sink_of l None = None
sink_of l (Some p) = cond (flags_of (words_at l p).flags).sink (Some p) None

-- its data transfer interrupt, 0 where there is no port
abbrev pub interrupt_at : List ℕ → Option ℕ → ℕ
interrupt_at l None = 0
interrupt_at l (Some p) = (words_at l p).interrupt

-- port p is a filled source
abbrev pub source_at : List ℕ → ℕ → Bool
source_at l p = not (flags_of (words_at l p).flags).sink && (flags_of (words_at l p).flags).ever

-- the port as it stands in the model
abbrev pub standing_at : Areas → Option ℕ → Option Standing
standing_at m None = None
standing_at m (Some p) = Some (standing_of m p)

-- the port words with STO alone among the status bits of the port
abbrev pub late_at : List ℕ → Option ℕ → List ℕ
late_at l None = l
late_at l (Some p) = with_words l p (marked_words (words_at l p) reply_missing)

-- ---- what is met there

-- no reply of ours
abbrev pub unanswered : Exchange → Met
unanswered x = record { exchange = x; reply = silent }

-- these words are our reply
abbrev pub answered : List ℕ → Met
answered ws = record { exchange = Done; reply = sent ws }

-- a sound master frame, with the size that is expected and the words that we have for it
abbrev pub met_for : Option ℕ → ℕ → Option (List ℕ) → Met
met_for x w r = record { exchange = awaits x w (if_expected x r); reply = spoken (if_expected x r) }

-- the same with the port that is open for its word
abbrev pub met_by : Device → Option Standing → ℕ → Met
met_by d v w = met_for (expected_of (code_of w)) w (own_words d w (if_source v))

-- whatever was heard, with that port
abbrev pub met_as : Device → Option Standing → Exchange → Heard → Met
met_as d v x Nothing = unanswered x
met_as d v x Unsound = unanswered Idle
met_as d v x (Master w) = met_by d v w
met_as d v x (Reply w j) = unanswered Done
met_as d v x Stray = unanswered x

-- what it does to the areas, with the sink that is open for the word
abbrev pub effect_by : Option Standing → Heard → Hearing → Effect
effect_by v Nothing h = untouched
effect_by v Unsound h = untouched
effect_by v (Master w) h = untouched
effect_by v (Reply w j) h = taken v j h
effect_by v Stray h = untouched
