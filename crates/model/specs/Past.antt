-- Runs, and what can be said of a run's past without the controller's state: frames heard, words written, ports opened, replies sent. A
-- past is the list of the accepted calls from a fresh controller and cleared areas on, the newest first. The one thing that is read
-- off the controller is the state of its lines: which one is trusted, and for the reply to a status poll RLD and SLM. Assumes nothing.
use Rattle.std.specs.Prelude.{ℕ, suc, ◌+◌, ◌%◌, ◌≡◌, Bool, true, false, cond, not, ◌&&◌, ◌||◌, List, [], ◌∷◌, eqb, ltb, length, get_or}
use Rattle.std.specs.Prelude.{Option, None, Some}
use Rattle.frames.specs.declared.Kind.{Kind}
use Rattle.frames.specs.declared.Kind.TheVariants.{Silence, Noise, Master, Slave}
use Rattle.frames.specs.declared.Hearing.{Hearing}
use Rattle.frames.specs.declared.Judgement.{Judgement}
use Rattle.frames.specs.declared.Judgement.TheVariants.{Sound, Unsound}
use Rattle.frames.specs.Hearing.{words_of}
use Rattle.frames.specs.Size.{expected_of}
use Rattle.frames.specs.Judge.{judged_master, judged_slave, is_sound}
use Rattle.model.specs.Ports.{master_word, code_of, address_of, has_ports, View, refilled}
use Rattle.model.specs.declared.Lines.{Lines}
use Rattle.model.specs.Lines.{trusted, observed, with_rld, is_poor, status_with}
use Rattle.model.specs.Event.{World}
use Rattle.model.specs.Quiet.{first_reply_time}
use Rattle.model.specs.Host.{Setting, address, status, reply_time, slm, ls, ec_clear, reset, group0, group1}
use Rattle.model.specs.Calls.{Call, hear, quiet, open_port, close_port, write_port, read_port, setting, refusal, step, start}

-- ---- runs

-- the world after a past
unfoldable pub after : List Call → World
after [] = start
after (c ∷ past) = step c (after past)

-- ---- what a call is to the past: each call says it once

-- what stands open at an address
pub record Opening : Type 0 where
  pub port : ℕ
  pub word : ℕ
  pub sink : Bool
  pub interrupt : ℕ
  pub limit : ℕ

abbrev pub opening : ℕ → ℕ → ℕ → Bool → ℕ → ℕ → Opening
opening a p code sink i limit = record { port = p; word = master_word code a; sink = sink; interrupt = i; limit = limit }

-- what becomes of an address: nothing, it is opened anew, it is closed, or the host writes words to it
pub data Change : Type 0 where
  keeps : Change
  opens : Opening → Change
  closes : Change
  writes : List ℕ → Change

-- the lines hear, quiet time passes, the host sets the controller, or addresses change
pub data Happening : Type 0 where
  hears : (a b : Hearing) → Happening
  passes : (n : ℕ) → Happening
  sets : Setting → Happening
  changes : (ℕ → Change) → Happening

-- a change of address b alone
abbrev pub only_at : ℕ → Change → ℕ → Change
only_at b x a = cond (eqb b a) x keeps

-- what each call is
abbrev pub happening : Call → Happening
happening (hear a b) = hears a b
happening (quiet n) = passes n
happening (open_port a p code sink i limit) = changes (only_at a (opens (opening a p code sink i limit)))
happening (close_port a) = changes (only_at a closes)
happening (write_port a ws) = changes (only_at a (writes ws))
happening (read_port a) = changes (λ b. keeps)
happening (setting t) = sets t

-- the lines heard something
abbrev pub is_heard : Happening → Bool
is_heard (hears a b) = true
is_heard (passes n) = false
is_heard (sets t) = false
is_heard (changes f) = false

-- something holds of what the lines heard, where they heard something
abbrev pub OfHeard : (Hearing → Hearing → Type 0) → Happening → Type 0
OfHeard P (hears a b) = P a b
OfHeard P (passes n) = Unit
OfHeard P (sets t) = Unit
OfHeard P (changes f) = Unit

-- what the types say of a call's arguments: a hearing's array has sixteen words
abbrev pub Typed : Call → Type 0
Typed c = OfHeard (λ a b. (length a.words ≡ 16) × (length b.words ≡ 16)) (happening c)

-- every call of the past was accepted: a refused call is no step of a run
abbrev pub Accepted : List Call → Type 0
Accepted [] = Unit
Accepted (c ∷ past) = Typed c × (refusal c (after past) ≡ 0) × Accepted past

-- ---- frames heard

-- what the trusted line heard, after a past
abbrev pub on_trusted : List Call → Hearing → Hearing → Hearing
on_trusted past a b = trusted (after past).controller.lines a b

abbrev pub is_slave : Kind → Bool
is_slave Silence = false
is_slave Noise = false
is_slave Master = false
is_slave Slave = true

-- the master word of a master frame
abbrev pub first_word : Hearing → ℕ
first_word h = get_or h.words 0 0

-- ---- the host's settings

-- a reset clears all; the host's call clears EC, if that is what is asked about
abbrev pub clears : Bool → Setting → Bool
clears ec (address a) = false
clears ec (status w) = false
clears ec (reply_time t) = false
clears ec (slm b) = false
clears ec (ls b) = false
clears ec ec_clear = ec
clears ec reset = true
clears ec (group0 g) = false
clears ec (group1 g) = false

abbrev pub is_reset : Setting → Bool
is_reset t = clears false t

abbrev pub clears_ec : Setting → Bool
clears_ec t = clears true t

-- what the settings of a past leave: the device address, the status word last set, if one was, and the chosen reply time
pub record Settings : Type 0 where
  pub address : ℕ
  pub status : Option ℕ
  pub reply_time : ℕ

abbrev pub settings : ℕ → Option ℕ → ℕ → Settings
settings a s t = record { address = a; status = s; reply_time = t }

-- at first, and after a reset
abbrev pub fresh_settings : Settings
fresh_settings = settings 0 None first_reply_time

-- what each setting makes of them
abbrev pub settings_by : Setting → Settings → Settings
settings_by (address a) x = settings a x.status x.reply_time
settings_by (status w) x = settings x.address (Some w) x.reply_time
settings_by (reply_time t) x = settings x.address x.status t
settings_by (slm b) x = x
settings_by (ls b) x = x
settings_by ec_clear x = x
settings_by reset x = fresh_settings
settings_by (group0 g) x = x
settings_by (group1 g) x = x

-- nothing else changes them
abbrev pub settings_after : Happening → Settings → Settings
settings_after (hears a b) x = x
settings_after (passes n) x = x
settings_after (sets t) x = settings_by t x
settings_after (changes f) x = x

unfoldable pub last_settings : List Call → Settings
last_settings [] = fresh_settings
last_settings (c ∷ past) = settings_after (happening c) (last_settings past)

-- ---- what stands open at an address, from the past alone

-- what becomes of an address
abbrev pub change_of : Happening → ℕ → Change
change_of (hears x y) a = keeps
change_of (passes n) a = keeps
change_of (sets t) a = keeps
change_of (changes f) a = f a

-- what a change leaves open
abbrev pub leaves : Change → Option Opening → Option Opening
leaves keeps o = o
leaves (opens x) o = Some x
leaves closes o = None
leaves (writes ws) o = o

-- the last opening of address a that was not followed by a closing
unfoldable pub opening_of : List Call → ℕ → Option Opening
opening_of [] a = None
opening_of (c ∷ past) a = leaves (change_of (happening c) a) (opening_of past a)

-- what the host writes is added, and an opening begins anew
abbrev pub written_by : Change → List (List ℕ) → List (List ℕ)
written_by keeps l = l
written_by (opens x) l = []
written_by closes l = l
written_by (writes ws) l = ws ∷ l

-- the words that the host wrote to address a since it was opened, the newest first
unfoldable pub writes_since : List Call → ℕ → List (List ℕ)
writes_since [] a = []
writes_since (c ∷ past) a = written_by (change_of (happening c) a) (writes_since past a)

-- the last of them, or that there was none
abbrev pub last_of : List (List ℕ) → Option (List ℕ)
last_of [] = None
last_of (ws ∷ wss) = Some ws

-- ---- replies, from the past alone

-- what an open source port with exactly the master word w was last written
abbrev pub source_told : List Call → ℕ → Option Opening → Option (List ℕ)
source_told past w None = None
source_told past w (Some o) = cond (eqb o.word w && not o.sink) (last_of (writes_since past (address_of w))) None

-- the lines as a sound status poll finds them, before rule 3 acts: LAA as it was; RLD set if it was, or if SLM is clear and the observed
-- line has silence, noise, SQE or a violation
abbrev pub lines_polled : List Call → Hearing → Hearing → Lines
lines_polled past a b =
    let l = (after past).controller.lines in
    with_rld (l.rld || (is_poor (observed l a b) && not l.slm)) l

-- a status word is replied alone, with LAA and RLD of these lines at their places
abbrev pub status_told : Lines → Option ℕ → Option (List ℕ)
status_told l None = None
status_told l (Some s) = Some (status_with l s ∷ [])

-- the words that a sound master frame with the word w is answered with, for each of the sixteen F-codes; l are the lines that a poll finds.
-- Codes 0 to 4: what the open source with exactly this word was last written. Code 15 with our device address: the status word last set,
-- with these lines. No other is answered.
unfoldable pub reply_told : List Call → Lines → ℕ → Option (List ℕ)
reply_told past l w =
    cond (has_ports (code_of w)) (source_told past w (opening_of past (address_of w)))
    (cond (eqb (code_of w) 15 && eqb (address_of w) (last_settings past).address) (status_told l (last_settings past).status) None)

-- only a sound master frame is answered
abbrev pub if_master : Kind → Judgement → Option (List ℕ) → Option (List ℕ)
if_master Silence j r = None
if_master Noise j r = None
if_master Master Sound r = r
if_master Master (Unsound wrong) r = None
if_master Slave j r = None

-- the words that we reply to an event, if we do
unfoldable pub reply_in : List Call → Hearing → Hearing → Option (List ℕ)
reply_in past a b = let h = on_trusted past a b in if_master h.kind (judged_master h) (reply_told past (lines_polled past a b) (first_word h))

-- ---- the master word that is waited for

-- a master frame asks somebody else: its code expects a reply, and we gave none
abbrev pub asks_others : Option ℕ → Option (List ℕ) → Bool
asks_others (Some n) None = true
asks_others (Some n) (Some ws) = false
asks_others None r = false

-- a frame of the trusted line ends what was waited for before it; a sound master frame may begin a new wait
abbrev pub wait_after : Kind → Judgement → Option ℕ → Option ℕ → Option ℕ
wait_after Silence j before begun = before
wait_after Noise j before begun = before
wait_after Master Sound before begun = begun
wait_after Master (Unsound wrong) before begun = None
wait_after Slave j before begun = None

-- what is waited for after one happening more, from what was waited for before it
abbrev pub wait_by : List Call → Happening → (ℕ → Option ℕ) → ℕ → Option ℕ
wait_by past (hears a b) before q =
    let h = on_trusted past a b in
    let asks = asks_others (expected_of (code_of (first_word h))) (reply_told past (lines_polled past a b) (first_word h)) in
    wait_after h.kind (judged_master h) (before q) (cond (asks && ltb q (last_settings past).reply_time) (Some (first_word h)) None)
wait_by past (passes n) before q = before (n + q)
wait_by past (sets t) before q = cond (is_reset t) None (before q)
wait_by past (changes f) before q = before q

-- the word that is waited for after a past and q quiet bit times more: that of the last sound master frame that asked somebody else,
-- while no frame and no reset followed it and the reply time that was chosen when it came has not passed
unfoldable pub awaited : List Call → ℕ → Option ℕ
awaited [] q = None
awaited (c ∷ past) q = wait_by past (happening c) (awaited past) q

-- ---- answers

abbrev pub is_word : Option ℕ → ℕ → Bool
is_word None w = false
is_word (Some v) w = eqb v w

-- a slave frame of the trusted line is a sound answer to the master word w: it is judged while w is waited for
unfoldable pub answers : List Call → Hearing → Hearing → ℕ → Bool
answers past a b w =
    let h = on_trusted past a b in
    is_slave h.kind && is_word (awaited past 0) w && is_sound (judged_slave (code_of w) h)

-- what is kept since an opening begins anew with it, as first
abbrev pub anew : {A : Type 0} → A → Change → A → A
anew first keeps x = x
anew first (opens o) x = first
anew first closes x = x
anew first (writes ws) x = x

-- a sound answer to w is added
abbrev pub answered_by : List Call → ℕ → ℕ → Happening → List (List ℕ) → List (List ℕ)
answered_by past a w (hears x y) l = cond (answers past x y w) (words_of (on_trusted past x y) ∷ l) l
answered_by past a w (passes n) l = l
answered_by past a w (sets t) l = l
answered_by past a w (changes f) l = anew [] (f a) l

-- the words of the sound slave frames that answered the master word w since address a was opened, the newest first
unfoldable pub answers_since : List Call → ℕ → ℕ → List (List ℕ)
answers_since [] a w = []
answers_since (c ∷ past) a w = answered_by past a w (happening c) (answers_since past a w)

-- ---- what the past says of an address

-- what fills a port: the sound answers fill a sink, the host's writes a source
abbrev pub fillings : List Call → ℕ → Opening → List (List ℕ)
fillings past a o = cond o.sink (answers_since past a o.word) (writes_since past a)

-- what an opened port shows, with these words and so many fills
abbrev pub view_with : Opening → Option (List ℕ) → ℕ → View
view_with o ws n = record { word = o.word; sink = o.sink; interrupt = o.interrupt; shows = ws; fills = n; limit = o.limit }

-- it shows the last of the words that filled it, and its fills are their number modulo 65,536
abbrev pub told_view : List Call → ℕ → Option Opening → Option View
told_view past a None = None
told_view past a (Some o) = Some (view_with o (last_of (fillings past a o)) (length (fillings past a o) % 65536))

-- the words that are shown, and no words where none are
abbrev pub shown_words : Option (List ℕ) → List ℕ
shown_words None = []
shown_words (Some ws) = ws

-- what an address shows after an event, if the sinks whose master word passes the test take these words
abbrev pub taken_if : (ℕ → Bool) → List ℕ → Option View → Option View
taken_if f ws None = None
taken_if f ws (Some v) = Some (cond (v.sink && f v.word) (refilled ws v) v)

-- ---- the counts, since the last reset

-- a master frame is judged, and a slave frame while a word is waited for
abbrev pub judged_as : Kind → Option ℕ → Hearing → Option Judgement
judged_as Silence v h = None
judged_as Noise v h = None
judged_as Master v h = Some (judged_master h)
judged_as Slave None h = None
judged_as Slave (Some w) h = Some (judged_slave (code_of w) h)

unfoldable pub judgement : List Call → Hearing → Hearing → Option Judgement
judgement past a b = let h = on_trusted past a b in judged_as h.kind (awaited past 0) h

abbrev pub add_judged : Option Judgement → ℕ → ℕ
add_judged None n = n
add_judged (Some j) n = suc n

abbrev pub add_unsound : Option Judgement → ℕ → ℕ
add_unsound None n = n
add_unsound (Some Sound) n = n
add_unsound (Some (Unsound wrong)) n = suc n

-- a judged frame is added, and a setting that stops the count begins it anew
abbrev pub count_by : (Setting → Bool) → (Option Judgement → ℕ → ℕ) → List Call → Happening → ℕ → ℕ
count_by stop add past (hears a b) n = add (judgement past a b) n
count_by stop add past (passes t) n = n
count_by stop add past (sets t) n = cond (stop t) 0 n
count_by stop add past (changes f) n = n

-- how many frames of a past count, since the last setting that stops the count
unfoldable pub count_since : (Setting → Bool) → (Option Judgement → ℕ → ℕ) → List Call → ℕ
count_since stop add [] = 0
count_since stop add (c ∷ past) = count_by stop add past (happening c) (count_since stop add past)

-- judged frames since the last reset
unfoldable pub frames_judged : List Call → ℕ
frames_judged past = count_since is_reset add_judged past

-- unsound ones since EC was last cleared
unfoldable pub frames_unsound : List Call → ℕ
frames_unsound past = count_since clears_ec add_unsound past
