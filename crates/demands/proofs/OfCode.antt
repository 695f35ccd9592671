-- DEMANDS 2 AND 3, OF THE CODE. Every sequence of the public calls from a fresh controller and cleared areas is a run of the crate `model`
-- (`ran`), whose theorems then speak of what the calls answered and left. Assumes nothing.
use Prim.Native.Nat.{ℕ, ◌%◌, ◌<◌, min}
use mathlib.Core.Path.{◌≡◌, refl, sym, ◌∙◌, ap}
use mathlib.Core.Logic.{◌↔◌, ◌⊎◌}
use mathlib.Core.Bool.{true, false}
use mathlib.Core.List.{List, [], ◌∷◌}
use Rattle.std.specs.Prelude.{None, Some}
use lib.ListN.{length}
use Rattle.frames.specs.declared.Hearing.{Hearing}
use Rattle.frames.specs.Hearing.{words_of}
use Rattle.interrupts.specs.Names.{SFC}
use Rattle.model.specs.Answer.{Answer}
use Rattle.model.specs.Answer.{Never, Refused, Stale}
use Rattle.model.specs.Layout.{Areas, pages_fit, port_at, flags_of}
use Rattle.model.specs.Lines.{LineBits}
use Rattle.model.specs.Ports.{code_of, address_of, has_ports, Standing, standing, view, oldest}
use Rattle.model.specs.Event.{World, interrupt_of, raise_all, spoken}
use Rattle.model.specs.Calls.{Call, hear, step, answer, asked, refusal_of, ShowsNone, fetched, start}
use Rattle.model.specs.Past.{after, Typed, Accepted, on_trusted, first_word, last_settings, answers, Opening, opening_of, answers_since}
use Rattle.model.specs.Past.{writes_since, last_of, source_told, lines_polled, status_told, reply_in, fillings, view_with, told_view, shown_words}
use Rattle.model.specs.Past.{taken_if, frames_judged, frames_unsound}
use Rattle.model.specs.StatusBits.{faults_told}
use Rattle.model.specs.Age.{age_since, asked_told, IsStale}
use Rattle.model.specs.Damage.{SoundMaster}
use Rattle.model.proofs.Demands as demand
use Rattle.model.proofs.Ages as ages
use Rattle.model.proofs.Empty.{empty_exactly as empty_of}
use Rattle.demands.specs.Made.{Made, Ran, begun, accepted, refused}
use Rattle.demands.proofs.OfCall.{number_exactly, refused_unchanged, accepted_step}

-- ---- a sequence of calls is a run

-- every call in the list was accepted, and the world is the one after them
pub record Run (past : List Call) (s : World) : Type 0 where
  pub all : Accepted past
  pub same : after past ≡ s

first : Run [] start
unfolding after
first = record { all = tt; same = refl }

next : {past : List Call} {s t : World} {c : Call} {r : Hearing} → Run past s → Typed c → Made s c 0 r t → Run (c ∷ past) t
unfolding after
next {c = c} run typed made =
    record {
      all = (typed, rw run.same (sym (number_exactly made)), run.all);
      same = ap (step c) run.same ∙ (accepted_step made refl).0;
    }

-- a sequence of calls of the code is a run, to which its refused calls add nothing
pub ran : {past : List Call} {s : World} → Ran past s → Run past s
ran begun = first
ran (accepted before typed made) = next (ran before) typed made
ran (refused before z made) =
    let run = ran before in
    record { all = run.all; same = run.same ∙ sym (refused_unchanged made z).0 }

module _ {past : List Call} {s : World} (calls : Ran past s) where
  abbrev all : Accepted past
  all = (ran calls).all

  abbrev same : after past ≡ s
  same = (ran calls).same

  -- ---- demand 1: in a sequence of our calls no call meets damage

  -- No call after such a sequence is refused with 6.
  pub never_six : {t : World} {c : Call} {r : Hearing} → Made s c 6 r t → ⊥
  never_six {c = c} made = demand.never_damaged past all c (rw same (sym (number_exactly made)))

  -- ---- demand 2: a slave frame is taken exactly when it is sound and answers a master frame of one of our open sinks

  module _ {t : World} {a b r : Hearing} (made : Made s (hear a b) 0 r t) where
    -- what the trusted line heard
    abbrev heard_now : Hearing
    heard_now = on_trusted past a b

    -- After the event each address shows the words of the frame where that is so, with one fill more, and else what it showed.
    pub taken_exactly : Typed (hear a b) → (e : ℕ) → view t.areas e ≡ taken_if (answers past a b) (words_of heard_now) (view s.areas e)
    taken_exactly typed e = rw (← (accepted_step made refl).0, ← same) (demand.frame_seen past all a b typed e)

    -- The port that takes the frame raises its interrupt.
    pub taken_raises : (e : ℕ) (v : Standing) → standing s.areas e ≡ Some v → v.sink ≡ true → answers past a b v.word ≡ true
        → t.controller.group0 ≡ raise_all (SFC ∷ interrupt_of (Some v)) s.controller.group0
    taken_raises e v there sink sound =
        rw (← (accepted_step made refl).0, ← same) (demand.frame_raises past all a b e v (rw same there) sink sound)

    spoke : spoken (answer (hear a b) (after past)) ≡ r
    spoke = rw same (accepted_step made refl).1

    -- Each reply is exactly what the past tells, for every F-code and whatever was heard.
    pub replies_exactly : r ≡ spoken (reply_in past a b)
    replies_exactly = sym spoke ∙ ap spoken (demand.reply_told_lem past all a b)

    -- A data reply holds the words that the host last wrote.
    pub data_replied : SoundMaster heard_now → has_ports (code_of (first_word heard_now)) ≡ true
        → r ≡ spoken (source_told past (first_word heard_now) (opening_of past (address_of (first_word heard_now))))
    data_replied m p = sym spoke ∙ ap spoken (demand.data_reply past all a b m p)

    module _ (m : SoundMaster heard_now) (poll : code_of (first_word heard_now) ≡ 15)
        (ours : address_of (first_word heard_now) ≡ (last_settings past).address) where
      -- A status reply holds the status word last set, with LAA and RLD as the poll finds them.
      pub status_replied : r ≡ spoken (status_told (lines_polled past a b) (last_settings past).status)
      status_replied = sym spoke ∙ ap spoken (demand.status_reply past all a b m poll ours)

      -- Bit by bit: LAA and RLD at their places, and each other bit the host's.
      pub status_bits : (w : ℕ) → (last_settings past).status ≡ Some w
          → (x : ℕ) × (r ≡ spoken (Some (x ∷ []))) × LineBits (lines_polled past a b) w x
      status_bits w e =
          let told = demand.status_bits past all a b m poll ours w e in
          (told.0, sym spoke ∙ ap spoken told.1, told.2)

  -- FC is the number of judged frames, modulo 65,536.
  pub fc_counted : s.controller.counts.fc ≡ frames_judged past % 65536
  fc_counted = rw (← same) (demand.fc_counted past all)

  -- EC is the number of unsound frames, and at most 65,535.
  pub ec_counted : s.controller.counts.ec ≡ min (frames_unsound past) 65535
  ec_counted = rw (← same) (demand.ec_counted past all)

  -- ---- demand 3: what each address shows

  -- What was opened there last and not closed, with what filled it since; where nothing was, it shows nothing.
  pub shows_told : (a : ℕ) → view s.areas a ≡ told_view past a (opening_of past a)
  shows_told a = rw (← same) (demand.shows_told past all a)

  -- Where no port was opened, `ask` says so.
  pub ask_closed : (a : ℕ) (x : Answer) → x ≡ asked s.areas a → a < 4096 → opening_of past a ≡ None → x ≡ Refused 3
  ask_closed a x e low none_open = e ∙ rw (← same) (demand.ask_closed past all a low none_open)

  module _ (a : ℕ) (o : Opening) (stands : opening_of past a ≡ Some o) where
    -- An open sink shows the words of the last sound slave frame that answered its master frame since it was opened, or that there
    -- was none, and its fills are their number.
    pub sink_shows : o.sink ≡ true
        → let l = answers_since past a o.word in
        view s.areas a ≡ Some (view_with o (last_of l) (length l % 65536))
    sink_shows k = rw (← same) (demand.sink_shows past all a o stands k)

    -- An open source shows the words that the host last wrote, or that there were none, and its fills are their number.
    pub source_shows : o.sink ≡ false
        → let l = writes_since past a in
        view s.areas a ≡ Some (view_with o (last_of l) (length l % 65536))
    source_shows k = rw (← same) (demand.source_shows past all a o stands k)

    -- Asking answers never exactly where nothing filled the port since it was opened.
    pub ask_never : (x : Answer) → x ≡ asked s.areas a → (x ≡ Never) ↔ (fillings past a o ≡ [])
    ask_never x e = rw (e, ← same) (demand.ask_never past all a o stands)

    -- An open port is not refused.
    pub ask_open : (x : Answer) → x ≡ asked s.areas a → refusal_of x ≡ 0
    ask_open x e = rw (e, ← same) (demand.ask_open past all a o stands)

    -- The age of an open sink is the milliseconds that ended since its last taken frame, or since its opening, at most 65,535.
    pub age_told_lem : o.sink ≡ true → (port_at s.areas o.port).age ≡ min oldest (age_since past a o.word)
    age_told_lem k = rw (← same) (ages.age_told_lem past all a o stands k)

    -- The status bits of an open sink are what the last exchange of its master word left since it was opened; a source has none.
    pub faults_told_lem : (flags_of (port_at s.areas o.port).flags).faults ≡ faults_told past a o
    faults_told_lem = rw (← same) (ages.faults_told_lem past all a o stands)

    -- What asking answers is what the past tells: never, held, stale or good.
    pub ask_told : (x : Answer) → x ≡ asked s.areas a → x ≡ asked_told past a o
    ask_told x e = e ∙ rw (← same) (ages.asked_told_lem past all a o stands)

    -- Asking answers stale exactly when the port was filled, is not held, is supervised, and its age is at or above its limit.
    pub ask_stale : (x : Answer) → x ≡ asked s.areas a → (x ≡ Stale) ↔ IsStale past a o
    ask_stale x e = rw (e, ← same) (ages.ask_stale past all a o stands)

    -- Fetching hands back the words that filled the port last, and none where nothing did.
    pub fetch_shows : (ws : List ℕ) → ws ≡ fetched s.areas a → ws ≡ shown_words (last_of (fillings past a o))
    fetch_shows ws e = e ∙ rw (← same) (demand.fetch_shows past all a o stands)

-- Whatever the areas hold, what `fetch` hands back is empty exactly when `ask` refuses or answers never, or a page has another length.
pub empty_exactly : (m : Areas) (a : ℕ) (ws : List ℕ) (x : Answer) → ws ≡ fetched m a → x ≡ asked m a
    → (ws ≡ []) ↔ (ShowsNone x ⊎ (pages_fit m ≡ false))
empty_exactly m a ws x e i = rw (e, i) (empty_of m a)
