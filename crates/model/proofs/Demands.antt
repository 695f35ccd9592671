-- Demands 2 and 3 over runs: what a port shows, what is taken, what is replied and what is counted, in words of the past. Each statement
-- holds after every past of accepted calls from a fresh controller and cleared areas on. Demand 1 stands in Refused, damage in Damage.
-- Assumes nothing.
use Prim.Native.Nat.{ℕ, ◌%◌, ◌<◌, min}
use mathlib.Core.Path.{◌≡◌, refl, ◌∙◌, ap}
use mathlib.Core.Logic.{◌↔◌}
use mathlib.Core.Bool.{Bool, true, false, cond}
use mathlib.Core.List.{List, [], ◌∷◌}
use Rattle.std.specs.Prelude.{None, Some}
use native.Mathlib.Omega.{arith}
use lib.ListN.{length}
use borrow.Author.Tests.{eq-eqb}
use Rattle.frames.specs.declared.Hearing.{Hearing}
use Rattle.frames.specs.declared.Kind.{Kind}
use Rattle.frames.specs.declared.Kind.TheVariants.{Silence, Noise, Master as MasterFrame, Slave as SlaveFrame}
use Rattle.frames.specs.declared.Judgement.{Judgement}
use Rattle.frames.specs.declared.Judgement.TheVariants.{Sound, Unsound as Bad}
use Rattle.frames.specs.Hearing.{words_of}
use Rattle.frames.specs.Judge.{judged_master, judged_slave}
use Rattle.interrupts.specs.Names.{SFC}
use Rattle.model.specs.Answer.{Never, Refused}
use Rattle.model.specs.Ports.{code_of, address_of, has_ports, Standing, standing, viewed, view}
use Rattle.model.specs.declared.Heard.{Heard}
use Rattle.model.specs.declared.Lines.{Lines}
use Rattle.model.specs.Lines.{observed, rule3, status_with, LineBits}
use Rattle.model.specs.Event.{World, heard, heard_by, device_with, answer_to, interrupt_of, raise_all, sent, spoken}
use Rattle.model.specs.Calls.{Call, hear, refusal, effect, step, answer, outcome, asked, refusal_of, fetched}
use Rattle.model.specs.Past.{after, Typed, Accepted, on_trusted, first_word, last_settings, answers, Opening, opening_of, answers_since}
use Rattle.model.specs.Past.{writes_since, last_of, source_told, lines_polled, status_told, reply_told, if_master, reply_in, fillings, view_with}
use Rattle.model.specs.Past.{told_view, shown_words, taken_if, frames_judged, frames_unsound}
use Rattle.model.specs.Taken.{Took}
use Rattle.model.specs.Damage.{SoundMaster}
use Rattle.model.proofs.Shape.{Shape}
use Rattle.model.proofs.Tables.{polls, lines_found, hear_controller_lem, hear_effect_lem}
use Rattle.model.proofs.ToldPort.{standing_with, told_standing, told_viewed}
use Rattle.model.proofs.Taken.{taken_viewed, taken_exactly, took_heard, taken_raises}
use Rattle.model.proofs.Invariant.{one_of}
use Rattle.model.proofs.Told.{past_told}
use Rattle.model.proofs.Alike.{undamaged}
use Rattle.model.proofs.Damage.{heard_master}
use Rattle.model.proofs.Reading.{last_none, asks_closed, asked_number, readable, asks_never, fetches}
use Rattle.model.proofs.StatusReply.{line_bits, poll_finds}
use Rattle.model.proofs.Replies.{exact_told}
use Rattle.model.proofs.Anywhere.{no_other_reply_anywhere, answered, reply_sound_in}

module _ (past : List Call) (run : Accepted past) where
  abbrev now : World
  now = after past

  -- ---- in a run every area keeps the shape our calls give it, and then no call is refused with 6

  -- In a run the areas keep the shape that our calls give them.
  pub shaped : Shape now.areas
  shaped = (past_told past run).holds.shape

  -- ---- demand 3: what a port shows

  -- What an address shows is what was opened there last and not closed, with what filled it since; where nothing was, it shows nothing.
  pub shows_told : (a : ℕ) → view now.areas a ≡ told_view past a (opening_of past a)
  unfolding view
  shows_told a = ap viewed ((past_told past run).holds.stands a) ∙ told_viewed past a (opening_of past a)

  -- Where no port was opened, asking says so.
  pub ask_closed : (a : ℕ) → a < 4096 → opening_of past a ≡ None → asked now.areas a ≡ Refused 3
  ask_closed a low e = asks_closed now.areas shaped a low ((past_told past run).holds.stands a ∙ ap (told_standing past a) e)

  module _ (a : ℕ) (o : Opening) (stands : opening_of past a ≡ Some o) where
    -- the words that filled the port since it was opened, the newest first
    abbrev filled : List (List ℕ)
    filled = fillings past a o

    -- An open port shows the last of them, or that there was none, and its fills are their number.
    pub open_shows : view now.areas a ≡ Some (view_with o (last_of filled) (length filled % 65536))
    open_shows = shows_told a ∙ ap (told_view past a) stands

    by_side : (side : Bool) → o.sink ≡ side
        → let l = cond side (answers_since past a o.word) (writes_since past a) in
        view now.areas a ≡ Some (view_with o (last_of l) (length l % 65536))
    by_side side k =
        open_shows
        ∙ ap (λ (l : List (List ℕ)). Some (view_with o (last_of l) (length l % 65536)))
        (ap (λ (x : Bool). cond x (answers_since past a o.word) (writes_since past a)) k)

    -- Each open sink port shows the words of the last sound slave frame that answered its master frame since it was opened, or that
    -- there was none; its fills are the number of these frames (demand 2).
    pub sink_shows : o.sink ≡ true
        → let l = answers_since past a o.word in
        view now.areas a ≡ Some (view_with o (last_of l) (length l % 65536))
    sink_shows = by_side true

    -- Each open source port shows the words that the host last wrote to it since it was opened, or that there were none.
    pub source_shows : o.sink ≡ false
        → let l = writes_since past a in
        view now.areas a ≡ Some (view_with o (last_of l) (length l % 65536))
    source_shows = by_side false

    -- with its number
    standing_told : standing now.areas a ≡ Some (standing_with o (last_of filled) (length filled % 65536))
    standing_told = (past_told past run).holds.stands a ∙ ap (told_standing past a) stands

    -- Asking answers never exactly where nothing filled the port since it was opened: an empty port says that it is empty.
    pub ask_never : (asked now.areas a ≡ Never) ↔ (filled ≡ [])
    ask_never =
        let x = asks_never now.areas shaped a _ standing_told in
        let y = last_none filled in
        (λ e. y.0 (x.0 e), λ e. x.1 (y.1 e))

    -- Asking an open port is not refused.
    pub ask_open : refusal_of (asked now.areas a) ≡ 0
    ask_open = asked_number now.areas a ∙ readable now.areas shaped a _ standing_told

    -- Fetching hands back the words that filled the port last, and nothing where none did.
    pub fetch_shows : fetched now.areas a ≡ shown_words (last_of filled)
    fetch_shows = fetches now.areas shaped a _ standing_told

  -- FC is the number of frames judged since the last reset, modulo 65,536.
  pub fc_counted : now.controller.counts.fc ≡ frames_judged past % 65536
  fc_counted = (past_told past run).fc

  -- EC is the number of unsound frames since it was last cleared, at most 65,535.
  pub ec_counted : now.controller.counts.ec ≡ min (frames_unsound past) 65535
  ec_counted = (past_told past run).ec

  -- ---- no call of a run meets a damaged entry or damaged port words

  -- No call after a run is refused with 6.
  pub never_damaged : (c : Call) → refusal c now ≡ 6 → ⊥
  never_damaged = undamaged now shaped

  -- ---- demand 2: what a bus event takes, and what it replies

  module _ (a b : Hearing) where
    abbrev heard_now : Hearing
    heard_now = on_trusted past a b

    -- A slave frame is taken exactly when it is a sound answer, on the trusted line, to the master word of one of our open sinks: then
    -- the event fills that port. Otherwise no sink's master word was soundly answered, and the event changes status bits alone.
    pub frame_taken : Took (answers past a b) now.areas heard_now (effect (hear a b) now)
    unfolding answers effect heard_by heard
    frame_taken =
        let h = (past_told past run).holds in
        let c = now.controller in
        rw (hear_effect_lem now a b) (rw (h.waits 0) at (took_heard now.areas heard_now heard_now.kind c.exchange c.times h.live))

    -- So what every address shows after the event: the words of the frame where it is taken, and else what it showed before.
    pub frame_seen : Typed (hear a b) → (e : ℕ)
        → view (step (hear a b) now).areas e ≡ taken_if (answers past a b) (words_of heard_now) (view now.areas e)
    unfolding view answers step effect heard_by heard
    frame_seen ty e =
        let h = (past_told past run).holds in
        let c = now.controller in
        let l = one_of c.lines.laa (λ (y : Hearing). length y.words ≡ 16) ty.0 ty.1 in
        rw (hear_effect_lem now a b)
        (ap viewed
        (rw (h.waits 0) at (taken_exactly now.areas h.shape heard_now l heard_now.kind c.exchange c.times h.live e))
        ∙ taken_viewed _ (words_of heard_now) (standing now.areas e))

    -- The port that takes the frame raises its interrupt.
    pub frame_raises : (e : ℕ) (v : Standing) → standing now.areas e ≡ Some v → v.sink ≡ true → answers past a b v.word ≡ true
        → (step (hear a b) now).controller.group0 ≡ raise_all (SFC ∷ interrupt_of (Some v)) now.controller.group0
    unfolding answers step heard_by heard
    frame_raises e v there sink sound =
        let h = (past_told past run).holds in
        let c = now.controller in
        rw (hear_controller_lem now a b)
        (ap (λ (bs : List ℕ). raise_all bs c.group0)
        (taken_raises now.areas heard_now heard_now.kind c.exchange c.times h.live e v there sink (rw (h.waits 0) sound)))

    -- A reply is given to a sound master frame alone.
    pub no_other_reply : (SoundMaster heard_now → ⊥) → answer (hear a b) now ≡ None
    no_other_reply = no_other_reply_anywhere now a b

    module _ (m : SoundMaster heard_now) where
      -- Each reply is itself a sound slave frame for the code of the master frame that it answers.
      pub reply_sound : (ws : List ℕ) → answer (hear a b) now ≡ Some ws → judged_slave (code_of (first_word heard_now)) (sent ws) ≡ Sound
      reply_sound ws e = reply_sound_in now a b shaped.fits m ws e

      -- Each reply is exactly what the past tells, for every F-code: the words last written to the open source with this master word,
      -- the status word last set, with the lines as the poll finds them, for a poll of the device address last set, and none to any other
      -- master frame.
      pub reply_exact : answer (hear a b) now ≡ reply_told past (lines_polled past a b) (first_word heard_now)
      reply_exact =
          let h = past_told past run in
          let c = now.controller in
          answered now a b m
          ∙ ap (λ (l : Lines). answer_to (device_with l c.device) now.areas (first_word heard_now))
          (poll_finds c.lines heard_now (observed c.lines a b) m.kind)
          ∙ exact_told past c.device now.areas h.holds.stands (lines_polled past a b) (first_word heard_now) h.status h.address

      -- So a data reply holds the words that the host last wrote to that port since it was opened; without such words there is none.
      pub data_reply : has_ports (code_of (first_word heard_now)) ≡ true
          → answer (hear a b) now ≡ source_told past (first_word heard_now) (opening_of past (address_of (first_word heard_now)))
      unfolding reply_told
      data_reply p = reply_exact ∙ rw p

      module _ (poll : code_of (first_word heard_now) ≡ 15) (ours : address_of (first_word heard_now) ≡ (last_settings past).address) where
        -- A status reply, to a poll of the device address last set, holds the status word last set with LAA and RLD as the poll finds them;
        -- without a status word there is none.
        pub status_reply : answer (hear a b) now ≡ status_told (lines_polled past a b) (last_settings past).status
        unfolding reply_told
        status_reply = reply_exact ∙ rw (poll, ours, eq-eqb (last_settings past).address (last_settings past).address refl)

        -- Rule 3 then acts on these lines, whether or not a status word is set.
        pub poll_ruled : (step (hear a b) now).controller.lines ≡ rule3 true (lines_polled past a b)
        unfolding step heard_by heard
        poll_ruled =
            let c = now.controller in
            let o = observed c.lines a b in
            rw (hear_controller_lem now a b)
            (ap (λ (h : Heard). rule3 (polls c.device h) (lines_found c.lines h heard_now o)) (heard_master heard_now m c.exchange)
            ∙ rw (poll, ours, (past_told past run).address, eq-eqb (last_settings past).address (last_settings past).address refl)
            (ap (rule3 true) (poll_finds c.lines heard_now o m.kind)))

        -- Bit by bit: LAA and RLD at their places, whatever the host wrote there, and each other bit the host's.
        pub status_bits : (s : ℕ) → (last_settings past).status ≡ Some s
            → (r : ℕ) × (answer (hear a b) now ≡ Some (r ∷ [])) × LineBits (lines_polled past a b) s r
        status_bits s e = (status_with (lines_polled past a b) s, status_reply ∙ rw e, line_bits (lines_polled past a b) s)

    -- So of every event, whatever it hears, the reply is a function of the past and of what the trusted line heard.
    pub reply_told_lem : answer (hear a b) now ≡ reply_in past a b
    unfolding reply_in
    reply_told_lem = by heard_now.kind refl (judged_master heard_now) refl
      where
        other : (heard_now.kind ≡ MasterFrame → ⊥) → answer (hear a b) now ≡ None
        other n = no_other_reply (λ m. n m.kind)

        by : (k : Kind) → heard_now.kind ≡ k → (j : Judgement) → judged_master heard_now ≡ j
            → answer (hear a b) now ≡ if_master k j (reply_told past (lines_polled past a b) (first_word heard_now))
        by Silence e j ej = other (λ f. let z : ◌≡◌ {A = ℕ} 0 1 = cc in omega arith)
        by Noise e j ej = other (λ f. let z : ◌≡◌ {A = ℕ} 0 1 = cc in omega arith)
        by MasterFrame e Sound ej = reply_exact (record { kind = e; sound = ej })
        by MasterFrame e (Bad wrong) ej = no_other_reply (λ m. let z : ◌≡◌ {A = ℕ} 0 1 = cc m.sound in omega arith)
        by SlaveFrame e j ej = other (λ f. let z : ◌≡◌ {A = ℕ} 0 1 = cc in omega arith)

    -- and the line hears it as a slave frame of these words, or silence
    pub reply_spoken : refusal (hear a b) now ≡ 0 → (outcome (hear a b) now).reply ≡ spoken (reply_in past a b)
    unfolding outcome
    reply_spoken e = rw (e, reply_told_lem)
