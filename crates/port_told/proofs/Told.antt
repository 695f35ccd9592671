-- DEMANDS 2 AND 3 AT THE PORT PROGRAM. The lines of an input make a run of accepted calls, and what is printed is what the past of these
-- calls tells: the replies, and of each open port the eight lines with the words that filled it last. Assumes nothing.
use Rattle.std.proofs.Common.{ℕ, zero, suc, ◌%◌, ◌≡◌, refl, sym, ◌∙◌, ap, Bool, true, false, cond, List, [], ◌∷◌, ◌++◌, append_assoc, Option, None, Some, arith, eqb-true, eq-eqb, ne_eqb, eqb, length}
use Rattle.model.specs.Answer.{Answer}
use Rattle.model.specs.declared.Words.{Words}
use Rattle.model.specs.declared.Faults.{Faults}
use Rattle.model.specs.Layout.{Areas, entry, port_at, flags_of}
use Rattle.model.specs.Ports.{Standing, standing_of, standing, valid_words, is_held, no_faults, too_old, state_by, state_of}
use Rattle.model.specs.Calls.{Call, part_for, asked, fetched}
use Rattle.model.specs.Past.{opening, keeps, opens, writes, leaves, after, Accepted, Opening, opening_of, answers_since, writes_since, last_of, fillings}
use Rattle.model.specs.StatusBits.{faults_since}
use Rattle.model.proofs.Shape.{Shape}
use Rattle.model.proofs.Formed.{pages_fit_lem}
use Rattle.model.proofs.Standings.{standing_at_lem, none_entry}
use Rattle.model.proofs.ToldPort.{standing_with, told_standing}
use Rattle.model.proofs.Told.{past_told}
use Rattle.model.proofs.Reading.{readable}
use Rattle.model.proofs.Ages.{faults_told_lem}
use Rattle.model.proofs.Demands.{never_damaged}
use Rattle.port_text.specs.Report.{state_text, data_text, text_of_port, open_text, report_below, report, refused_text}
use Rattle.port_text.specs.Line.{Line, addr, fcode, index, dir, frame, quiet as quiet_line, write, malformed}
use Rattle.port_line.specs.declared.Setup.{Setup}
use Rattle.port_line.specs.Meaning.{fresh_setup, state, whole, Step, meaning}
use Rattle.port_run.specs.Printed.{text_lines, longest, line_in, end_text, printed_from, printed}
use Rattle.port_told.specs.Told.{Unsupervised, call_in, added, in_place, call_refusal, line_refusal, setup_after, course_from, course_of, state_told}
use Rattle.port_told.specs.Told.{data_told, lines_told, told_of_port, told_below, report_told, replies_told, output_told}
use Rattle.port_told.proofs.Course.{Does, typed_in, line_does}

-- ---- what is printed of one port

-- state and data of a port that is not supervised, by its words and those of its valid page
module _ (w : Words) (unsupervised : w.limit ≡ 0) (ws : List ℕ) where
  abbrev Said : Answer → Bool → Option (List ℕ) → Type 0
  Said x held shows = (state_text x ≡ state_told held shows) × (data_text x (part_for x ws) ≡ data_told shows)

  never_old : too_old w.limit w.age ≡ false
  never_old = rw (eq-eqb w.limit 0 unsupervised)

  said : Said (state_of w) (is_held (flags_of w.flags).faults) (cond (flags_of w.flags).ever (Some ws) None)
  unfolding state_of
  said = rw never_old (go (flags_of w.flags).ever (is_held (flags_of w.flags).faults))
    where
      go : (e h : Bool) → Said (state_by e h false) h (cond e (Some ws) None)
      go true true = (refl, refl)
      go true false = (refl, refl)
      go false h = (refl, refl)

-- of a port that stands open, by the words that filled it
module _ (m : Areas) (shape : Shape m) (a : ℕ) (o : Opening) (free : o.limit ≡ 0) (l : List (List ℕ))
    (stands : standing m a ≡ Some (standing_with o (last_of l) (length l % 65536))) where
  -- the port's own words
  abbrev words : Words
  words = port_at m (entry m a)

  whole_port : standing_with o (last_of l) (length l % 65536) ≡ standing_of m (entry m a)
  whole_port = let at = standing_at_lem m a _ stands in at.whole ∙ ap (standing_of m) at.port

  asks : asked m a ≡ state_of words
  unfolding asked
  asks = rw (readable m shape a _ stands)

  open_there : eqb (entry m a) 0 ≡ false
  open_there = let at = standing_at_lem m a _ stands in ne_eqb (entry m a) 0 (λ z. omega (arith, at.positive, at.port))

  standing_said : open_text m a ≡ lines_told (flags_of words.flags).faults a o l
  unfolding open_text text_of_port lines_told standing_of fetched
  standing_said =
      let word = ap (λ (v : Standing). v.word) whole_port in
      let sink = ap (λ (v : Standing). v.sink) whole_port in
      let port = ap (λ (v : Standing). v.port) whole_port in
      let shows = ap (λ (v : Standing). v.shows) whole_port in
      let fills = ap (λ (v : Standing). v.fills) whole_port in
      let limit = ap (λ (v : Standing). v.limit) whole_port in
      let text = said words (sym limit ∙ free) (valid_words m (entry m a)) in
      rw (open_there, pages_fit_lem m shape.fits, asks, word, sink, port, shows, fills, text.0, text.1)

-- ---- what is printed of all ports

module _ (past : List Call) (run : Accepted past) (free : Unsupervised past) where
  abbrev m : Areas
  m = (after past).areas

  -- What is printed of an address is what the past tells of it: nothing where no port is open, and of an open port its setup, the words
  -- that filled it last since it was opened, or that there were none, their number, and what its last exchange left of status bits.
  pub port_told : (a : ℕ) → open_text m a ≡ told_of_port past a (opening_of past a)
  unfolding open_text
  port_told a = go (opening_of past a) refl ((past_told past run).holds.stands a)
    where
      go : (o : Option Opening) → opening_of past a ≡ o → standing m a ≡ told_standing past a o → open_text m a ≡ told_of_port past a o
      go None i e = rw (eq-eqb (entry m a) 0 (none_entry m a (past_told past run).holds.shape e))
      go (Some o) i e =
          let here : entry m a ≡ o.port = sym (standing_at_lem m a _ e).port in
          standing_said m (past_told past run).holds.shape a o (free a o i) (fillings past a o) e
          ∙ ap (λ (f : Faults). lines_told f a o (fillings past a o))
          (ap (λ (p : ℕ). (flags_of (port_at m p).flags).faults) here ∙ faults_told_lem past run a o i)

  -- Of an open sink: the words of the last sound slave frame that answered its master frame since it was opened, or that there was none; its
  -- fills are the number of these frames.
  pub sink_told : (a : ℕ) (o : Opening) → opening_of past a ≡ Some o → o.sink ≡ true
      → open_text m a ≡ lines_told (faults_since past a o.word) a o (answers_since past a o.word)
  sink_told a o e sink = port_told a ∙ rw (e, sink)

  -- Of an open source: the words that the host last wrote to it since it was opened, or that there were none.
  pub source_told_lem : (a : ℕ) (o : Opening) → opening_of past a ≡ Some o → o.sink ≡ false
      → open_text m a ≡ lines_told no_faults a o (writes_since past a)
  source_told_lem a o e source = port_told a ∙ rw (e, source)

  below_told : (n : ℕ) → report_below m n ≡ told_below past n
  unfolding report_below told_below
  below_told zero = refl
  below_told (suc a) = rw (below_told a, port_told a)

  -- The report is what the past tells of all addresses.
  pub report_told_lem : report m ≡ report_told past
  unfolding report report_told
  report_told_lem = below_told 4096

-- ---- the whole input

-- a line leaves every open port unsupervised
line_free : (l : Line) (u : Setup) (past : List Call) → Unsupervised past → Unsupervised (added (call_in l u) past)
unfolding opening_of
line_free (addr n) u past free = free
line_free (fcode n) u past free = free
line_free (dir sink) u past free = free
line_free (index n) u past free = λ a o. go (eqb u.addr a) a o
  where
    go : (b : Bool) (a : ℕ) (o : Opening)
        → leaves (cond b (opens (opening u.addr n u.code u.sink 0 0)) keeps) (opening_of past a) ≡ Some o → o.limit ≡ 0
    go true a o e =
        let same : opening u.addr n u.code u.sink 0 0 ≡ o = cc in
        sym (ap (λ (x : Opening). x.limit) same)
    go false a o e = free a o e
line_free (frame h) u past free = free
line_free (quiet_line n) u past free = free
line_free (write b ws) u past free = λ a o. go (eqb b a) a o
  where
    go : (k : Bool) (a : ℕ) (o : Opening) → leaves (cond k (writes ws) keeps) (opening_of past a) ≡ Some o → o.limit ≡ 0
    go true a o e = free a o e
    go false a o e = free a o e
line_free malformed u past free = free

-- in a run no call is refused with 6, and no other line is
line_undamaged : (l : Line) (u : Setup) (past : List Call) → Accepted past → line_refusal l u past ≡ 6 → ⊥
line_undamaged l u past run = go (in_place l u) (call_in l u)
  where
    go : (b : Bool) (c : Option Call) → cond b (call_refusal c past) 7 ≡ 6 → ⊥
    go true None e = omega arith
    go true (Some c) e = never_damaged past run c e
    go false c e = omega arith

end_undamaged : (b : Bool) → cond {A = ℕ} b 0 7 ≡ 6 → ⊥
end_undamaged true e = omega arith
end_undamaged false e = omega arith

-- the lines that are left, after a past, with room for so many bytes of each
record Printed (room : ℕ) (ls : List (List ℕ)) (u : Setup) (past : List Call) : Type 0 where
  all : Accepted (course_from room ls u past).past
  free : Unsupervised (course_from room ls u past).past
  undamaged : (course_from room ls u past).refusal ≡ 6 → ⊥
  text : replies_told past ++ printed_from room ls (state u (after past)) ≡ output_told (course_from room ls u past)

lines_told_lem : (room : ℕ) (ls : List (List ℕ)) (u : Setup) (past : List Call) → Accepted past → Unsupervised past → Printed room ls u past
unfolding printed_from course_from end_text output_told
lines_told_lem room [] u past run free = record { all = run; free = free; undamaged = end_undamaged (whole u); text = go (whole u) }
  where
    go : (b : Bool) → replies_told past ++ cond b (report (after past).areas) (refused_text 7)
        ≡ replies_told past ++ cond (eqb (cond b 0 7) 0) (report_told past) (refused_text (cond b 0 7))
    go true = ap (λ (t : List ℕ). replies_told past ++ t) (report_told_lem past run free)
    go false = refl
lines_told_lem room (t ∷ ts) u past run free =
    go (eqb number 0) refl (λ all. lines_told_lem room ts (setup_after l u) made all (line_free l u past free))
  where
    l : Line
    l = line_in room t

    number : ℕ
    number = line_refusal l u past

    x : Step
    x = meaning l (state u (after past))

    made : List Call
    made = added (call_in l u) past

    does : Does past made number (setup_after l u) x
    does = line_does u past run l (typed_in room u t)

    go : (b : Bool) → eqb number 0 ≡ b → (Accepted made → Printed room ts (setup_after l u) made) → Printed room (t ∷ ts) u past
    go true e rest =
        let None : x.refusal ≡ 0 = does.number ∙ eqb-true number 0 e in
        let m = does.makes None in
        record {
          all = rw e (rest m.all).all;
          free = rw e (rest m.all).free;
          undamaged = rw e (rest m.all).undamaged;
          text = rw (None, e) (sym (append_assoc (replies_told past) x.said _) ∙ rw (m.said, m.left) (rest m.all).text);
        }
    go false e rest =
        let mute = does.mute (ap (λ (n : ℕ). eqb n 0) does.number ∙ e) in
        record { all = rw e run; free = rw e free; undamaged = rw e (line_undamaged l u past run); text = rw (mute, does.number, e, e) }

whole_told : (t : List ℕ) → Printed longest (text_lines t) fresh_setup []
unfolding opening_of
whole_told t = lines_told_lem longest (text_lines t) fresh_setup [] tt (λ a o e. let z : ◌≡◌ {A = ℕ} 0 1 = cc in absurd (omega arith))

-- DEMANDS 1, 2 AND 3 AT THE PORT PROGRAM: `course_of` has, by document 01's tests, the calls that the lines of an input make and the number
-- at which it is refused. These calls are a run: each of them is accepted.
pub input_accepted : (t : List ℕ) → Accepted (course_of t).past
unfolding course_of
input_accepted t = (whole_told t).all

-- No input is refused with 6: its lines meet no damage.
pub input_undamaged : (t : List ℕ) → (course_of t).refusal ≡ 6 → ⊥
unfolding course_of
input_undamaged t = (whole_told t).undamaged

-- No port of an input is supervised, so none is printed as stale.
pub input_unsupervised : (t : List ℕ) → Unsupervised (course_of t).past
unfolding course_of
input_unsupervised t = (whole_told t).free

-- What is printed of an input is what its past tells: the replies, and then of each open port its eight lines, or the number of the refusal.
pub printed_told : (t : List ℕ) → printed t ≡ output_told (course_of t)
unfolding printed course_of after replies_told
printed_told t = (whole_told t).text
