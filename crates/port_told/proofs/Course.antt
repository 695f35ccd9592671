-- The lines of an input as a run: a line that is not refused is its call, accepted, and the controller and areas that it leaves are those
-- after the past with this call. Assumes nothing.
use Rattle.std.proofs.Common.{ℕ, ◌≡◌, refl, sym, ◌∙◌, ap, Bool, true, false, cond, ◌&&◌, List, [], ◌∷◌, ◌++◌, append-nil, Option, None, Some, arith, eqb, leb, ltb, length, replicate}
use Rattle.std.proofs.Math.Seq.{length-sets}
use Rattle.host_ports.specs.Host.{port_areas}
use Rattle.port_digits.specs.Marks.{comma, semicolon, equals}
use Rattle.port_digits.specs.Cut.{text_before, text_after, has, same}
use Rattle.port_digits.specs.Read.{number_in}
use Rattle.frames.specs.declared.Kind.{Kind}
use Rattle.frames.specs.declared.Kind.TheVariants.{Master as MasterFrame, Slave as SlaveFrame}
use Rattle.model.specs.Event.{world, silent, spoken}
use Rattle.model.specs.Calls.{Call, hear, quiet, refusal, step, effect, answer, outcome_of, outcome, fresh_over, port_refusal}
use Rattle.model.specs.Past.{after, Typed, Accepted, happening}
use Rattle.model.proofs.Demands.{reply_told_lem}
use Rattle.port_text.specs.declared.Key.{Key}
use Rattle.port_text.specs.declared.Key.TheVariants.{Addr, Fcode, Dir, Index, Master, Slave, Quiet, Write}
use Rattle.port_text.specs.Words.{w_sink, w_source}
use Rattle.port_text.specs.Report.{reply_text}
use Rattle.port_text.specs.Line.{Line, addr, fcode, index, dir, frame, quiet as quiet_line, write, malformed, numbered, dir_of, hearing_of}
use Rattle.port_text.specs.Line.{frame_read, first_list, second_list, below, is_frame_text, framed, kept, written, write_of, line_as, key_of, line_of}
use Rattle.port_line.specs.declared.Setup.{Setup}
use Rattle.port_line.specs.Meaning.{State, state, Step, step_with, misplaced, setup, due, whole, answered, hosted, meaning}
use Rattle.port_run.specs.Printed.{line_in}
use Rattle.port_told.specs.Told.{call_in, added, line_refusal, setup_after, reply_said, replies_told}

-- ---- a frame that a line says has an array of sixteen words

-- what the types say of a call, if there is one
abbrev pub TypedIn : Option Call → Type 0
TypedIn None = Unit
TypedIn (Some c) = Typed c

module _ (u : Setup) where
  -- of a number alone no line is a frame
  typed_numbered : (f : ℕ → Line) → ((n : ℕ) → TypedIn (call_in (f n) u)) → (n : Option ℕ) → TypedIn (call_in (numbered f n) u)
  typed_numbered f h (Some n) = h n
  typed_numbered f h None = tt

  typed_cond : (b : Bool) (x y : Line) → TypedIn (call_in x u) → TypedIn (call_in y u) → TypedIn (call_in (cond b x y) u)
  typed_cond true x y p q = p
  typed_cond false x y p q = q

  sixteen : (kind : Kind) (ws cs : List ℕ) → length (hearing_of kind ws cs).words ≡ 16
  unfolding hearing_of
  sixteen kind ws cs = length-sets (replicate 16 0) 0 ws

  typed_framed : (kind : Kind) (one : Bool) (b : ℕ) (v : List ℕ) → TypedIn (call_in (framed (frame_read kind one b v)) u)
  unfolding frame_read
  typed_framed kind one b v = go (is_frame_text one b v)
    where
      words : List ℕ
      words = (first_list b v).values

      checks : List ℕ
      checks = (second_list b v).values

      go : (e : Bool)
          → TypedIn (call_in (framed (cond e (Some (hearing_of kind words checks)) None)) u)
      go true = (sixteen kind words checks, sixteen kind words checks)
      go false = tt

  typed_written : (a : Option ℕ) (ws : List ℕ) → TypedIn (call_in (written a ws) u)
  typed_written a ws = typed_numbered _ (λ n. typed_cond (leb n 65535) (write n ws) malformed tt tt) a

  typed_as : (k : Option Key) (v : List ℕ) → TypedIn (call_in (line_as k v) u)
  unfolding line_as dir_of write_of
  typed_as (Some Addr) v = typed_numbered _ (λ n. tt) (number_in v)
  typed_as (Some Fcode) v = typed_numbered _ (λ n. tt) (number_in v)
  typed_as (Some Dir) v = typed_cond (same v w_sink) _ _ tt (typed_cond (same v w_source) _ _ tt tt)
  typed_as (Some Index) v = typed_numbered _ (λ n. tt) (number_in v)
  typed_as (Some Master) v = typed_framed MasterFrame true comma v
  typed_as (Some Slave) v = typed_framed SlaveFrame false semicolon v
  typed_as (Some Quiet) v = typed_numbered _ (λ n. tt) (number_in v)
  typed_as (Some Write) v =
      let a = number_in (text_before semicolon v) in
      let ws = kept (second_list semicolon v).values in
      typed_cond (has semicolon v && below 65535 (second_list semicolon v)) (written a ws) malformed (typed_written a ws) tt
  typed_as None v = tt

  typed_line : (t : List ℕ) → TypedIn (call_in (line_of t) u)
  unfolding line_of
  typed_line t = typed_as (key_of (text_before equals t)) (text_after equals t)

-- What the types say of a call's arguments holds of the call that a line makes.
pub typed_in : (room : ℕ) (u : Setup) (t : List ℕ) → TypedIn (call_in (line_in room t) u)
typed_in room u t = typed_cond u (ltb room (length t)) malformed (line_of t) tt (typed_line u t)

-- ---- one line

-- a line that is not refused, the past that it makes of the past before it and the setup v after it: every call is accepted, the line leaves
-- what they leave, and what it says is the reply to its call
pub record Makes (past made : List Call) (v : Setup) (x : Step) : Type 0 where
  pub all : Accepted made
  pub left : x.next ≡ state v (after made)
  pub said : replies_told past ++ x.said ≡ replies_told made

-- what a line comes to, refused with the number n or not: refused, it says nothing
pub record Does (past made : List Call) (n : ℕ) (v : Setup) (x : Step) : Type 0 where
  pub number : x.refusal ≡ n
  pub makes : x.refusal ≡ 0 → Makes past made v x
  pub mute : eqb x.refusal 0 ≡ false → x.said ≡ []

module _ (u : Setup) (past : List Call) (run : Accepted past) where
  abbrev before : State
  before = state u (after past)

  -- out of its place every line is refused
  out_of_place : (made : List Call) {v : Setup} → Does past made 7 v (misplaced before)
  out_of_place made = record { number = refl; makes = λ e. absurd (omega arith); mute = λ e. refl }

  placed : (b : Bool) (x : Step) {made : List Call} {n : ℕ} {v : Setup} → Does past made n v x
      → Does past made (cond b n 7) v (cond b x (misplaced before))
  placed true x does = does
  placed false x {made} does = out_of_place made

  -- a setup line makes no call
  described : (v : Setup) → Does past past 0 v (step_with 0 [] (state v (after past)))
  described v =
      record {
        number = refl;
        makes = λ e. record { all = run; left = refl; said = append-nil (replies_told past) };
        mute = λ e. refl;
      }

  -- an event and quiet time
  on_bus_lem : (c : Call) → Typed c → reply_text (spoken (answer c (after past))) ≡ reply_said past (happening c)
      → Does past (c ∷ past) (refusal c (after past)) (setup 4 u.addr u.code u.sink) (answered (outcome c (after past)) u)
  unfolding outcome after replies_told reply_text silent
  on_bus_lem c typed spoke =
      record {
        number = refl;
        makes = λ e. record { all = (typed, e, run); left = rw e; said = rw (e, spoke) };
        mute = λ e. rw e;
      }

  -- a call of the host's on ports, in which the controller plays no part
  on_ports : (c : Call) (stage : ℕ) → Typed c → reply_said past (happening c) ≡ []
      → port_refusal c (after past).areas ≡ refusal c (after past)
      → world (after past).controller (step c (fresh_over (after past).areas)).areas ≡ step c (after past)
      → Does past (c ∷ past) (refusal c (after past)) (setup stage u.addr u.code u.sink) (hosted c stage before)
  unfolding outcome after replies_told port_areas port_refusal
  on_ports c stage typed mute number left =
      let v = setup stage u.addr u.code u.sink in
      let m = (after past).areas in
      let leaves : ℕ → State = λ n. state v (world (after past).controller (outcome_of n c (fresh_over m)).world.areas) in
      record {
        number = number;
        makes = λ e. record { all = (typed, sym number ∙ e, run); left = ap leaves e ∙ ap (state v) left; said = rw mute };
        mute = λ e. refl;
      }

  -- A line that is not refused is its call, and it is refused as its call is.
  pub line_does : (l : Line) → TypedIn (call_in l u)
      → Does past (added (call_in l u) past) (line_refusal l u past) (setup_after l u) (meaning l before)
  unfolding meaning port_refusal refusal step effect answer reply_text silent
  line_does (addr n) typed = placed (due 0 u) _ (described (setup 1 n u.code u.sink))
  line_does (fcode n) typed = placed (due 1 u) _ (described (setup 2 u.addr n u.sink))
  line_does (dir sink) typed = placed (due 2 u) _ (described (setup 3 u.addr u.code sink))
  line_does (index n) typed = placed (due 3 u) _ (on_ports _ 0 typed refl refl refl)
  line_does (frame h) typed =
      placed (whole u) _ (on_bus_lem (hear h h) typed (ap (λ (r : Option (List ℕ)). reply_text (spoken r)) (reply_told_lem past run h h)))
  line_does (quiet_line n) typed = placed (whole u) _ (on_bus_lem (quiet n) typed refl)
  line_does (write a ws) typed = placed (whole u) _ (on_ports _ 4 typed refl refl refl)
  line_does malformed typed = out_of_place past
