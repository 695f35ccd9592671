-- The marks of the blocks in word 1 (document 02, W-206): CRC is set exactly if one is, and bits 9 to 12 show those of the last finished
-- exchange. Assumes nothing.
use Prim.Native.Nat.{ℕ, zero, suc, ◌≤◌}
use mathlib.Core.Path.{◌≡◌, refl, sym, ◌∙◌, ap}
use mathlib.Core.Bool.{Bool, true, false, cond, not, ◌&&◌}
use mathlib.Core.List.{List}
use Rattle.std.specs.Prelude.{Option, None, Some}
use Rattle.std.proofs.lemmas.Option.{none-some, same_Some}
use native.Mathlib.Omega.{arith}
use Rattle.frames.specs.declared.Hearing.{Hearing}
use Rattle.frames.specs.declared.Wrong.{Wrong}
use Rattle.frames.specs.declared.Judgement.{Judgement}
use Rattle.frames.specs.declared.Judgement.TheVariants.{Sound, Unsound as Bad}
use Rattle.frames.specs.Hearing.{words_of}
use Rattle.frames.specs.Judge.{counts_right, checks_right, wrong_of, no_wrong, any_wrong, wrong_in, judged}
use Rattle.frames.proofs.Blocks.{any_wrong_lem, wrong_judged}
use Rattle.model.specs.declared.Words.{Words}
use Rattle.model.specs.declared.Faults.{Faults}
use Rattle.model.specs.declared.Exchange.TheVariants.{Idle}
use Rattle.model.specs.declared.Heard.TheVariants.{Reply}
use Rattle.model.specs.Layout.{Areas, areas_fit, entry, words_at, with_words, port_at, flags_of, marks_number}
use Rattle.model.specs.Ports.{address_of, Standing, turned, filled_words, faulty, marked_words, open_words, reply_missing, reply_bad}
use Rattle.model.specs.Ports.{fill, mark, opened, filled, apply}
use Rattle.model.specs.Lines.{trusted, observed}
use Rattle.model.specs.Event.{World, heard_by, event, hear_effect, sink_for, taken, brings}
use Rattle.model.specs.Quiet.{expired, due, exchange_later, effect_later, pulse, pulse_effect, pulse_controller, pulses, due_within}
use Rattle.model.specs.Calls.{hear, quiet, open_port, write_port, effect, step}
use Rattle.model.proofs.Bits.{block_bits, marks_of_word}
use Rattle.model.proofs.Formed.{lengths, open_flags}
use Rattle.model.proofs.PortWords.{words_same}
use Rattle.model.proofs.Standings.{standing_at_lem}
use Rattle.model.proofs.Accepted.{sink_open_lem}
use Rattle.model.specs.Grown.{grown_by}
use Rattle.model.proofs.Grown.{pulses_fits, ticks_grown, grown_ages}

-- CRC of an unsound answer is set exactly if a block is marked, and exactly if counts are right and a check byte is wrong.
pub crc_marks : (n : ℕ) (h : Hearing) (wrong : Wrong) → judged n h ≡ Bad wrong
    → let f = reply_bad wrong h.sqe h.alo in
    (f.crc ≡ any_wrong f.wrong) × (f.crc ≡ (counts_right n h && not (checks_right (words_of h) h.checks)))
crc_marks n h wrong e =
    let marks = wrong_of (words_of h) h.checks in
    let told : wrong ≡ cond (counts_right n h) marks no_wrong = ap wrong_in (sym e) ∙ wrong_judged n h in
    let by_bytes = ap (λ b. counts_right n h && b) (any_wrong_lem (words_of h) h.checks) in
    (refl, ap any_wrong told ∙ go (counts_right n h) marks ∙ by_bytes)
  where
    go : (counts : Bool) (w : Wrong) → any_wrong (cond counts w no_wrong) ≡ (counts && any_wrong w)
    go true w = refl
    go false w = refl

-- bits 9 to 12 of word 1 of a port
abbrev pub marks_at : Areas → ℕ → ℕ
marks_at m p = block_bits (port_at m p).flags

-- ---- after each effect

module _ (m : Areas) (fits : areas_fit m ≡ true) (p : ℕ) (small : p ≤ 255) where
  stored : (w : Words) → words_at (with_words m.ports p w) p ≡ w
  stored w = words_same m.ports p w (omega (arith, small, (lengths m fits).ports))

  fill_clears : (ws : List ℕ) → marks_at (apply (fill p ws) m) p ≡ 0
  unfolding apply filled filled_words
  fill_clears ws = rw (stored (filled_words (port_at m p))) (marks_of_word (turned (flags_of (port_at m p).flags)))

  mark_sets : (x : Faults) → marks_at (apply (mark p x) m) p ≡ marks_number x.wrong
  unfolding apply marked_words
  mark_sets x = rw (stored (marked_words (port_at m p) x)) (marks_of_word (faulty (flags_of (port_at m p).flags) x))

  open_clears : (a code : ℕ) (sink : Bool) (i limit : ℕ) → marks_at (apply (opened a p code sink i limit) m) p ≡ 0
  unfolding apply open_words
  open_clears a code sink i limit = rw (stored (open_words a code sink i limit)) (marks_of_word (open_flags sink))

-- ---- after each end of an exchange

module _ (m : Areas) (fits : areas_fit m ≡ true) (w : ℕ) (v : Standing) (found : sink_for m w ≡ Some v) where
  small : v.port ≤ 255
  small = (standing_at_lem m (address_of w) v (sink_open_lem m w v found).there).small

  -- a judged slave frame leaves the marks of its judgement
  taken_shown : (j : Judgement) (h : Hearing) → marks_at (apply (taken (sink_for m w) j h) m) v.port ≡ marks_number (wrong_in j)
  taken_shown Sound h = rw found (fill_clears m fits v.port small (words_of h))
  taken_shown (Bad wrong) h = rw found (mark_sets m fits v.port small (reply_bad wrong h.sqe h.alo))

  -- a reply that did not come leaves none
  missed_shown : marks_at (apply (effect_later m (Some w)) m) v.port ≡ 0
  missed_shown = rw found (mark_sets m fits v.port small reply_missing)

-- ---- after quiet time

-- the rules of a quiet bit time do what the reply time that is reached does, and end that wait
pulse_areas : (s : World) (o : Option ℕ) → due s ≡ o → (pulse s).areas ≡ apply (effect_later s.areas o) s.areas
unfolding pulse pulse_effect
pulse_areas s o e = ap (λ x. apply (effect_later s.areas x) s.areas) e

pulse_exchange : (s : World) (o : Option ℕ) → due s ≡ o → (pulse s).controller.exchange ≡ exchange_later s.controller.exchange o
unfolding pulse pulse_controller
pulse_exchange s o e = ap (exchange_later s.controller.exchange) e

-- while nothing is waited for, they leave the areas
idle_quiet : (n : ℕ) (s : World) → s.controller.exchange ≡ Idle → (pulses n s).areas ≡ s.areas
unfolding pulses apply
idle_quiet zero s e = refl
idle_quiet (suc n) s e =
    let nothing-due : due s ≡ None = ap (λ x. expired x s.controller.times) e in
    idle_quiet n (pulse s) (pulse_exchange s None nothing-due ∙ e) ∙ pulse_areas s None nothing-due

-- a reply time reached within n quiet bit times leaves no mark
late_shown : (n : ℕ) (s : World) (w : ℕ) (v : Standing) → areas_fit s.areas ≡ true → due_within n s ≡ Some w → sink_for s.areas w ≡ Some v
    → marks_at (pulses n s).areas v.port ≡ 0
unfolding pulses due_within apply
late_shown zero s w v fits d found = absurd (none-some w d)
late_shown (suc n) s w v fits d found = go (due s) refl (late_shown n (pulse s) w v)
  where
    go : (o : Option ℕ) → due s ≡ o
        → (areas_fit (pulse s).areas ≡ true → due_within n (pulse s) ≡ Some w → sink_for (pulse s).areas w ≡ Some v
        → marks_at (pulses n (pulse s)).areas v.port ≡ 0)
        → marks_at (pulses n (pulse s)).areas v.port ≡ 0
    go (Some u) e later =
        let same : u ≡ w = same_Some u w (rw e at d) in
        let missed = pulse_areas s (Some u) e ∙ ap (λ x. apply (effect_later s.areas (Some x)) s.areas) same in
        ap (λ m. marks_at m v.port) (idle_quiet n (pulse s) (pulse_exchange s (Some u) e) ∙ missed)
        ∙ missed_shown s.areas fits w v found
    go None e later =
        let kept = pulse_areas s None e in
        later (ap areas_fit kept ∙ fits) (rw e at d) (ap (λ m. sink_for m w) kept ∙ found)

-- ageing leaves word 1
grown_shown : (n : ℕ) (s : World) (p : ℕ) → areas_fit s.areas ≡ true → marks_at (grown_by n s).areas p ≡ marks_at s.areas p
grown_shown n s p fits = ap (λ w. block_bits w.flags) ((grown_ages n s fits).ports p)

-- ---- after each call

-- what bits 9 to 12 of a port's word 1 are after the calls that set its status bits
pub record MarksShown (s : World) : Type 0 where
  -- a slave frame is judged for an open sink: the blocks that the judgement calls wrong, 0 if it is sound
  pub answered : (a b : Hearing) (w : ℕ) (j : Judgement) (v : Standing) → heard_by s.controller a b ≡ Reply w j
      → sink_for s.areas w ≡ Some v → marks_at (step (hear a b) s).areas v.port ≡ marks_number (wrong_in j)
  -- the reply time of an open sink is reached within n quiet bit times: 0
  pub late : (n w : ℕ) (v : Standing) → due_within n s ≡ Some w → sink_for s.areas w ≡ Some v
      → marks_at (step (quiet n) s).areas v.port ≡ 0
  -- the host writes to the port: 0
  pub written : (a : ℕ) (ws : List ℕ) → entry s.areas a ≤ 255 → marks_at (step (write_port a ws) s).areas (entry s.areas a) ≡ 0
  -- the host opens it: 0
  pub fresh : (a p code : ℕ) (sink : Bool) (i limit : ℕ) → p ≤ 255 → marks_at (step (open_port a p code sink i limit) s).areas p ≡ 0

-- Bits 9 to 12 of an open sink are the marks after an unsound answer, and 0 after a fill, a timeout and an opening; in any memory.
pub marks_shown : (s : World) → areas_fit s.areas ≡ true → MarksShown s
unfolding step effect hear_effect event
marks_shown s fits =
    let m = s.areas in
    record {
      answered =
          λ a b w j v heard found.
          let t = trusted s.controller.lines a b in
          let o = observed s.controller.lines a b in
          ap (λ x. marks_at (apply (brings s.controller m t o x).effect m) v.port) heard ∙ taken_shown m fits w v found j t;
      late =
          λ n w v d found.
          ap (λ u. marks_at u.areas v.port) (ticks_grown n s fits) ∙ grown_shown n (pulses n s) v.port (pulses_fits n s fits)
          ∙ late_shown n s w v fits d found;
      written = λ a ws small. fill_clears m fits (entry m a) small ws;
      fresh = λ a p code sink i limit small. open_clears m fits p small a code sink i limit;
    }
