-- The outcomes of a bus event and of quiet time, by the refusals that the code computes. Assumes nothing.
use Prim.Native.Nat.{ℕ}
use mathlib.Core.Path.{◌≡◌, refl, ◌∙◌, ap, sym}
use mathlib.Core.Bool.{Bool, true, false, cond, not, ◌&&◌, ◌||◌}
use mathlib.Core.List.{List, []}
use Rattle.std.specs.Prelude.{Option, None, Some, Ok, Err}
use Rattle.constants.specs.declared.refusals.Refusal.TheVariants.{Damaged}
use Rattle.constants.specs.Refusal.{told}
use lib.Dec.{eqb, leb, ltb}
use borrow.Author.Tests.{not-false, eqb-true, leb-true, leb-false, le-ltb, lt-ltb}
use Rattle.frames.specs.declared.Hearing.{Hearing}
use Rattle.frames.specs.declared.Judgement.{Judgement}
use Rattle.frames.specs.declared.Judgement.TheVariants.{Sound, Unsound as Bad}
use Rattle.frames.specs.Hearing.{in_range}
use Rattle.model.specs.declared.Controller.{Controller}
use Rattle.model.specs.declared.Heard.{Heard}
use Rattle.model.specs.declared.Heard.TheVariants.{Nothing, Unsound, Master, Reply, Stray}
use Rattle.model.specs.Layout.{Areas, areas, areas_fit, entry, port_at}
use Rattle.model.specs.Ports.{code_of, address_of, has_ports, well_formed, seek, standing_of, apply}
use Rattle.model.specs.Lines.{trusted, observed}
use Rattle.model.specs.Event.{World, world, heard_by, device_with, raised_by_reply, silent, spoken}
use Rattle.model.proofs.Tables.{answer_of, lines_found, effect_of, controller_after}
use Rattle.model.specs.Quiet.{due_within, pulses}
use Rattle.model.specs.Calls.{Call, hear, quiet, needed_for, word_of_heard, entry_above, ill_formed, refusal, effect, step, answer, bad_area}
use Rattle.model.specs.Calls.{Outcome, outcome}
use Rattle.model.proofs.Refused.{accepted}
use Rattle.model.specs.Grown.{grown_by}
use Rattle.model.proofs.Grown.{ticks_grown}
use Rattle.model.proofs.Tables.{hear_controller_lem, hear_effect_lem, hear_answer_lem}
use Rattle.model.proofs.StatusReply.{exchange_unmoved}
use Rattle.bus_events.specs.Raised.{reply_bits}
use Rattle.bus_quiet.specs.Quiet.{due_in}
use Rattle.bus_quiet.proofs.Within.{due_in_lem}
use Rattle.bus_ports.specs.declared.Met.{Met}
use Rattle.bus_ports.specs.Found.{with_word, sought_for, sought_by, port_of, sink_of, interrupt_at, standing_at}
use Rattle.bus_ports.specs.Need.{event_refusal}
use Rattle.bus_ports.proofs.Ports.{sink_found, met_found, interrupt_found, indexed, taken_apart}
use Rattle.bus.specs.Promise.{after_with, accepted_with}

-- ---- the refusals

-- what is sought is damaged: the entry is above 255, or the words are not well formed; which master word they have does not matter
module _ (m : Areas) (w : ℕ) where
  abbrev E : ℕ
  E = entry m (address_of w)

  exact : (b : Bool) → told (cond b (Ok (Some E)) (Ok None)) ≡ 0
  exact true = refl
  exact false = refl

  damaged_tests :
      told (with_word m.ports w (seek (areas m.index m.ports [] []) (address_of w)))
      ≡ cond (ltb 255 E || (not (eqb E 0) && not (well_formed (address_of w) (port_at m E)))) 6 0
  unfolding seek
  damaged_tests = go (eqb E 0) refl (leb E 255) refl (well_formed (address_of w) (port_at m E))
    where
      go : (z : Bool) → eqb E 0 ≡ z → (s : Bool) → leb E 255 ≡ s → (f : Bool)
          → told (with_word m.ports w (cond z (Ok None) (cond (s && f) (Ok (Some E)) (Err Damaged)))) ≡ cond (ltb 255 E || (not z && not f)) 6 0
      go true ez s es f = rw (eqb-true E 0 ez)
      go false ez true es true = rw (le-ltb 255 E (leb-true _ _ es)) (exact (eqb (port_at m E).master w))
      go false ez true es false = rw (le-ltb 255 E (leb-true _ _ es))
      go false ez false es f = rw (lt-ltb 255 E (leb-false _ _ es))

damaged_needed : (m : Areas) (o : Option ℕ)
    → told (sought_by m.index m.ports o)
    ≡ cond (entry_above m (needed_for o) || ill_formed m (needed_for o)) 6 0
damaged_needed m None = refl
damaged_needed m (Some w) = go (has_ports (code_of w))
  where
    go : (b : Bool)
        → told (cond b (with_word m.ports w (seek (areas m.index m.ports [] []) (address_of w))) (Ok None))
        ≡ cond (entry_above m (cond b (Some (address_of w)) None) || ill_formed m (cond b (Some (address_of w)) None)) 6 0
    go true = damaged_tests m w
    go false = refl

-- the two tests that give 6
sixes : (e i : Bool) → ◌≡◌ {A = ℕ} (cond e 6 (cond i 6 0)) (cond (e || i) 6 0)
sixes true i = refl
sixes false i = refl

-- ---- a bus event, quiet time, and a refused call

-- an outcome with another index table
abbrev pub with_index : List ℕ → Outcome → Outcome
with_index i o = record { refusal = o.refusal; reply = o.reply; world = world o.world.controller (indexed i o.world.areas) }

-- a judged slave frame raises what the model says
bits_found : (m : Areas) (w : ℕ) (j : Judgement)
    → reply_bits j (interrupt_at m.ports (sink_of m.ports (port_of (sought_for m.index m.ports w)))) ≡ raised_by_reply m w j
bits_found m w Sound = interrupt_found m w
bits_found m w (Bad wrong) = refl

-- the event by what was heard: the index table is asked for what is sought alone
accepted_heard : (c : Controller) (m : Areas) (h : Heard) (t o : Hearing)
    → with_index m.index (accepted_with (world c (indexed [] m)) (port_of (sought_by m.index m.ports (word_of_heard h))) h t o)
    ≡ record {
      refusal = 0;
      reply = spoken (answer_of (device_with (lines_found c.lines h t o) c.device) m h);
      world = world (controller_after c m h t o) (apply (effect_of m h t) m);
    }
unfolding standing_of apply
accepted_heard c m Nothing t o = refl
accepted_heard c m Unsound t o = refl
accepted_heard c m (Master w) t o =
    let l = lines_found c.lines (Master w) t o in
    ap (λ (r : Met). record { refusal = 0; reply = r.reply; world = world (after_with c (Master w) l r.exchange 0) m })
    (met_found m w (device_with l c.device) ∙ rw (exchange_unmoved l c.device m w))
accepted_heard c m (Reply w j) t o =
    rw (
      bits_found m w j,
      taken_apart m.index (indexed [] m) (standing_at m (sink_of m.ports (port_of (sought_for m.index m.ports w)))) j t,
      ← (sink_found m w),
    )
accepted_heard c m Stray t o = refl

module _ (s : World) (a b : Hearing) where
  abbrev H : Heard
  H = heard_by s.controller a b

  -- the number that a bus event is refused with
  pub hear_refused :
      event_refusal (areas_fit s.areas) (not (in_range a) || not (in_range b))
      (sought_by s.areas.index s.areas.ports (word_of_heard H))
      ≡ refusal (hear a b) s
  unfolding refusal
  hear_refused = rw (damaged_needed s.areas (word_of_heard H), ← sixes)

  -- and the outcome of one that is accepted
  pub hear_accepted : 0 ≡ refusal (hear a b) s → (r : Outcome)
      → r ≡ accepted_with (world s.controller (indexed [] s.areas)) (port_of (sought_by s.areas.index s.areas.ports (word_of_heard H))) H
      (trusted s.controller.lines a b) (observed s.controller.lines a b)
      → with_index s.areas.index r ≡ outcome (hear a b) s
  unfolding outcome step effect answer
  hear_accepted e r g =
      rw (g, ← e, hear_controller_lem s a b, hear_effect_lem s a b, hear_answer_lem s a b)
      (accepted_heard s.controller s.areas H (trusted s.controller.lines a b) (observed s.controller.lines a b))

-- the number that quiet time is refused with
pub quiet_refused : (s : World) (n : ℕ)
    → event_refusal (areas_fit s.areas) (ltb 65535 n)
    (sought_by s.areas.index s.areas.ports (due_in n s.controller.exchange s.controller.times))
    ≡ refusal (quiet n) s
unfolding refusal
quiet_refused s n = rw (← (due_in_lem n s), damaged_needed s.areas (due_within n s), ← sixes)

-- accepted quiet time does what the rules of its bit times and then their end at once do, and replies nothing
pub quiet_accepted : (s : World) (q : ℕ) → 0 ≡ refusal (quiet q) s
    → outcome (quiet q) s ≡ record { refusal = 0; reply = silent; world = grown_by q (pulses q s) }
unfolding outcome step answer
quiet_accepted s q e =
    let fits : areas_fit s.areas ≡ true = not-false _ (accepted (quiet q) s (sym e) bad_area) in
    rw (← e, ticks_grown q s fits)

-- a refused call leaves all as it was
pub call_refused : (c : Call) (s : World) (n : ℕ) → n ≡ refusal c s → eqb n 0 ≡ false
    → outcome c s ≡ record { refusal = n; reply = silent; world = s }
unfolding outcome
call_refused c s n e f = rw (← e, f)
