-- What is sought for a master word, with the number of the port if one was found, is the model's port for the word: `port_for`, `sink_for`,
-- and what these give a sound master frame, a judged slave frame and a reply time that is reached. Assumes nothing.
use Prim.Native.Nat.{ℕ}
use mathlib.Core.Path.{◌≡◌, refl, sym, ◌∙◌, ap}
use mathlib.Core.Bool.{Bool, true, false, cond, not, ◌&&◌}
use mathlib.Core.List.{List}
use Rattle.std.specs.Prelude.{Option, None, Some, Ok, Err}
use lib.Dec.{eqb, leb}
use Rattle.frames.specs.declared.Hearing.{Hearing}
use Rattle.frames.specs.declared.Judgement.{Judgement}
use Rattle.frames.specs.declared.Judgement.TheVariants.{Sound, Unsound as Bad}
use Rattle.model.specs.declared.Device.{Device}
use Rattle.constants.specs.declared.refusals.Refusal.TheVariants.{Damaged}
use Rattle.model.specs.Layout.{Areas, areas, entry, port_at, flags_of}
use Rattle.model.specs.Ports.{code_of, address_of, has_ports, well_formed, seek, valid_words, Standing, standing_of, seen, standing}
use Rattle.model.specs.Ports.{filled, apply}
use Rattle.model.specs.Event.{open_for, port_for, if_sink, sink_for, if_source, answer_to, exchange_for, spoken, transfer_bit}
use Rattle.model.specs.Event.{interrupt_of, taken}
use Rattle.model.specs.Quiet.{missed, effect_later}
use Rattle.bus_ports.specs.Found.{with_word, sought_for, sought_by, port_of, sink_of, interrupt_at, source_at, standing_at, late_at, met_by}

-- ---- the port that is found

-- it, if it is a sink
sink_known : (m : Areas) (o : Option ℕ) → if_sink (standing_at m o) ≡ standing_at m (sink_of m.ports o)
unfolding standing_of
sink_known m None = refl
sink_known m (Some p) = go (flags_of (port_at m p).flags).sink
  where
    go : (s : Bool) → cond s (Some (standing_of m p)) None ≡ standing_at m (cond s (Some p) None)
    go true = refl
    go false = refl

-- its interrupt
interrupt_known : (m : Areas) (o : Option ℕ) → transfer_bit (interrupt_at m.ports o) ≡ interrupt_of (standing_at m o)
unfolding standing_of
interrupt_known m None = refl
interrupt_known m (Some p) = refl

-- what becomes of it when its reply does not come
late_known : (m : Areas) (o : Option ℕ) → apply (missed (standing_at m o)) m ≡ areas m.index (late_at m.ports o) m.page0 m.page1
unfolding standing_of apply
late_known m None = refl
late_known m (Some p) = refl

-- the words of a filled source
pub source_known : (m : Areas) (p : ℕ) → if_source (standing_at m (Some p)) ≡ cond (source_at m.ports p) (Some (valid_words m p)) None
unfolding standing_of
source_known m p = by (flags_of (port_at m p).flags).sink (flags_of (port_at m p).flags).ever
  where
    by : (s e : Bool) → cond s None (cond e (Some (valid_words m p)) None) ≡ cond (not s && e) (Some (valid_words m p)) None
    by true e = refl
    by false e = refl

-- ---- what is sought for a master word

module _ (m : Areas) (w : ℕ) where
  abbrev E : ℕ
  E = entry m (address_of w)

  abbrev S : Option ℕ
  S = port_of (sought_for m.index m.ports w)

  exact : (b : Bool) → cond b (Some (standing_of m E)) None ≡ standing_at m (port_of (cond b (Ok (Some E)) (Ok None)))
  exact true = refl
  exact false = refl

  -- it is the model's port
  port_found : port_for m w ≡ standing_at m S
  unfolding port_for standing seek standing_of
  port_found = go (has_ports (code_of w)) (eqb E 0) (leb E 255 && well_formed (address_of w) (port_at m E))
    where
      go : (b z f : Bool)
          → cond b (open_for w (seen m (cond z (Ok None) (cond f (Ok (Some E)) (Err Damaged))))) None
          ≡ standing_at m (port_of (cond b (with_word m.ports w (cond z (Ok None) (cond f (Ok (Some E)) (Err Damaged)))) (Ok None)))
      go true true f = refl
      go true false true = exact (eqb (port_at m E).master w)
      go true false false = refl
      go false z f = refl

  -- and the model's sink, if it is one
  pub sink_found : sink_for m w ≡ standing_at m (sink_of m.ports S)
  sink_found = ap if_sink port_found ∙ sink_known m S

  -- a sound master frame is met as the model says
  pub met_found : (d : Device) → met_by d (standing_at m S) w ≡ record { exchange = exchange_for d m w; reply = spoken (answer_to d m w) }
  unfolding exchange_for answer_to
  met_found d = rw (← port_found)

  -- the sink's interrupt is the model's
  pub interrupt_found : transfer_bit (interrupt_at m.ports (sink_of m.ports S)) ≡ interrupt_of (sink_for m w)
  interrupt_found = interrupt_known m (sink_of m.ports S) ∙ ap interrupt_of (sym sink_found)

-- a reply time that is reached leaves what the model says
pub late_found : (m : Areas) (o : Option ℕ)
    → apply (effect_later m o) m
    ≡ areas m.index (late_at m.ports (sink_of m.ports (port_of (sought_by m.index m.ports o)))) m.page0 m.page1
unfolding apply
late_found m None = refl
late_found m (Some w) = rw (sink_found m w) (late_known m (sink_of m.ports (S m w)))

-- the areas with another index table
abbrev pub indexed : List ℕ → Areas → Areas
indexed i m = areas i m.ports m.page0 m.page1

-- storing does not ask the index table
pub taken_apart : (i : List ℕ) (m : Areas) (v : Option Standing) (j : Judgement) (h : Hearing)
    → indexed i (apply (taken v j h) m) ≡ apply (taken v j h) (indexed i m)
unfolding apply filled
taken_apart i m None j h = refl
taken_apart i m (Some v) Sound h = refl
taken_apart i m (Some v) (Bad wrong) h = refl
