-- DEMANDS 1, 2 AND 3, OF WHAT SHIPS: of every sequence of the exported calls from `tolvendrum_reset` and cleared areas on. Each is the demand
-- of the crate `demands` on the inner calls that the sequence is (`ran` of Stands.antt). Assumes nothing.
use Prim.Native.Nat.{ℕ, ◌%◌, min}
use mathlib.Core.Path.{◌≡◌, refl, ◌∙◌, subst}
use mathlib.Core.Bool.{Bool, true, false}
use mathlib.Core.List.{List, [], ◌∷◌}
use Rattle.std.specs.Prelude.{Some}
use native.Mathlib.Omega.{arith}
use lib.ListN.{length}
use Rattle.frames.specs.declared.Hearing.{Hearing}
use Rattle.frames.specs.Hearing.{words_of}
use Rattle.interrupts.specs.Names.{SFC}
use Rattle.model.specs.Layout.{Areas, port_at}
use Rattle.model.specs.Lines.{LineBits}
use Rattle.model.specs.Ports.{code_of, address_of, has_ports, Standing, standing, view, oldest}
use Rattle.model.specs.Event.{world, interrupt_of, raise_all, spoken}
use Rattle.model.specs.Calls.{Call, hear, quiet, open_port, close_port, write_port, read_port, setting}
use Rattle.model.specs.Past.{Typed, on_trusted, first_word, last_settings, answers, Opening, opening_of, answers_since, writes_since, last_of}
use Rattle.model.specs.Past.{source_told, lines_polled, status_told, reply_in, view_with, told_view, taken_if}
use Rattle.model.specs.Age.{age_since}
use Rattle.model.specs.Damage.{SoundMaster}
use Rattle.demands.specs.Made.{Made}
use Rattle.demands.proofs.OfCode as demand
use Rattle.firmware_layout.specs.declared.FlatController.{FlatController}
use Rattle.firmware_layout.specs.Controller.{controller_of}
use Rattle.firmware_demands.specs.Called.{Called, away_from}
use Rattle.firmware_demands.specs.Exported.{Exported}
use Rattle.firmware_demands.proofs.Inside.{called_made}
use Rattle.firmware_demands.proofs.Stands.{ran, fits}
use Rattle.firmware_demands.proofs.OfCalled.{away_number_lem, accepted_made}

module _ {past : List Call} {f : FlatController} {m : Areas} (calls : Exported past f m) where
  -- ---- demand 1

  module _ {given : Bool} {g : FlatController} {m' : Areas} {c : Call} {n : ℕ} {h : Hearing} (call : Called given f m c n h g m') where
    -- In a sequence a call whose arguments are no hearings or no flags answers 2.
    pub away_range : given ≡ false → n ≡ 2
    away_range t = away_number_lem call t ∙ go c
      where
        go : (x : Call) → away_from x m ≡ 2
        go (hear a b) = rw (fits calls)
        go (quiet k) = rw (fits calls)
        go (open_port a p code sink i limit) = rw (fits calls)
        go (close_port a) = rw (fits calls)
        go (write_port a ws) = rw (fits calls)
        go (read_port a) = rw (fits calls)
        go (setting t) = refl

    -- In a sequence no call meets damage.
    pub never_six : n ≡ 6 → ⊥
    never_six z = go given refl
      where
        go : (b : Bool) → given ≡ b → ⊥
        go true e =
            demand.never_six (ran calls)
            (subst (λ (k : ℕ). Made (world (controller_of f) m) c k h (world (controller_of g) m')) z (called_made call e))
        go false e = omega (arith, z, away_range e)

  -- ---- demand 2: an accepted event

  module _ {given : Bool} {g : FlatController} {m' : Areas} {a b h : Hearing} (call : Called given f m (hear a b) 0 h g m') where
    -- what the trusted line heard
    abbrev heard_now : Hearing
    heard_now = on_trusted past a b

    abbrev made : Made (world (controller_of f) m) (hear a b) 0 h (world (controller_of g) m')
    made = accepted_made call refl

    -- A slave frame is taken exactly when it is sound and answers a master frame of one of our open sinks: each address then shows its
    -- words with one fill more, and else what it showed.
    pub taken_exactly : Typed (hear a b) → (e : ℕ) → view m' e ≡ taken_if (answers past a b) (words_of heard_now) (view m e)
    taken_exactly = demand.taken_exactly (ran calls) made

    -- The port that takes the frame raises its interrupt.
    pub taken_raises : (e : ℕ) (v : Standing) → standing m e ≡ Some v → v.sink ≡ true → answers past a b v.word ≡ true
        → (controller_of g).group0 ≡ raise_all (SFC ∷ interrupt_of (Some v)) (controller_of f).group0
    taken_raises = demand.taken_raises (ran calls) made

    -- Each reply is exactly what the past tells, for every F-code and whatever was heard.
    pub replies_exactly : h ≡ spoken (reply_in past a b)
    replies_exactly = demand.replies_exactly (ran calls) made

    -- A data reply holds the words that the host last wrote.
    pub data_replied : SoundMaster heard_now → has_ports (code_of (first_word heard_now)) ≡ true
        → h ≡ spoken (source_told past (first_word heard_now) (opening_of past (address_of (first_word heard_now))))
    data_replied = demand.data_replied (ran calls) made

    module _ (sound : SoundMaster heard_now) (poll : code_of (first_word heard_now) ≡ 15)
        (ours : address_of (first_word heard_now) ≡ (last_settings past).address) where
      -- A status reply holds the status word last set, with LAA and RLD as the poll finds them.
      pub status_replied : h ≡ spoken (status_told (lines_polled past a b) (last_settings past).status)
      status_replied = demand.status_replied (ran calls) made sound poll ours

      -- Bit by bit: LAA and RLD at their places, and each other bit the host's.
      pub status_bits : (w : ℕ) → (last_settings past).status ≡ Some w
          → (x : ℕ) × (h ≡ spoken (Some (x ∷ []))) × LineBits (lines_polled past a b) w x
      status_bits = demand.status_bits (ran calls) made sound poll ours

  -- ---- demand 3: what each address shows

  -- What was opened there last and not closed, with what filled it since; where nothing was, it shows nothing.
  pub shows_told : (a : ℕ) → view m a ≡ told_view past a (opening_of past a)
  shows_told = demand.shows_told (ran calls)

  module _ (a : ℕ) (o : Opening) (opened : opening_of past a ≡ Some o) where
    -- An open sink shows the words of the last sound slave frame that answered its master frame since it was opened, or that there
    -- was none, and its fills are their number.
    pub sink_shows : o.sink ≡ true
        → let l = answers_since past a o.word in
        view m a ≡ Some (view_with o (last_of l) (length l % 65536))
    sink_shows = demand.sink_shows (ran calls) a o opened

    -- An open source shows those that the host wrote.
    pub source_shows : o.sink ≡ false
        → let l = writes_since past a in
        view m a ≡ Some (view_with o (last_of l) (length l % 65536))
    source_shows = demand.source_shows (ran calls) a o opened

    -- The age of an open sink is the milliseconds that ended since its last taken frame, or since its opening, at most 65,535.
    pub age_told_lem : o.sink ≡ true → (port_at m o.port).age ≡ min oldest (age_since past a o.word)
    age_told_lem = demand.age_told_lem (ran calls) a o opened
