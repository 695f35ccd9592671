-- One case of damage, computed: a sink that waits, a slave frame with a wrong check byte, the master frame again. The port is in doubt, its
-- status bits do differ, and when the reply time has passed they are the same again. Assumes nothing.
use Prim.Native.Nat.{ℕ}
use mathlib.Core.Path.{◌≡◌, refl}
use mathlib.Core.Bool.{true, false}
use mathlib.Core.List.{List, [], ◌∷◌, ◌++◌}
use Rattle.std.specs.Prelude.{None, Some}
use lib.Count.{ones}
use lib.ListN.{replicate}
use Rattle.sequence.specs.Check.{push, pushes, rest, ones_of, check_of}
use Rattle.sequence.specs.Frame.{blocks, check_at}
use Rattle.frames.specs.declared.Kind.{Kind}
use Rattle.frames.specs.declared.Kind.TheVariants.{Master, Slave}
use Rattle.frames.specs.declared.Hearing.{Hearing}
use Rattle.frames.specs.Hearing.{words_of}
use Rattle.frames.specs.Size.{sizes, expected_of}
use Rattle.frames.specs.Judge.{counts_right, right_at, wrong_at, wrong_of, judged, judged_master, judged_slave}
use Rattle.model.specs.Layout.{tables_fit, pages_fit, areas_fit, words_at, with_words, port_at, bit_at, flags_of, word_of, zero_bits}
use Rattle.model.specs.Ports.{well_formed, seek, standing_of, standing, open_words, marked_words, apply}
use Rattle.model.specs.Lines.{rule1, rule2, rule3, rule4, rule5}
use Rattle.model.specs.Event.{heard, port_for, answer_to, exchange_for, heard_by, event, hear_controller, hear_effect}
use Rattle.model.specs.Quiet.{pulse_effect, pulse_controller, pulse, grown, tick, ticks, due_within}
use Rattle.model.specs.Host.{fresh_controller}
use Rattle.model.specs.Calls.{Call, hear, quiet, open_port, refusal, effect, step, cleared_areas, start}
use Rattle.model.specs.Past.{after, Accepted, opening_of, writes_since, reply_told, awaited, last_settings}
use Rattle.model.specs.Damage.{Damage}
use Rattle.model.specs.Differ.{waiting_address, finishes, doubtful}

abbrev frame : Kind → ℕ → ℕ → Hearing
frame k w check =
    record {
      kind = k;
      words = w ∷ replicate 15 0;
      size = 1;
      checks = check ∷ 0 ∷ 0 ∷ 0 ∷ [];
      ends = 1;
      sqe = false;
      violation = false;
      alo = false;
    }

-- the master frame of address 1, and a slave frame whose check byte is wrong
abbrev asks : Call
asks = hear (frame Master 1 52) (frame Master 1 52)

abbrev wrong : Call
wrong = hear (frame Slave 2 0) (frame Slave 2 0)

abbrev before : List Call
before = asks ∷ open_port 1 1 0 true 0 0 ∷ []

-- the master frame again, and then the reply time
abbrev again : List Call
again = asks ∷ []

abbrev later : List Call
later = quiet 64 ∷ again

-- the words 1 of the port with and without the slave frame: TERR, CRC and the first block's mark are set in the one run alone, then STO alone
-- in both
pub record Case : Type 0 where
  -- the run is accepted, and the slave frame is damage
  pub run : Accepted (later ++ (wrong ∷ before))
  pub damage : Damage before (wrong ∷ [])
  -- address 1 waits when the stretch begins, and is in doubt until the reply time has passed
  pub waits : waiting_address before ≡ Some 1
  pub doubt : doubtful before (waiting_address before) again ≡ Some 1
  pub settled : doubtful before (waiting_address before) later ≡ None
  -- word 1 after the master frame: SINK, TERR, CRC and the mark with the slave frame, SINK alone without it
  pub with_it : (port_at (after (again ++ (wrong ∷ before))).areas 1).flags ≡ 616
  pub without : (port_at (after (again ++ before)).areas 1).flags ≡ 8
  -- word 1 after the reply time: SINK and STO in both runs
  pub with_it_later : (port_at (after (later ++ (wrong ∷ before))).areas 1).flags ≡ 24
  pub without_later : (port_at (after (later ++ before)).areas 1).flags ≡ 24

-- The case holds: both runs are computed.
pub case : Case
unfolding waiting_address finishes doubtful awaited after step event hear_controller heard_by heard judged_master judged_slave judged counts_right wrong_of wrong_at right_at check_at check_of rest pushes push ones_of ones blocks words_of expected_of sizes reply_told opening_of writes_since effect hear_effect start fresh_controller cleared_areas areas_fit tables_fit pages_fit words_at with_words bit_at flags_of word_of zero_bits well_formed seek standing_of standing open_words marked_words apply rule1 rule2 rule3 rule4 rule5 port_for answer_to exchange_for pulse_effect pulse_controller pulse grown tick ticks refusal due_within last_settings
case =
    record {
      run = (tt, refl, ((refl, refl), refl, ((refl, refl), refl, ((refl, refl), refl, (tt, refl, tt)))));
      damage = ((refl, refl), tt);
      waits = refl;
      doubt = refl;
      settled = refl;
      with_it = refl;
      without = refl;
      with_it_later = refl;
      without_later = refl;
    }
