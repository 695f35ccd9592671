-- Document 01, "Memory lent to the calls" and "Host calls on ports": what the areas say of a port, and the five things that a call may
-- do to the port of an address. Document 02, W-205: the limit, the age, what is stale, and how all ports age. Assumes nothing.
use Rattle.std.specs.Prelude.{ℕ, zero, suc, ◌+◌, ◌*◌, ◌/◌, ◌%◌, min, Bool, true, false, cond, not, ◌&&◌, ◌||◌, List, eqb, leb}
use Rattle.std.specs.Prelude.{Option, None, Some, Ok, Err}
use Rattle.frames.specs.declared.Wrong.{Wrong}
use Rattle.frames.specs.Size.{expected_of}
use Rattle.frames.specs.Judge.{no_wrong, any_wrong}
use Rattle.model.specs.declared.Words.{Words}
use Rattle.model.specs.declared.Flags.{Flags}
use Rattle.model.specs.declared.Faults.{Faults}
use Rattle.model.specs.Answer.{Sought}
use Rattle.constants.specs.declared.refusals.Refusal.TheVariants.{Damaged}
use Rattle.model.specs.Answer.{Answer}
use Rattle.model.specs.Answer.{Never, Good, Held, Stale}
use Rattle.model.specs.Layout.{Areas, areas, entry, with_entry, words_at, with_words, port_at, with_port, flags_of, word_of, zero_bits}
use Rattle.model.specs.Layout.{part_of, with_part}

-- ---- the master word, F-code x 4096 + address

abbrev pub master_word : ℕ → ℕ → ℕ
master_word code a = code * 4096 + a

abbrev pub code_of : ℕ → ℕ
code_of w = w / 4096

abbrev pub address_of : ℕ → ℕ
address_of w = w % 4096

-- only F-codes 0 to 4 have ports
abbrev pub has_ports : ℕ → Bool
has_ports code = leb code 4

-- how many words a port of this F-code has
abbrev pub words_in : Option ℕ → ℕ
words_in (Some n) = n
words_in None = 0

unfoldable pub size_of : ℕ → ℕ
size_of code = words_in (expected_of code)

-- ---- what stands at an address

-- exactly one of SRC and SINK is set
abbrev pub one_side : Flags → Bool
one_side f = cond f.src (not f.sink) f.sink

-- word 0 has F-code at most 4 and the sought address, exactly one of SRC and SINK is set, the zero bits are zero, word 2 is at most 7,
-- and words 6 and 7 are zero
unfoldable pub well_formed : ℕ → Words → Bool
well_formed a w =
    has_ports (code_of w.master) && eqb (address_of w.master) a && one_side (flags_of w.flags) && zero_bits w.flags
    && leb w.interrupt 7 && eqb w.sixth 0 && eqb w.seventh 0

-- an entry 0 means no port; one above 255 is damaged, and so are port words that are not well formed
unfoldable pub seek : Areas → ℕ → Sought
seek m a =
    cond (eqb (entry m a) 0) (Ok None)
    (cond (leb (entry m a) 255 && well_formed a (port_at m (entry m a))) (Ok (Some (entry m a))) (Err Damaged))

-- ---- what a port shows

-- VP is the number of the valid page
abbrev pub valid_page : Areas → Flags → List ℕ
valid_page m f = cond f.vp m.page1 m.page0

-- the port's own part of whichever page is valid, sized by F-code
abbrev pub valid_words : Areas → ℕ → List ℕ
valid_words m p = part_of (valid_page m (flags_of (port_at m p).flags)) p (size_of (code_of (port_at m p).master))

-- a port that stands open, status bits and age aside: its number, master word and side, its interrupt, the words that it shows, or that
-- there are none, its fills, and its limit
pub record Standing : Type 0 where
  pub port : ℕ
  pub word : ℕ
  pub sink : Bool
  pub interrupt : ℕ
  pub shows : Option (List ℕ)
  pub fills : ℕ
  pub limit : ℕ

unfoldable pub standing_of : Areas → ℕ → Standing
standing_of m p =
    record {
      port = p;
      word = (port_at m p).master;
      sink = (flags_of (port_at m p).flags).sink;
      interrupt = (port_at m p).interrupt;
      shows = cond (flags_of (port_at m p).flags).ever (Some (valid_words m p)) None;
      fills = (port_at m p).fills;
      limit = (port_at m p).limit;
    }

abbrev pub seen : Areas → Sought → Option Standing
seen m (Ok None) = None
seen m (Err e) = None
seen m (Ok (Some p)) = Some (standing_of m p)

-- what stands open at an address, if anything does
unfoldable pub standing : Areas → ℕ → Option Standing
standing m a = seen m (seek m a)

-- what its address shows: all of it but the number
pub record View : Type 0 where
  pub word : ℕ
  pub sink : Bool
  pub interrupt : ℕ
  pub shows : Option (List ℕ)
  pub fills : ℕ
  pub limit : ℕ

abbrev pub view_of : Standing → View
view_of v =
    record { word = v.word; sink = v.sink; interrupt = v.interrupt; shows = v.shows; fills = v.fills; limit = v.limit }

abbrev pub viewed : Option Standing → Option View
viewed None = None
viewed (Some v) = Some (view_of v)

unfoldable pub view : Areas → ℕ → Option View
view m a = viewed (standing m a)

-- with words that just filled it: it shows them, and has one fill more
abbrev pub refilled : List ℕ → View → View
refilled ws v =
    record {
      word = v.word;
      sink = v.sink;
      interrupt = v.interrupt;
      shows = Some ws;
      fills = (v.fills + 1) % 65536;
      limit = v.limit;
    }

-- held: filled, but STO or TERR set
abbrev pub is_held : Faults → Bool
is_held f = f.sto || f.terr

-- supervised, and too old: limit nonzero and age at or above it
abbrev pub too_old : ℕ → ℕ → Bool
too_old limit age = not (eqb limit 0) && leb limit age

-- the state of a port, whether it was ever filled, is held, is too old: never and held come before stale
abbrev pub state_by : Bool → Bool → Bool → Answer
state_by ever held old = cond ever (cond held Held (cond old Stale Good)) Never

unfoldable pub state_of : Words → Answer
state_of w = let f = flags_of w.flags in state_by f.ever (is_held f.faults) (too_old w.limit w.age)

-- ---- status bits, as a set

abbrev pub no_faults : Faults
no_faults = record { sto = false; terr = false; crc = false; sqe = false; alo = false; wrong = no_wrong }

-- STO alone
abbrev pub reply_missing : Faults
reply_missing = record { sto = true; terr = false; crc = false; sqe = false; alo = false; wrong = no_wrong }

-- TERR set, STO clear, the blocks marked that are wrong, CRC exactly if one is, SQE and ALO as told
abbrev pub reply_bad : Wrong → Bool → Bool → Faults
reply_bad wrong sqe alo = record { sto = false; terr = true; crc = any_wrong wrong; sqe = sqe; alo = alo; wrong = wrong }

-- ---- port words after a fill, with other status bits, and freshly opened

-- VP turned, EVER set, the status bits cleared, one fill added modulo 65,536, age 0
abbrev pub turned : Flags → Flags
turned f = record { vp = not f.vp; ever = true; src = f.src; sink = f.sink; faults = no_faults }

unfoldable pub filled_words : Words → Words
filled_words w =
    record {
      master = w.master;
      flags = word_of (turned (flags_of w.flags));
      interrupt = w.interrupt;
      fills = (w.fills + 1) % 65536;
      limit = w.limit;
      age = 0;
      sixth = w.sixth;
      seventh = w.seventh;
    }

-- only the status bits change
abbrev pub faulty : Flags → Faults → Flags
faulty f x = record { vp = f.vp; ever = f.ever; src = f.src; sink = f.sink; faults = x }

unfoldable pub marked_words : Words → Faults → Words
marked_words w x =
    record {
      master = w.master;
      flags = word_of (faulty (flags_of w.flags) x);
      interrupt = w.interrupt;
      fills = w.fills;
      limit = w.limit;
      age = w.age;
      sixth = w.sixth;
      seventh = w.seventh;
    }

-- status, EVER, VP and fills zero, with the limit that opening takes, and age 0
unfoldable pub open_words : ℕ → ℕ → Bool → ℕ → ℕ → Words
open_words a code sink interrupt limit =
    record {
      master = master_word code a;
      flags = word_of (record { vp = false; ever = false; src = not sink; sink = sink; faults = no_faults });
      interrupt = interrupt;
      fills = 0;
      limit = limit;
      age = 0;
      sixth = 0;
      seventh = 0;
    }

abbrev pub no_words : Words
no_words = record { master = 0; flags = 0; interrupt = 0; fills = 0; limit = 0; age = 0; sixth = 0; seventh = 0 }

-- ---- ageing, by port words alone

-- the words of an open sink, at any address: they are well formed for their own
unfoldable pub open_sink : Words → Bool
open_sink w = well_formed (address_of w.master) w && (flags_of w.flags).sink

-- the words with another age
abbrev pub with_age : ℕ → Words → Words
with_age n w =
    record {
      master = w.master;
      flags = w.flags;
      interrupt = w.interrupt;
      fills = w.fills;
      limit = w.limit;
      age = n;
      sixth = w.sixth;
      seventh = w.seventh;
    }

-- an age stops at 65,535
abbrev pub oldest : ℕ
oldest = 65535

-- k milliseconds later an open sink is as much older; other words are passed over
unfoldable pub aged_words : ℕ → Words → Words
aged_words k w = cond (open_sink w) (with_age (min oldest (w.age + k)) w) w

-- ports 1 to n, k milliseconds later
unfoldable pub aged_to : ℕ → ℕ → List ℕ → List ℕ
aged_to zero k l = l
aged_to (suc n) k l = with_words (aged_to n k l) (suc n) (aged_words k (words_at (aged_to n k l) (suc n)))

-- ports 1 to 255
unfoldable pub aged : ℕ → Areas → Areas
aged k m = areas m.index (aged_to 255 k m.ports) m.page0 m.page1

-- ---- what a call does to the port of an address

pub data Effect : Type 0 where
  -- nothing
  untouched : Effect
  -- words fill port p
  fill : (p : ℕ) (ws : List ℕ) → Effect
  -- the status bits of port p change
  mark : (p : ℕ) (x : Faults) → Effect
  -- port p is opened at address a, or closed
  opened : (a p code : ℕ) (sink : Bool) (interrupt limit : ℕ) → Effect
  closed : (a p : ℕ) → Effect

-- copy to the page that is not valid, and turn VP
unfoldable pub filled : Areas → ℕ → List ℕ → Areas
filled m p ws =
    let one = (flags_of (port_at m p).flags).vp in
    areas m.index (with_words m.ports p (filled_words (port_at m p))) (cond one (with_part m.page0 p ws) m.page0)
    (cond one m.page1 (with_part m.page1 p ws))

unfoldable pub apply : Effect → Areas → Areas
apply untouched m = m
apply (fill p ws) m = filled m p ws
apply (mark p x) m = with_port m p (marked_words (port_at m p) x)
apply (opened a p code sink i limit) m = with_port (with_entry m a p) p (open_words a code sink i limit)
apply (closed a p) m = with_port (with_entry m a 0) p no_words
