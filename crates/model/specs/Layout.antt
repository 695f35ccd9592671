-- Document 01, "Memory lent to the calls": the four areas, and where a port's words and page words lie. Document 02, W-206: the marks of
-- the blocks in word 1; W-205: the limit and the age of a port; W-212: two of the areas by themselves. Assumes nothing.
use Rattle.std.specs.Prelude.{ℕ, ◌+◌, ◌*◌, ◌/◌, ◌%◌, Bool, true, false, ◌&&◌, List, eqb, length, get_or, set, take, drop}
use Rattle.std.proofs.lemmas.List.Edits.{sets}
use Rattle.frames.specs.declared.Wrong.{Wrong}
use Rattle.model.specs.declared.Words.{Words}
use Rattle.model.specs.declared.Flags.{Flags}

-- index table, port words, page 0 and page 1
pub record Areas : Type 0 where
  pub index : List ℕ
  pub ports : List ℕ
  pub page0 : List ℕ
  pub page1 : List ℕ

abbrev pub areas : List ℕ → List ℕ → List ℕ → List ℕ → Areas
areas i p z o = record { index = i; ports = p; page0 = z; page1 = o }

-- the area of port words has eight words for each of 256 ports
abbrev pub stride : ℕ
stride = 8

-- index table, 4096 words; port words, 2048
unfoldable pub tables_fit : Areas → Bool
tables_fit m = eqb (length m.index) 4096 && eqb (length m.ports) (stride * 256)

-- page 0 and page 1, 4096 each
unfoldable pub pages_fit : Areas → Bool
pages_fit m = eqb (length m.page0) 4096 && eqb (length m.page1) 4096

-- all four areas have their lengths
unfoldable pub areas_fit : Areas → Bool
areas_fit m = tables_fit m && pages_fit m

-- ---- the index table: entry a is the port number of logical address a

abbrev pub entry : Areas → ℕ → ℕ
entry m a = get_or m.index a 0

abbrev pub with_entry : Areas → ℕ → ℕ → Areas
with_entry m a p = areas (set m.index a p) m.ports m.page0 m.page1

-- ---- the eight words of port p

-- where they begin
abbrev pub place : ℕ → ℕ
place p = stride * p

unfoldable pub words_at : List ℕ → ℕ → Words
words_at l p =
    record {
      master = get_or l (place p) 0;
      flags = get_or l (place p + 1) 0;
      interrupt = get_or l (place p + 2) 0;
      fills = get_or l (place p + 3) 0;
      limit = get_or l (place p + 4) 0;
      age = get_or l (place p + 5) 0;
      sixth = get_or l (place p + 6) 0;
      seventh = get_or l (place p + 7) 0;
    }

unfoldable pub with_words : List ℕ → ℕ → Words → List ℕ
with_words l p w =
    let half = set (set (set (set l (place p) w.master) (place p + 1) w.flags) (place p + 2) w.interrupt) (place p + 3) w.fills in
    set (set (set (set half (place p + 4) w.limit) (place p + 5) w.age) (place p + 6) w.sixth) (place p + 7) w.seventh

abbrev pub port_at : Areas → ℕ → Words
port_at m p = words_at m.ports p

abbrev pub with_port : Areas → ℕ → Words → Areas
with_port m p w = areas m.index (with_words m.ports p w) m.page0 m.page1

-- ---- word 1 taken apart and put together: bit 0 VP, 1 EVER, 2 SRC, 3 SINK, 4 STO, 5 TERR, 6 CRC, 7 SQE, 8 ALO, 9 to 12 the marks of the
-- blocks, lowest bit for the first block; the others zero

-- a bit of x, by its weight
unfoldable pub bit_at : ℕ → ℕ → Bool
bit_at x k = eqb (x / k % 2) 1

unfoldable pub flags_of : ℕ → Flags
flags_of x =
    record {
      vp = bit_at x 1;
      ever = bit_at x 2;
      src = bit_at x 4;
      sink = bit_at x 8;
      faults =
          record {
            sto = bit_at x 16;
            terr = bit_at x 32;
            crc = bit_at x 64;
            sqe = bit_at x 128;
            alo = bit_at x 256;
            wrong = record { first = bit_at x 512; second = bit_at x 1024; third = bit_at x 2048; fourth = bit_at x 4096 };
          };
    }

-- a flag's part of the word
abbrev pub worth : Bool → ℕ → ℕ
worth true k = k
worth false k = 0

-- the marks as a number, lowest bit for the first block
abbrev pub marks_number : Wrong → ℕ
marks_number w = worth w.first 1 + worth w.second 2 + worth w.third 4 + worth w.fourth 8

unfoldable pub word_of : Flags → ℕ
word_of f =
    worth f.vp 1 + worth f.ever 2 + worth f.src 4 + worth f.sink 8 + worth f.faults.sto 16 + worth f.faults.terr 32
    + worth f.faults.crc 64 + worth f.faults.sqe 128 + worth f.faults.alo 256
    + worth f.faults.wrong.first 512 + worth f.faults.wrong.second 1024 + worth f.faults.wrong.third 2048
    + worth f.faults.wrong.fourth 4096

-- the zero bits, 13 to 15, are zero
unfoldable pub zero_bits : ℕ → Bool
zero_bits x = eqb (x / 8192) 0

-- ---- port p owns words 16p to 16p+15 in both pages

abbrev pub page_place : ℕ → ℕ
page_place p = 16 * p

-- the first n of port p's words in a page
unfoldable pub part_of : List ℕ → ℕ → ℕ → List ℕ
part_of page p n = take n (drop (page_place p) page)

-- a page with words stored from port p's first word on
unfoldable pub with_part : List ℕ → ℕ → List ℕ → List ℕ
with_part page p ws = sets page (page_place p) ws
