-- Document 01, "Numbers on either side": what a line of the port program's input says. Assumes nothing.
use Rattle.std.specs.Prelude.{ℕ, Bool, true, false, cond, not, ◌&&◌, ◌||◌, List, eqb, leb, length, take, replicate, Option, None, Some}
use Rattle.std.proofs.lemmas.List.Edits.{sets}
use Rattle.port_digits.specs.Marks.{comma, semicolon, equals}
use Rattle.port_digits.specs.Cut.{text_before, text_after, has, same}
use Rattle.port_digits.specs.Read.{cut, Numbers, numbers_in, number_in, largest}
use Rattle.frames.specs.declared.Kind.{Kind}
use Rattle.frames.specs.declared.Kind.TheVariants.{Master as MasterFrame, Slave as SlaveFrame}
use Rattle.frames.specs.declared.Hearing.{Hearing}
use Rattle.model.specs.Event.{padded}
use Rattle.port_text.specs.declared.Key.{Key}
use Rattle.port_text.specs.declared.Key.TheVariants.{Addr, Fcode, Dir, Index, Master, Slave, Quiet, Write}
use Rattle.port_text.specs.Words.{w_addr, w_fcode, w_dir, w_index, w_master, w_slave, w_quiet, w_write, w_sink, w_source}

-- what a line says
pub data Line : Type 0 where
  -- the setup lines of a port
  addr fcode index : (n : ℕ) → Line
  dir : (sink : Bool) → Line
  -- an event that both lines hear alike, and quiet bit times
  frame : (h : Hearing) → Line
  quiet : (n : ℕ) → Line
  -- the host writes words to an address
  write : (a : ℕ) (ws : List ℕ) → Line
  malformed : Line

-- the key is what stands before `=`, exactly
unfoldable pub key_of : List ℕ → Option Key
key_of k =
    cond (same k w_addr) (Some Addr)
    (cond (same k w_fcode) (Some Fcode)
    (cond (same k w_dir) (Some Dir)
    (cond (same k w_index) (Some Index)
    (cond (same k w_master) (Some Master)
    (cond (same k w_slave) (Some Slave) (cond (same k w_quiet) (Some Quiet) (cond (same k w_write) (Some Write) None)))))))

-- ---- what stands after `=`

-- a number alone
abbrev pub numbered : (ℕ → Line) → Option ℕ → Line
numbered f (Some n) = f n
numbered f None = malformed

-- sink or source
unfoldable pub dir_of : List ℕ → Line
dir_of v = cond (same v w_sink) (dir true) (cond (same v w_source) (dir false) malformed)

-- a list of numbers of which none is above the limit
abbrev pub below : ℕ → Numbers → Bool
below limit n = n.good && leb (largest 0 n.values) limit

-- the first of two lists with the byte b between
abbrev pub first_list : ℕ → List ℕ → Numbers
first_list b v = numbers_in (text_before b v)

-- the second of them
abbrev pub second_list : ℕ → List ℕ → Numbers
second_list b v = numbers_in (text_after b v)

-- one number in each, as in a master frame
abbrev pub one_pair : Numbers → Numbers → Bool
one_pair x y = eqb (length x.values) 1 && eqb (length y.values) 1

-- words and check bytes; a number above its word or byte is malformed
unfoldable pub is_frame_text : Bool → ℕ → List ℕ → Bool
is_frame_text one b v =
    has b v && below 65535 (first_list b v) && below 255 (second_list b v) && (not one || one_pair (first_list b v) (second_list b v))

-- a frame without a quality mark
abbrev pub unmarked : Kind → List ℕ → ℕ → List ℕ → ℕ → Hearing
unmarked kind ws n cs k =
    record { kind = kind; words = ws; size = n; checks = cs; ends = k; sqe = false; violation = false; alo = false }

-- the frame as a line hears it; with more words or check bytes than a hearing has room for it is out of range
unfoldable pub hearing_of : Kind → List ℕ → List ℕ → Hearing
hearing_of kind ws cs = unmarked kind (padded ws) (length ws) (sets (replicate 4 0) 0 cs) (length cs)

-- the frame of two lists, or none where they describe none
unfoldable pub frame_read : Kind → Bool → ℕ → List ℕ → Option Hearing
frame_read kind one b v =
    cond (is_frame_text one b v) (Some (hearing_of kind (first_list b v).values (second_list b v).values)) None

-- the line of a frame that was read
abbrev pub framed : Option Hearing → Line
framed (Some h) = frame h
framed None = malformed

-- no port has more than sixteen words, so of the words of a write seventeen are kept: they fit no port, as more would not
abbrev pub kept : List ℕ → List ℕ
kept ws = take 17 ws

-- an address and words; an address above its word is malformed
abbrev pub written : Option ℕ → List ℕ → Line
written a ws = numbered (λ (n : ℕ). cond (leb n 65535) (write n ws) malformed) a

-- an address, `;` and words
unfoldable pub write_of : List ℕ → Line
write_of v =
    cond (has semicolon v && below 65535 (second_list semicolon v))
    (written (number_in (text_before semicolon v)) (kept (second_list semicolon v).values)) malformed

-- `master=WORD,CHECK`, `slave=WORDS;CHECKS` and `write=ADDR;WORDS`. Opening takes words, so that of the addresses, F-codes and port numbers
-- above 65,535 in setup lines the largest word is taken: it is out of range as they are
unfoldable pub line_as : Option Key → List ℕ → Line
line_as (Some Addr) v = numbered (λ (n : ℕ). addr (cut 65535 n)) (number_in v)
line_as (Some Fcode) v = numbered (λ (n : ℕ). fcode (cut 65535 n)) (number_in v)
line_as (Some Dir) v = dir_of v
line_as (Some Index) v = numbered (λ (n : ℕ). index (cut 65535 n)) (number_in v)
line_as (Some Master) v = framed (frame_read MasterFrame true comma v)
line_as (Some Slave) v = framed (frame_read SlaveFrame false semicolon v)
line_as (Some Quiet) v = numbered quiet (number_in v)
line_as (Some Write) v = write_of v
line_as None v = malformed

-- a line of the input: its key, `=` and its value
unfoldable pub line_of : List ℕ → Line
line_of t = line_as (key_of (text_before equals t)) (text_after equals t)
