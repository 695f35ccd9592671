-- No reply and no port's part of a page has more than sixteen words, whatever the areas hold: each is cut to the size of an F-code. So what
-- a call hands back fits its numbers. Assumes nothing.
use Prim.Native.Nat.{ℕ, ◌+◌, ◌/◌, ◌≤◌}
use mathlib.Core.Path.{◌≡◌, refl}
use mathlib.Core.Bool.{Bool, true, false, cond, ◌&&◌}
use mathlib.Core.List.{List, [], ◌∷◌}
use Rattle.std.specs.Prelude.{Option, None, Some, Ok, Err}
use native.Mathlib.Omega.{arith}
use lib.Dec.{eqb, leb}
use lib.ListN.{length, drop, length-take}
use borrow.Author.Tests.{leb-true}
use Rattle.sequence.specs.Frame.{blocks, frame_checks}
use Rattle.frames.specs.declared.Hearing.{Hearing}
use Rattle.frames.specs.Size.{expected_of}
use Rattle.model.specs.Answer.{Answer}
use Rattle.model.specs.Answer.{Never, Good, Held, Stale, Refused}
use Rattle.model.specs.declared.Device.{Device}
use Rattle.model.specs.declared.Heard.{Heard}
use Rattle.model.specs.declared.Heard.TheVariants.{Nothing, Unsound, Master, Reply, Stray}
use Rattle.model.specs.Answer.{Sought}
use Rattle.model.specs.Layout.{Areas, pages_fit, entry, port_at, flags_of, part_of, page_place}
use Rattle.model.specs.Ports.{code_of, address_of, has_ports, size_of, valid_words, Standing, standing_of, seek, seen, standing}
use Rattle.model.specs.Event.{World, open_for, port_for, if_source, source_for, polls_us, own_words, if_expected, answer_to, sent, silent, spoken}
use Rattle.model.specs.Event.{heard_by}
use Rattle.model.proofs.Tables.{answer_of}
use Rattle.model.proofs.Tables.{hear_answer_lem}
use Rattle.model.specs.Calls.{Call, hear, quiet, open_port, close_port, write_port, read_port, setting, answer, refusal, outcome, asked}
use Rattle.model.specs.Calls.{part_for, fetched}
use Rattle.model.proofs.Formed.{size_small}

-- a port's part of a page has at most 16 words, whatever its F-code
part_short : (page : List ℕ) (p code : ℕ) → length (part_of page p (size_of code)) ≤ 16
unfolding part_of
part_short page p code = omega (arith, size_small code, length-take (size_of code) (drop (page_place p) page))

-- ---- what is fetched

-- what is fetched has at most 16 words, whatever the areas hold
pub fetched_short : (m : Areas) (a : ℕ) → length (fetched m a) ≤ 16
unfolding fetched
fetched_short m a = fits (pages_fit m)
  where
    part : length (valid_words m (entry m a)) ≤ 16
    part = part_short _ (entry m a) (code_of (port_at m (entry m a)).master)

    go : (x : Answer) → length (part_for x (valid_words m (entry m a))) ≤ 16
    go Never = omega arith
    go Good = part
    go Held = part
    go Stale = part
    go (Refused n) = omega arith

    fits : (b : Bool) → length (cond b (part_for (asked m a) (valid_words m (entry m a))) []) ≤ 16
    fits true = go (asked m a)
    fits false = omega arith

-- ---- what is replied

abbrev Short : Option (List ℕ) → Type 0
Short None = Unit
Short (Some ws) = length ws ≤ 16

abbrev Shows : Option Standing → Type 0
Shows None = Unit
Shows (Some v) = Short v.shows

cond_short : (b : Bool) (x y : Option (List ℕ)) → Short x → Short y → Short (cond b x y)
cond_short true x y h k = h
cond_short false x y h k = k

cond_shows : (b : Bool) (x y : Option Standing) → Shows x → Shows y → Shows (cond b x y)
cond_shows true x y h k = h
cond_shows false x y h k = k

standing_shows : (m : Areas) (a : ℕ) → Shows (standing m a)
unfolding standing standing_of
standing_shows m a = go (seek m a)
  where
    go : (x : Sought) → Shows (seen m x)
    go (Ok None) = tt
    go (Err e) = tt
    go (Ok (Some p)) =
        let part = part_short _ p (code_of (port_at m p).master) in
        cond_short (flags_of (port_at m p).flags).ever (Some (valid_words m p)) None part tt

port_shows : (m : Areas) (w : ℕ) → Shows (port_for m w)
unfolding port_for
port_shows m w = cond_shows (has_ports (code_of w)) _ None (go (standing m (address_of w)) (standing_shows m (address_of w))) tt
  where
    go : (o : Option Standing) → Shows o → Shows (open_for w o)
    go None h = tt
    go (Some v) h = cond_shows (eqb v.word w) (Some v) None h tt

source_short : (o : Option Standing) → Shows o → Short (if_source o)
source_short None h = tt
source_short (Some v) h = cond_short v.sink None v.shows tt h

own_short : (d : Device) (w : ℕ) (o : Option (List ℕ)) → Short o → Short (own_words d w o)
own_short d w None h = cond_short (polls_us d w && d.set) (Some (d.status ∷ [])) None (omega arith) tt
own_short d w (Some ws) h = h

expected_short : (x : Option ℕ) (o : Option (List ℕ)) → Short o → Short (if_expected x o)
expected_short (Some n) o h = h
expected_short None o h = tt

heard_short : (d : Device) (m : Areas) (h : Heard) → Short (answer_of d m h)
unfolding answer_to
heard_short d m Nothing = tt
heard_short d m Unsound = tt
heard_short d m (Master w) =
    expected_short (expected_of (code_of w)) _ (own_short d w (source_for m w) (source_short (port_for m w) (port_shows m w)))
heard_short d m (Reply w j) = tt
heard_short d m Stray = tt

answer_short : (c : Call) (s : World) → Short (answer c s)
unfolding answer
answer_short (hear a b) s = rw (hear_answer_lem s a b) (heard_short _ s.areas (heard_by s.controller a b))
answer_short (quiet n) s = tt
answer_short (open_port a p code sink i limit) s = tt
answer_short (close_port a) s = tt
answer_short (write_port a ws) s = tt
answer_short (read_port a) s = tt
answer_short (setting t) s = tt

-- a hearing of at most 16 words and 4 check bytes
abbrev pub Small : Hearing → Type 0
Small h = (h.size ≤ 16) × (h.ends ≤ 4)

-- silence is such a hearing
pub silent_small : Small silent
unfolding silent
silent_small = (omega arith, omega arith)

-- no words have more than 4 check bytes
pub checks_small : (ws : List ℕ) → (frame_checks ws).count ≤ 4
unfolding frame_checks blocks
checks_small ws = go (leb (length ws) 16) refl
  where
    go : (b : Bool) → leb (length ws) 16 ≡ b → cond b ((length ws + 3) / 4) 0 ≤ 4
    go true e = omega (arith, leb-true (length ws) 16 e)
    go false e = omega arith

spoken_small : (o : Option (List ℕ)) → Short o → Small (spoken o)
unfolding sent
spoken_small None h = silent_small
spoken_small (Some ws) h = (h, checks_small ws)

-- Each reply has at most 16 words and 4 check bytes.
pub reply_small : (c : Call) (s : World) → Small (outcome c s).reply
unfolding outcome
reply_small c s = go (eqb (refusal c s) 0)
  where
    go : (b : Bool) → Small (cond b (spoken (answer c s)) (spoken None))
    go true = spoken_small (answer c s) (answer_short c s)
    go false = silent_small
