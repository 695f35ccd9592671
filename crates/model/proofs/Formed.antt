-- The tests on areas and port words as facts: the four lengths, and the parts of well formed words. Filling, marking and opening
-- leave well formed words, since flags put together are read back; and no port has more than sixteen words. Assumes nothing.
use Rattle.std.specs.Prelude.{Option, None, Some}
use Prim.Native.Nat.{ℕ, ◌+◌, ◌*◌, ◌≤◌, ◌<◌}
use mathlib.Core.Path.{◌≡◌, refl, sym, ◌∙◌}
use mathlib.Core.Bool.{Bool, true, false, not, ◌&&◌, false≢true, and-eq-true_iff}
use native.Mathlib.Omega.{arith}
use borrow.Author.Tests.{leb-true, eqb-true, le-leb, eq-eqb}
use lib.ListN.{length}
use Rattle.frames.specs.Size.{expected_of}
use Rattle.frames.proofs.Sizes.{longest}
use Rattle.model.specs.declared.Words.{Words}
use Rattle.model.specs.declared.Flags.{Flags}
use Rattle.model.specs.declared.Faults.{Faults}
use Rattle.model.specs.Layout.{Areas, stride, tables_fit, pages_fit, areas_fit, place, bit_at, flags_of, word_of, zero_bits}
use Rattle.model.specs.Ports.{code_of, address_of, words_in, size_of, one_side, well_formed, no_faults, turned, filled_words, faulty}
use Rattle.model.specs.Ports.{marked_words, open_words}
use Rattle.model.proofs.Bits.{flags_of_word, zero_bits_lem}

-- where `and` of two tests holds, the first holds
pub and_left : (a b : Bool) → (a && b) ≡ true → a ≡ true
and_left a b e = ((and-eq-true_iff a b).0 e).0

-- where `and` of two tests holds, the second holds
pub and_right : (a b : Bool) → (a && b) ≡ true → b ≡ true
and_right a b e = ((and-eq-true_iff a b).0 e).1

-- ---- the areas have their lengths

pub record Lengths (m : Areas) : Type 0 where
  pub index : length m.index ≡ 4096
  pub ports : length m.ports ≡ stride * 256
  pub page0 : length m.page0 ≡ 4096
  pub page1 : length m.page1 ≡ 4096

-- areas that fit: the index table and the port words do
pub tables_fit_lem : (m : Areas) → areas_fit m ≡ true → tables_fit m ≡ true
unfolding areas_fit
tables_fit_lem m e = and_left (tables_fit m) (pages_fit m) e

-- and so do both pages
pub pages_fit_lem : (m : Areas) → areas_fit m ≡ true → pages_fit m ≡ true
unfolding areas_fit
pages_fit_lem m e = and_right (tables_fit m) (pages_fit m) e

-- pages that fit have these lengths
pub page_lengths : (m : Areas) → pages_fit m ≡ true → (length m.page0 ≡ 4096) × (length m.page1 ≡ 4096)
unfolding pages_fit
page_lengths m e =
    (eqb-true (length m.page0) 4096 (search (and_left, and_right)), eqb-true (length m.page1) 4096 (search (and_left, and_right)))

-- areas that fit have these lengths
pub lengths : (m : Areas) → areas_fit m ≡ true → Lengths m
unfolding areas_fit tables_fit
lengths m e =
    record {
      index = eqb-true (length m.index) 4096 (search (and_left, and_right));
      ports = eqb-true (length m.ports) (stride * 256) (search (and_left, and_right));
      page0 = (page_lengths m (pages_fit_lem m e)).0;
      page1 = (page_lengths m (pages_fit_lem m e)).1;
    }

-- there is room for the words of every port
pub room : (m : Areas) → areas_fit m ≡ true → (p : ℕ) → p ≤ 255 → place p + stride ≤ length m.ports
room m fits p small = omega (arith, (lengths m fits).ports)

-- ---- words well formed for address a

pub record Formed (a : ℕ) (w : Words) : Type 0 where
  pub code : code_of w.master ≤ 4
  pub address : address_of w.master ≡ a
  pub side : one_side (flags_of w.flags) ≡ true
  pub zeros : zero_bits w.flags ≡ true
  pub interrupt : w.interrupt ≤ 7
  pub sixth : w.sixth ≡ 0
  pub seventh : w.seventh ≡ 0

-- words that pass the test are right in these parts
pub formed : (a : ℕ) (w : Words) → well_formed a w ≡ true → Formed a w
unfolding well_formed
formed a w e =
    record {
      code = leb-true (code_of w.master) 4 (search (and_left, and_right));
      address = eqb-true (address_of w.master) a (search (and_left, and_right));
      side = search (and_left, and_right);
      zeros = search (and_left, and_right);
      interrupt = leb-true w.interrupt 7 (search (and_left, and_right));
      sixth = eqb-true w.sixth 0 (search (and_left, and_right));
      seventh = eqb-true w.seventh 0 (search (and_left, and_right));
    }

form : (a : ℕ) (w : Words) → Formed a w → well_formed a w ≡ true
unfolding well_formed
form a w f =
    rw (
      le-leb (code_of w.master) 4 f.code,
      eq-eqb (address_of w.master) a f.address,
      f.side,
      f.zeros,
      le-leb w.interrupt 7 f.interrupt,
      eq-eqb w.sixth 0 f.sixth,
      eq-eqb w.seventh 0 f.seventh,
    )

-- words are well formed for one address
pub one_address : (a b : ℕ) (w : Words) → well_formed a w ≡ true → well_formed b w ≡ true → a ≡ b
one_address a b w e d = sym (formed a w e).address ∙ (formed b w d).address

-- the words with other flags, fills and age
abbrev changed_to : Flags → ℕ → ℕ → Words → Words
changed_to g n old w =
    record {
      master = w.master;
      flags = word_of g;
      interrupt = w.interrupt;
      fills = n;
      limit = w.limit;
      age = old;
      sixth = w.sixth;
      seventh = w.seventh;
    }

-- with the same side they stay well formed
flagged : (a : ℕ) (w : Words) (g : Flags) (n old : ℕ) → one_side g ≡ one_side (flags_of w.flags) → well_formed a w ≡ true
    → well_formed a (changed_to g n old w) ≡ true
flagged a w g n old same e =
    let f = formed a w e in
    form a (changed_to g n old w)
    (record {
      code = f.code;
      address = f.address;
      side = rw (flags_of_word g) (same ∙ f.side);
      zeros = zero_bits_lem g;
      interrupt = f.interrupt;
      sixth = f.sixth;
      seventh = f.seventh;
    })

-- a fill leaves words well formed
pub filled_formed : (a : ℕ) (w : Words) → well_formed a w ≡ true → well_formed a (filled_words w) ≡ true
unfolding filled_words
filled_formed a w e = flagged a w (turned (flags_of w.flags)) (filled_words w).fills 0 refl e

-- other status bits leave words well formed
pub marked_formed : (a : ℕ) (w : Words) (x : Faults) → well_formed a w ≡ true → well_formed a (marked_words w x) ≡ true
unfolding marked_words
marked_formed a w x e = flagged a w (faulty (flags_of w.flags) x) w.fills w.age refl e

-- the flags of a port just opened
abbrev pub open_flags : Bool → Flags
open_flags sink = record { vp = false; ever = false; src = not sink; sink = sink; faults = no_faults }

-- the words of a port just opened are well formed for its address, if the arguments are in range
pub open_formed : (a code : ℕ) (sink : Bool) (i limit : ℕ) → a < 4096 → code ≤ 4 → i ≤ 7
    → well_formed a (open_words a code sink i limit) ≡ true
unfolding open_words
open_formed a code sink i limit ha hc hi =
    form a (open_words a code sink i limit)
    (record {
      code = omega arith;
      address = omega arith;
      side = rw (flags_of_word (open_flags sink)) (one sink);
      zeros = zero_bits_lem (open_flags sink);
      interrupt = hi;
      sixth = refl;
      seventh = refl;
    })
  where
    one : (b : Bool) → one_side (open_flags b) ≡ true
    one true = refl
    one false = refl

-- well formed words have a word 1 that is not 0
pub formed_used : (a : ℕ) (w : Words) → well_formed a w ≡ true → w.flags ≡ 0 → ⊥
unfolding flags_of bit_at
formed_used a w e z = false≢true (rw z at (formed a w e).side)

-- ---- sizes: none is above sixteen words

-- a port has at most sixteen words, whatever its F-code
pub size_small : (code : ℕ) → size_of code ≤ 16
unfolding size_of
size_small code = go (expected_of code) refl
  where
    go : (x : Option ℕ) → expected_of code ≡ x → words_in x ≤ 16
    go (Some n) e = longest code n e
    go None e = omega arith
