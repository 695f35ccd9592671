-- A hearing as numbers, both ways, and which numbers are a hearing. Assumes nothing.
use Rattle.std.specs.Prelude.{ℕ, Bool, cond, ◌&&◌, eqb, leb}
use Rattle.frames.specs.declared.Kind.{Kind}
use Rattle.frames.specs.declared.Kind.TheVariants.{Silence, Noise, Master, Slave}
use Rattle.frames.specs.declared.Hearing.{Hearing}
use Rattle.firmware_layout.specs.declared.FlatHearing.{FlatHearing}
use Rattle.firmware_layout.specs.Flags.{bit_of, is_bit, is_set}

-- 0 silence, 1 noise, 2 master frame, 3 slave frame
abbrev pub kind_number : Kind → ℕ
kind_number Silence = 0
kind_number Noise = 1
kind_number Master = 2
kind_number Slave = 3

abbrev pub kind_of : ℕ → Kind
kind_of k = cond (eqb k 1) Noise (cond (eqb k 2) Master (cond (eqb k 3) Slave Silence))

unfoldable pub flat_hearing : Hearing → FlatHearing
flat_hearing h =
    record {
      kind = kind_number h.kind;
      words = h.words;
      size = h.size;
      checks = h.checks;
      ends = h.ends;
      sqe = bit_of h.sqe;
      violation = bit_of h.violation;
      alo = bit_of h.alo;
    }

unfoldable pub hearing_of : FlatHearing → Hearing
hearing_of f =
    record {
      kind = kind_of f.kind;
      words = f.words;
      size = f.size;
      checks = f.checks;
      ends = f.ends;
      sqe = is_set f.sqe;
      violation = is_set f.violation;
      alo = is_set f.alo;
    }

-- a kind and three marks; that it has at most 16 words and 4 check bytes is asked by the call itself
unfoldable pub formed : FlatHearing → Bool
formed f = leb f.kind 3 && is_bit f.sqe && is_bit f.violation && is_bit f.alo
