-- Document 01, "Numbers on either side": what the port program prints of its whole input. Assumes nothing.
use Rattle.std.specs.Prelude.{ℕ, cond, List, [], ◌∷◌, ◌++◌, eqb, ltb, length}
use Rattle.port_digits.specs.Marks.{newline}
use Rattle.model.specs.Calls.{start}
use Rattle.model.specs.Layout.{Areas}
use Rattle.port_line.specs.declared.Setup.{Setup}
use Rattle.port_text.specs.Line.{Line, malformed, line_of}
use Rattle.port_line.specs.Meaning.{fresh_setup, State, state, whole, meaning}
use Rattle.port_text.specs.Report.{report, refused_text}

-- ---- the lines of a text: a newline ends one, and the last newline may be missing

-- a byte before the first line
abbrev pub on_first : ℕ → List (List ℕ) → List (List ℕ)
on_first c [] = (c ∷ []) ∷ []
on_first c (l ∷ ls) = (c ∷ l) ∷ ls

-- the lines without their newlines
unfoldable pub text_lines : List ℕ → List (List ℕ)
text_lines [] = []
text_lines (c ∷ cs) = cond (eqb c newline) ([] ∷ text_lines cs) (on_first c (text_lines cs))

-- ---- a line as long as there is room for it

-- the longest line of the port program, in bytes without its newline
abbrev pub longest : ℕ
longest = 1024

-- a line for which there is no room is malformed
abbrev pub line_in : ℕ → List ℕ → Line
line_in room l = cond (ltb room (length l)) malformed (line_of l)

-- ---- what is printed

-- at the end: the open ports; a port that is described in part is refused
unfoldable pub end_text : Setup → Areas → List ℕ
end_text u m = cond (whole u) (report m) (refused_text 7)

-- line by line, with room for so many bytes of each; a refusal prints its number and stops
unfoldable pub printed_from : ℕ → List (List ℕ) → State → List ℕ
printed_from room [] s = end_text s.setup s.world.areas
printed_from room (l ∷ ls) s =
    let x = meaning (line_in room l) s in
    x.said ++ cond (eqb x.refusal 0) (printed_from room ls x.next) (refused_text x.refusal)

-- from a fresh controller and cleared areas
unfoldable pub printed : List ℕ → List ℕ
printed t = printed_from longest (text_lines t) (state fresh_setup start)
