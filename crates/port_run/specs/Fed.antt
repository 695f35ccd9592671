-- Document 01, "It prints reply= as replies occur": what is printed of an input that comes piece by piece. A line is worked as soon as its
-- newline is read. Assumes nothing.
use Rattle.std.specs.Prelude.{ℕ, Bool, cond, List, [], ◌∷◌, ◌++◌, eqb, ltb, length, take}
use Rattle.port_digits.specs.Marks.{newline}
use Rattle.port_digits.specs.Write.{Paper, paper, onto}
use Rattle.model.specs.Calls.{start}
use Rattle.model.specs.Layout.{Areas}
use Rattle.port_line.specs.Meaning.{State, state, fresh_setup, begun, state_after, meaning}
use Rattle.port_text.specs.Report.{refused_text}
use Rattle.port_run.specs.declared.Feed.{Feed}
use Rattle.port_run.specs.Printed.{line_in, end_text}

-- ---- between two bytes

-- the state after the lines that are worked, the bytes of the line that has not ended, and the number of the refusal that stopped the
-- program, 0 while it runs
pub record Feeding : Type 0 where
  pub state : State
  pub line : List ℕ
  pub refusal : ℕ

-- such a record, by its parts
abbrev pub feeding : State → List ℕ → ℕ → Feeding
feeding s l n = record { state = s; line = l; refusal = n }

-- before the first byte: a fresh controller and cleared areas
unfoldable pub unfed : Feeding
unfed = feeding (state fresh_setup start) [] 0

-- ---- what bytes come to: what is printed of them, and how things stand after them

-- both, as one record
pub record Fed : Type 0 where
  pub said : List ℕ
  pub next : Feeding

-- such a record, by its parts
abbrev pub fed_with : List ℕ → Feeding → Fed
fed_with t f = record { said = t; next = f }

-- the number of a refusal, if there is one
abbrev pub stop_text : ℕ → List ℕ
stop_text n = cond (eqb n 0) [] (refused_text n)

-- a line that has ended: it is worked, and the number of its refusal is printed, if it is refused
unfoldable pub worked : ℕ → List ℕ → State → Fed
worked room l s =
    let x = meaning (line_in room l) s in
    fed_with (x.said ++ stop_text x.refusal) (feeding x.next [] x.refusal)

-- a line that has not ended waits for the rest of it; one for which there is no room is refused at once
abbrev pub unended : ℕ → List ℕ → State → Fed
unended room l s = cond (ltb room (length l)) (worked room l s) (fed_with [] (feeding s l 0))

-- one byte; after a refusal none is taken
abbrev pub byte_fed : ℕ → Feeding → ℕ → Fed
byte_fed room f c =
    cond (eqb f.refusal 0)
    (cond (eqb c newline) (worked room f.line f.state) (unended room (f.line ++ (c ∷ [])) f.state))
    (fed_with [] f)

-- one after the other
unfoldable pub fed : ℕ → Feeding → List ℕ → Fed
fed room f [] = fed_with [] f
fed room f (c ∷ t) =
    let x = byte_fed room f c in
    let y = fed room x.next t in
    fed_with (x.said ++ y.said) y.next

-- a part of a line, which ends with it or not
abbrev pub part_fed : ℕ → Feeding → List ℕ → Bool → Fed
part_fed room f t ends =
    cond (eqb f.refusal 0) (cond ends (worked room (f.line ++ t) f.state) (unended room (f.line ++ t) f.state)) (fed_with [] f)

-- ---- at the end of the input

-- the line that lacks its newline, if any byte of it has come, ends there
abbrev pub last_fed : ℕ → Feeding → Fed
last_fed room f = cond (eqb (length f.line) 0) (fed_with [] f) (byte_fed room f newline)

-- then the open ports are printed; after a refusal nothing is
abbrev pub closing : ℕ → State → List ℕ
closing n s = cond (eqb n 0) (end_text s.setup s.world.areas) []

-- both
unfoldable pub end_said : ℕ → Feeding → List ℕ
end_said room f = let x = last_fed room f in x.said ++ closing x.next.refusal x.next.state

-- ---- the code's records

-- before the first byte
abbrev pub begun_feed : Feed
begun_feed = record { stepped = begun; partial = 0 }

-- what was written into the buffer of the output has been printed, and its first place is the next again
abbrev pub rewound : Feed → Feed
rewound f =
    let s = f.stepped in
    record { stepped = record { refusal = s.refusal; controller = s.controller; setup = s.setup; at = 0 }; partial = f.partial }

-- how things stand, by the areas, the buffer of the line and the code's record
abbrev pub feeding_of : Areas → List ℕ → Feed → Feeding
feeding_of m l f = feeding (state_after m f.stepped) (take f.partial l) f.stepped.refusal

-- what the code leaves of some bytes: how things stand, and the buffer of the output
pub record Left : Type 0 where
  pub next : Feeding
  pub out : Paper

-- a result of the code, with the areas and the buffers that it leaves
abbrev pub left : Areas → List ℕ → List ℕ → Feed → Left
left m l o f = record { next = feeding_of m l f; out = paper o f.stepped.at }

-- what is said is written
abbrev pub left_by : Paper → Fed → Left
left_by p x = record { next = x.next; out = onto p x.said }
