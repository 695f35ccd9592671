-- The bytes that stand between the parts of a text of the port program, by name (document 01, "Numbers on either side"). Assumes nothing.
use Rattle.std.specs.Prelude.{ℕ}

-- ends a line
abbrev pub newline : ℕ
newline = 10

-- stands between the numbers of a list, and between the word and the check byte of a master frame
abbrev pub comma : ℕ
comma = 44

-- stands between two lists, or an address and a list
abbrev pub semicolon : ℕ
semicolon = 59

-- stands between the key of a line and its value
abbrev pub equals : ℕ
equals = 61
