-- Document 01, "What one bus event does" and "What callers are told": a hearing. Assumes nothing.
use Rattle.std.specs.Prelude.{ℕ, Bool, ◌&&◌, ◌||◌, List, leb, take}
use Rattle.frames.specs.declared.Hearing.{Hearing}

-- a hearing has 0 to 16 words and 0 to 4 check bytes
abbrev pub in_range : Hearing → Bool
in_range h = leb h.size 16 && leb h.ends 4

-- the words that were heard
unfoldable pub words_of : Hearing → List ℕ
words_of h = take h.size h.words

-- one of the three quality marks was heard: SQE, code violation, ALO
abbrev pub marked : Hearing → Bool
marked h = h.sqe || h.violation || h.alo
