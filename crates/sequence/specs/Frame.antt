-- Document 01, "Check sequence and frame sizes": a check byte ends each four words of a frame; a shorter rest has one too. Each block
-- is spoken of by itself, as block k, from 0. The interface is `blocks`, `check_at` and `frame_checks`. Assumes nothing.
use Rattle.std.specs.Prelude.{ℕ, ◌+◌, ◌*◌, ◌/◌, cond, List, [], ◌∷◌, ltb, leb, length, take, drop}
use Rattle.sequence.specs.declared.FrameChecks.{FrameChecks}
use Rattle.sequence.specs.Check.{check_of}

-- how many blocks, and so how many check bytes, a frame of n words has; a frame has at most sixteen words
unfoldable pub blocks : ℕ → ℕ
blocks n = cond (leb n 16) ((n + 3) / 4) 0

-- the words of block k
abbrev pub block : List ℕ → ℕ → List ℕ
block ws k = take 4 (drop (4 * k) ws)

-- the check byte of block k
unfoldable pub check_at : List ℕ → ℕ → ℕ
check_at ws k = check_of (block ws k)

-- the same, and 0 where there is no block k
unfoldable pub byte_at : List ℕ → ℕ → ℕ
byte_at ws k = cond (ltb k (blocks (length ws))) (check_at ws k) 0

-- the check bytes of a frame
unfoldable pub frame_checks : List ℕ → FrameChecks
frame_checks ws =
    record { count = blocks (length ws); bytes = byte_at ws 0 ∷ byte_at ws 1 ∷ byte_at ws 2 ∷ byte_at ws 3 ∷ [] }
