-- The words of the port program's lines, as bytes; beside each list of bytes stands its word. Assumes nothing.
use Rattle.std.specs.Prelude.{ℕ, List, [], ◌∷◌}

-- ---- keys that are read, those of a port's setup lines also printed

abbrev pub w_addr : List ℕ
w_addr = 97 ∷ 100 ∷ 100 ∷ 114 ∷ []  -- addr

abbrev pub w_fcode : List ℕ
w_fcode = 102 ∷ 99 ∷ 111 ∷ 100 ∷ 101 ∷ []  -- fcode

abbrev pub w_dir : List ℕ
w_dir = 100 ∷ 105 ∷ 114 ∷ []  -- dir

abbrev pub w_index : List ℕ
w_index = 105 ∷ 110 ∷ 100 ∷ 101 ∷ 120 ∷ []  -- index

abbrev pub w_master : List ℕ
w_master = 109 ∷ 97 ∷ 115 ∷ 116 ∷ 101 ∷ 114 ∷ []  -- master

abbrev pub w_slave : List ℕ
w_slave = 115 ∷ 108 ∷ 97 ∷ 118 ∷ 101 ∷ []  -- slave

abbrev pub w_quiet : List ℕ
w_quiet = 113 ∷ 117 ∷ 105 ∷ 101 ∷ 116 ∷ []  -- quiet

abbrev pub w_write : List ℕ
w_write = 119 ∷ 114 ∷ 105 ∷ 116 ∷ 101 ∷ []  -- write

-- ---- values, `none` that of `data` when never

abbrev pub w_sink : List ℕ
w_sink = 115 ∷ 105 ∷ 110 ∷ 107 ∷ []  -- sink

abbrev pub w_source : List ℕ
w_source = 115 ∷ 111 ∷ 117 ∷ 114 ∷ 99 ∷ 101 ∷ []  -- source

abbrev pub w_never : List ℕ
w_never = 110 ∷ 101 ∷ 118 ∷ 101 ∷ 114 ∷ []  -- never

abbrev pub w_good : List ℕ
w_good = 103 ∷ 111 ∷ 111 ∷ 100 ∷ []  -- good

abbrev pub w_held : List ℕ
w_held = 104 ∷ 101 ∷ 108 ∷ 100 ∷ []  -- held

abbrev pub w_stale : List ℕ
w_stale = 115 ∷ 116 ∷ 97 ∷ 108 ∷ 101 ∷ []  -- stale

abbrev pub w_none : List ℕ
w_none = 110 ∷ 111 ∷ 110 ∷ 101 ∷ []  -- none

-- ---- keys that are only printed

abbrev pub w_state : List ℕ
w_state = 115 ∷ 116 ∷ 97 ∷ 116 ∷ 101 ∷ []  -- state

abbrev pub w_fills : List ℕ
w_fills = 102 ∷ 105 ∷ 108 ∷ 108 ∷ 115 ∷ []  -- fills

abbrev pub w_blocks : List ℕ
w_blocks = 98 ∷ 108 ∷ 111 ∷ 99 ∷ 107 ∷ 115 ∷ []  -- blocks

abbrev pub w_data : List ℕ
w_data = 100 ∷ 97 ∷ 116 ∷ 97 ∷ []  -- data

abbrev pub w_reply : List ℕ
w_reply = 114 ∷ 101 ∷ 112 ∷ 108 ∷ 121 ∷ []  -- reply

abbrev pub w_refused : List ℕ
w_refused = 114 ∷ 101 ∷ 102 ∷ 117 ∷ 115 ∷ 101 ∷ 100 ∷ []  -- refused
