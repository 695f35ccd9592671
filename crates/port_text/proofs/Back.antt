-- The lines `addr`, `fcode`, `dir` and `index` that are printed of an open port, each without the newline that ends it, are read as the
-- setup lines with the same values. Assumes nothing.
use Rattle.std.proofs.Common.{ℕ, ◌≤◌, ◌≡◌, refl, ◌∙◌, Bool, true, false, List, [], ◌∷◌, ◌++◌, append_assoc, arith, le-ltb}
use Rattle.port_digits.specs.Marks.{newline, equals}
use Rattle.port_digits.specs.Cut.{text_before, has, same}
use Rattle.port_digits.specs.Read.{cut, number_in}
use Rattle.port_digits.specs.Write.{decimal}
use Rattle.port_digits.proofs.Cutting.{lacks_joined, before_joined, after_joined}
use Rattle.port_digits.proofs.Back.{number_back, number_lacks}
use Rattle.port_text.specs.Words.{w_addr, w_fcode, w_dir, w_index, w_sink, w_source}
use Rattle.port_text.specs.Line.{Line, addr, fcode, dir, index, numbered, key_of, dir_of, line_as, line_of}
use Rattle.port_text.specs.Report.{line_text, dir_text}

-- a key without `=`, on one line with its value, is read as the key, and the value as its value
printed_read : (key value : List ℕ) → has equals key ≡ false → has newline key ≡ false → has newline value ≡ false
    → line_of (text_before newline (line_text key value)) ≡ line_as (key_of key) value
unfolding line_text line_of has
printed_read key value e k v =
    let line = key ++ (equals ∷ []) ++ value in
    let joined = lacks_joined newline in
    let one : has newline line ≡ false = joined (key ++ (equals ∷ [])) value (joined key (equals ∷ []) k refl) v in
    rw (before_joined newline line [] one, append_assoc key (equals ∷ []) value, before_joined equals key value e, after_joined equals key value e)

-- a key whose value is a word
number_read_lem : (key : List ℕ) (line : ℕ → Line) → has equals key ≡ false → has newline key ≡ false
    → ((v : List ℕ) → line_as (key_of key) v ≡ numbered (λ (n : ℕ). line (cut 65535 n)) (number_in v))
    → (n : ℕ) → n ≤ 65535 → line_of (text_before newline (line_text key (decimal n))) ≡ line n
number_read_lem key line e k reads n h =
    printed_read key (decimal n) e k (number_lacks newline n (omega arith)) ∙ reads (decimal n) ∙ rw (number_back n h, le-ltb 65535 n h)

-- an address that is printed is read as the same address
pub addr_back : (n : ℕ) → n ≤ 65535 → line_of (text_before newline (line_text w_addr (decimal n))) ≡ addr n
unfolding has same key_of line_as
addr_back = number_read_lem w_addr addr refl refl (λ v. refl)

-- so is an F-code
pub fcode_back : (n : ℕ) → n ≤ 65535 → line_of (text_before newline (line_text w_fcode (decimal n))) ≡ fcode n
unfolding has same key_of line_as
fcode_back = number_read_lem w_fcode fcode refl refl (λ v. refl)

-- so is a port number
pub index_back : (n : ℕ) → n ≤ 65535 → line_of (text_before newline (line_text w_index (decimal n))) ≡ index n
unfolding has same key_of line_as
index_back = number_read_lem w_index index refl refl (λ v. refl)

-- so is a direction
pub dir_back : (sink : Bool) → line_of (text_before newline (line_text w_dir (dir_text sink))) ≡ dir sink
unfolding has same key_of line_as dir_of
dir_back true = printed_read w_dir w_sink refl refl refl
dir_back false = printed_read w_dir w_source refl refl refl
