-- The division a byte at a time. The rule of a step table comes from one test that antt computes over all of its entries; by it each entry
-- is a remainder modulo G, and the only one; and a byte is one step, a word two. Assumes nothing.
use mathlib.Core.Path.{◌≡◌, sym, ap, ◌∙◌, subst}
use mathlib.Core.Bool.{Bool}
use mathlib.Core.List.{List}
use Prim.Native.Nat.{ℕ, ◌+◌, ◌*◌, ◌/◌, ◌%◌, ◌^◌, ◌<◌}
use native.Mathlib.Omega.{arith}
use lib.Dec.{T, eqb, eqb→eq, lit<}
use lib.ListN.{get_or}
use lib.Pow.{split}
use lib.Bits.{bit_xor, xor_zero_r}
use Rattle.sequence.specs.Check.{push, pushes}
use Rattle.sequence.specs.Remainder.{Remainder}
use Rattle.sequence.specs.Steps.{step_of, StepTable}
use Rattle.sequence.proofs.Below.{below, below_at}
use Rattle.sequence.proofs.Cat.{pushes_cat}
use Rattle.sequence.proofs.Divides.{more, nothing}
use Rattle.sequence.proofs.Linear.{pushes_xor}
use Rattle.sequence.proofs.Unique.{unique}
use Rattle.sequence.proofs.table.step_at.Reads as step-at-reads

-- entry i of t is step i
abbrev right : List ℕ → ℕ → Bool
right t i = eqb (get_or t i 0) (step_of i)

-- A table that passes the test at all of its 256 entries has the rule at each.
pub table_right : (t : List ℕ) → T (below (right t) 256) → StepTable t
unfolding StepTable
table_right t all i h = eqb→eq (get_or t i 0) (step_of i) (below_at (right t) 256 all i h)

-- step i is what i times x^7 leaves modulo G
step_remains : (i : ℕ) → i < 2 ^ 8 → Remainder (i * 2 ^ 7) (step_of i)
step_remains i h =
    let e : 0 * 2 ^ 8 + i % 2 ^ 8 ≡ i = omega arith in
    subst (λ (n : ℕ). Remainder (n * 2 ^ 7) (step_of i)) e (more 8 0 0 i nothing)

-- The rule of a step table against G: entry i is the remainder of i times x^7, by what a remainder is, and so below 2^7.
pub step_rule : (t : List ℕ) → StepTable t → (i : ℕ) → i < 2 ^ 8 → Remainder (i * 2 ^ 7) (get_or t i 0)
unfolding StepTable
step_rule t rule i h = subst (λ (n : ℕ). Remainder (i * 2 ^ 7) n) (sym (rule i h)) (step_remains i h)

-- It is the only one: whatever is such a remainder is the entry.
pub step_one : (t : List ℕ) → StepTable t → (i r : ℕ) → i < 2 ^ 8 → Remainder (i * 2 ^ 7) r → r ≡ get_or t i 0
step_one t rule i r h f = unique (i * 2 ^ 7) r (get_or t i 0) f (step_rule t rule i h)

-- So it is of what `step_at` answers, each entry of the array in the code: by its contract as it stands.
pub entry_rule : (κs : _) (a : _) (r : _) (e : _) → step-at-reads.Learnt κs a r e → a.0 < 2 ^ 8 → Remainder (a.0 * 2 ^ 7) r
entry_rule κs a r e p h = subst (λ (n : ℕ). Remainder (a.0 * 2 ^ 7) n) (sym p) (step_remains a.0 h)

-- eight zeros after the remainder r leave what the byte r·x leaves
aligns : ℕ → Bool
aligns r = eqb (pushes 8 r 0) (step_of (r * 2))

all_align : T (below aligns 128)
unfolding aligns push pushes
all_align = tt

aligned : (r : ℕ) → r < 128 → pushes 8 r 0 ≡ step_of (r * 2)
unfolding aligns
aligned r h = eqb→eq (pushes 8 r 0) (step_of (r * 2)) (below_at aligns 128 all_align r h)

-- A byte b after the remainder r is one step, that of r·x + b.
pub byte_step : (r b : ℕ) → r < 128 → pushes 8 r b ≡ step_of (bit_xor (r * 2) b)
byte_step r b h =
    ap (λ (n : ℕ). pushes 8 n b) (sym (xor_zero_r r))
    ∙ pushes_xor 8 r 0 0 b h (lit< tt)
    ∙ ap (λ (n : ℕ). bit_xor n (pushes 8 0 b)) (aligned r h)
    ∙ sym (pushes_xor 8 0 0 (r * 2) b (lit< tt) (lit< tt))

-- The sixteen bits of a word are the eight of its high byte and then the eight of its low byte.
pub word_bytes : (r w : ℕ) → pushes 16 r w ≡ pushes 8 (pushes 8 r (w / 256)) (w % 256)
word_bytes r w = ap (pushes 16 r) (sym (split w 8)) ∙ pushes_cat 8 8 r (w / 256) (w % 256) (omega arith)
