-- Two answers of `block_check` that say the same are the same, and its promise allows one alone. Assumes nothing.
use Rattle.std.proofs.Common.{◌≡◌, ℕ, Option, Some, Result, Ok, Err, refl, sym, ◌∙◌, ap}
use Rattle.constants.specs.declared.refusals.Refusal.{Refusal}
use Rattle.constants.proofs.Numbers.{no_number, number_one}
use Rattle.sequence.specs.Check.{block_says, block_check}
use Rattle.sequence.proofs.block_check.Reads as block-check-reads

-- each number and value is that of one case
pub one_check : (x y : Result ℕ Refusal) → block_says x ≡ block_says y → x ≡ y
one_check (Ok a) (Ok b) e =
    let byte : Some a ≡ Some b = ap (λ (x : ℕ × Option ℕ). x.1) e in
    let same : a ≡ b = cc in
    ap Ok same
one_check (Ok a) (Err d) e = absurd (no_number d (sym (ap (λ (x : ℕ × Option ℕ). x.0) e)))
one_check (Err d) (Ok b) e = absurd (no_number d (ap (λ (x : ℕ × Option ℕ). x.0) e))
one_check (Err d) (Err f) e = ap Err (number_one d f (ap (λ (x : ℕ × Option ℕ). x.0) e))

-- what the contract of `block_check` says of its answer, in document 01's number and value
pub block_check_promised : (κs : _) (a : _) (r : _) (e : _) → block-check-reads.Learnt κs a r e → block_says r ≡ block_says (block_check a.0.now)
block_check_promised κs a r e p = ap block_says p

-- so it allows one result alone
pub one_block_check : (κs : _) (a : _) (r s : _) (e f : _) → block-check-reads.Learnt κs a r e → block-check-reads.Learnt κs a s f → r ≡ s
one_block_check κs a r s e f p q = one_check r s (block_check_promised κs a r e p ∙ sym (block_check_promised κs a s f q))
