-- Two results that a promise of this crate allows are equal, with what they leave in a lent buffer. The contracts are cited as they stand.
-- Assumes nothing.
use Rattle.std.proofs.Common.{ℕ, ◌≡◌, sym, ◌∙◌, ap, List}
use Rattle.port_digits.specs.declared.Listed.{Listed}
use Rattle.port_digits.specs.Read.{Reading, reading}
use Rattle.port_digits.specs.Write.{Paper, paper}
use Rattle.port_digits.proofs.cut.before.Reads as before-reads
use Rattle.port_digits.proofs.cut.after.Reads as after-reads
use Rattle.port_digits.proofs.read.numbers.Reads as numbers-reads
use Rattle.port_digits.proofs.write.put.Reads as put_reads
use Rattle.port_digits.proofs.write.put_text.Reads as put-text-reads
use Rattle.port_digits.proofs.write.put_number.Reads as put-number-reads
use Rattle.port_digits.proofs.write.put_list.Reads as put-list-reads

-- ---- a buffer and the place in it, as one thing

-- where both are the same, so is each
pub one_paper : {t u : List ℕ} {m n : ℕ} {p : Paper} → paper t m ≡ p → paper u n ≡ p → (t ≡ u) × (m ≡ n)
one_paper x y = (ap (λ (p : Paper). p.text) (x ∙ sym y), ap (λ (p : Paper). p.at) (x ∙ sym y))

-- the numbers that are stored and what is told of them
one_reading : {t u : List ℕ} {k l : Listed} {p : Reading} → reading t k ≡ p → reading u l ≡ p → (t ≡ u) × (k ≡ l)
one_reading x y = (ap (λ (p : Reading). p.store) (x ∙ sym y), ap (λ (p : Reading). p.told) (x ∙ sym y))

-- ---- each function

-- What `before` hands back holds the same bytes; where it lies is left open.
pub one_before : (κs : _) (a : _) (r s : _) (e f : _) → before-reads.Learnt κs a r e → before-reads.Learnt κs a s f → r.now ≡ s.now
one_before κs a r s e f p q = p ∙ sym q

-- So does what `after` hands back.
pub one_after : (κs : _) (a : _) (r s : _) (e f : _) → after-reads.Learnt κs a r e → after-reads.Learnt κs a s f → r.now ≡ s.now
one_after κs a r s e f p q = p ∙ sym q

-- `numbers` stores the same numbers and tells the same of them.
pub one_numbers : (κs : _) (a : _) (r s : _) (e f : _) → numbers-reads.Learnt κs a r e → numbers-reads.Learnt κs a s f
    → (e.1.0.now ≡ f.1.0.now) × (r ≡ s)
one_numbers κs a r s e f p q = one_reading p q

-- `put` leaves the same buffer and answers the same place.
pub one_put : (κs : _) (a : _) (r s : _) (e f : _) → put_reads.Learnt κs a r e → put_reads.Learnt κs a s f
    → (e.0.now ≡ f.0.now) × (r ≡ s)
one_put κs a r s e f p q = one_paper p q

-- So does `put_text`.
pub one_put_text : (κs : _) (a : _) (r s : _) (e f : _) → put-text-reads.Learnt κs a r e → put-text-reads.Learnt κs a s f
    → (e.0.now ≡ f.0.now) × (r ≡ s)
one_put_text κs a r s e f p q = one_paper p q

-- So does `put_number`.
pub one_put_number : (κs : _) (a : _) (r s : _) (e f : _) → put-number-reads.Learnt κs a r e → put-number-reads.Learnt κs a s f
    → (e.0.now ≡ f.0.now) × (r ≡ s)
one_put_number κs a r s e f p q = one_paper p q

-- So does `put_list`.
pub one_put_list : (κs : _) (a : _) (r s : _) (e f : _) → put-list-reads.Learnt κs a r e → put-list-reads.Learnt κs a s f
    → (e.0.now ≡ f.0.now) × (r ≡ s)
one_put_list κs a r s e f p q = one_paper p q
