-- Two results that the promise of `take::take` allows leave the same areas, and two of `need::needed` are equal. The contracts are cited as
-- they stand. Assumes nothing.
use Rattle.std.proofs.Common.{◌≡◌, ◌∙◌, sym, ap, ℕ, Option, Result, Ok, Err, IfOk}
use Rattle.constants.specs.declared.refusals.Refusal.{Refusal}
use Rattle.constants.specs.Refusal.{told}
use Rattle.constants.proofs.Numbers.{no_number, number_one}
use Rattle.areas.proofs.One.{one_areas}
use Rattle.bus_ports.proofs.take.take.Reads as take-reads
use Rattle.bus_ports.proofs.need.needed.Reads as needed-reads

-- `take` leaves the same port words and pages.
pub one_take : (κs : _) (a : _) (r s : _) (e f : _) → take-reads.Learnt κs a r e → take-reads.Learnt κs a s f
    → (e.0.now ≡ f.0.now) × (e.1.0.now ≡ f.1.0.now) × (e.1.1.0.now ≡ f.1.1.0.now)
one_take κs a r s e f p q = one_areas p q

-- two results with one number, each of which hands on what was sought
one_port : (sought : Result (Option ℕ) Refusal) (n : ℕ) (r s : Result (Option ℕ) Refusal) → told r ≡ n → IfOk r (λ o. sought ≡ Ok o) → told s ≡ n
    → IfOk s (λ o. sought ≡ Ok o) → r ≡ s
one_port sought n (Ok a) (Ok b) p f q g = sym f ∙ g
one_port sought n (Ok a) (Err d) p f q g = absurd (no_number d (q ∙ sym p))
one_port sought n (Err d) (Ok b) p f q g = absurd (no_number d (p ∙ sym q))
one_port sought n (Err d) (Err e) p f q g = ap Err (number_one d e (p ∙ sym q))

-- `needed` hands on one port, or refuses with one refusal.
pub one_needed : (κs : _) (a : _) (r s : _) (e f : _) → needed-reads.Learnt κs a r e → needed-reads.Learnt κs a s f → r ≡ s
one_needed κs a r s e f p q = one_port _ _ r s p.0 p.1 q.0 q.1
