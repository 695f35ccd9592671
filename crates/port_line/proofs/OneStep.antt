-- Two results that the promise of `step::step` allows are equal, with the areas and the buffer that they leave. Its contract is cited as it
-- stands. Assumes nothing.
use Rattle.std.proofs.Common.{ℕ, ◌≡◌, sym, ◌∙◌, ap, List}
use Rattle.model.specs.Layout.{areas, Areas}
use Rattle.port_line.specs.declared.Stepped.{Stepped}
use Rattle.port_line.specs.Meaning.{Ended, ended}
use Rattle.port_line.proofs.step.step.Reads as step-reads

-- what a line left, from what is promised of it
abbrev left : Ended → Stepped
left x = record { refusal = x.refusal; controller = x.next.world.controller; setup = x.next.setup; at = x.out.at }

-- what is left, as one record, leaves no choice
one_ended : {m k : Areas} {o p : List ℕ} {r s : Stepped} → ended m o r ≡ ended k p s → (r ≡ s) × (m ≡ k) × (o ≡ p)
one_ended {m} {k} {o} {p} {r} {s} e =
    (ap left e, ap (λ (x : Ended). x.next.world.areas) e, ap (λ (x : Ended). x.out.text) e)

-- So two results of one line are the same, and leave the same.
pub one_step : (κs : _) (a : _) (r s : _) (e f : _) → step-reads.Learnt κs a r e → step-reads.Learnt κs a s f
    → (r ≡ s) × (areas e.0.now e.1.0.now e.1.1.0.now e.1.1.1.0.now ≡ areas f.0.now f.1.0.now f.1.1.0.now f.1.1.1.0.now)
    × (e.1.1.1.1.0.now ≡ f.1.1.1.1.0.now)
one_step κs a r s e f p q = one_ended (p ∙ sym q)
