-- Each refusal has a number of its own, and none has 0. Assumes nothing.
use Rattle.std.proofs.Common.{◌≡◌, ℕ, cond, eqb, true, false, true≢false, eq-eqb, refl, sym, ap, ◌∙◌, Result, Ok, Err}
use Rattle.constants.specs.declared.refusals.Refusal.{Refusal}
use Rattle.constants.specs.declared.refusals.Refusal.TheVariants.{Area, Range, NoPort, Taken, Side, Damaged}
use Rattle.constants.specs.Refusal.{number, told}

pub refused_number : (e : Refusal) → eqb (number e) 0 ≡ false
refused_number Area = refl
refused_number Range = refl
refused_number NoPort = refl
refused_number Taken = refl
refused_number Side = refl
refused_number Damaged = refl

pub no_number : (e : Refusal) → number e ≡ 0 → ⊥
no_number e z = true≢false (sym (eq-eqb _ _ z) ∙ refused_number e)

-- the refusal of a number; of 0 and of what is no number there is none, and DAMAGED stands for it
abbrev pub with_number : ℕ → Refusal
with_number n = cond (eqb n 1) Area (cond (eqb n 2) Range (cond (eqb n 3) NoPort (cond (eqb n 4) Taken (cond (eqb n 5) Side Damaged))))

pub number_back : (e : Refusal) → with_number (number e) ≡ e
number_back Area = refl
number_back Range = refl
number_back NoPort = refl
number_back Taken = refl
number_back Side = refl
number_back Damaged = refl

pub number_one : (d e : Refusal) → number d ≡ number e → d ≡ e
number_one d e s = sym (number_back d) ∙ ap with_number s ∙ number_back e

-- so a refusal, or none, is told by its number alone
pub told_one : (r s : Result (Unit {0}) Refusal) → told r ≡ told s → r ≡ s
told_one (Ok x) (Ok y) e = refl
told_one (Ok x) (Err f) e = absurd (no_number f (sym e))
told_one (Err d) (Ok y) e = absurd (no_number d e)
told_one (Err d) (Err f) e = ap Err (number_one d f e)
