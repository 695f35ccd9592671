-- A promise allows one answer alone: two that the contract's own reading allows, of the same arguments, are equal. So a promise that says
-- less is refused here. Assumes nothing.
use Rattle.std.proofs.Common.{◌≡◌, sym, ◌∙◌, ap, refl, Result, Ok, Err}
use Rattle.constants.specs.declared.refusals.Refusal.{Refusal}
use Rattle.constants.proofs.Numbers.{refused_number, number_back}
use Rattle.model.specs.declared.Controller.{Controller}
use Rattle.model.specs.Layout.{Areas}
use Rattle.bus.specs.declared.Answered.{Answered}
use Rattle.bus.specs.Promise.{as_outcome, as_answered}
use Rattle.bus.specs.One.{One}
use Rattle.bus.proofs.calls.hear.Reads as hear-reads
use Rattle.bus.proofs.calls.quiet.Reads as quiet-reads

-- the outcome of an answer tells it
answered_back : (c : Controller) (m : Areas) (r : Result Answered Refusal) → as_answered (as_outcome c m r) ≡ r
answered_back c m (Ok r) = refl
answered_back c m (Err e) = rw (refused_number e) (ap Err (number_back e))

-- A bus event has one answer.
pub one_hear : One hear-reads.Learnt
one_hear κs a r q e d x y = sym (answered_back _ _ r) ∙ ap as_answered (x ∙ sym y) ∙ answered_back _ _ q

-- So has quiet time.
pub one_quiet : One quiet-reads.Learnt
one_quiet κs a r q e d x y = sym (answered_back _ _ r) ∙ ap as_answered (x ∙ sym y) ∙ answered_back _ _ q
