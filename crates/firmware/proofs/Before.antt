-- Document 02, W-212: what `tolvendrum_fetch` answers is what it answered when asking tested all four areas, whatever the areas hold. Assumes
-- nothing.
use Prim.Native.Nat.{ℕ}
use mathlib.Core.Path.{◌≡◌, refl, sym, ◌∙◌, ap, ap₂}
use mathlib.Core.Bool.{Bool, true, false, cond}
use Rattle.model.specs.Answer.{Refused}
use Rattle.model.specs.Layout.{Areas, pages_fit, entry}
use Rattle.model.specs.Ports.{valid_words}
use Rattle.model.specs.Calls.{asked, refusal_of, part_for}
use Rattle.model.proofs.Asking.{asked_before, asked_before_lem, fetched_before}
use Rattle.firmware.specs.Promise.{fetched_with, fetching}

-- Fetching answers the number, the size and the words that it answered before.
pub fetching_before : (m : Areas) (a : ℕ)
    → fetching m a ≡ fetched_with (refusal_of (asked_before m a)) (part_for (asked_before m a) (valid_words m (entry m a)))
unfolding fetching
fetching_before m a = ap₂ fetched_with (go (pages_fit m) ∙ ap refusal_of (sym (asked_before_lem m a))) (fetched_before m a)
  where
    go : (b : Bool) → cond b (refusal_of (asked m a)) 1 ≡ refusal_of (cond b (asked m a) (Refused 1))
    go true = refl
    go false = refl
