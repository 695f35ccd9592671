-- No size by F-code is above 16, and the promise of `reply_size` allows one result alone. Assumes nothing.
use Rattle.std.specs.Prelude.{Option, None, Some}
use mathlib.Core.Path.{◌≡◌, sym, ◌∙◌, subst}
use mathlib.Core.List.{List, [], ◌∷◌}
use Prim.Native.Nat.{ℕ, zero, suc, ◌≤◌}
use native.Mathlib.Omega.{arith}
use lib.ListN.{get_or}
use Rattle.frames.specs.Size.{sizes, expected_of}
use Rattle.frames.proofs.reply_size.Reads as reply-size-reads

abbrev Fit : Option ℕ → Type 0
Fit (Some n) = n ≤ 16
Fit None = Unit

abbrev AllFit : List (Option ℕ) → Type 0
AllFit [] = Unit
AllFit (x ∷ xs) = Fit x × AllFit xs

fit_at : (l : List (Option ℕ)) (k : ℕ) → AllFit l → Fit (get_or l k None)
fit_at [] k f = tt
fit_at (x ∷ xs) zero f = f.0
fit_at (x ∷ xs) (suc k) f = fit_at xs k f.1

-- no reply is longer than sixteen words
pub longest : (code n : ℕ) → expected_of code ≡ Some n → n ≤ 16
unfolding expected_of sizes
longest code n e = subst Fit e (fit_at sizes code (omega arith))

-- two answers that are both what an F-code expects are the same
pub one_size : (code : ℕ) (x y : Option ℕ) → x ≡ expected_of code → y ≡ expected_of code → x ≡ y
one_size code x y p q = p ∙ sym q

-- so the contract of `reply_size`, as it stands, allows one result alone
pub one_reply_size : (κs : _) (a : _) (r s : _) (e f : _) → reply-size-reads.Learnt κs a r e → reply-size-reads.Learnt κs a s f → r ≡ s
one_reply_size κs a r s e f p q = one_size _ r s p q
