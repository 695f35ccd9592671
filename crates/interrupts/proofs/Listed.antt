-- The names of both groups, one computed table each: the list of document 01 has the word of bit 15 first and that of bit 0 last, and 0 where
-- the group has no such bit. The contracts of `names::group0` and `group1` are cited as they stand. Assumes nothing.
use Rattle.std.proofs.Common.{ℕ, ◌^◌, ◌≡◌, ◌∙◌, [], ◌∷◌, List, zero, suc, refl, cond}
use Rattle.interrupts.specs.Names.{names0, names1, used0, used1, data_transfer}
use Rattle.interrupts.specs.Group.{bit}
use Rattle.interrupts.proofs.names.group0.Reads as group0-reads
use Rattle.interrupts.proofs.names.group1.Reads as group1-reads

-- the words of the k lowest bits, the highest first, each 0 where u has no such bit
abbrev pub from_bit : ℕ → ℕ → List ℕ
from_bit u zero = []
from_bit u (suc k) = cond (bit u k) (2 ^ k) 0 ∷ from_bit u k

-- The names of group 0 are its bits, from 15 down to 0.
pub listed0 : names0 ≡ from_bit used0 16
unfolding data_transfer bit
listed0 = refl

-- The names of group 1 are its bits, from 15 down to 0, and 0 for each bit that it has not.
pub listed1 : names1 ≡ from_bit used1 16
unfolding bit
listed1 = refl

-- `names::group0` hands back this list: so its contract says it, and allows one result alone
pub group0_promised : (κs : _) (a : _) (r : _) (e : _) → group0-reads.Learnt κs a r e → r ≡ from_bit used0 16
group0_promised κs a r e p = p ∙ listed0

-- and `names::group1` this one
pub group1_promised : (κs : _) (a : _) (r : _) (e : _) → group1-reads.Learnt κs a r e → r ≡ from_bit used1 16
group1_promised κs a r e p = p ∙ listed1
