-- Document 01, "Two interrupt groups": the bits of both groups by name, from bit 15 down. A name is the word in which that bit alone
-- is set. Assumes nothing.
use Rattle.std.specs.Prelude.{ℕ, zero, suc, ◌+◌, ◌-◌, ◌^◌, cond, List, [], ◌∷◌, leb}

-- group 0: EMF ESF DMF DSF AMFX MFC SFC RTI BTI, then DTI7 .. DTI1

abbrev pub EMF : ℕ
EMF = 2 ^ 15

abbrev pub ESF : ℕ
ESF = 2 ^ 14

abbrev pub DMF : ℕ
DMF = 2 ^ 13

abbrev pub DSF : ℕ
DSF = 2 ^ 12

abbrev pub AMFX : ℕ
AMFX = 2 ^ 11

abbrev pub MFC : ℕ
MFC = 2 ^ 10

abbrev pub SFC : ℕ
SFC = 2 ^ 9

abbrev pub RTI : ℕ
RTI = 2 ^ 8

abbrev pub BTI : ℕ
BTI = 2 ^ 7

-- data transfer interrupt i, 1 to 7, is bit i - 1; 0 means none, and there is no other
abbrev pub dti : ℕ → ℕ
dti zero = 0
dti (suc i) = 2 ^ i

unfoldable pub data_transfer : ℕ → ℕ
data_transfer i = cond (leb i 7) (dti i) 0

-- group 1: TI2 XI3 XI2 XQE RQE XQ1C XQ0C RQC FEV, 6 to 3 unused and zero, TI1 XI1 XI0

abbrev pub TI2 : ℕ
TI2 = 2 ^ 15

abbrev pub XI3 : ℕ
XI3 = 2 ^ 14

abbrev pub XI2 : ℕ
XI2 = 2 ^ 13

abbrev pub XQE : ℕ
XQE = 2 ^ 12

abbrev pub RQE : ℕ
RQE = 2 ^ 11

abbrev pub XQ1C : ℕ
XQ1C = 2 ^ 10

abbrev pub XQ0C : ℕ
XQ0C = 2 ^ 9

abbrev pub RQC : ℕ
RQC = 2 ^ 8

abbrev pub FEV : ℕ
FEV = 2 ^ 7

abbrev pub TI1 : ℕ
TI1 = 2 ^ 2

abbrev pub XI1 : ℕ
XI1 = 2 ^ 1

abbrev pub XI0 : ℕ
XI0 = 2 ^ 0

-- the groups as document 01 lists them, from bit 15 down; 0 for a bit that is not used
abbrev pub names0 : List ℕ
names0 =
    EMF ∷ ESF ∷ DMF ∷ DSF ∷ AMFX ∷ MFC ∷ SFC ∷ RTI ∷ BTI ∷ data_transfer 7 ∷ data_transfer 6 ∷ data_transfer 5 ∷ data_transfer 4
    ∷ data_transfer 3 ∷ data_transfer 2 ∷ data_transfer 1 ∷ []

abbrev pub names1 : List ℕ
names1 = TI2 ∷ XI3 ∷ XI2 ∷ XQE ∷ RQE ∷ XQ1C ∷ XQ0C ∷ RQC ∷ FEV ∷ 0 ∷ 0 ∷ 0 ∷ 0 ∷ TI1 ∷ XI1 ∷ XI0 ∷ []

-- the bits that a group uses: all of group 0's, and all of group 1's but 6 to 3
abbrev pub used0 : ℕ
used0 = 2 ^ 16 - 1

abbrev pub used1 : ℕ
used1 = 2 ^ 16 - 1 - (2 ^ 6 + 2 ^ 5 + 2 ^ 4 + 2 ^ 3)
