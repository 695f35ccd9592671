-- Document 02, W-205, "How old is a value?": ages from the past alone, when asking answers stale, and the state of a port. Pasts have the
-- newest call first. Assumes nothing.
use Rattle.std.specs.Prelude.{ℕ, ◌+◌, ◌/◌, ◌%◌, ◌≤◌, min, ◌≡◌, Bool, true, false, cond, List, [], ◌∷◌}
use Rattle.model.specs.declared.Words.{Words}
use Rattle.model.specs.Answer.{Answer}
use Rattle.model.specs.Layout.{port_at}
use Rattle.model.specs.Ports.{is_held, too_old, state_by, oldest}
use Rattle.model.specs.Quiet.{millisecond}
use Rattle.model.specs.Calls.{Call}
use Rattle.model.specs.Past.{Opening, Happening, hears, passes, sets, changes, happening, after, is_reset, answers, anew, fillings}
use Rattle.model.specs.StatusBits.{faults_told}

-- a quiet bit time is added, and a reset begins anew
abbrev pub quiet_by : Happening → ℕ → ℕ
quiet_by (hears x y) q = q
quiet_by (passes n) q = q + n
quiet_by (sets t) q = cond (is_reset t) 0 q
quiet_by (changes f) q = q

-- the quiet bit times since the last reset
unfoldable pub quiet_since : List Call → ℕ
quiet_since [] = 0
quiet_since (c ∷ past) = quiet_by (happening c) (quiet_since past)

-- of the milliseconds since reset, those that end within n bit times more than q
abbrev pub endings : ℕ → ℕ → ℕ
endings q n = (q % millisecond + n) / millisecond

-- an opening and a sound answer to w begin anew, and quiet time adds the milliseconds that end within it
abbrev pub age_by : List Call → ℕ → ℕ → Happening → ℕ → ℕ
age_by past a w (hears x y) n = cond (answers past x y w) 0 n
age_by past a w (passes q) n = n + endings (quiet_since past) q
age_by past a w (sets t) n = n
age_by past a w (changes f) n = anew 0 (f a) n

-- the milliseconds that ended since the last sound answer to the master word w, or since address a was opened
unfoldable pub age_since : List Call → ℕ → ℕ → ℕ
age_since [] a w = 0
age_since (c ∷ past) a w = age_by past a w (happening c) (age_since past a w)

-- the age of an open port: a sink's stops at 65,535, and a source does not age
abbrev pub age_told : List Call → ℕ → Opening → ℕ
age_told past a o = cond o.sink (min oldest (age_since past a o.word)) 0

-- the words of an open port, after a past
abbrev pub words_now : List Call → Opening → Words
words_now past o = port_at (after past).areas o.port

-- something filled it
abbrev pub is_filled : List (List ℕ) → Bool
is_filled [] = false
is_filled (ws ∷ l) = true

-- what asking answers of an open port, from the past alone
abbrev pub asked_told : List Call → ℕ → Opening → Answer
asked_told past a o =
    state_by (is_filled (fillings past a o)) (is_held (faults_told past a o)) (too_old o.limit (age_told past a o))

-- stale: filled, no fault, limit nonzero and age at or above it
pub record IsStale (past : List Call) (a : ℕ) (o : Opening) : Type 0 where
  pub filled : fillings past a o ≡ [] → ⊥
  pub faultless : is_held (faults_told past a o) ≡ false
  pub supervised : o.limit ≡ 0 → ⊥
  pub old : o.limit ≤ age_told past a o
