-- Document 01, "Memory lent to the calls": the four areas as a call is lent them. Assumes nothing.
use Rattle.std.specs.Prelude.{ℕ, ◌<◌, ◌+◌, ◌*◌, ◌≡◌, Bool, true, false, cond, List, length}
use Rattle.std.specs.Borrow.{Bor, MutBor}
use Rattle.model.specs.Answer.{Answer}
use Rattle.model.specs.Answer.{Never, Good, Held, Stale, Refused}
use Rattle.model.specs.declared.Flags.{Flags}
use Rattle.model.specs.Layout.{Areas, areas, page_place}

-- an area, words or bytes, as a call is lent them
abbrev pub Slice : Type 0
Slice = Bor (List ℕ)

-- and as a call that may change it is lent it
abbrev pub MutSlice : Type 0
MutSlice = MutBor (List ℕ)

-- the arguments of a call in their order, `tt` after the last
infixr 40 ◌&◌
abbrev pub ◌&◌ : {A B : Type 0} → A → B → A × B
a & b = (a, b)

-- index table, port words, page 0 and page 1
abbrev pub lent : Slice → Slice → Slice → Slice → Areas
lent i p z o = areas i.now p.now z.now o.now

-- the answers that show a port's words; whether fetching hands them back goes by the pages too
abbrev pub shown : Answer → Bool
shown Never = false
shown Good = true
shown Held = true
shown Stale = true
shown (Refused n) = false

-- of the two pages that are lent, the valid one: VP is its number
abbrev pub valid_lent : Slice → Slice → Flags → Slice
valid_lent z o f = cond f.vp o z

-- what is handed back lies in this page, in the place of port p: in the same block of memory, and there so many words of two bytes from the
-- page's first
abbrev pub Lies : Slice → Slice → ℕ → Type 0
Lies r page p = (r.ref_ptr.0 ≡ page.ref_ptr.0) × (page_place p < length page.now → r.ref_ptr.1 ≡ page.ref_ptr.1 + page_place p * 2)
