-- Document 01, "Two interrupt groups": what each call leaves of a group, and what it reads. A word's bits are joined by bit_or and let
-- through by bit_and, which are what | and & mean. Assumes nothing.
use Rattle.std.specs.Prelude.{ℕ, zero, suc, ◌+◌, ◌-◌, ◌/◌, ◌%◌, ◌^◌, Bool, true, false, cond, not, ◌&&◌, eqb}
use Rattle.std.specs.Prelude.{Option, None, Some}
use Rattle.std.specs.Int.Bits.{bit_and, bit_or}
use Rattle.interrupts.specs.declared.Group.{Group}
use Rattle.interrupts.specs.declared.Read.{Read}

-- a group by its parts: the bits it uses, pending, mask, status and the frozen mark
abbrev pub group : ℕ → ℕ → ℕ → ℕ → Bool → Group
group u p m s f = record { used = u; pending = p; mask = m; status = s; frozen = f }

-- at reset all is zero and not frozen
unfoldable pub fresh : ℕ → Group
fresh u = group u 0 0 0 false

-- not frozen: pending bits that the mask lets through join status, all pending is cleared; frozen: they accumulate
unfoldable pub settled : Group → Group
settled g = cond g.frozen g (group g.used 0 g.mask (bit_or g.status (bit_and g.pending g.mask)) g.frozen)

-- a raised bit joins pending, if the group has it
unfoldable pub raised : Group → ℕ → Group
raised g bits = settled (group g.used (bit_or g.pending (bit_and bits g.used)) g.mask g.status g.frozen)

-- reading status freezes
unfoldable pub status_read : Group → Read
status_read g = record { value = g.status; group = group g.used g.pending g.mask g.status true }

-- bit k of x is set
unfoldable pub bit : ℕ → ℕ → Bool
bit x k = eqb (x / 2 ^ k % 2) 1

-- the number of the highest bit that is set among the k lowest of x, or none
unfoldable pub highest : ℕ → ℕ → Option ℕ
highest zero x = None
highest (suc k) x = cond (bit x k) (Some k) (highest k x)

-- the vector gives 256 + the number of the highest set status bit; with none set it gives 0
abbrev pub vector_of : Option ℕ → ℕ
vector_of None = 0
vector_of (Some k) = 256 + k

-- x with that bit cleared
abbrev pub without : ℕ → Option ℕ → ℕ
without x None = x
without x (Some k) = x - 2 ^ k

-- reading the vector clears the bit that it gives, and freezes
unfoldable pub vector_read : Group → Read
vector_read g =
    let top = highest 16 g.status in
    record { value = vector_of top; group = group g.used g.pending g.mask (without g.status top) true }

-- writing status clears where 0 is written
unfoldable pub status_written : Group → ℕ → Group
status_written g v = group g.used g.pending g.mask (bit_and g.status v) g.frozen

-- writing the vector releases and lets pending through
unfoldable pub released : Group → Group
released g = settled (group g.used g.pending g.mask g.status false)

-- writing pending replaces it, unused bits dropped, and the same rule then applies
unfoldable pub pending_written : Group → ℕ → Group
pending_written g v = settled (group g.used (bit_and v g.used) g.mask g.status g.frozen)

-- and so for the mask
unfoldable pub mask_written : Group → ℕ → Group
mask_written g v = settled (group g.used g.pending (bit_and v g.used) g.status g.frozen)

-- the outgoing line is active while status is nonzero and the group is not frozen
unfoldable pub active : Group → Bool
active g = not g.frozen && not (eqb g.status 0)
