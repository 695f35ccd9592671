-- What is proved of a group beside its definitions, bit by bit and for every run of calls. specs/Shape.antt says what each theorem
-- states; the proofs rest on the bits of joins, of meets and of a word with one bit taken off. Assumes nothing.
use Rattle.std.proofs.Common.{◌≡◌, ◌∙◌, [], ◌∷◌, ℕ, Bool, List, Option, None, Some, refl, sym, subst, true, false, true≢false, map}
use Rattle.std.proofs.Math.Bool.{and-true, or-false, or_assoc}
use Rattle.interrupts.specs.declared.Group.{Group}
use Rattle.interrupts.specs.Names.{used1}
use Rattle.interrupts.specs.Group.{group, fresh, settled, raised, status_read, bit, highest, vector_of, without, vector_read}
use Rattle.interrupts.specs.Group.{status_written, released, pending_written, mask_written}
use Rattle.interrupts.specs.Calls.{Call, raise, write_status, write_pending, write_mask, read_status, read_vector, write_vector, group_after}
use Rattle.interrupts.specs.Shape.{run, Within, Shaped, Clear, any_has, Kept, LetThrough, Vector, nothing, number}
use Rattle.interrupts.proofs.Bits.{bit_and_lem, bit_or_lem, bit_off, within_none, within_used, within_part, within_join}
use Rattle.interrupts.proofs.Highest.{Found, found}

-- Reading the vector gives 256 + the number of the highest set bit and clears exactly that bit; with none set it gives 0 and status
-- stays.
pub vector_highest : (g : Group) → Vector g.status (vector_read g).value (vector_read g).group.status
unfolding vector_read
vector_highest g = go (highest 16 g.status) (found 16 g.status)
  where
    go : (o : Option ℕ) → Found 16 g.status o → Vector g.status (vector_of o) (without g.status o)
    go None f = nothing f
    go (Some j) f = number j f.0 f.1 f.2 (λ k. bit_off j k g.status f.1)

-- While a group is frozen nothing raised is lost: after any words it is still frozen, status and mask are as they were, and a used
-- bit is pending exactly if it was pending or one of the words has it.
pub nothing_lost : (ns : List ℕ) (g : Group) → g.frozen ≡ true → Kept g ns (run (map raise ns) g)
unfolding run group_after raised settled any_has
nothing_lost ns g f =
    let at = group g.used g.pending g.mask g.status in
    subst (λ (b : Bool). Kept (at b) ns (run (map raise ns) (at b))) (sym f) (go ns g.used g.pending g.mask g.status)
  where
    go : (ns : List ℕ) (u p m s : ℕ) → Kept (group u p m s true) ns (run (map raise ns) (group u p m s true))
    go [] u p m s = record { frozen = refl; status = refl; mask = refl; pending = λ k e. sym (or-false (bit p k)) }
    go (n ∷ ns) u p m s =
        let h = go ns u (raised (group u p m s true) n).pending m s in
        record {
          frozen = h.frozen;
          status = h.status;
          mask = h.mask;
          pending = λ k e. h.pending k e ∙ simp (bit_or_lem, bit_and_lem, e, and-true, or_assoc);
        }

-- After a release status holds exactly what was there and what the mask lets through of what was pending; nothing is pending.
pub let_through : (g : Group) → LetThrough g (released g)
unfolding released settled
let_through g =
    record {
      frozen = refl;
      pending = refl;
      status = λ k. simp (bit_or_lem, bit_and_lem);
    }

-- A fresh group has its shape: no bit outside the used ones, and nothing pending while it is not frozen.
pub shaped_fresh : (u : ℕ) → Shaped u (fresh u)
unfolding fresh
shaped_fresh u =
    record { used = refl; empty = λ e. refl; pending = within_none u; mask = within_none u; status = within_none u }

-- what settling leaves has the shape, if the words before it have no bit outside the used ones
settles : {u p m s : ℕ} → Within p u → Within m u → Within s u → (f : Bool) → Shaped u (settled (group u p m s f))
unfolding settled
settles p m s true = record { used = refl; empty = λ e. absurd (true≢false e); pending = p; mask = m; status = s }
settles {u} p m s false =
    record { used = refl; empty = λ e. refl; pending = within_none u; mask = m; status = within_join s (within_part _ p) }

left : {x v y u : ℕ} → Vector x v y → Within x u → Within y u
left (nothing z) h = h
left (number j l b t off) h = record { each = λ k e. rw (off k, h.each k e) }

keeps : (c : Call) (g : Group) → Shaped g.used g → Shaped g.used (group_after c g)
unfolding group_after raised status_read vector_read status_written released pending_written mask_written settled
keeps (raise n) g h = settles (within_join h.pending (within_used n g.used)) h.mask h.status g.frozen
keeps (write_status v) g h =
    record { used = refl; empty = h.empty; pending = h.pending; mask = h.mask; status = within_part v h.status }
keeps (write_pending v) g h = settles (within_used v g.used) h.mask h.status g.frozen
keeps (write_mask v) g h = settles h.pending (within_used v g.used) h.status g.frozen
keeps read_status g h = settles h.pending h.mask h.status true
keeps read_vector g h = settles h.pending h.mask (left (vector_highest g) h.status) true
keeps write_vector g h = settles h.pending h.mask h.status false

-- Every call keeps the shape.
pub shaped_after : {u : ℕ} (c : Call) (g : Group) → Shaped u g → Shaped u (group_after c g)
shaped_after c g h =
    subst (λ (u : ℕ). Shaped u (group_after c g)) h.used (keeps c g (subst (λ (u : ℕ). Shaped u g) (sym h.used) h))

-- So it holds after any calls on a fresh group.
pub shaped_run : (u : ℕ) (cs : List Call) → Shaped u (run cs (fresh u))
unfolding run
shaped_run u cs = go cs (fresh u) (shaped_fresh u)
  where
    go : (cs : List Call) (g : Group) → Shaped u g → Shaped u (run cs g)
    go [] g h = h
    go (c ∷ cs) g h = go cs (group_after c g) (shaped_after c g h)

-- A bit that a group does not use stays zero in all three words, whatever is called and written.
pub unused_zero : (u : ℕ) (cs : List Call) (k : ℕ) → bit u k ≡ false → Clear (run cs (fresh u)) k
unused_zero u cs k e =
    let h = shaped_run u cs in
    record { pending = h.pending.each k e; mask = h.mask.each k e; status = h.status.each k e }

-- So group 1's unused bits 6 to 3 stay zero.
pub unused_zero_1 : (cs : List Call) → let g = run cs (fresh used1) in Clear g 6 × Clear g 5 × Clear g 4 × Clear g 3
unfolding bit
unused_zero_1 cs = (unused_zero used1 cs 6 refl, unused_zero used1 cs 5 refl, unused_zero used1 cs 4 refl, unused_zero used1 cs 3 refl)

-- A masked bit is never kept pending while the group is not frozen: then no bit is pending at all.
pub nothing_pending : (u : ℕ) (cs : List Call) → (run cs (fresh u)).frozen ≡ false → (run cs (fresh u)).pending ≡ 0
nothing_pending u cs = (shaped_run u cs).empty
