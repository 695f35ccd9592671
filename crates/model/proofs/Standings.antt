-- What stands open at an address, and what is then known of its port: it is the port to which the entry of the address
-- leads, and two addresses never lead to one port. Assumes nothing.
use Prim.Native.Nat.{ℕ, ◌≤◌, ◌<◌}
use mathlib.Core.Path.{◌≡◌, refl, sym, subst}
use mathlib.Core.Logic.{◌⊎◌, inl, inr, ⊎_elim, dite}
use mathlib.Core.Bool.{Bool, true, false, cond, ◌&&◌}
use Rattle.std.specs.Prelude.{None, Some}
use Rattle.std.proofs.lemmas.Option.{none-some, same_Some}
use native.Mathlib.Decide.{dec_lt}
use native.Mathlib.Omega.{arith}
use borrow.Author.Tests.{leb-true, eqb-false, le-leb, eq-eqb, ne_eqb}
use lib.Dec.{eqb, leb}
use Rattle.std.specs.Prelude.{Ok, Err}
use Rattle.constants.specs.declared.refusals.Refusal.TheVariants.{Damaged}
use Rattle.model.specs.Layout.{Areas, entry, port_at}
use Rattle.model.specs.Ports.{code_of, address_of, well_formed, seek, Standing, standing_of, seen, standing}
use Rattle.model.proofs.Shape.{Leads, Shape}
use Rattle.model.proofs.Formed.{and_left, and_right, formed, one_address}

-- ---- from the entry of an address to what stands there

-- address a has an entry, and this leads to a port
pub record Stands (m : Areas) (a : ℕ) : Type 0 where
  pub positive : 0 < entry m a
  pub leads : Leads m a

-- an address with the entry 0 has no port
seek_none : (m : Areas) (a : ℕ) → entry m a ≡ 0 → seek m a ≡ Ok None
unfolding seek
seek_none m a e = rw (eq-eqb (entry m a) 0 e)

-- an address whose entry leads to a port has this port
seek_port : (m : Areas) (a : ℕ) → Stands m a → seek m a ≡ Ok (Some (entry m a))
unfolding seek
seek_port m a s =
    rw (ne_eqb (entry m a) 0 (omega arith), le-leb (entry m a) 255 s.leads.small, s.leads.formed)

-- nothing stands at an address with the entry 0
pub standing_none : (m : Areas) (a : ℕ) → entry m a ≡ 0 → standing m a ≡ None
unfolding standing
standing_none m a e = rw (seek_none m a e)

-- where the entry leads to a port, this port stands
pub standing_port : (m : Areas) (a : ℕ) → Stands m a → standing m a ≡ Some (standing_of m (entry m a))
unfolding standing
standing_port m a s = rw (seek_port m a s)

-- in the shape of the areas there is nothing else
pub look : (m : Areas) (a : ℕ) → Shape m → (entry m a ≡ 0) ⊎ Stands m a
look m a s =
    ⊎_elim inl (λ l. dite (dec_lt 0 (entry m a)) (λ h. inr (record { positive = h; leads = l })) (λ h. inl (omega arith)))
    (s.entries a)

-- in a shape, an address at which nothing stands has the entry 0
pub none_entry : (m : Areas) (a : ℕ) → Shape m → standing m a ≡ None → entry m a ≡ 0
none_entry m a s e = ⊎_elim (λ h. h) (λ h. cc (standing_port m a h)) (look m a s)

-- ---- from what stands at an address to its entry and port

-- what is known where v stands at address a
pub record Seen (m : Areas) (a : ℕ) (v : Standing) : Type 0 where
  pub port : v.port ≡ entry m a
  pub positive : 0 < v.port
  pub small : v.port ≤ 255
  pub address : address_of v.word ≡ a
  pub code : code_of v.word ≤ 4
  pub interrupt : v.interrupt ≤ 7
  pub formed : well_formed a (port_at m v.port) ≡ true
  pub whole : v ≡ standing_of m v.port

stands_seen : (m : Areas) (a : ℕ) → Stands m a → Seen m a (standing_of m (entry m a))
unfolding standing_of
stands_seen m a s =
    let f = formed a (port_at m (entry m a)) s.leads.formed in
    record {
      port = refl;
      positive = s.positive;
      small = s.leads.small;
      address = f.address;
      code = f.code;
      interrupt = f.interrupt;
      formed = s.leads.formed;
      whole = refl;
    }

-- all this is known of a port that stands at an address, whatever the areas hold
pub standing_at_lem : (m : Areas) (a : ℕ) (v : Standing) → standing m a ≡ Some v → Seen m a v
unfolding standing seek
standing_at_lem m a v = go (eqb (entry m a) 0) (leb (entry m a) 255 && well_formed a (port_at m (entry m a))) refl refl
  where
    go : (b c : Bool) → eqb (entry m a) 0 ≡ b → (leb (entry m a) 255 && well_formed a (port_at m (entry m a))) ≡ c
        → seen m (cond b (Ok None) (cond c (Ok (Some (entry m a))) (Err Damaged))) ≡ Some v → Seen m a v
    go true c eb ec e = absurd (none-some v e)
    go false true eb ec e =
        let s : Stands m a =
        record {
          positive = omega (arith, eqb-false (entry m a) 0 eb);
          leads = record { small = leb-true (entry m a) 255 (search and_left); formed = search (and_left, and_right) };
        } in
        subst (Seen m a) (same_Some _ _ e) (stands_seen m a s)
    go false false eb ec e = absurd (none-some v e)

-- two addresses at which the same port stands are one
pub distinct : (m : Areas) (a b : ℕ) (v u : Standing) → standing m a ≡ Some v → standing m b ≡ Some u → v.port ≡ u.port → a ≡ b
distinct m a b v u e d same =
    one_address a b (port_at m v.port) (standing_at_lem m a v e).formed (rw (sym same) at (standing_at_lem m b u d).formed)
