-- What is due within n quiet bit times, in one step, whatever the controller holds. By one bit time after the other: until the reply
-- time is reached the wait lasts, and nothing else is asked. Assumes nothing.
use Rattle.std.proofs.Common.{ℕ, ◌≡◌, ◌∙◌, Bool, None, zero, suc, refl, sym, true, false, arith, leb, ltb, lt-ltb, le-leb, leb-true}
use Rattle.interrupts.specs.declared.Group.{Group}
use Rattle.model.specs.declared.Exchange.{Exchange}
use Rattle.model.specs.declared.Exchange.TheVariants.{Idle, Waiting, Done}
use Rattle.model.specs.declared.Times.{Times}
use Rattle.model.specs.declared.Lines.{Lines}
use Rattle.model.specs.declared.Counts.{Counts}
use Rattle.model.specs.declared.Device.{Device}
use Rattle.model.specs.Layout.{Areas}
use Rattle.model.specs.Host.{controller}
use Rattle.model.specs.Event.{World, world}
use Rattle.model.specs.Quiet.{since_later, times_later, pulse_controller, pulse, due_within}
use Rattle.bus_quiet.specs.Quiet.{since_after, due_in}
use Rattle.bus_quiet.proofs.BitTime.{one_later}
use Rattle.bus_quiet.proofs.quiet.due.Reads as due-reads
use Rattle.bus_quiet.proofs.quiet.due_within.Reads as due-within-reads

-- within no bit time nothing is due
nothing_yet : (x : Exchange) (t : Times) → None ≡ due_in 0 x t
nothing_yet Idle t = refl
nothing_yet (Waiting w) t = refl
nothing_yet Done t = refl

some_time : (n : ℕ) → ltb 0 (suc n) ≡ true
some_time n = lt-ltb 0 (suc n) (omega arith)

-- what is not due with the next bit time is due with the n after it, or not within n + 1
not_yet : (n w : ℕ) (t : Times) → leb t.adopted (since_later t) ≡ false → due_in n (Waiting w) (times_later t) ≡ due_in (suc n) (Waiting w) t
not_yet zero w t e = rw (← (one_later t), e)
not_yet (suc n) w t e =
    let same : since_after (suc n) (since_later t) ≡ since_after (suc (suc n)) t.since = omega (arith, one_later t) in
    rw (same, some_time n, some_time (suc n))

-- by the controller's parts
due_parts : (n : ℕ) (x : Exchange) (t : Times) (l : Lines) (k : Counts) (g₀ g₁ : Group) (d : Device) (p : ℕ) (m : Areas)
    → due_within n (world (controller x t l k g₀ g₁ d p) m) ≡ due_in n x t
unfolding due_within pulse pulse_controller
due_parts zero x t l k g₀ g₁ d p m = nothing_yet x t
due_parts (suc n) Idle t l k g₀ g₁ d p m = due_parts n Idle (times_later t) _ k _ g₁ d p _
due_parts (suc n) Done t l k g₀ g₁ d p m = due_parts n Done (times_later t) _ k _ g₁ d p _
due_parts (suc n) (Waiting w) t l k g₀ g₁ d p m =
    go (leb t.adopted (since_later t)) refl (λ l g₀ m. due_parts n (Waiting w) (times_later t) l k g₀ g₁ d p m)
  where
    go : (b : Bool) → leb t.adopted (since_later t) ≡ b
        → ((l : Lines) (g₀ : Group) (m : Areas) → due_within n (world (controller (Waiting w) (times_later t) l k g₀ g₁ d p) m)
        ≡ due_in n (Waiting w) (times_later t))
        → due_within (suc n) (world (controller (Waiting w) t l k g₀ g₁ d p) m) ≡ due_in (suc n) (Waiting w) t
    go true e r =
        let h = leb-true t.adopted (since_later t) e in
        rw (e, some_time n, le-leb t.adopted (since_after (suc n) t.since) (omega (arith, one_later t)))
    go false e r = rw e (r _ _ _ ∙ not_yet n w t e)

-- The master word whose reply time is reached within n bit times, if one is.
pub due_in_lem : (n : ℕ) (s : World) → due_within n s ≡ due_in n s.controller.exchange s.controller.times
due_in_lem n s =
    let c = s.controller in
    due_parts n c.exchange c.times c.lines c.counts c.group0 c.group1 c.device c.phase s.areas

-- The contract of `quiet::due`, as it stands, allows one answer alone.
pub one_due : (κs : _) (a : _) (r s : _) (e f : _) → due-reads.Learnt κs a r e → due-reads.Learnt κs a s f → r ≡ s
one_due κs a r s e f p q = p ∙ sym q

-- So does that of `quiet::due_within`.
pub one_due_within : (κs : _) (a : _) (r s : _) (e f : _) → due-within-reads.Learnt κs a r e → due-within-reads.Learnt κs a s f → r ≡ s
one_due_within κs a r s e f p q = p ∙ sym q
