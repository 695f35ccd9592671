-- What the premises of the demands let in: every host call and all quiet time may stand in a run and after a stretch of damage, and a
-- stretch may hold all that document 01 lets it hold. Assumes nothing.
use Prim.Native.Nat.{ℕ}
use mathlib.Core.Path.{◌≡◌, refl}
use mathlib.Core.Bool.{Bool, true, false, not, true≢false}
use mathlib.Core.List.{List, ◌∷◌}
use Rattle.std.specs.Prelude.{Option, None, Some}
use Rattle.frames.specs.declared.Kind.{Kind}
use Rattle.frames.specs.declared.Kind.TheVariants.{Silence, Noise, Master, Slave}
use Rattle.frames.specs.declared.Hearing.{Hearing}
use Rattle.frames.specs.declared.Judgement.{Judgement}
use Rattle.frames.specs.declared.Judgement.TheVariants.{Sound, Unsound}
use Rattle.frames.specs.Judge.{judged_master, judged_slave, is_sound}
use Rattle.model.specs.Ports.{code_of}
use Rattle.model.specs.Calls.{Call, hear, quiet}
use Rattle.model.specs.Past.{Happening, hears, passes, sets, changes, happening, is_heard, OfHeard, Typed, awaited}
use Rattle.model.specs.Damage.{harmless, Damaged, HeardAlike, SoundMaster, SoundReply}
use Rattle.model.specs.Differ.{ByHost, AllHosts, Follows, then}

unheard : (P : Hearing → Hearing → Type 0) (h : Happening) → is_heard h ≡ false → OfHeard P h
unheard P (hears a b) e = absurd (true≢false e)
unheard P (passes n) e = tt
unheard P (sets t) e = tt
unheard P (changes f) e = tt

-- quiet time passes
abbrev is_passed : Happening → Bool
is_passed (hears a b) = false
is_passed (passes n) = true
is_passed (sets t) = false
is_passed (changes f) = false

-- a call that is no bus event may stand in any run, and after any stretch
pub others_stand : (c : Call) → is_heard (happening c) ≡ false → Typed c × HeardAlike c
others_stand c e = (unheard _ (happening c) e, unheard _ (happening c) e)

-- whatever is neither a sound master frame nor such a slave frame is harmless
all_else_harmless : (o : Option ℕ) (h : Hearing) → (SoundMaster h → ⊥) → (SoundReply o h → ⊥) → harmless h.kind o h ≡ true
all_else_harmless o h m r = by h.kind refl o refl
  where
    unsound : (j : Judgement) → (j ≡ Sound → ⊥) → not (is_sound j) ≡ true
    unsound Sound n = absurd (n refl)
    unsound (Unsound wrong) n = refl

    by : (k : Kind) → h.kind ≡ k → (p : Option ℕ) → o ≡ p → harmless k p h ≡ true
    by Silence e p q = refl
    by Noise e p q = refl
    by Master e p q = unsound (judged_master h) (λ s. m (record { kind = e; sound = s }))
    by Slave e None q = refl
    by Slave e (Some w) q = unsound (judged_slave (code_of w) h) (λ s. r (record { word = w; waits = q; kind = e; sound = s }))

-- So all that document 01 calls damage is damage here.
pub damage_is : (past : List Call) (a b : Hearing) → (SoundMaster a → ⊥) → (SoundMaster b → ⊥) → (SoundReply (awaited past 0) a → ⊥)
    → (SoundReply (awaited past 0) b → ⊥) → Damaged past (hear a b)
damage_is past a b m n r s = (all_else_harmless (awaited past 0) a m r, all_else_harmless (awaited past 0) b n s)

-- Quiet time of any length is damage.
pub quiet_is : (past : List Call) (n : ℕ) → Damaged past (quiet n)
quiet_is past n = tt

-- Every host call may stand between a stretch and the master frame that ends it, after any others.
pub hosts_stand : (more : List Call) → AllHosts more → (c : Call) → is_heard (happening c) ≡ false → is_passed (happening c) ≡ false
    → AllHosts (c ∷ more)
hosts_stand more all c h p = (by (happening c) h p, all)
  where
    by : (x : Happening) → is_heard x ≡ false → is_passed x ≡ false → ByHost x
    by (hears a b) e f = absurd (true≢false e)
    by (passes n) e f = absurd (true≢false f)
    by (sets t) e f = tt
    by (changes g) e f = tt

-- So may any calls behind that frame which both lines hear alike.
pub alike_follow : (calls : List Call) → Follows calls → (c : Call) → is_heard (happening c) ≡ false → Follows (c ∷ calls)
alike_follow calls f c e = then (others_stand c e).1 f
