-- Document 01, "Damage, as demand 3 means it": a stretch of quiet and frame events in which, on neither line, a sound master frame
-- occurs, nor a slave frame sound for the waiting code while one waits. Pasts have the newest call first. Assumes nothing.
use Rattle.std.specs.Prelude.{ℕ, ◌≡◌, Bool, true, not, List, [], ◌∷◌, ◌++◌}
use Rattle.std.specs.Prelude.{Option, None, Some}
use Rattle.frames.specs.declared.Kind.{Kind}
use Rattle.frames.specs.declared.Kind.TheVariants.{Silence, Noise, Master, Slave}
use Rattle.frames.specs.declared.Hearing.{Hearing}
use Rattle.frames.specs.declared.Judgement.TheVariants.{Sound}
use Rattle.frames.specs.Judge.{judged_master, judged_slave, is_sound}
use Rattle.model.specs.Ports.{code_of}
use Rattle.model.specs.Calls.{Call}
use Rattle.model.specs.Past.{Happening, hears, passes, sets, changes, happening, OfHeard, awaited}

-- no sound master frame, nor a slave frame sound for the code of the word o that is waited for
abbrev pub harmless : Kind → Option ℕ → Hearing → Bool
harmless Silence o h = true
harmless Noise o h = true
harmless Master o h = not (is_sound (judged_master h))
harmless Slave None h = true
harmless Slave (Some w) h = not (is_sound (judged_slave (code_of w) h))

-- quiet time is damage, and so is a harmless hearing on each line; what the host does is none
abbrev pub DamagedBy : List Call → Happening → Type 0
DamagedBy past (hears a b) = (harmless a.kind (awaited past 0) a ≡ true) × (harmless b.kind (awaited past 0) b ≡ true)
DamagedBy past (passes n) = Unit
DamagedBy past (sets t) = ⊥
DamagedBy past (changes f) = ⊥

-- an event of damage after a past
abbrev pub Damaged : List Call → Call → Type 0
Damaged past c = DamagedBy past (happening c)

-- a stretch of damage after a past
abbrev pub Damage : List Call → List Call → Type 0
Damage before [] = Unit
Damage before (c ∷ more) = Damaged (more ++ before) c × Damage before more

-- a call in which both lines hear alike
abbrev pub HeardAlike : Call → Type 0
HeardAlike c = OfHeard (λ a b. a ≡ b) (happening c)

-- a sound master frame
pub record SoundMaster (h : Hearing) : Type 0 where
  pub kind : h.kind ≡ Master
  pub sound : judged_master h ≡ Sound

-- a slave frame that is sound for the code of the word that is waited for
pub record SoundReply (o : Option ℕ) (h : Hearing) : Type 0 where
  pub word : ℕ
  pub waits : o ≡ Some word
  pub kind : h.kind ≡ Slave
  pub sound : judged_slave (code_of word) h ≡ Sound
