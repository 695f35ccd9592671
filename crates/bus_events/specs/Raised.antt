-- The bits that an event raises in group 0, with the data transfer interrupt of the port that a sound reply fills as a number: 0 where
-- there is no such port or it has none. Assumes nothing.
use Rattle.std.specs.Prelude.{ℕ, ◌&&◌, List, [], ◌∷◌, nat_lt}
use Rattle.frames.specs.declared.Judgement.{Judgement}
use Rattle.frames.specs.declared.Judgement.TheVariants.{Sound, Unsound as Bad}
use Rattle.interrupts.specs.Names.{EMF, ESF, DMF, DSF, SFC}
use Rattle.model.specs.declared.Exchange.{Exchange}
use Rattle.model.specs.declared.Times.{Times}
use Rattle.model.specs.declared.Heard.{Heard}
use Rattle.model.specs.declared.Heard.TheVariants.{Nothing, Unsound, Master, Reply, Stray}
use Rattle.model.specs.Event.{when, waits_for, is_done, transfer_bit}

-- ESF for an unsound reply, else the interrupt
abbrev pub reply_bits : Judgement → ℕ → List ℕ
reply_bits Sound i = transfer_bit i
reply_bits (Bad wrong) i = ESF ∷ []

abbrev pub bits0 : Exchange → Times → Heard → ℕ → List ℕ
bits0 x t Nothing i = []
bits0 x t Unsound i = EMF ∷ []
bits0 x t (Master w) i = when (waits_for x w) DMF
bits0 x t (Reply w j) i = SFC ∷ reply_bits j i
bits0 x t Stray i = SFC ∷ when (is_done x && nat_lt t.since t.adopted) DSF
