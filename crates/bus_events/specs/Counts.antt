-- Which judged frames were unsound, as EC counts them. Assumes nothing.
use Rattle.std.specs.Prelude.{Bool, true, false, not}
use Rattle.frames.specs.Judge.{is_sound}
use Rattle.model.specs.declared.Heard.{Heard}
use Rattle.model.specs.declared.Heard.TheVariants.{Nothing, Unsound, Master, Reply, Stray}

abbrev pub unsound : Heard → Bool
unsound Nothing = false
unsound Unsound = true
unsound (Master w) = false
unsound (Reply w j) = not (is_sound j)
unsound Stray = false
