-- Document 01, "What one bus event does" and "Quiet time": the status bits of an open port, from the past alone. Pasts have the newest call
-- first. Assumes nothing.
use Rattle.std.specs.Prelude.{ℕ, cond, not, ◌&&◌, List, [], ◌∷◌}
use Rattle.frames.specs.declared.Hearing.{Hearing}
use Rattle.frames.specs.declared.Judgement.{Judgement}
use Rattle.frames.specs.declared.Judgement.TheVariants.{Sound, Unsound}
use Rattle.frames.specs.Judge.{judged_slave}
use Rattle.model.specs.declared.Faults.{Faults}
use Rattle.model.specs.Ports.{code_of, no_faults, reply_missing, reply_bad}
use Rattle.model.specs.Calls.{Call}
use Rattle.model.specs.Past.{Happening, hears, passes, sets, changes, happening, on_trusted, is_slave, awaited, is_word, anew, Opening}

-- what the judgement of a slave frame leaves: none where it is sound
abbrev pub faults_judged : Judgement → Hearing → Faults
faults_judged Sound h = no_faults
faults_judged (Unsound wrong) h = reply_bad wrong h.sqe h.alo

-- A slave frame of the trusted line is judged while w is waited for. Quiet time in which that wait ends leaves a missing reply. An opening
-- begins anew.
abbrev pub faults_by : List Call → ℕ → ℕ → Happening → Faults → Faults
faults_by past a w (hears x y) f =
    let h = on_trusted past x y in
    cond (is_slave h.kind && is_word (awaited past 0) w) (faults_judged (judged_slave (code_of w) h) h) f
faults_by past a w (passes n) f = cond (is_word (awaited past 0) w && not (is_word (awaited past n) w)) reply_missing f
faults_by past a w (sets t) f = f
faults_by past a w (changes g) f = anew no_faults (g a) f

-- the status bits that the last exchange of the master word w left since address a was opened
unfoldable pub faults_since : List Call → ℕ → ℕ → Faults
faults_since [] a w = no_faults
faults_since (c ∷ past) a w = faults_by past a w (happening c) (faults_since past a w)

-- the status bits of an open port: a source has none
abbrev pub faults_told : List Call → ℕ → Opening → Faults
faults_told past a o = cond o.sink (faults_since past a o.word) no_faults
