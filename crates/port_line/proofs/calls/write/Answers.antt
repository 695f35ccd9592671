-- `calls::write` writes where the address is a word and no port is described in part. Assumes nothing.
use Rattle.std.proofs.Common.{◌≡◌, refl, sym, ◌∙◌, le-leb, le-ltb}
use Rattle.std.proofs.lemmas.Bool.{lt-leb}
use Rattle.port_line.specs.Meaning.{meaning}
use Rattle.port_line.proofs.Hosting.{hosted_ended}
use Rattle.port_line.proofs.calls.write.Goals.{in_default-via-in-Some+then-v-le-LAST_WORD+else-is_whole, in_default-via-in-Some+else-v-le-LAST_WORD, in_default-via-in_default}
use Rattle.port_line.proofs.calls.write.Goals as goal

pub returns-in-Some : goal.returns-in-Some
unfolding meaning
returns-in-Some c =
    λ o.
    let v = c.in-Some.v in
    let word : c.word.result ≡ v = c.word.ensures ∙ rw (le-ltb 65535 v c.if-v-le-LAST_WORD.true) refl in
    rw (c.in-Some.is, le-leb v 65535 c.if-v-le-LAST_WORD.true, sym c.is_whole.ensures ∙ c.if-is_whole.true)
    (hosted_ended c.args.s 4 _ _ _ _ o (rw (← c.told.ensures, word) at c.write.ensures))

pub returns-in_default : goal.returns-in_default
unfolding meaning
returns-in_default c = λ o. elim c.in_default.branch [
  | in_default-via-in-Some+then-v-le-LAST_WORD+else-is_whole w ↦
      rw (w.in-Some.is, le-leb w.in-Some.v 65535 w.if-v-le-LAST_WORD.true, sym w.is_whole.ensures ∙ w.if-is_whole.false)
      (c.misplace.ensures _ o)
  | in_default-via-in-Some+else-v-le-LAST_WORD w ↦ rw (w.in-Some.is, lt-leb w.in-Some.v 65535 w.if-v-le-LAST_WORD.false) (c.misplace.ensures _ o)
  | in_default-via-in_default w ↦ rw w.in_default.is (c.misplace.ensures _ o)
]
