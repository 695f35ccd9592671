-- `frames::judge_slave` judges by the size that the code expects, and no such size is above 16. Assumes nothing.
use Rattle.std.proofs.Common.{sym, ◌∙◌}
use Rattle.frames.specs.Judge.{judged_slave}
use Rattle.frames.proofs.Sizes.{longest}
use Rattle.frames.proofs.judge_slave.Goals as goal

pub judge-requires : goal.judge-requires
judge-requires c = longest _ _ (sym c.reply_size.ensures ∙ c.in-Some.is)

pub returns-in-Some : goal.returns-in-Some
unfolding judged_slave
returns-in-Some c = rw (sym c.reply_size.ensures ∙ c.in-Some.is) c.judge.ensures

pub returns-in-None : goal.returns-in-None
unfolding judged_slave
returns-in-None c = rw (sym c.reply_size.ensures ∙ c.in-None.is)
