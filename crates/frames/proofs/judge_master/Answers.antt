-- `frames::judge_master` judges a frame of one word. Assumes nothing.
use Rattle.frames.specs.Judge.{judged_master}
use Rattle.frames.proofs.judge_master.Goals as goal

pub returns : goal.returns
unfolding judged_master
returns c = c.judge.ensures
