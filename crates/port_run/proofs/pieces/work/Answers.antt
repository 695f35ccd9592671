-- `pieces::work` works a line that has ended. Assumes nothing.
use Rattle.std.proofs.Common.{◌∙◌}
use Rattle.port_run.proofs.Leaving.{line_worked}
use Rattle.port_run.proofs.pieces.work.Goals as goal

pub returns-clause-leaves : goal.returns-clause-leaves
returns-clause-leaves c =
    λ l. c.after_line.ensures.leaves _ l ∙ line_worked _ _ _ _ (rw (← c.roomy.ensures) c.step-stepped.ensures)
