-- The open ports by rising address: one address more. Assumes nothing.
use Rattle.std.proofs.Common.{ℕ, ◌+◌, ◌≡◌, ◌++◌, add-one}
use Rattle.model.specs.Layout.{Areas}
use Rattle.port_text.specs.Report.{open_text, report_below}

-- the ports below the next address are those below this one, and its own
pub report_next : (m : Areas) (a : ℕ) → report_below m (a + 1) ≡ report_below m a ++ open_text m a
unfolding report_below
report_next m a = rw (add-one a)
