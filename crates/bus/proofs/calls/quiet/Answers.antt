-- `bus::calls::quiet`: the outcome of accepted quiet time, or of a refused call. Assumes nothing.
use Rattle.std.proofs.Common.{◌∙◌, sym}
use Rattle.std.proofs.lemmas.Result.{err_from_is_err_and}
use Rattle.constants.proofs.Numbers.{refused_number}
use Rattle.model.specs.Layout.{areas}
use Rattle.model.specs.Event.{silent, world}
use Rattle.bus.proofs.Outcomes.{quiet_refused, quiet_accepted, call_refused}
use Rattle.bus.proofs.calls.quiet.Goals as goal

pub returns-in_err-needed : goal.returns-in_err-needed
returns-in_err-needed c =
    let a = c.args in
    let s = world a.c (areas a.index.now a.ports.now a.page0.now a.page1.now) in
    let p = err_from_is_err_and c.from_residual.result c.from_residual.ensures.1 in
    let number = rw (c.fits-fit.ensures, c.sought_due.ensures, c.due_within-due.ensures) at c.in_err-needed.ensures.number in
    rw (p.1, p.2) (sym (call_refused _ s _ (number ∙ quiet_refused s a.n) (refused_number _)))

pub returns : goal.returns
unfolding silent
returns c =
    let a = c.args in
    let s = world a.c (areas a.index.now a.ports.now a.page0.now a.page1.now) in
    let number = rw (c.fits-fit.ensures, c.sought_due.ensures, c.due_within-due.ensures) at c.in_ok-needed.ensures.number in
    rw (c.grow.ensures, c.pass-passed.ensures) (sym (quiet_accepted s _ (number ∙ quiet_refused s a.n)))
