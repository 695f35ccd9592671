-- `bus::calls::hear`: the outcome of an accepted event, or of a refused one. Assumes nothing.
use Rattle.std.proofs.Common.{◌≡◌, ◌∙◌, sym, ap, Ok}
use Rattle.std.proofs.lemmas.Result.{err_from_is_err_and}
use Rattle.constants.proofs.Numbers.{refused_number}
use Rattle.model.specs.Layout.{areas}
use Rattle.model.specs.Event.{world, heard_by}
use Rattle.model.specs.Calls.{word_of_heard}
use Rattle.bus_ports.specs.Found.{sought_by, port_of}
use Rattle.bus.proofs.Outcomes.{hear_refused, hear_accepted, call_refused}
use Rattle.bus.proofs.calls.hear.Goals as goal

pub returns-in_err-found : goal.returns-in_err-found
unfolding heard_by
returns-in_err-found c =
    let a = c.args in
    let s = world a.c (areas a.index.now a.ports.now a.page0.now a.page1.now) in
    let p = err_from_is_err_and c.from_residual.result c.from_residual.ensures.1 in
    let number = rw (c.is_out-out.ensures, c.fits-fit.ensures, c.sought_heard.ensures, c.heard-h.ensures, c.trusted-t.ensures) at c.in_err-found.ensures.number in
    rw (p.1, p.2) (sym (call_refused _ s _ (number ∙ hear_refused s a.a a.b) (refused_number _)))

pub returns : goal.returns
unfolding heard_by
returns c =
    let a = c.args in
    let s = world a.c (areas a.index.now a.ports.now a.page0.now a.page1.now) in
    let number = rw (c.is_out-out.ensures, c.fits-fit.ensures, c.sought_heard.ensures, c.heard-h.ensures, c.trusted-t.ensures) at c.in_ok-found.ensures.number in
    let found : sought_by a.index.now a.ports.now (word_of_heard (heard_by a.c a.a a.b)) ≡ Ok c.in_ok-found.found =
    rw (c.sought_heard.ensures, c.heard-h.ensures, c.trusted-t.ensures) at c.in_ok-found.ensures.found
    in
    hear_accepted s a.a a.b (number ∙ hear_refused s a.a a.b) _
    (rw (← (ap port_of found)) at (rw (c.heard-h.ensures, c.trusted-t.ensures, c.observed-o.ensures) at c.accept.ensures))
