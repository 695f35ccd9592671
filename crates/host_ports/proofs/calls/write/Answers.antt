-- `host_ports::calls::write` leaves what is defined: from what its callees ensure, an accepted call and a refused one. Assumes nothing.
use Rattle.std.proofs.Common.{◌∙◌, ap}
use Rattle.std.proofs.lemmas.Result.{err_from_is_err_and}
use Rattle.model.specs.Layout.{Areas, areas}
use Rattle.model.specs.Ports.{filled, apply}
use Rattle.model.specs.Calls.{effect, step}
use Rattle.host_ports.specs.Host.{out}
use Rattle.host_ports.proofs.Host.{write_number, done, refused}
use Rattle.host_ports.proofs.calls.write.Goals as goal

pub returns-in_err-p : goal.returns-in_err-p
returns-in_err-p c =
    let a = c.args in
    let m = areas a.index.now a.ports.now a.page0.now a.page1.now in
    let p = err_from_is_err_and c.from_residual.result c.from_residual.ensures.1 in
    rw (p.1, p.2) (refused _ m (write_number m a.a a.words.now) _ c.in_err-p.ensures.number)

pub returns : goal.returns
unfolding step effect apply filled
returns c =
    let a = c.args in
    let m = areas a.index.now a.ports.now a.page0.now a.page1.now in
    ap (λ (x : Areas). out (areas a.index.now x.ports x.page0 x.page1) 0) c.fill.ensures
    ∙ rw c.in_ok-p.ensures.port (done _ m (write_number m a.a a.words.now) c.in_ok-p.ensures.number)
