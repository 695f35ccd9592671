-- `host_ports::calls::open` leaves what is defined: from what its callees ensure, an accepted call and a refused one. Assumes nothing.
use Rattle.std.proofs.lemmas.Result.{err_from_is_err_and}
use Rattle.model.specs.Layout.{areas}
use Rattle.model.specs.Ports.{apply}
use Rattle.model.specs.Calls.{effect, step}
use Rattle.host_ports.proofs.Host.{open_number, done, refused}
use Rattle.host_ports.proofs.calls.open.Goals as goal

pub returns-in_err-of_open : goal.returns-in_err-of_open
returns-in_err-of_open c =
    let a = c.args in
    let m = areas a.index.now a.ports.now a.page0.now a.page1.now in
    let p = err_from_is_err_and c.from_residual.result c.from_residual.ensures.1 in
    rw (p.1, p.2) (refused _ m (open_number m a.a a.p a.code a.sink a.interrupt a.limit) _ c.in_err-of_open.ensures)

pub returns : goal.returns
unfolding step effect apply
returns c =
    let a = c.args in
    let m = areas a.index.now a.ports.now a.page0.now a.page1.now in
    rw (c.put_port.ensures, c.put.ensures, c.open_words.ensures)
    (done _ m (open_number m a.a a.p a.code a.sink a.interrupt a.limit) c.in_ok-of_open.ensures)
