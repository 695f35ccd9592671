-- `host_ports::calls::ask` answers as defined: from what its callees ensure. Assumes nothing.
use Rattle.std.proofs.Common.{◌≡◌, ◌∙◌, ap, [], Ok}
use Rattle.std.proofs.lemmas.Result.{err_from_is_err_and}
use Rattle.model.specs.Layout.{areas}
use Rattle.model.specs.Answer.{answer_of}
use Rattle.model.specs.Calls.{asked, refusal_of}
use Rattle.model.proofs.Reading.{asked_number}
use Rattle.constants.proofs.Numbers.{refused_number}
use Rattle.host_ports.proofs.Host.{read_number}
use Rattle.host_ports.proofs.calls.ask.Goals as goal

pub returns-in_err-p : goal.returns-in_err-p
unfolding asked
returns-in_err-p c =
    let a = c.args in
    let m = areas a.index.now a.ports.now [] [] in
    let p = err_from_is_err_and c.from_residual.result c.from_residual.ensures.1 in
    let refuses : answer_of c.from_residual.result ≡ asked m a.a =
    rw (p.1, p.2, read_number m a.a, ← c.in_err-p.ensures.number, refused_number c.in_err-p.field-0.0)
    in
    record { value = refuses; number = ap refusal_of refuses ∙ asked_number m a.a }

pub returns : goal.returns
unfolding asked
returns c =
    let a = c.args in
    let m = areas a.index.now a.ports.now [] [] in
    let answers : answer_of (Ok c.state_of.result) ≡ asked m a.a =
    rw (c.state_of.ensures, c.get_port.ensures, c.in_ok-p.ensures.port, read_number m a.a, ← c.in_ok-p.ensures.number)
    in
    record { value = answers; number = ap refusal_of answers ∙ asked_number m a.a }
