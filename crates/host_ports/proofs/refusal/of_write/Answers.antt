-- `host_ports::refusal::of_write` gives the number: what needs a port, and then its own tests. Assumes nothing.
use Rattle.std.proofs.Common.{◌≡◌, true, false, [], get_or, length, eqb}
use Rattle.std.proofs.lemmas.Bool.{eq-eqb, ne_eqb}
use Rattle.std.proofs.lemmas.Result.{err_from_is_err_and}
use Rattle.model.specs.Layout.{areas, words_at, flags_of}
use Rattle.model.specs.Ports.{code_of, size_of}
use Rattle.host_ports.specs.Host.{reached, write_refusal}
use Rattle.host_ports.proofs.Host.{refused_before, reached_after}
use Rattle.host_ports.proofs.refusal.of_write.Goals as goal

pub returns-in_err-p-clause-number : goal.returns-in_err-p-clause-number
unfolding write_refusal reached
returns-in_err-p-clause-number c =
    let a = c.args in
    let p = err_from_is_err_and c.from_residual.result c.from_residual.ensures.1 in
    rw (p.1, p.2, ← c.fits-fit.ensures) (refused_before _ (areas a.index.now a.ports.now [] []) a.a _ _ c.in_err-p.ensures.number)

pub returns-then-flags_of-clause-number : goal.returns-then-flags_of-clause-number
unfolding write_refusal reached
returns-then-flags_of-clause-number c =
    let a = c.args in
    let sink : (flags_of (words_at a.ports.now (get_or a.index.now a.a 0)).flags).sink ≡ true =
    rw (c.flags_of.ensures, c.get_port-w.ensures, c.in_ok-p.ensures.port) at c.if-flags_of.true
    in
    rw (← c.fits-fit.ensures, sink) (reached_after _ (areas a.index.now a.ports.now [] []) a.a 5 c.in_ok-p.ensures.number)

pub returns-then-words-size-clause-number : goal.returns-then-words-size-clause-number
unfolding write_refusal reached
returns-then-words-size-clause-number c =
    let a = c.args in
    let port = words_at a.ports.now (get_or a.index.now a.a 0) in
    let source : (flags_of port.flags).sink ≡ false =
    rw (c.flags_of.ensures, c.get_port-w.ensures, c.in_ok-p.ensures.port) at c.if-flags_of.false
    in
    let other : eqb (length a.words.now) (size_of (code_of port.master)) ≡ false =
    rw (c.port_size-size.ensures, c.get_port-w.ensures, c.in_ok-p.ensures.port) at (ne_eqb _ _ c.if-words-size.true)
    in
    rw (← c.fits-fit.ensures, source, other) (reached_after _ (areas a.index.now a.ports.now [] []) a.a 2 c.in_ok-p.ensures.number)

pub returns-clause-number : goal.returns-clause-number
unfolding write_refusal reached
returns-clause-number c =
    let a = c.args in
    let port = words_at a.ports.now (get_or a.index.now a.a 0) in
    let source : (flags_of port.flags).sink ≡ false =
    rw (c.flags_of.ensures, c.get_port-w.ensures, c.in_ok-p.ensures.port) at c.if-flags_of.false
    in
    let size : eqb (length a.words.now) (size_of (code_of port.master)) ≡ true =
    rw (c.port_size-size.ensures, c.get_port-w.ensures, c.in_ok-p.ensures.port) at (eq-eqb _ _ c.if-words-size.false)
    in
    rw (← c.fits-fit.ensures, source, size) c.in_ok-p.ensures.number
