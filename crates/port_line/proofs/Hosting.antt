-- What a call of the host's on ports leaves, as the step of its line. Assumes nothing.
use Rattle.std.proofs.Common.{ℕ, ◌≡◌, ap, List}
use Rattle.port_digits.specs.Write.{paper, onto}
use Rattle.model.specs.Layout.{Areas}
use Rattle.model.specs.Event.{world}
use Rattle.model.specs.Calls.{Call}
use Rattle.host_ports.specs.Host.{Out, out, host_call}
use Rattle.port_line.specs.declared.Stepped.{Stepped}
use Rattle.port_line.specs.Meaning.{setup, state, state_after, hosted, Ended, ended, ended_by}

-- the promise of a call, with the stage that its line leaves, is the step of the line
pub hosted_ended : (s : Stepped) (stage : ℕ) (call : Call) (m after : Areas) (refusal : ℕ) (o : List ℕ)
    → out after refusal ≡ host_call call m
    → let u = setup stage s.setup.addr s.setup.code s.setup.sink in
    ended after o (record { refusal = refusal; controller = s.controller; setup = u; at = s.at })
    ≡ ended_by (paper o s.at) (hosted call stage (state_after m s))
unfolding host_call onto
hosted_ended s stage call m after refusal o e = ap left e
  where
    left : Out → Ended
    left x =
        let u = setup stage s.setup.addr s.setup.code s.setup.sink in
        record { refusal = x.number; next = state u (world s.controller x.after); out = paper o s.at }
