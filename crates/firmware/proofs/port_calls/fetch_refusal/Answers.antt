-- `port_calls::fetch_refusal` gives the number: from what its callees ensure. Assumes nothing.
use Rattle.std.proofs.Common.{◌∙◌, ap}
use Rattle.model.specs.Calls.{refusal_of}
use Rattle.firmware.proofs.Through.{told_answer}
use Rattle.firmware.proofs.port_calls.fetch_refusal.Goals as goal

pub returns : goal.returns
returns c = rw (c.told.ensures, ← c.pages_fit.ensures, c.if-not-pages_fit.false) (told_answer c.ask.result ∙ ap refusal_of c.ask.ensures.value)
