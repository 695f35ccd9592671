-- `port_calls::tolvendrum_fetch` meets its contract: its parts are what the callees ensure, and at most sixteen words are fetched. Assumes
-- nothing.
use Rattle.std.proofs.Common.{ap, arith, length}
use Rattle.model.specs.Layout.{areas, pages_fit, with_part}
use Rattle.model.proofs.Asking.{asks_alone}
use Rattle.firmware.specs.Promise.{fetching}
use Rattle.firmware.proofs.Short.{fetched_short}
use Rattle.firmware.proofs.port_calls.tolvendrum_fetch.Goals as goal

pub overflow_cast-result : goal.overflow_cast-result
overflow_cast-result c =
    let a = c.args in
    omega (arith, fetched_short (areas a.index.now a.ports.now a.page0.now a.page1.now) a.a, ap length c.fetch-part.ensures.words)

pub returns : goal.returns
unfolding fetching with_part pages_fit
returns c =
    let a = c.args in
    rw (
      c.copy.ensures,
      c.fetch-part.ensures.words,
      c.fetch_refusal-refusal.ensures,
      asks_alone a.index.now a.ports.now a.page0.now a.page1.now a.a,
    )
