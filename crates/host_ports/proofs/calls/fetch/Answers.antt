-- `host_ports::calls::fetch` hands back what is defined: by whether both pages fit and the answer shows words. Assumes nothing.
use Rattle.std.proofs.Common.{◌≡◌, ◌∙◌, sym, false, ◌&&◌}
use mathlib.Core.Bool.{true≢false}
use Rattle.model.specs.Layout.{areas}
use Rattle.host_ports.proofs.Host.{hands_back_lem, fetch_shown}
use Rattle.host_ports.proofs.calls.fetch.Goals.{else-fit-via-then-fit+else-shows, else-fit-via-else-fit}
use Rattle.host_ports.proofs.calls.fetch.Goals as goal

pub returns-then-shows : goal.returns-then-shows
returns-then-shows c =
    let a = c.args in
    let m = areas a.index.now a.ports.now a.page0.now a.page1.now in
    let shows =
    hands_back_lem a.index.now a.ports.now a.page0.now a.page1.now a.a c.pages_fit-fit.ensures c.ask.ensures.value c.shows-shows.ensures
    in
    let part = rw c.get-p.ensures at c.valid_words.ensures in
    record { words = part.words ∙ rw (c.if-fit.true, c.if-shows.true) at (fetch_shown m a.a shows); place = λ h. part.place }

pub returns : goal.returns
returns c =
    let a = c.args in
    let m = areas a.index.now a.ports.now a.page0.now a.page1.now in
    let shows =
    hands_back_lem a.index.now a.ports.now a.page0.now a.page1.now a.a c.pages_fit-fit.ensures c.ask.ensures.value c.shows-shows.ensures
    in
    let none : (c.pages_fit-fit.result && c.shows-shows.result) ≡ false =
    elim c.else-fit.branch [
      | else-fit-via-then-fit+else-shows w ↦ rw (w.if-fit.true, w.if-shows.false)
      | else-fit-via-else-fit w ↦ rw w.if-fit.false
    ]
    in
    record { words = rw none at (fetch_shown m a.a shows); place = λ h. absurd (true≢false (sym h ∙ sym shows ∙ none)) }
