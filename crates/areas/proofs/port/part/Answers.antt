-- `areas::port::part` is the defined part: by whether the page ends before the part, in it, or behind it. Assumes nothing.
use Prim.Native.Nat.{◌-◌}
use mathlib.Core.Path.{◌≡◌, refl, sym, ◌∙◌}
use native.Mathlib.Nat.{add-sub_cancel_left}
use native.Mathlib.Omega.{arith}
use lib.ListN.{length, drop, length-drop, drop_of_length-le}
use lib.Seq.{take-nil, take_all}
use Rattle.model.specs.Layout.{part_of, page_place}
use Rattle.areas.proofs.port.part.Goals as goal

pub returns-then-page-at : goal.returns-then-page-at
unfolding part_of
returns-then-page-at c =
    let a = c.args in
    record {
      words = rw (drop_of_length-le a.page.now c.if-page-at.true, take-nil a.n);
      place = (refl, λ h. absurd (omega (arith, c.if-page-at.true)));
    }

pub returns-then-page-at-2 : goal.returns-then-page-at-2
unfolding part_of
returns-then-page-at-2 c =
    let a = c.args in
    let at = page_place a.p in
    let tail = drop at a.page.now in
    let end : length tail ≡ length a.page.now - at = length-drop at a.page.now in
    record {
      words = take_all (length a.page.now - at) tail (omega arith) ∙ sym (take_all a.n tail (omega arith));
      place = (refl, λ h. omega arith);
    }

pub returns : goal.returns
unfolding part_of
returns c =
    let a = c.args in
    record { words = rw (add-sub_cancel_left (page_place a.p) a.n); place = (refl, λ h. omega arith) }
