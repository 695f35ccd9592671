-- `pieces::feed` goes through a piece part by part. Assumes nothing.
use Rattle.std.proofs.Common.{ℕ, ◌≤◌, ◌∙◌, ap, List, refl, arith, rules, tests, eqb, length, length-take}
use Rattle.std.proofs.lemmas.Fn.{always_returns_same}
use Rattle.port_digits.specs.Marks.{newline}
use Rattle.port_digits.specs.Write.{paper, onto}
use Rattle.model.specs.Layout.{areas}
use Rattle.port_line.specs.Meaning.{state_after}
use Rattle.port_run.specs.Fed.{feeding, fed, feeding_of, left_by}
use Rattle.port_run.proofs.Leaving.{take_cut, no_bytes}
use Rattle.port_run.proofs.Parts.{part_ended, part_unended}
use Rattle.port_run.proofs.pieces.feed.Goals as goal

pub loop-t-preserved-in-Some-strip_suffix : goal.loop-t-preserved-in-Some-strip_suffix
loop-t-preserved-in-Some-strip_suffix c =
    let l = c.loop-t in
    let s = c.in-Some.ensures.steps in
    let first = s.1.2 (λ (b : ℕ). eqb b newline) (always_returns_same _ _ _ (λ a r f q. (search (rules, tests), refl))) in
    let f = feeding_of (areas l.index l.ports l.page0 l.page1) l.line l.g in
    let room = length c.args.line.now in
    let short : length f.line ≤ room = omega (arith, length-take l.g.partial l.line, l.invariant.part_within, l.auto.line) in
    let ends = c.in-Some-strip_suffix.ensures.cases in
    record {
      part_within = omega (arith, c.part-g.ensures.part_within, l.auto.line);
      left = part_ended l.t-iterator.rest.now c.in-Some.t.now c.next.new.self.rest.now s.1.0 s.0 s.1.1 first.1
          room f (paper l.out l.g.stepped.at) c.in-Some-strip_suffix.text.now ends.0 ends.1 ends.2 short
          (rw l.auto.line at c.part-g.ensures.leaves)
          ∙ l.invariant.left;
    }

pub loop-t-preserved : goal.loop-t-preserved
loop-t-preserved c =
    let l = c.loop-t in
    let s = c.in-Some.ensures.steps in
    let first = s.1.2 (λ (b : ℕ). eqb b newline) (always_returns_same _ _ _ (λ a r f q. (search (rules, tests), refl))) in
    let f = feeding_of (areas l.index l.ports l.page0 l.page1) l.line l.g in
    let room = length c.args.line.now in
    let short : length f.line ≤ room = omega (arith, length-take l.g.partial l.line, l.invariant.part_within, l.auto.line) in
    record {
      part_within = omega (arith, c.part-g-in-None-strip_suffix.ensures.part_within, l.auto.line);
      left = part_unended l.t-iterator.rest.now c.in-Some.t.now c.next.new.self.rest.now s.1.0 s.0 s.1.1 first.1
          room f (paper l.out l.g.stepped.at) s.2 c.in-None-strip_suffix.ensures.cases short
          (rw l.auto.line at c.part-g-in-None-strip_suffix.ensures.leaves)
          ∙ l.invariant.left;
    }

pub returns-clause-leaves : goal.returns-clause-leaves
unfolding fed onto
returns-clause-leaves c =
    let l = c.loop-t in
    let a = c.args in
    let l₀ = a.line.now in
    let s = state_after (areas a.index.now a.ports.now a.page0.now a.page1.now) a.f.stepped in
    let p = paper a.out.now a.f.stepped.at in
    let same = take_cut a.f.partial c.min-partial.result l₀ c.min-partial.ensures in
    rw (no_bytes l.t-iterator.rest.now (search (rules, tests))) at l.invariant.left
    ∙ ap (λ (k : List ℕ). left_by p (fed (length l₀) (feeding s k a.f.stepped.refusal) a.piece.now)) same
