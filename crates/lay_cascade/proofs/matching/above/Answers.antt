use Rattle.std.proofs.Common.{◌≡◌, ◌<◌, Some, length, sym, subst, rules, arith}
use Rattle.std.proofs.lemmas.Grind.{common_steps}
use Rattle.lay_cascade.specs.Rising.{with_fitting}
use Rattle.lay_cascade.proofs.Adjacent.{parent_within}
use Rattle.lay_cascade.proofs.Leading.{IsClimbed, climbed_none, climbed_more, climbed_all}
use Rattle.lay_cascade.proofs.matching.above.Goals as goal

pub loop-at-init : goal.loop-at-init
loop-at-init c = record {
  within = c.requires.place;
  climbed = subst (IsClimbed c.args.named.nodes.now c.args.named.names.now c.args.place c.args.simple.now c.args.place) (sym c.new-found.ensures.items)
      (climbed_none c.args.named.nodes.now c.args.named.names.now c.args.place c.args.simple.now);
}

pub loop-at-preserved : goal.loop-at-preserved
loop-at-preserved c =
    let nodes = c.args.named.nodes.now in
    let names = c.args.named.names.now in
    let some : 0 < c.loop-at.at = first_of (search rules, omega (arith, c.loop-at-test.true)) in
    let pushed : c.push_fitting.new.found.items ≡ with_fitting names c.loop-at.found.items (Some c.parent_at-at.result) c.args.simple.now = first_of (search rules, grind (arith, common_steps)) in
    record {
      within = subst (λ z. z < length nodes) (sym c.parent_at-at.ensures) (parent_within nodes c.loop-at.at c.requires.named.tree c.loop-at.invariant.within some);
      climbed = subst (IsClimbed nodes names c.args.place c.args.simple.now c.parent_at-at.result) (sym pushed)
          (climbed_more nodes names c.args.place c.args.simple.now c.loop-at.at c.parent_at-at.result c.loop-at.found.items c.loop-at.invariant.climbed some c.parent_at-at.ensures c.requires.named.count);
    }

pub returns : goal.returns
returns c =
    let nodes = c.args.named.nodes.now in
    let names = c.args.named.names.now in
    let root : c.loop-at.at ≡ 0 = omega (arith, c.loop-at-test.false) in
    climbed_all nodes names c.args.place c.args.simple.now c.loop-at.found.items
    (subst (λ z. IsClimbed nodes names c.args.place c.args.simple.now z c.loop-at.found.items) root c.loop-at.invariant.climbed)
