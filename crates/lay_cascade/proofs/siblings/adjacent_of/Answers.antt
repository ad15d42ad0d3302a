use Rattle.std.proofs.Common.{◌≡◌, ◌+◌, ◌++◌, ◌∷◌, [], length, sym, subst, rules, arith}
use Rattle.std.proofs.lemmas.Grind.{common_steps}
use Rattle.lay_cascade.specs.Siblings.{AdjacentTo}
use Rattle.lay_cascade.proofs.Adjacent.{adjacent_more}
use Rattle.lay_cascade.proofs.siblings.adjacent_of.Goals as goal

pub loop-k-preserved : goal.loop-k-preserved
loop-k-preserved c =
    let pushed : c.push.new.self.items ≡ c.loop-k.adjacent.items ++ c.adjacent_at-before.result ∷ [] = first_of (search rules, grind (arith, common_steps)) in
    let more = adjacent_more c.args.nodes.now c.loop-k.k c.loop-k.adjacent.items c.adjacent_at-before.result c.loop-k.invariant.adjacent c.adjacent_at-before.ensures.some c.adjacent_at-before.ensures.none in
    record {
      last = c.note.ensures;
      adjacent = subst (λ z. AdjacentTo c.args.nodes.now (c.loop-k.k + 1) z) (sym pushed) more;
    }

pub returns : goal.returns
returns c =
    let all : c.loop-k.k ≡ length c.args.nodes.now = first_of (omega (arith, c.loop-k-test.false, c.loop-k.auto.k-end), search rules, grind (arith, common_steps)) in
    subst (λ z. AdjacentTo c.args.nodes.now z c.loop-k.adjacent.items) all c.loop-k.invariant.adjacent
