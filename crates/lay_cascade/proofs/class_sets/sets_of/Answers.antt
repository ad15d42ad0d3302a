use Rattle.std.proofs.Common.{◌≡◌, ◌+◌, ◌++◌, ◌∷◌, [], ◌<◌, length, sym, subst, arith, rules}
use Rattle.std.proofs.lemmas.Grind.{common_steps}
use Rattle.lay_cascade.specs.ClassSets.{AreSetsTo}
use Rattle.lay_cascade.proofs.ClassSets.{sets_none, sets_more}
use Rattle.lay_cascade.proofs.class_sets.sets_of.Goals as goal

pub loop-k-init : goal.loop-k-init
loop-k-init c = subst (AreSetsTo 0 c.args.names.now) (sym c.new-sets.ensures.items) (sets_none c.args.names.now)

pub loop-k-preserved : goal.loop-k-preserved
loop-k-preserved c =
    let names = c.args.names.now in
    let set = c.in_ok-set.set in
    let here : c.loop-k.k < length names = first_of (search rules, grind (arith, common_steps)) in
    let pushed : c.push.new.self.items ≡ c.loop-k.sets.items ++ set ∷ [] = first_of (search rules, grind (arith, common_steps)) in
    subst (AreSetsTo (c.loop-k.k + 1) names) (sym pushed)
    (sets_more names c.loop-k.k c.loop-k.sets.items c.names_at.result.now set here c.names_at.ensures c.loop-k.invariant c.in_ok-set.ensures)

pub returns : goal.returns
returns c =
    let all : c.loop-k.k ≡ length c.args.names.now = first_of (omega (arith, c.loop-k-test.false, c.loop-k.auto.k-end), search rules, grind (arith, common_steps)) in
    subst (λ z. AreSetsTo z c.args.names.now c.loop-k.sets.items) all c.loop-k.invariant
