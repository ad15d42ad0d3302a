use Rattle.std.proofs.Common.{◌≡◌, ◌<◌, ◌++◌, ◌∷◌, [], length, take, sym, subst, rules, arith}
use Rattle.std.specs.List.{Contains}
use Rattle.std.proofs.lemmas.Grind.{common_steps}
use Rattle.lay_cascade.specs.Rising.{Covers, AreBefore, with_fitting}
use Rattle.lay_cascade.proofs.Climbing.{element_at, stands_within, rising_covers, seen_more, before_more}
use Rattle.lay_cascade.proofs.matching.each_before.Goals as goal

pub before-m-requires-clause-place : goal.before-m-requires-clause-place
before-m-requires-clause-place c =
    let here : c.loop-k.k < length c.args.places.now = first_of (search rules, grind (arith, common_steps)) in
    c.requires.within c.place_at.result (subst (Contains c.args.places.now) (sym c.place_at.ensures) (element_at c.args.places.now c.loop-k.k here))

pub push_fitting-requires-clause-place : goal.push_fitting-requires-clause-place
push_fitting-requires-clause-place c = λ m e.
    let nodes = c.args.named.nodes.now in
    let here : c.loop-k.k < length c.args.places.now = first_of (search rules, grind (arith, common_steps)) in
    let within = c.requires.within c.place_at.result (subst (Contains c.args.places.now) (sym c.place_at.ensures) (element_at c.args.places.now c.loop-k.k here)) in
    subst (λ z. m < z) (sym c.requires.named.count)
    (stands_within nodes c.args.joint c.place_at.result m c.requires.named.tree c.requires.one within ((c.before-m.ensures m).0 e))

pub loop-k-preserved : goal.loop-k-preserved
loop-k-preserved c =
    let nodes = c.args.named.nodes.now in
    let names = c.args.named.names.now in
    let places = c.args.places.now in
    let k = c.loop-k.k in
    let here : k < length places = first_of (search rules, grind (arith, common_steps)) in
    let pushed : c.push_fitting.new.found.items ≡ with_fitting names c.loop-k.found.items c.before-m.result c.args.simple.now = first_of (search rules, grind (arith, common_steps)) in
    let more = before_more nodes names c.args.simple.now (take k places) c.loop-k.found.items c.place_at.result c.args.joint c.loop-k.invariant c.before-m.result c.requires.one c.requires.named.count c.before-m.ensures
    (λ x w. subst (λ z. Covers nodes x z) (sym c.place_at.ensures) (rising_covers nodes places k x c.requires.rising here w)) in
    subst (λ z. AreBefore nodes names z c.args.joint c.args.simple.now c.push_fitting.new.found.items) (sym (seen_more places k c.place_at.result here c.place_at.ensures))
    (subst (AreBefore nodes names (take k places ++ c.place_at.result ∷ []) c.args.joint c.args.simple.now) (sym pushed) more)
