use Rattle.std.proofs.Common.{◌∷◌, [], IfOk, sym, subst}
use Rattle.std.specs.List.{Contains}
use Rattle.std.proofs.lemmas.Result.{IfOk-weaker}
use Rattle.lay_sheet.specs.declared.selector.Joint.{Joint}
use Rattle.lay_sheet.specs.declared.selector.Joint.TheVariants.{Descendant}
use Rattle.lay_cascade.specs.Rising.{AreBefore}
use Rattle.lay_cascade.proofs.Climbing.{element_at}
use Rattle.lay_cascade.proofs.Leading.{before_first}
use Rattle.lay_cascade.proofs.matching.all_before.Goals as goal

pub above-requires-clause-place : goal.above-requires-clause-place
above-requires-clause-place c =
    c.requires.within c.place_at.result (subst (Contains c.args.places.now) (sym c.place_at.ensures) (element_at c.args.places.now 0 c.requires.some))

pub returns-in-Descendant : goal.returns-in-Descendant
returns-in-Descendant c =
    let nodes = c.args.named.nodes.now in
    let names = c.args.named.names.now in
    let places = c.args.places.now in
    subst (λ (z : Joint). IfOk c.above.result (λ v. AreBefore nodes names places z c.args.simple.now v.items)) (sym c.in-Descendant.is)
    (IfOk-weaker c.above.result (λ v. AreBefore nodes names (c.place_at.result ∷ []) Descendant c.args.simple.now v.items) (λ v. AreBefore nodes names places Descendant c.args.simple.now v.items)
    (λ v are. before_first nodes names places v.items c.args.simple.now c.requires.rising c.requires.some
    (subst (λ z. AreBefore nodes names (z ∷ []) Descendant c.args.simple.now v.items) c.place_at.ensures are))
    c.above.ensures)
