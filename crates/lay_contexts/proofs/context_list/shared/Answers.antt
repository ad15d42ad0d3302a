use Rattle.std.proofs.Common.{◌≡◌, ◌∙◌, ◌++◌, ◌∷◌, [], length, map, ap, sym, arith}
use Rattle.std.specs.Arc.{arc_value}
use Rattle.std.specs.Vec.Iter.{into_iter_items}
use Rattle.lay_contexts.proofs.SharedContexts.{all_shared, nothing_left, shared_more}
use Rattle.lay_contexts.proofs.context_list.shared.Goals as goal

pub loop-context-preserved : goal.loop-context-preserved
loop-context-preserved c =
    let at = c.loop-context in
    let steps : into_iter_items at.context-iterator ≡ c.in-Some.context ∷ into_iter_items c.next.new.self = c.in-Some.ensures.steps.0 in
    let pushed : c.push.new.self.items ≡ at.all.items ++ c.in_ok-one.one ∷ [] = (c.in_ok-push.ensures {u = tt}).items in (
      (let count = at.invariant.0 in let gone = c.in-Some.ensures.steps.1 in let short = ap length steps in omega arith),
      ap (λ xs. map arc_value xs ++ into_iter_items c.next.new.self) pushed
          ∙ shared_more arc_value at.all.items c.in_ok-one.one c.in-Some.context (into_iter_items at.context-iterator) (into_iter_items c.next.new.self) c.args.items.items
          (c.in_ok-one.ensures {u = tt}).ok steps at.invariant.1,
    )

pub returns : goal.returns
returns c =
    let at = c.loop-context in
    let none = nothing_left (into_iter_items at.context-iterator) (sym at.invariant.0 ∙ c.in-None.ensures.steps.0) in
    all_shared (map arc_value at.all.items) (into_iter_items at.context-iterator) c.args.items.items none at.invariant.1
