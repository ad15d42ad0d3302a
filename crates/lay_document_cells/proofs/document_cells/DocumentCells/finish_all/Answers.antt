use Rattle.std.proofs.Common.{◌≡◌, ◌++◌, ◌∷◌, [], ap, append_assoc, arith, length, refl, subst, sym, ◌∙◌}
use Rattle.std.specs.Vec.Iter.{into_iter_items}
use Rattle.lay_document_cells.specs.Outcomes.{CellsFinishAll, HandsIn, finished, released}
use Rattle.lay_document_cells.proofs.Batching.{all_yielded, back_draws, finish_draws, handed_more, handed_none}
use Rattle.lay_document_cells.proofs.document_cells.DocumentCells.finish_all.Goals as goal

pub loop-outcome-init : goal.loop-outcome-init
loop-outcome-init c =
    let given = c.into_iter-outcome-iterator.ensures.into_iter_gives in (
      refl,
      (let count = given.1 in let same = ap length given.0 in let ok = c.into_vec-outcome-items.result.ok in omega (arith, count, same, ok)),
      handed_none c.args.self.now c.new-tally.result c.new-tally.ensures,
    )

pub loop-outcome-preserved : goal.loop-outcome-preserved
loop-outcome-preserved c =
    let at = c.loop-outcome in
    let was = at.invariant in
    let steps : into_iter_items at.outcome-iterator ≡ c.in-Some.outcome ∷ into_iter_items c.next.new.self = c.in-Some.ensures.steps.0 in (
      append_assoc at.yielded (c.in-Some.outcome ∷ []) (into_iter_items c.next.new.self) ∙ ap (λ l. at.yielded ++ l) (sym steps) ∙ was.0,
      (let count = was.1 in let gone = c.in-Some.ensures.steps.1 in let short = ap length steps in omega arith),
      handed_more c.args.self.now at.self c.give_back.new.self at.yielded at.tally c.count_released.new.self c.in-Some.outcome (released c.give_back.result) was.2
          (subst (λ o. HandsIn at.self o (released c.give_back.result) c.give_back.new.self) (sym c.in-NoMemory.is) c.give_back.ensures)
          c.count_released.ensures.counted c.count_released.ensures.sum
          (back_draws at.self c.in-NoMemory.claim.key c.in-NoMemory.claim.number c.give_back.result c.give_back.new.self c.give_back.ensures),
    )

pub loop-outcome-preserved-in-Done : goal.loop-outcome-preserved-in-Done
loop-outcome-preserved-in-Done c =
    let at = c.loop-outcome in
    let was = at.invariant in
    let steps : into_iter_items at.outcome-iterator ≡ c.in-Some.outcome ∷ into_iter_items c.next.new.self = c.in-Some.ensures.steps.0 in (
      append_assoc at.yielded (c.in-Some.outcome ∷ []) (into_iter_items c.next.new.self) ∙ ap (λ l. at.yielded ++ l) (sym steps) ∙ was.0,
      (let count = was.1 in let gone = c.in-Some.ensures.steps.1 in let short = ap length steps in omega arith),
      handed_more c.args.self.now at.self c.finish.new.self at.yielded at.tally c.count_finished.new.self c.in-Some.outcome (finished c.finish.result) was.2
          (subst (λ o. HandsIn at.self o (finished c.finish.result) c.finish.new.self) (sym c.in-Done.is) c.finish.ensures)
          c.count_finished.ensures.counted c.count_finished.ensures.sum
          (finish_draws at.self c.in-Done.done c.finish.result c.finish.new.self c.finish.ensures),
    )

pub returns : goal.returns
returns c =
    let was = c.loop-outcome.invariant in
    let all = all_yielded c.loop-outcome.yielded (into_iter_items c.loop-outcome.outcome-iterator) _ was.0 (sym was.1 ∙ c.in-None.ensures.steps.0)
    ∙ c.into_iter-outcome-iterator.ensures.into_iter_gives.0 ∙ c.into_vec-outcome-items.ensures.outcomes in
    record {
      answers = subst (λ os. CellsFinishAll c.args.self.now os c.loop-outcome.tally c.loop-outcome.self) all was.2.finishes;
      all = was.2.sum ∙ ap length all;
      draws = was.2.draws;
    }
