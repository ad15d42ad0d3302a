use Rattle.std.proofs.Common.{◌≡◌, arith, sym, ◌∙◌}
use Rattle.lay_positioned.specs.Levels.{HasLevels}
use Rattle.lay_context.proofs.TaskSteps.{known, solved}
use Rattle.lay_context.proofs.layout.lay_contexts.Goals as goal

pub invariant_of-laid : goal.invariant_of-laid
invariant_of-laid c =
    let has : HasLevels c.args.contexts.now c.deref.result.now = rw c.deref.ensures.value ((c.in_ok-levels.ensures {u = tt}).levels) in
    let same = c.deref-4.ensures.value ∙ sym c.deref.ensures.value in
    let counted = rw same at c.level_count-level-end.ensures.count in
    let all : c.loop-level.level ≡ c.level_count-level-end.result = omega arith in
    let done = rw all at c.loop-level.invariant in
    record {
      are = known c.args.medium.now c.args.contexts.now c.deref.result.now c.len.ensures.are has c.grids_are_of_boxes.ensures c.loop-level.known c.level_count-level-end.result counted.above done;
    }

pub returns : goal.returns
returns c =
    let has : HasLevels c.args.contexts.now c.deref.result.now = rw c.deref.ensures.value ((c.in_ok-levels.ensures {u = tt}).levels) in
    let same = c.deref-4.ensures.value ∙ sym c.deref.ensures.value in
    let counted = rw same at c.level_count-level-end.ensures.count in
    let all : c.loop-level.level ≡ c.level_count-level-end.result = omega arith in
    let done = rw all at c.loop-level.invariant in
    solved c.args.medium.now c.args.contexts.now c.deref.result.now c.len.ensures.are has c.grids_are_of_boxes.ensures c.loop-level.known c.level_count-level-end.result counted.above done c.in_ok-tree.tree (c.in_ok-tree.ensures {u = tt})
