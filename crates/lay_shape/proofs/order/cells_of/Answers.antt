use Rattle.std.proofs.Common.{◌≡◌, ◌+◌, ◌<◌, ◌++◌, [], List, ℕ, ap, arith, length, map, reverse, slice_index_or, sym, ◌∙◌}
use Rattle.std.proofs.lemmas.List.{get_or_read}
use Rattle.lay_context.specs.declared.task.Phase.TheVariants.{Measure, Place}
use Rattle.lay_shape.specs.Dependencies.{in_phase}
use Rattle.lay_shape.specs.Shapes.{at_level, numbers_of}
use Rattle.lay_shape.proofs.BuildSteps.{round_more}
use Rattle.lay_shape.proofs.order.cells_of.Goals as goal

pub loop-level-preserved : goal.loop-level-preserved
loop-level-preserved c =
    let contexts = c.args.contexts.now in
    let lists = c.in_ok-lists.lists.items in
    let level = c.loop-level.level in
    let by = c.in_ok-lists.ensures {u = tt} in
    let within : level < length lists = omega (arith, c.loop-level-test.true, c.len-level-end.ensures, c.in_ok-lists.lists.ok) in
    let there : level < length contexts + 1 = omega (arith, within, by.count) in
    let first : c.as_slice.result.now ≡ slice_index_or lists level [] = c.as_slice.ensures ∙ get_or_read lists level c.index.result.now within c.index.ensures [] in
    let last : c.as_slice-in-loop-level.result.now ≡ slice_index_or lists level [] =
    c.as_slice-in-loop-level.ensures ∙ get_or_read lists level c.index-in-loop-level.result.now within c.index-in-loop-level.ensures [] in
    let second : c.as_slice-in-loop-level.result.now ≡ c.as_slice.result.now = last ∙ sym first in
    let is : c.as_slice.result.now ≡ at_level contexts level = first ∙ by.each level there in
    let up = c.in_ok-push_rising.ensures {u = tt} in
    let down = c.in_ok-push_falling-2.ensures {u = tt} ∙ ap (λ (l : List ℕ). c.push_rising.new.cells.items ++ map (in_phase Place) (reverse l)) second in
    round_more contexts level (map (in_phase Measure) (reverse (numbers_of contexts))) c.loop-level.cells.items c.push_rising.new.cells.items c.push_falling-in-loop-level.new.cells.items c.as_slice.result.now is c.loop-level.invariant up down
