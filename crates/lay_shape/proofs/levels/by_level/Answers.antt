use Rattle.std.proofs.Common.{rules, ◌≡◌, ◌++◌, ◌∷◌, [], ap, arith, length, refl, slice_index_or, ◌∙◌}
use Rattle.std.proofs.lemmas.List.FromFn.{length-map-range_with_len}
use Rattle.lay_shape.specs.Building.{levels_of}
use Rattle.lay_shape.specs.Levels.{level_of}
use Rattle.lay_shape.proofs.BuildSteps.{level_listed, level_small}
use Rattle.lay_shape.proofs.levels.by_level.Goals as goal

pub level_at-level-requires : goal.level_at-level-requires
level_at-level-requires c =
    let is : c.deref.result.now ≡ levels_of c.args.contexts.now = search rules in
    let count = ap length is ∙ length-map-range_with_len (level_of c.args.contexts.now) 0 (length c.args.contexts.now) in
    omega (arith, count, c.loop-i-test.true, c.len-i-end.ensures.count)

pub note-requires : goal.note-requires
note-requires c =
    let is : c.deref.result.now ≡ levels_of c.args.contexts.now = search rules in
    let small = level_small c.args.contexts.now c.len.ensures.are c.loop-i.i c.level_at-level.result c.deref.result.now is (omega (arith, c.loop-i-test.true, c.len-i-end.ensures.count)) c.level_at-level.ensures in
    let low = small.1 in
    omega (arith, low, c.loop-i.invariant.count)

pub loop-i-preserved : goal.loop-i-preserved
loop-i-preserved c =
    let is : c.deref.result.now ≡ levels_of c.args.contexts.now = search rules in
    let small = level_small c.args.contexts.now c.len.ensures.are c.loop-i.i c.level_at-level.result c.deref.result.now is (omega (arith, c.loop-i-test.true, c.len-i-end.ensures.count)) c.level_at-level.ensures in
    let level = c.level_at-level.result in
    level_listed c.args.contexts.now c.loop-i.lists.items c.note.new.lists.items c.loop-i.i level (slice_index_or c.loop-i.lists.items level [] ++ c.loop-i.i ∷ []) c.loop-i.invariant small.0 small.1 refl (c.in_ok-note.ensures {u = tt})
