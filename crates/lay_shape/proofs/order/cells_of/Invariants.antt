use Rattle.std.proofs.Common.{◌≡◌, ◌++◌, flat_map, map, reverse}
use Rattle.std.specs.List.{range_with_len}
use Rattle.lay_context.specs.declared.task.Phase.TheVariants.{Measure}
use Rattle.lay_shape.specs.Dependencies.{in_phase}
use Rattle.lay_shape.specs.Shapes.{numbers_of, round_of}
use Rattle.lay_shape.proofs.order.cells_of.Given as goal

abbrev pub invariant-loop-level : goal.invariant-loop-level
invariant-loop-level l = l.cells.items ≡ map (in_phase Measure) (reverse (numbers_of l.contexts)) ++ flat_map (round_of l.contexts) (range_with_len 0 l.level)
