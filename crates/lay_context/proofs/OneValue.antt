-- Beside what it is given a task has one value.
use Rattle.std.proofs.Common.{◌≡◌, ap, sym, ◌∙◌}
use Rattle.lay_placement.specs.Laws.{OnePlacement}
use Rattle.lay_table.specs.Laws.{OneTablePlacement}
use Rattle.lay_context_sizes.specs.Laws.{OneContextSizes, OneContextWidths}
use Rattle.lay_context.specs.declared.input.Input.{Input}
use Rattle.lay_context.specs.declared.input.Input.TheVariants as input
use Rattle.lay_context.specs.declared.value.Value.{Value}
use Rattle.lay_context.specs.declared.value.Value.TheVariants as value
use Rattle.lay_context.specs.Local.{IsLocal}
use Rattle.lay_context.proofs.PlaceFacts.{same_placed}

-- what each phase answers is the only answer
pub record OneAnswer : Type 0 where
  pub widths : OneContextWidths
  pub sizes : OneContextSizes
  pub placement : OnePlacement
  pub table_placement : OneTablePlacement

pub one_local_lem : OneAnswer → (i : Input) (v w : Value) → IsLocal i v → IsLocal i w → v ≡ w
one_local_lem one (input.Measure i) (value.Measure x) (value.Measure y) a b = ap value.Measure (one.widths i x y a b)
one_local_lem one (input.Measure i) (value.Measure x) (value.Size y) a b = absurd b
one_local_lem one (input.Measure i) (value.Measure x) (value.Place y) a b = absurd b
one_local_lem one (input.Measure i) (value.Size x) w a b = absurd a
one_local_lem one (input.Measure i) (value.Place x) w a b = absurd a
one_local_lem one input.Unmeasured (value.Measure x) (value.Measure y) a b = ap value.Measure (a ∙ sym b)
one_local_lem one input.Unmeasured (value.Measure x) (value.Size y) a b = absurd b
one_local_lem one input.Unmeasured (value.Measure x) (value.Place y) a b = absurd b
one_local_lem one input.Unmeasured (value.Size x) w a b = absurd a
one_local_lem one input.Unmeasured (value.Place x) w a b = absurd a
one_local_lem one (input.Size i) (value.Size x) (value.Size y) a b = ap value.Size (one.sizes i x y a.0 a.1 b.1)
one_local_lem one (input.Size i) (value.Size x) (value.Measure y) a b = absurd b
one_local_lem one (input.Size i) (value.Size x) (value.Place y) a b = absurd b
one_local_lem one (input.Size i) (value.Measure x) w a b = absurd a
one_local_lem one (input.Size i) (value.Place x) w a b = absurd a
one_local_lem one (input.Place i at) (value.Place x) (value.Place y) a b =
    ap value.Place (same_placed at x y (one.placement i x.placement y.placement a.0 a.1 b.1) a.2 b.2)
one_local_lem one (input.Place i at) (value.Place x) (value.Measure y) a b = absurd b
one_local_lem one (input.Place i at) (value.Place x) (value.Size y) a b = absurd b
one_local_lem one (input.Place i at) (value.Measure x) w a b = absurd a
one_local_lem one (input.Place i at) (value.Size x) w a b = absurd a
one_local_lem one (input.PlaceTable i at) (value.Place x) (value.Place y) a b =
    ap value.Place (same_placed at x y (one.table_placement i x.placement y.placement a.0 b.0) a.1 b.1)
one_local_lem one (input.PlaceTable i at) (value.Place x) (value.Measure y) a b = absurd b
one_local_lem one (input.PlaceTable i at) (value.Place x) (value.Size y) a b = absurd b
one_local_lem one (input.PlaceTable i at) (value.Measure x) w a b = absurd a
one_local_lem one (input.PlaceTable i at) (value.Size x) w a b = absurd a
