-- Beside what it is given a task has a value.
use Rattle.std.proofs.Common.{refl}
use Rattle.lay_placement.specs.Laws.{SomePlacement}
use Rattle.lay_table.specs.Laws.{SomeTablePlacement}
use Rattle.lay_context_sizes.specs.Laws.{SomeContextSizes, SomeContextWidths}
use Rattle.lay_context_sizes.specs.MeasuredContexts.{not_measured}
use Rattle.lay_context.specs.declared.input.Input.{Input}
use Rattle.lay_context.specs.declared.input.Input.TheVariants as input
use Rattle.lay_context.specs.declared.value.Value.{Value}
use Rattle.lay_context.specs.declared.value.Value.TheVariants as value
use Rattle.lay_context.specs.Local.{IsLocal}
use Rattle.lay_context.specs.SomeLayouts.{AreGivenBoxes, SomeLocal}
use Rattle.lay_context.proofs.Cited.{some_own_place_lem}

-- each phase has an answer
pub record SomeAnswer : Type 0 where
  pub widths : SomeContextWidths
  pub sizes : SomeContextSizes
  pub placement : SomePlacement
  pub table_placement : SomeTablePlacement

some_value : SomeAnswer → (i : Input) → AreGivenBoxes i → (v : Value) × IsLocal i v
some_value some (input.Measure i) given = (let m = some.widths i in (value.Measure m.0, m.1))
some_value some input.Unmeasured given = (value.Measure not_measured, refl)
some_value some (input.Size i) given = (let z = some.sizes i given in (value.Size z.0, (given, z.1)))
some_value some (input.Place i at) given =
    let p = some.placement i given in
    let corner = some_own_place_lem at p.0.own in
    (value.Place (record { placement = p.0; offset = corner.0 }), (given, p.1, corner.1))
some_value some (input.PlaceTable i at) given =
    let p = some.table_placement i in
    let corner = some_own_place_lem at p.0.own in
    (value.Place (record { placement = p.0; offset = corner.0 }), (p.1, corner.1))

pub some_local_lem : SomeAnswer → SomeLocal
some_local_lem some i given = some_value some i given
