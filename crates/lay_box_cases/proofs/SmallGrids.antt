-- Small numbers are within the bounds that the calls for tables ask for.
use Rattle.std.proofs.Common.{◌≡◌, ℕ, suc, ◌+◌, ◌*◌, ◌^◌, ◌<◌, ◌≤◌, ℤ, pos, ◌+ℤ◌, ◌-ℤ◌, ◌≤ℤ◌, All, List, [], ◌∷◌, ◌++◌, length, length-append, slice_get, Option, Some, None, refl, subst, arith}
use Rattle.std.proofs.lemmas.Int.{ints}
use Rattle.std.proofs.lemmas.Option.{get_or_from_slice_get, slice_get_within}
use Rattle.lay_units.specs.declared.length.Unit.{Unit}
use Rattle.lay_grid.specs.declared.cells.Area.{Area}
use Rattle.lay_grid.specs.declared.cells.Grid.{Grid}
use Rattle.lay_grid.specs.declared.cells.RowSpec.{RowSpec}
use Rattle.lay_grid.specs.declared.cells.Span.{Span}
use Rattle.lay_grid.specs.declared.columns.ColumnsIn.{ColumnsIn}
use Rattle.lay_grid.specs.declared.heights.RowCell.{RowCell}
use Rattle.lay_grid.specs.declared.heights.RowsIn.{RowsIn}
use Rattle.lay_grid.specs.Areas.{areas_from, areas_in_row, rows_left}
use Rattle.lay_grid.specs.ColumnsFit.{ColumnsFit}
use Rattle.lay_grid.specs.Heights.{IsEnough}
use Rattle.lay_grid.specs.Lengths.{MayBePosition}
use Rattle.lay_grid.specs.RowsFit.{RowsFit}
use Rattle.lay_grid.specs.Shares.{own_width}
use Rattle.lay_grid.specs.Slots.{IsGrid, SpanRows}
use Rattle.lay_grid.specs.Within.{IsUpTo, NeedUpTo, TakeUpTo, columns_spanned}
use Rattle.lay_grid.proofs.ColumnsWithin.{columns_are_within_lem}
use Rattle.lay_grid.proofs.HeightsWithin.{heights_are_within_lem}
use Rattle.lay_grid.proofs.WidthsWithin.{widths_are_within_lem}
use Rattle.lay_box_cases.specs.Small.{IsSmall, IsSmallCell, IsSmallNeed, IsSmallRow, IsSmallSpan, MayBeSmall}

-- how many cells a row has, and how many columns they span together
row_count : (r left : ℕ) (spans : List Span) → length (areas_in_row r left spans) ≡ length spans
row_count r left [] = refl
row_count r left (span ∷ spans) = let more = row_count r left spans in omega (arith, more)

row_spanned : (r left : ℕ) (spans : List Span) → All IsSmallSpan spans → columns_spanned (areas_in_row r left spans) ≤ 255 * length spans
row_spanned r left [] all = omega arith
row_spanned r left (span ∷ spans) all =
    let here = (all 0 span (omega arith)).columns in
    let more = row_spanned r left spans (λ k d less. all (suc k) d (omega (arith, less))) in
    omega (arith, here, more)

spanned_append : (v w : List Area) → columns_spanned (v ++ w) ≡ columns_spanned v + columns_spanned w
spanned_append [] w = omega arith
spanned_append (area ∷ v) w = let more = spanned_append v w in omega (arith, more)

-- the same of all rows
areas_few : (r : ℕ) (rows : List RowSpec) → All IsSmallRow rows
    → (length (areas_from r rows) ≤ 255 * length rows) × (columns_spanned (areas_from r rows) ≤ 65025 * length rows)
areas_few r [] all = (omega arith, omega arith)
areas_few r (row ∷ rows) all =
    let here = all 0 row (omega arith) in
    let few = here.few in
    let more = areas_few (r + 1) rows (λ k d less. all (suc k) d (omega (arith, less))) in
    let cells = more.0 in
    let columns = more.1 in
    let count = row_count r (rows_left (row ∷ rows)) row.cells in
    let spanned = row_spanned r (rows_left (row ∷ rows)) row.cells here.spans in
    let both = length-append (areas_in_row r (rows_left (row ∷ rows)) row.cells) (areas_from (r + 1) rows) in
    let sum = spanned_append (areas_in_row r (rows_left (row ∷ rows)) row.cells) (areas_from (r + 1) rows) in
    (omega (arith, few, cells, count, both), omega (arith, few, columns, spanned, sum))

pub spans_of_rows : (rows : List RowSpec) → All IsSmallRow rows → SpanRows rows
spans_of_rows rows all = λ k d less. λ j e lt. ((all k d less).spans j e lt).rows

pub cells_few : (rows : List RowSpec) → length rows ≤ 255 → All IsSmallRow rows → length (areas_from 0 rows) ≤ 2 ^ 32
cells_few rows few all = let areas = (areas_few 0 rows all).0 in omega (arith, few, areas)

pub columns_few : (rows : List RowSpec) → length rows ≤ 255 → All IsSmallRow rows → (grid : Grid) → IsGrid rows grid → grid.columns < 2 ^ 32
columns_few rows few all grid is =
    let areas = (areas_few 0 rows all).1 in let within = columns_are_within_lem rows grid is in omega (arith, few, areas, within)

may_be_position : (o : Option Unit) → MayBeSmall o → MayBePosition o
may_be_position None small = tt
may_be_position (Some u) small = (omega (arith, ints, small.0), omega (arith, ints, small.1))

own_up_to : (o : Option Unit) → MayBeSmall o → IsUpTo 65535 (own_width o)
own_up_to None small = (omega (arith, ints), omega (arith, ints))
own_up_to (Some u) small = small

pub columns_fit : (c : ColumnsIn) → length c.given ≤ 255 → All MayBeSmall c.given → All (IsSmallCell (length c.given)) c.first → IsSmall c.width.0
    → IsSmall c.spacing.0 → ColumnsFit c
columns_fit c few given first width spacing = record {
  few = omega (arith, few);
  given = λ k d less. may_be_position _ (given k d less);
  first = λ k d less. (let small = first k d less in record { some = small.some; inside = small.inside; width = may_be_position _ small.width });
  width = (omega (arith, ints, width.0), omega (arith, ints, width.1));
  spacing = (omega (arith, ints, spacing.0), omega (arith, ints, spacing.1));
  widths = λ widths are. (let up = widths_are_within_lem c 65535 widths take are in
      λ k d less. (let u = up k d less in (omega (arith, ints, u.0), omega (arith, ints, u.1, few))));
}
  where
    take : TakeUpTo c 65535
    take = record {
      given = λ k d less. own_up_to _ (given k d less);
      first = λ k d less. (let small = first k d less in record { some = small.some; width = (own_up_to _ small.width).1 });
      width = width.1;
      spacing = spacing.0;
    }

baseline_of : (o : Option Unit) (b : ℤ) → MayBeSmall o → o ≡ Some (record { 0 = b }) → b ≤ℤ pos 65535
baseline_of None b small e = absurd (cc e)
baseline_of (Some u) b small e = let f : u ≡ record { 0 = b } = cc e in subst (λ (v : Unit). v.0 ≤ℤ pos 65535) f small.1

enough : (rows : ℕ) (cells : List RowCell) → All (IsSmallNeed rows) cells → (cell : RowCell) (o : Option Unit) → IsSmall cell.height.0 → MayBeSmall o
    → IsEnough cells cell o (pos 131070)
enough rows cells all cell None height small = omega (arith, ints, height.1)
enough rows cells all cell (Some own) height small = λ b is. from b is.one_of
  where
    from : (b : ℤ) → ((k : ℕ) × (c : RowCell) × (slice_get cells k ≡ Some c) × (c.row ≡ cell.row) × (c.baseline ≡ Some (record { 0 = b })))
        → (cell.height.0 +ℤ (b -ℤ own.0)) ≤ℤ pos 131070
    from b (k, c, at, same, e) =
        let need = subst (λ (x : RowCell). IsSmallNeed rows x) (get_or_from_slice_get cells k c c at) (all k c (slice_get_within cells k c at)) in
        let high = baseline_of c.baseline b need.baseline e in
        omega (arith, ints, height.1, high, small.0)

pub rows_fit : (r : RowsIn) → length r.own ≤ 255 → All (λ (u : Unit). IsSmall u.0) r.own → All (IsSmallNeed (length r.own)) r.cells → IsSmall r.spacing.0
    → IsSmall r.total.0 → RowsFit r
rows_fit r few own cells spacing total = record {
  few = omega (arith, few);
  own = λ k d less. (let u = own k d less in (omega (arith, ints, u.0), omega (arith, ints, u.1)));
  cells = λ k d less. (let need = cells k d less in record {
    some = need.some;
    inside = need.inside;
    height = (omega (arith, ints, need.height.0), omega (arith, ints, need.height.1));
    baseline = may_be_position _ need.baseline;
  });
  spacing = (omega (arith, ints, spacing.0), omega (arith, ints, spacing.1));
  total = (omega (arith, ints, total.0), omega (arith, ints, total.1));
  heights = λ heights are. (let up = heights_are_within_lem r 131070 heights needs are in
      λ k d less. (let u = up k d less in (omega (arith, ints, u.0), omega (arith, ints, u.1))));
}
  where
    needs : NeedUpTo r 131070
    needs = record {
      own = λ k d less. (let u = own k d less in (u.0, omega (arith, ints, u.1)));
      cells = λ k cell at. (let need = subst (λ (x : RowCell). IsSmallNeed (length r.own) x) (get_or_from_slice_get r.cells k cell cell at) (cells k cell (slice_get_within r.cells k cell at)) in
          enough (length r.own) r.cells cells cell cell.baseline need.height need.baseline);
      spacing = spacing.0;
      total = omega (arith, ints, total.1);
    }
