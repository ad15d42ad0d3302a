-- What cells need is within bounds, and so are the rows that come of it.
use Rattle.std.proofs.Common.{◌≡◌, ℕ, zero, suc, ◌+◌, ◌<◌, ◌≤◌, ◌^◌, ℤ, pos, ◌+ℤ◌, ◌-ℤ◌, ◌≤ℤ◌, List, length, length-append, slice_get, Option, Some, None, IfSome, refl, subst, arith}
use Rattle.std.specs.Option.{unwrap_or}
use Rattle.std.specs.List.{All}
use Rattle.std.proofs.lemmas.Int.{ints, clamps}
use Rattle.std.proofs.lemmas.Option.{get_or_from_slice_get, slice_get_within}
use Rattle.lay_units.specs.Units.{IsUsedSize, IsBoxSize, IsNear}
use Rattle.lay_units.specs.declared.length.Unit.{Unit as Length}
use Rattle.lay_units.specs.declared.records.Len.{Len}
use Rattle.lay_units.specs.declared.records.Len.TheVariants as len
use Rattle.lay_grid.specs.declared.heights.RowCell.{RowCell}
use Rattle.lay_grid.specs.declared.heights.RowsIn.{RowsIn}
use Rattle.lay_grid.specs.Heights.{IsEnough}
use Rattle.lay_grid.specs.Lengths.{MayBePosition}
use Rattle.lay_grid.specs.RowsFit.{RowCellFits, RowsFit}
use Rattle.lay_grid.specs.Within.{NeedUpTo}
use Rattle.lay_grid.proofs.HeightsWithin.{heights_are_within_lem}
use Rattle.lay_sizes.specs.declared.own_boxes.OwnBox.{OwnBox}
use Rattle.lay_sizes.specs.declared.sizing.BoxSizes.{BoxSizes}
use Rattle.lay_sizes.specs.OwnBoxes.{IsBaseline, OwnBoxFits}
use Rattle.lay_sizes.specs.SizeBounds.{IsUsedSizeOrAuto, SizeFits}
use Rattle.lay_sizes.specs.UsedLengths.{or_zero}
use Rattle.lay_table_grid.specs.declared.grid.TableCell.{TableCell}
use Rattle.lay_table_grid.specs.GridBounds.{CellFits}
use Rattle.lay_table.specs.declared.cell_align.CellAlign.{CellAlign}
use Rattle.lay_table.specs.declared.cell_align.CellAlign.TheVariants.{Baseline, Top, Middle, Bottom}
use Rattle.lay_table.specs.NeedBounds.{MayBeBaseline, NeedFits, NeedsFit}
use Rattle.lay_table.specs.RowNeeds.{baseline_if, border_height, content_edge, need_by_content, own_heights_to, row_cell}
use Rattle.lay_table.specs.TableInputs.{TableInput}

-- no row is higher than 2^61 units
abbrev most : ℕ
most = 2305843009213693952

one_need : (rows : ℕ) (needs : List RowCell) → NeedsFit rows needs → (k : ℕ) (cell : RowCell) → slice_get needs k ≡ Some cell → NeedFits rows cell
one_need rows needs fit k cell at =
    subst (λ (c : RowCell). NeedFits rows c) (get_or_from_slice_get needs k cell cell at) (fit k cell (slice_get_within needs k cell at))

baseline_of : (o : Option Length) (b : ℤ) → MayBeBaseline o → o ≡ Some (record { 0 = b }) → IsBaseline b
baseline_of None b may e = absurd (cc e)
baseline_of (Some u) b may e = let f : u ≡ record { 0 = b } = cc e in subst (λ (v : Length). IsBaseline v.0) f may

enough : (rows : ℕ) (needs : List RowCell) → NeedsFit rows needs → (cell : RowCell) (o : Option Length) → NeedFits rows cell → MayBeBaseline o → IsEnough needs cell o (pos most)
enough rows needs fit cell None need may = omega (arith, ints, need.height.1)
enough rows needs fit cell (Some own) need may = λ b is. from b is.one_of
  where
    from : (b : ℤ) → ((k : ℕ) × (c : RowCell) × (slice_get needs k ≡ Some c) × (c.row ≡ cell.row) × (c.baseline ≡ Some (record { 0 = b }))) → (cell.height.0 +ℤ (b -ℤ own.0)) ≤ℤ pos most
    from b (k, c, at, same, e) =
        let high = baseline_of c.baseline b (one_need rows needs fit k c at).baseline e in
        omega (arith, ints, need.height.1, high.1, may.0)

may_be_position : (o : Option Length) → MayBeBaseline o → MayBePosition o
may_be_position None may = tt
may_be_position (Some u) may = (omega (arith, ints, may.0), omega (arith, ints, may.1))

cell_fits : (rows : ℕ) (cell : RowCell) → NeedFits rows cell → RowCellFits rows cell
cell_fits rows cell need = record {
  some = need.some;
  inside = need.inside;
  height = (omega (arith, ints, need.height.0), omega (arith, ints, need.height.1));
  baseline = may_be_position cell.baseline need.baseline;
}

pub cells_fit : (rows : ℕ) (needs : List RowCell) → NeedsFit rows needs → All (RowCellFits rows) needs
cells_fit rows needs fit = λ k d less. cell_fits rows _ (fit k d less)

-- rows of used sizes, with a spacing that is one, and cells that fit
pub rows_fit : (r : RowsIn) → length r.own < 2 ^ 32 → All (λ (u : Length). IsUsedSize u.0) r.own → NeedsFit (length r.own) r.cells → IsUsedSize r.spacing.0 → IsNear r.total.0 → RowsFit r
rows_fit r few own cells spacing total = record {
  few = few;
  own = λ k d less. (let u = own k d less in (omega (arith, ints, u.0), omega (arith, ints, u.1)));
  cells = cells_fit (length r.own) r.cells cells;
  spacing = (omega (arith, ints, spacing.0), omega (arith, ints, spacing.1));
  total = (omega (arith, ints, total.0), omega (arith, ints, total.1));
  heights = λ heights are. (let up = heights_are_within_lem r most heights need are in λ k d less. (let u = up k d less in (omega (arith, ints, u.0), omega (arith, ints, u.1))));
}
  where
    need : NeedUpTo r most
    need = record {
      own = λ k d less. (let u = own k d less in (u.0, omega (arith, ints, u.1)));
      cells = λ k cell at. (let fits = one_need (length r.own) r.cells cells k cell at in enough (length r.own) r.cells cells cell cell.baseline fits fits.baseline);
      spacing = spacing.0;
      total = omega (arith, ints, total.1);
    }

or_zero_is : (height : Len) → IsUsedSizeOrAuto height → IsUsedSize (or_zero height).0
or_zero_is len.Auto is = (omega (arith, ints), omega (arith, ints))
or_zero_is (len.Of height) is = is

own_baseline_fits : (o : Option Length) (z : BoxSizes) (natural : Length) → IfSome o (λ u. IsBaseline u.0) → IsBoxSize natural.0 → SizeFits z → IsBaseline (unwrap_or o (content_edge z natural)).0
own_baseline_fits None z natural may box fits =
    let height = or_zero_is z.height fits.height in (
      omega (arith, ints, clamps, box.0, fits.bottom.1),
      omega (arith, ints, clamps, box.1, height.1, fits.top.1, fits.bottom.0, fits.bottom.1),
    )
own_baseline_fits (Some b) z natural may box fits = may

may_be_own : (align : CellAlign) (b : Length) → IsBaseline b.0 → MayBeBaseline (baseline_if align b)
may_be_own Baseline b is = is
may_be_own Top b is = tt
may_be_own Middle b is = tt
may_be_own Bottom b is = tt

-- what a cell needs fits
pub content_fits : (rows columns : ℕ) (cell : TableCell) (align : CellAlign) (o : OwnBox) (z : BoxSizes) → CellFits rows columns cell → OwnBoxFits o → SizeFits z → NeedFits rows (need_by_content cell align o z)
content_fits rows columns cell align o z fits own sizes = record {
  some = fits.some_rows;
  inside = fits.last_row;
  height = own.height;
  baseline = may_be_own align _ (own_baseline_fits o.baseline z o.height own.baseline own.height sizes);
}

pub height_fits : (rows columns : ℕ) (cell : TableCell) (z : BoxSizes) (height : Length) → CellFits rows columns cell → SizeFits z → IsUsedSize height.0 → NeedFits rows (row_cell cell (border_height z height) None)
height_fits rows columns cell z height fits sizes used = record {
  some = fits.some_rows;
  inside = fits.last_row;
  height = (omega (arith, ints, used.0, sizes.top.0, sizes.bottom.0), omega (arith, ints, used.1, sizes.top.1, sizes.bottom.1));
  baseline = tt;
}

-- of cells that a table has, as what they need where they end
pub bottom_fits : (rows columns : ℕ) (cell : TableCell) (height bottom : Length) → CellFits rows columns cell → IsNear height.0 → IsNear bottom.0 → RowCellFits rows (row_cell cell height (Some bottom))
bottom_fits rows columns cell height bottom fits high low = record {
  some = fits.some_rows;
  inside = fits.last_row;
  height = (omega (arith, ints, high.0), omega (arith, ints, high.1));
  baseline = (omega (arith, ints, low.0), omega (arith, ints, low.1));
}

pub own_count : (i : TableInput) (n : ℕ) → length (own_heights_to i n) ≡ n
own_count i zero = refl
own_count i (suc n) = let more = own_count i n in rw (length-append, more) (omega arith)

pub given_is_used : (z : BoxSizes) (height : Length) → z.height ≡ len.Of height → SizeFits z → IsUsedSize height.0
given_is_used z height e fits = from z.height e fits.height
  where
    from : (given : Len) → given ≡ len.Of height → IsUsedSizeOrAuto given → IsUsedSize height.0
    from len.Auto e used = absurd (cc e)
    from (len.Of v) e used = let f : v ≡ height = cc e in subst (λ (u : Length). IsUsedSize u.0) f used
