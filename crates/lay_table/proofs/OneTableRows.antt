-- A table has one list of rows: each of their workings has one value beside the ones before it.
use Rattle.std.proofs.Common.{◌≡◌, ◌<◌, List, length, map, sym, ap, ◌∙◌, subst, arith}
use Rattle.std.proofs.lemmas.List.{ext_get_or}
use Rattle.lay_units.specs.declared.length.Unit.{Unit as Length}
use Rattle.lay_grid.specs.declared.heights.RowsIn.{RowsIn}
use Rattle.lay_grid.specs.RowBaselines.{AreRowBaselines}
use Rattle.lay_grid.proofs.OneColumns.{one_heights_lem}
use Rattle.lay_grid.proofs.RowBaselines.{one_row_baselines_lem}
use Rattle.lay_sizes.specs.declared.sizing.BoxSizes.{BoxSizes}
use Rattle.lay_sizes.specs.SizeColumns.{no_sizes}
use Rattle.lay_table_sizes.proofs.OneCellSizes.{one_cell_sizes_lem}
use Rattle.lay_table.specs.RowLaws.{CellsAreSizedOnce, OneTableRows}
use Rattle.lay_table.specs.RowNeeds.{needs_of, rows_in}
use Rattle.lay_table.specs.TableInputs.{TableInput, grid_of}
use Rattle.lay_table.specs.TableRows.{AreTracks, HaveCellSizes, bottoms_of, height_as_size}
use Rattle.lay_table.specs.Tracks.{Tracks}

one_cell_list : (i : TableInput) (x y : List BoxSizes) → HaveCellSizes i x → HaveCellSizes i y → x ≡ y
one_cell_list i x y a b =
    ext_get_or no_sizes x y (a.count ∙ sym b.count)
    (λ c less. (let within : c < length (grid_of i).cells = omega (arith, less, a.count) in one_cell_sizes_lem _ _ _ _ _ (a.each c within) (b.each c within)))

one_tracks : (rows : RowsIn) (t u : Tracks) → AreTracks rows t → AreTracks rows u → t ≡ u
one_tracks rows t u a b =
    let same = one_heights_lem rows a.heights b.heights a.are_heights b.are_heights in
    a.used ∙ ap (λ (heights : List Length). (let v : Tracks = record { lengths = map height_as_size heights; spacing = rows.spacing } in v)) same ∙ sym b.used

pub one_table_rows_lem : OneTableRows
one_table_rows_lem i x y a b =
    let cells = one_cell_list i x.cells y.cells a.cells b.cells in
    let tracks = one_tracks (rows_in i x.cells) x.tracks y.tracks a.tracks (subst (λ (z : List BoxSizes). AreTracks (rows_in i z) y.tracks) (sym cells) b.tracks) in
    let baselines = one_row_baselines_lem (needs_of i x.cells) (length (grid_of i).rows) x.baselines y.baselines a.baselines
    (subst (λ (z : List BoxSizes). AreRowBaselines (needs_of i z) (length (grid_of i).rows) y.baselines) (sym cells) b.baselines) in
    let there : AreRowBaselines (bottoms_of i x.cells x.tracks) (length (grid_of i).rows) y.bottoms =
    subst (λ (z : List BoxSizes). AreRowBaselines (bottoms_of i z x.tracks) (length (grid_of i).rows) y.bottoms) (sym cells)
    (subst (λ (t : Tracks). AreRowBaselines (bottoms_of i y.cells t) (length (grid_of i).rows) y.bottoms) (sym tracks) b.bottoms) in
    let bottoms = one_row_baselines_lem (bottoms_of i x.cells x.tracks) (length (grid_of i).rows) x.bottoms y.bottoms a.bottoms there in
    λ j. record { cells = cells j; tracks = tracks j; baselines = baselines j; bottoms = bottoms j }

pub cells_are_sized_once_lem : CellsAreSizedOnce
cells_are_sized_once_lem i rows c z has less sized = one_cell_sizes_lem _ _ _ _ _ (has.cells.each c less) sized
