-- A table has rows.
use Rattle.std.proofs.Common.{◌≡◌, ℕ, zero, suc, ◌+◌, ◌<◌, Option, Some, None, List, [], ◌∷◌, length, get_or, map, refl, subst, arith}
use Rattle.std.proofs.lemmas.Option.{slice_get_within}
use Rattle.lay_units.specs.declared.length.Unit.{Unit as Length}
use Rattle.lay_units.specs.Lengths.{no_length}
use Rattle.lay_style.specs.declared.style.Style.{Style}
use Rattle.lay_grid.specs.declared.heights.RowCell.{RowCell}
use Rattle.lay_grid.specs.RowBaselines.{AreRowBaselines, IsBaselineOf}
use Rattle.lay_grid.proofs.Exists.{rows_have_heights_lem}
use Rattle.lay_grid.specs.Pass.Baselines.{BaselineTo}
use Rattle.lay_grid.proofs.RowBaselines.{baseline_exists, row_baseline}
use Rattle.lay_sizes.specs.BoxSizes.{content_block}
use Rattle.lay_sizes.specs.SizeColumns.{no_sizes}
use Rattle.lay_sizes.specs.UsedLengths.{used_height}
use Rattle.lay_sizes.specs.declared.sizing.BoxSizes.{BoxSizes}
use Rattle.lay_sizes.specs.declared.sizing.ContainingBlock.{ContainingBlock}
use Rattle.lay_table_sizes.specs.CellSizes.{IsCellSized, cell_insets, content_width}
use Rattle.lay_table_sizes.specs.declared.cell_size.CellSize.{CellSize}
use Rattle.lay_table.specs.RowLaws.{IsSizedIn, SomeTableRows}
use Rattle.lay_table.specs.RowNeeds.{cell_of, needs_of, rows_in, style_of, table_sizes}
use Rattle.lay_table.specs.TableInputs.{TableInput, grid_of}
use Rattle.lay_table.specs.TableRows.{HaveCellSizes, bottoms_of, cell_size_of, height_as_size}
use Rattle.lay_table.specs.Tracks.{Tracks}

-- a list of so many entries, each of which is as it has to be at its place
entry_at : {X : Type 0} (P : ℕ → X → Type 0) (d x : X) (xs : List X) (first count : ℕ) → P first x → ((k : ℕ) → k < count → P ((first + 1) + k) (get_or xs k d))
    → (k : ℕ) → k < suc count → P (first + k) (get_or (x ∷ xs) k d)
entry_at P d x xs first count here others zero less = subst (λ (j : ℕ). P j x) (omega arith) here
entry_at P d x xs first count here others (suc k) less = subst (λ (j : ℕ). P j (get_or xs k d)) (omega arith) (others k (omega (arith, less)))

made : {X : Type 0} (P : ℕ → X → Type 0) (d : X) → ((k : ℕ) → (x : X) × P k x) → (first count : ℕ)
    → (xs : List X) × (length xs ≡ count) × ((k : ℕ) → k < count → P (first + k) (get_or xs k d))
made P d each first zero = ([], refl, λ k less. absurd (omega (arith, less)))
made P d each first (suc count) =
    let here = each first in
    let rest = made P d each (first + 1) count in
    let counted = rest.1 in
    (here.0 ∷ rest.0, omega (arith, counted), entry_at P d here.0 rest.0 first count here.1 rest.2)

sized : (containing : ContainingBlock) (cell : CellSize) (s : Style) → (z : BoxSizes) × IsCellSized containing cell s z
sized containing cell s = (
  record {
    containing = containing.width;
    widths = record { margin_left = no_length; width = record { 0 = content_width cell (cell_insets containing cell s) }; margin_right = no_length };
    edges = cell_insets containing cell s;
    margin_top = no_length;
    margin_bottom = no_length;
    height = used_height containing.height s.sizing.height;
    min_height = no_length;
    max_height = None;
  },
  record {
    containing_is = refl;
    edges = refl;
    width = refl;
    margin_left = refl;
    margin_right = refl;
    margin_top = refl;
    margin_bottom = refl;
    height = refl;
    min_height = refl;
    max_height = refl;
  },
)

cell_list : (i : TableInput) → (cells : List BoxSizes) × HaveCellSizes i cells
cell_list i =
    let list = made (IsSizedIn i) no_sizes (λ c. sized (content_block (table_sizes i)) (cell_size_of i c) (style_of i (cell_of i c).place)) 0 (length (grid_of i).cells) in
    (list.0, record { count = list.1; each = λ c less. (let same : 0 + c ≡ c = omega arith in subst (λ (j : ℕ). IsSizedIn i j (get_or list.0 c no_sizes)) same (list.2 c less)) })

is_baseline : (cells : List RowCell) (row : ℕ) → (o : Option Length) × IsBaselineOf cells row o
is_baseline cells row = from (baseline_exists cells row (length cells) (omega arith))
  where
    from : ((o : Option Length) × BaselineTo cells row (length cells) o) → (o : Option Length) × IsBaselineOf cells row o
    from (None, to) = (None, λ b has. let e = to has.0 (slice_get_within cells has.0 has.1 has.2) has.1 has.2 has.3 in absurd (cc (e, has.4)))
    from (Some b, to) = (Some b, row_baseline cells row b to)

baseline_list : (cells : List RowCell) (rows : ℕ) → (found : List (Option Length)) × AreRowBaselines cells rows found
baseline_list cells rows =
    let list = made (IsBaselineOf cells) None (is_baseline cells) 0 rows in
    (list.0, record { as_many = list.1; each = λ row less. (let same : 0 + row ≡ row = omega arith in subst (λ (j : ℕ). IsBaselineOf cells j (get_or list.0 row None)) same (list.2 row less)) })

pub some_table_rows_lem : SomeTableRows
some_table_rows_lem i =
    let cells = cell_list i in
    let heights = rows_have_heights_lem (rows_in i cells.0) in
    let tracks : Tracks = record { lengths = map height_as_size heights.0; spacing = (rows_in i cells.0).spacing } in
    let baselines = baseline_list (needs_of i cells.0) (length (grid_of i).rows) in
    let bottoms = baseline_list (bottoms_of i cells.0 tracks) (length (grid_of i).rows) in (
      record { cells = cells.0; tracks = tracks; baselines = baselines.0; bottoms = bottoms.0 },
      record {
        cells = cells.1;
        tracks = record { heights = heights.0; are_heights = heights.1; used = refl };
        baselines = baselines.1;
        bottoms = bottoms.1;
      },
    )
