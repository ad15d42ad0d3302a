-- The pieces of one box of a table.
use Rattle.std.proofs.Common.{◌≡◌, ℕ, false, [], ◌∷◌, refl}
use Rattle.lay_box_tree.specs.ContextBoxes.{is_inner}
use Rattle.lay_sizes.specs.BoxSizes.{border_width}
use Rattle.lay_sizes.specs.SizeColumns.{sizes_at}
use Rattle.lay_table_grid.specs.TableBoxes.{kind_at}
use Rattle.lay_table.specs.TableInputs.{TableInput}
use Rattle.lay_table.specs.declared.pieces.Extent.TheVariants.{Own, Rows}
use Rattle.lay_table.specs.TablePieces.{extent_by_kind, piece_of, table_pieces_of_box, rows_width}
use Rattle.lay_table.specs.TableStandings.{TablePlaces, standing_of}

pub own_piece : (i : TableInput) (p : TablePlaces) (k : ℕ) → is_inner i.boxes k ≡ false → extent_by_kind (kind_at i.boxes k) ≡ Own
    → table_pieces_of_box i p k ≡ piece_of i.boxes (standing_of i p k) k (record { 0 = border_width (sizes_at i.sizes k) }) ∷ []
own_piece i p k inner extent = rw (inner, extent) refl

pub row_piece : (i : TableInput) (p : TablePlaces) (k : ℕ) → is_inner i.boxes k ≡ false → extent_by_kind (kind_at i.boxes k) ≡ Rows
    → table_pieces_of_box i p k ≡ piece_of i.boxes (standing_of i p k) k (rows_width i p.columns) ∷ []
row_piece i p k inner extent = rw (inner, extent) refl
