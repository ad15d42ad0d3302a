use Rattle.std.proofs.Common.{◌≡◌, [], ◌∷◌, false, sym, ◌∙◌}
use Rattle.lay_box_tree.specs.ContextBoxes.{is_inner}
use Rattle.lay_table_grid.specs.TableBoxes.{kind_at}
use Rattle.lay_table.specs.declared.pieces.Extent.TheVariants.{Own, Rows}
use Rattle.lay_table.specs.TablePieces.{extent_by_kind, table_pieces_of_box}
use Rattle.lay_table.proofs.PieceSteps.{row_piece, own_piece}
use Rattle.lay_table.proofs.pieces.push_box.Goals as goal

pub returns-in-Own : goal.returns-in-Own
returns-in-Own c =
    let inner : is_inner c.args.input.now.boxes c.args.k ≡ false = sym c.is_inner.ensures ∙ c.if-is_inner.false in
    let extent : extent_by_kind (kind_at c.args.input.now.boxes c.args.k) ≡ Own = sym c.extent_of.ensures ∙ c.in-Own.is in
    let stands = c.standing_at-standing.ensures.value in
    let wide = c.own_width.ensures in
    let piece = rw (stands, wide) at c.piece_of.ensures in
    let is : table_pieces_of_box c.args.input.now c.args.places.now c.args.k ≡ c.piece_of.result ∷ [] = rw piece (own_piece c.args.input.now c.args.places.now c.args.k inner extent) in
    rw is c.push.ensures.ok

pub returns-in_ok-width-in-Rows : goal.returns-in_ok-width-in-Rows
returns-in_ok-width-in-Rows c =
    let inner : is_inner c.args.input.now.boxes c.args.k ≡ false = sym c.is_inner.ensures ∙ c.if-is_inner.false in
    let extent : extent_by_kind (kind_at c.args.input.now.boxes c.args.k) ≡ Rows = sym c.extent_of.ensures ∙ c.in-Rows.is in
    let stands = c.standing_at-standing.ensures.value in
    let wide = c.in_ok-width-in-Rows.ensures {u = tt} in
    let piece = rw (stands, wide) at c.piece_of-in-Rows.ensures in
    let is : table_pieces_of_box c.args.input.now c.args.places.now c.args.k ≡ c.piece_of-in-Rows.result ∷ [] = rw piece (row_piece c.args.input.now c.args.places.now c.args.k inner extent) in
    rw is c.push-in-Rows.ensures.ok
