-- Where the boxes of a context stand: an atomic inline-level box where its line puts it (CSS 2.2, 9.2.2 and 9.4.2), and what isn't in
-- lines, where the flow puts it (9.4.1 and 9.5). The corner is that of the border box.
use Rattle.std.specs.Prelude.{ℕ, ◌==◌, ◌&&◌, Bool, true, false, List, reverse, Option}
use Rattle.std.specs.List.{find, list_any}
use Rattle.std.specs.Option.{option_map, unwrap_or}
use Rattle.lay_inlines.specs.declared.line_piece.LinePiece.{LinePiece}
use Rattle.lay_inlines.specs.declared.line_piece.LinePieceKind.{LinePieceKind}
use Rattle.lay_inlines.specs.declared.line_piece.LinePieceKind.TheVariants as on_line
use Rattle.lay_placements.specs.declared.corner.Corner.{Corner}

abbrev pub is_atomic_piece : LinePieceKind → Bool
is_atomic_piece on_line.Atomic = true
is_atomic_piece _ = false

abbrev pub is_atomic_of : ℕ → LinePiece → Bool
is_atomic_of k p = is_atomic_piece p.kind && p.node == k

abbrev pub has_atomic : List LinePiece → Bool
has_atomic pieces = list_any (λ p. is_atomic_piece p.kind) pieces

-- the piece of the atomic box at k among these, of which it has one at most; the last one if it had several
abbrev pub atomic_piece : List LinePiece → ℕ → Option LinePiece
atomic_piece pieces k = find (is_atomic_of k) (reverse pieces)

abbrev pub corner_of_piece : LinePiece → Corner
corner_of_piece p = record { x = p.rect.x; y = p.rect.y }

-- the corner of the box at k, where lines have these pieces and the flow puts it here
abbrev pub corner_among : List LinePiece → ℕ → Corner → Corner
corner_among pieces k in_flow = unwrap_or (option_map corner_of_piece (atomic_piece pieces k)) in_flow
