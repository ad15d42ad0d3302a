-- The atomic boxes of a line by number, in order: those among its content, and those that its pieces are of (CSS 2.2, 9.2.2).
use Rattle.std.specs.Prelude.{ℕ, Bool, true, false, if◌then◌else◌, List, [], ◌∷◌, ◌++◌}
use Rattle.lay_lines.specs.declared.content.content.Part.{Part}
use Rattle.lay_lines.specs.declared.content.content.Part.TheVariants.{Space, PreservedSpace, Tab, Linefeed, Text, Start, End, Atomic}
use Rattle.lay_inlines.specs.declared.line_piece.LinePiece.{LinePiece}
use Rattle.lay_inlines.specs.declared.line_piece.LinePieceKind.{LinePieceKind}
use Rattle.lay_inlines.specs.declared.line_piece.LinePieceKind.TheVariants as on_line

abbrev pub atomic_box : Part → List ℕ
atomic_box (Space w) = []
atomic_box (PreservedSpace w) = []
atomic_box (Tab t) = []
atomic_box Linefeed = []
atomic_box (Text w) = []
atomic_box (Start b) = []
atomic_box (End b) = []
atomic_box (Atomic b) = b.node ∷ []

abbrev pub atomic_boxes : List Part → List ℕ
atomic_boxes [] = []
atomic_boxes (x ∷ xs) = atomic_box x ++ atomic_boxes xs

abbrev pub is_atomic : LinePieceKind → Bool
is_atomic on_line.Line = false
is_atomic on_line.Inline = false
is_atomic on_line.Text = false
is_atomic on_line.Atomic = true

abbrev pub atomic_pieces : List LinePiece → List ℕ
atomic_pieces [] = []
atomic_pieces (p ∷ ps) = if is_atomic p.kind then p.node ∷ atomic_pieces ps else atomic_pieces ps
