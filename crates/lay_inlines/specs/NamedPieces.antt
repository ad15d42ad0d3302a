-- The inline boxes and the texts of a line by number: those of its content, and those that its pieces are of (CSS 2.2, 9.4.2
-- and 16.6.1).
use Rattle.std.specs.Prelude.{ℕ, ◌≡◌, ◌<◌, ◌==◌, ◌⊎◌, ⊤, Bool, true, false, ◌||◌, ◌&&◌}
use Rattle.std.specs.Prelude.{if◌then◌else◌, IsFalse, List, [], ◌∷◌, ◌++◌, slice_get, Some}
use Rattle.std.specs.List.{flat_map, list_any}
use Rattle.lay_lines.specs.declared.content.content.Part.{Part}
use Rattle.lay_lines.specs.declared.content.content.Part.TheVariants.{Space, PreservedSpace, Tab, Linefeed, Text, Start, End, Atomic}
use Rattle.lay_inlines.specs.declared.line_piece.LinePiece.{LinePiece}
use Rattle.lay_inlines.specs.declared.line_piece.LinePieceKind.{LinePieceKind}
use Rattle.lay_inlines.specs.declared.line_piece.LinePieceKind.TheVariants as on_line
use Rattle.lay_inlines.specs.Strokes.{is_content}

abbrev pub started_box : Part → List ℕ
started_box (Space w) = []
started_box (PreservedSpace w) = []
started_box (Tab t) = []
started_box Linefeed = []
started_box (Text w) = []
started_box (Start b) = b.node ∷ []
started_box (End b) = []
started_box (Atomic b) = []

-- the inline boxes that start among these parts
abbrev pub started_boxes : List Part → List ℕ
started_boxes xs = flat_map started_box xs

-- the text that a part is of; of a linefeed nothing is shown
abbrev pub text_of : Part → List ℕ
text_of (Space w) = w.text ∷ []
text_of (PreservedSpace w) = w.text ∷ []
text_of (Tab t) = t ∷ []
text_of Linefeed = []
text_of (Text w) = w.text ∷ []
text_of (Start b) = []
text_of (End b) = []
text_of (Atomic b) = []

-- the texts of these parts that stay: of all but the collapsible spaces without content before them or behind them, where
-- `before` says whether there is some before these parts
abbrev pub staying_texts : Bool → List Part → List ℕ
staying_texts before [] = []
staying_texts before (x ∷ xs) =
    (if is_content x || (before && list_any is_content xs) then text_of x else []) ++ staying_texts (before || is_content x) xs

abbrev pub texts_on_line : List Part → List ℕ
texts_on_line xs = staying_texts false xs

-- what stands between two parts of a text is of that text too
abbrev pub TextsAreWhole : List Part → Type 0
TextsAreWhole xs =
    (i j k : ℕ) (x y z : Part) (t : ℕ) → i < j → j < k → slice_get xs i ≡ Some x → slice_get xs j ≡ Some y → slice_get xs k ≡ Some z
    → text_of x ≡ t ∷ [] → text_of z ≡ t ∷ [] → (text_of y ≡ t ∷ []) ⊎ (y ≡ Linefeed)

abbrev pub is_inline : LinePieceKind → Bool
is_inline on_line.Line = false
is_inline on_line.Inline = true
is_inline on_line.Text = false
is_inline on_line.Atomic = false

-- what the pieces of some kind are of
abbrev pub pieces_of_kind : (LinePieceKind → Bool) → List LinePiece → List ℕ
pieces_of_kind is_kind [] = []
pieces_of_kind is_kind (p ∷ ps) = if is_kind p.kind then p.node ∷ pieces_of_kind is_kind ps else pieces_of_kind is_kind ps

abbrev pub is_among : ℕ → List ℕ → Bool
is_among n ns = list_any (λ (m : ℕ). n == m) ns

-- no number is there twice
abbrev pub EachOnce : List ℕ → Type 0
EachOnce [] = ⊤
EachOnce (n ∷ ns) = IsFalse (is_among n ns) × EachOnce ns
