-- What the definitions come to. The content of a line ends where it did when the line was filled. A collapsible space
-- at the start or at the end of a line shows nothing, and moves nothing (CSS 2.2, 16.6.1). The pieces of a line that is seen
-- are of each of its atomic boxes once, in order, of the inline boxes that are open at its start and then of those that
-- start on it, and of each text of which a part stays on it, once. And each raise is the shift of that part of the line which has the
-- place of the inline box or the atomic box among the line's parts (10.8.1).
use Rattle.std.specs.Prelude.{ℕ, ◌≡◌, ◌<◌, List, [], ◌∷◌, ◌++◌, length, take, drop, map}
use Rattle.lay_units.specs.declared.length.Unit.{Unit}
use Rattle.lay_lines.specs.declared.content.content.Advance.{Advance}
use Rattle.lay_lines.specs.declared.content.content.InlineArea.{InlineArea}
use Rattle.lay_lines.specs.declared.content.content.InlineStart.{InlineStart}
use Rattle.lay_lines.specs.declared.content.content.Part.{Part}
use Rattle.lay_lines.specs.declared.content.content.Part.TheVariants.{Space}
use Rattle.lay_lines.specs.declared.content.frame.Extent.{Extent}
use Rattle.lay_lines.specs.declared.content.frame.Frame.{Frame}
use Rattle.lay_lines.specs.Content.Extents.{LineParts, opened_all, read_all, reading_of, strut_alone}
use Rattle.lay_lines.specs.declared.row.Ended.{Ended}
use Rattle.lay_lines.specs.Rows.{Position, Row, IsFilled, ended_of}
use Rattle.lay_inlines.specs.declared.lines.Container.{Container}
use Rattle.lay_inlines.specs.AtomicBoxes.{atomic_boxes, atomic_pieces}
use Rattle.lay_inlines.specs.LinePieces.{content_end, line_pieces_of}
use Rattle.lay_inlines.specs.NamedPieces.{EachOnce, TextsAreWhole, is_among, is_inline, pieces_of_kind, started_boxes, texts_on_line}
use Rattle.lay_inlines.specs.Raises.{RaisesValue, raise_at, raises_after_all, raises_of}
use Rattle.lay_inlines.specs.Spans.{is_text}
use Rattle.lay_inlines.specs.Strokes.{parts_of}

abbrev pub ContentEndsWithItsPen : Type 0
ContentEndsWithItsPen =
    (p : Position) (r : Row) → IsFilled p r → content_end p.frame (ended_of r) (parts_of (take r.reach.count p.rest)) ≡ r.reach.pen.solid.0

abbrev pub SpacesAtTheStartAreRemoved : Type 0
SpacesAtTheStartAreRemoved =
    (c : Container) (areas : List InlineArea) (fr : Frame) (row : Ended) (ns : List ℕ) (w : Advance) (xs : List Part)
    → line_pieces_of c areas fr row ns (Space w ∷ xs) ≡ line_pieces_of c areas fr row ns xs

abbrev pub SpacesAtTheEndAreRemoved : Type 0
SpacesAtTheEndAreRemoved =
    (c : Container) (areas : List InlineArea) (fr : Frame) (row : Ended) (ns : List ℕ) (xs : List Part) (w : Advance)
    → line_pieces_of c areas fr row ns (xs ++ Space w ∷ []) ≡ line_pieces_of c areas fr row ns xs

abbrev pub EachAtomicBoxHasOnePiece : Type 0
EachAtomicBoxHasOnePiece =
    (c : Container) (areas : List InlineArea) (fr : Frame) (row : Ended) (ns : List ℕ) (xs : List Part)
    → atomic_pieces (line_pieces_of c areas fr row ns xs) ≡ atomic_boxes xs

abbrev pub EachInlineBoxHasOnePiece : Type 0
EachInlineBoxHasOnePiece =
    (c : Container) (areas : List InlineArea) (fr : Frame) (row : Ended) (ns : List ℕ) (xs : List Part)
    → pieces_of_kind is_inline (line_pieces_of c areas fr row ns xs) ≡ ns ++ started_boxes xs

abbrev pub EachTextOnALineHasAPiece : Type 0
EachTextOnALineHasAPiece =
    (c : Container) (areas : List InlineArea) (fr : Frame) (row : Ended) (ns : List ℕ) (xs : List Part) (t : ℕ)
    → is_among t (pieces_of_kind is_text (line_pieces_of c areas fr row ns xs)) ≡ is_among t (texts_on_line xs)

abbrev pub NoTextHasTwoPieces : Type 0
NoTextHasTwoPieces =
    (c : Container) (areas : List InlineArea) (fr : Frame) (row : Ended) (ns : List ℕ) (xs : List Part) → TextsAreWhole xs
    → EachOnce (pieces_of_kind is_text (line_pieces_of c areas fr row ns xs))

-- the raises of the inline boxes that are open, and of what is to come, from their places among the parts of a line
abbrev pub raises_in : List Unit → LineParts → RaisesValue
raises_in shifts l = record { open_boxes = map (raise_at shifts) l.places; coming = drop (length l.parts) shifts }

abbrev pub RaisesAreShiftsOfParts : Type 0
RaisesAreShiftsOfParts =
    (shifts : List Unit) (strut : Extent) (bs : List InlineStart) (xs : List Part) → length bs < length shifts
    → raises_after_all (raises_of shifts (length bs)) xs
    ≡ raises_in shifts (read_all (reading_of bs (opened_all (strut_alone strut) bs)) xs).line
