-- The pieces on the lines of a block container are of boxes of its formatting context, and those of texts are of texts, where the
-- segments of its content are.
use Rattle.std.proofs.Common.{◌≡◌, ℕ, ◌+◌, ◌-◌, ◌==◌, ◌&&◌, ℤ, Bool, true, false, List, [], ◌∷◌, length, take, drop}
use Rattle.lay_units.specs.declared.length.Unit.{Unit as Length}
use Rattle.lay_units.specs.declared.records.ClusterWidth.{ClusterWidth}
use Rattle.lay_space.specs.declared.item.Mode.{Mode}
use Rattle.lay_space.specs.declared.item.Item.{Item}
use Rattle.lay_space.specs.declared.item.Item.TheVariants as item
use Rattle.lay_space.specs.declared.segment.Segment.{Segment}
use Rattle.lay_space.specs.declared.tokens.ClusterKind.{ClusterKind}
use Rattle.lay_space.specs.declared.tokens.ClusterKind.TheVariants as cluster
use Rattle.lay_space.specs.Modes.{wraps}
use Rattle.lay_space.specs.Tokens.{kind_of, next_place}
use Rattle.lay_lines.specs.declared.content.content.InlineArea.{InlineArea}
use Rattle.lay_lines.specs.declared.content.content.Part.{Part}
use Rattle.lay_lines.specs.declared.content.content.Part.TheVariants.{Space, PreservedSpace, Tab, Linefeed, Text, Start, End, Atomic}
use Rattle.lay_lines.specs.declared.content.content.Stretch.{Stretch}
use Rattle.lay_lines.specs.declared.content.frame.Frame.{Frame}
use Rattle.lay_lines.specs.declared.content.pen.Pen.{Pen}
use Rattle.lay_lines.specs.Content.LineContents.{LineContentValue}
use Rattle.lay_lines.specs.Content.Pens.{over, start_of}
use Rattle.lay_lines.specs.declared.row.Ended.{Ended}
use Rattle.lay_lines.specs.Lines.{frame_of}
use Rattle.lay_lines.specs.Rows.{next_frame}
use Rattle.lay_inlines.specs.declared.line_piece.LinePiece.{LinePiece}
use Rattle.lay_inlines.specs.declared.line_piece.LinePieceKind.{LinePieceKind}
use Rattle.lay_inlines.specs.declared.line_piece.LinePieceKind.TheVariants as on_line
use Rattle.lay_inlines.specs.declared.lines.Container.{Container}
use Rattle.lay_inlines.specs.declared.spans.Span.{Span}
use Rattle.lay_inlines.specs.declared.strokes.Stroke.{Stroke}
use Rattle.lay_inlines.specs.LinePieces.{baseline_of, blank_of, content_end, line_pieces_of, line_spans, line_strokes, origin_of, piece_of, pieces_from, pieces_if_seen, pieces_of}
use Rattle.lay_inlines.specs.OpenBoxes.{open_after, open_after_part}
use Rattle.lay_inlines.specs.Raises.{RaisesValue, behind_strut, raise_of, raises_after, raises_of}
use Rattle.lay_inlines.specs.Spans.{edge_at, is_text, open_spans, ended_right_edges, span_of, spans_of, with_shown, with_text_span}
use Rattle.lay_inlines.specs.Strokes.{begin_of, end_of, has_content, parts_of, shown_of, stays, stroke_of, strokes}
use Rattle.lay_line_measures.specs.BoxMeasuresValue.{BoxMeasuresValue}
use Rattle.lay_line_measures.specs.declared.container.Container.{Container as LineContainer}
use Rattle.lay_line_measures.specs.Stretches.{parts_at, parts_of as parts_of_items, stretches_of}
use Rattle.lay_line_measures.specs.TextParts.{advance, cluster_parts, parts_between, text_parts}
use Rattle.lay_hit.proofs.PaintedLemmas.Each.{Each, each-append, each-drop, each-if, each-map, each-take}
use Rattle.lay_hit.proofs.PaintedLemmas.NamedItems.{IsItem, IsSegment}

module _ (IsBox IsText : ℕ → Type 0) where
  abbrev IsPart : Part → Type 0
  IsPart (Space w) = IsText w.text
  IsPart (PreservedSpace w) = IsText w.text
  IsPart (Tab t) = IsText t
  IsPart Linefeed = Unit {0}
  IsPart (Text w) = IsText w.text
  IsPart (Start b) = IsBox b.node
  IsPart (End b) = Unit {0}
  IsPart (Atomic b) = Unit {0}

  abbrev IsStretch : Stretch → Type 0
  IsStretch s = Each IsPart s.parts

  -- Texts are cut into parts.
  cluster-parts : (k : ℕ) (mode : Mode) (kind : ClusterKind) (lone : Bool) (width : Length) → IsText k → Each IsPart (cluster_parts (record { node = k; mode = mode }) kind lone width)
  cluster-parts k mode cluster.CollapsibleSpace lone width h = (h, tt)
  cluster-parts k mode cluster.PreservedSpace lone width h =
      each-if IsPart (wraps mode) (PreservedSpace (advance k width) ∷ []) (Text (advance k width) ∷ []) (h, tt) (h, tt)
  cluster-parts k mode cluster.Linefeed lone width h =
      each-if IsPart lone (Linefeed ∷ []) (Text (advance k width) ∷ Linefeed ∷ []) (tt, tt) (h, (tt, tt))
  cluster-parts k mode cluster.Tab lone width h = (h, tt)
  cluster-parts k mode cluster.ZeroWidthSpace lone width h = (h, tt)
  cluster-parts k mode cluster.Other lone width h = (h, tt)

  parts-of-text : (k : ℕ) (mode : Mode) (text : List ℕ) (ws : List ClusterWidth) → IsText k → Each IsPart (text_parts (record { node = k; mode = mode }) text ws)
  parts-of-text k mode text [] h = tt
  parts-of-text k mode text (w ∷ ws) h =
      let to : ℕ = next_place text ws in
      each-append IsPart (parts_between (record { node = k; mode = mode }) text w to) (text_parts (record { node = k; mode = mode }) text ws)
      (cluster-parts k mode (kind_of mode text w.place to) (to == w.place + 1) w.width h) (parts-of-text k mode text ws h)

  parts-of-item : (m : BoxMeasuresValue) (x : Item) → IsItem IsBox IsText x → Each IsPart (parts_at m x)
  parts-of-item m (item.Text k text mode widths) h = parts-of-text k mode text widths h
  parts-of-item m (item.Atomic k mode) h = (tt, tt)
  parts-of-item m (item.Start k takes) h = (h, tt)
  parts-of-item m (item.End k) h = (tt, tt)
  parts-of-item m (item.Float k) h = tt
  parts-of-item m (item.Anchor k) h = tt

  parts-of-items : (m : BoxMeasuresValue) (xs : List Item) → Each (IsItem IsBox IsText) xs → Each IsPart (parts_of_items m xs)
  parts-of-items m [] h = tt
  parts-of-items m (x ∷ xs) h = each-append IsPart (parts_at m x) (parts_of_items m xs) (parts-of-item m x h.0) (parts-of-items m xs h.1)

  stretches : (m : BoxMeasuresValue) (c : LineContainer) (begins : Bool) (ss : List Segment) → Each (IsSegment IsBox IsText) ss → Each IsStretch (stretches_of m c begins ss)
  stretches m c begins [] h = tt
  stretches m c begins (s ∷ ss) h = (parts-of-items m s.items h.0, stretches m c s.forced ss h.1)

  -- Lines.
  abbrev pub IsNamed : LinePieceKind → ℕ → Type 0
  IsNamed on_line.Line n = IsBox n
  IsNamed on_line.Inline n = IsBox n
  IsNamed on_line.Text n = IsText n
  IsNamed on_line.Atomic n = Unit {0}

  abbrev IsSpan : Span → Type 0
  IsSpan s = IsNamed s.kind s.node

  abbrev pub IsLinePiece : LinePiece → Type 0
  IsLinePiece p = IsNamed p.kind p.node

  text-span : (t : ℕ) (raise : Length) (from to : ℤ) (ss : List Span) → IsText t → Each IsSpan ss → Each IsSpan (with_text_span t raise from to ss)
  text-span t raise from to [] h g = (h, tt)
  text-span t raise from to (s ∷ ss) h g =
      each-if IsSpan (is_text s.kind && (s.node == t)) (span_of on_line.Text t raise from s.to.0 ∷ ss) (span_of on_line.Text t raise from to ∷ s ∷ ss) (h, g.1) (h, g)

  shown-spans : (areas : List InlineArea) (x : Part) (kept : Bool) (raise : Length) (from to edge : ℤ) (ss : List Span) → IsPart x → Each IsSpan ss
      → Each IsSpan (with_shown areas (shown_of x kept) raise from to edge ss)
  shown-spans areas (Space w) true raise from to edge ss h g = text-span w.text raise from to ss h g
  shown-spans areas (Space w) false raise from to edge ss h g = g
  shown-spans areas (PreservedSpace w) kept raise from to edge ss h g = text-span w.text raise from to ss h g
  shown-spans areas (Tab t) kept raise from to edge ss h g = text-span t raise from to ss h g
  shown-spans areas Linefeed kept raise from to edge ss h g = g
  shown-spans areas (Text w) kept raise from to edge ss h g = text-span w.text raise from to ss h g
  shown-spans areas (Start b) kept raise from to edge ss h g = (h, g)
  shown-spans areas (End b) kept raise from to edge ss h g = g
  shown-spans areas (Atomic b) kept raise from to edge ss h g = (tt, g)

  spans : (areas : List InlineArea) (end : ℤ) (fr : Frame) (p : Pen) (r : RaisesValue) (xs : List Part) → Each IsPart xs → Each IsSpan (spans_of areas end (strokes fr p r xs))
  spans areas end fr p r [] h = tt
  spans areas end fr p r (x ∷ xs) h =
      let s : Stroke = stroke_of x (raise_of r x) p (over fr p x) in
      let ss : List Stroke = strokes fr (over fr p x) (raises_after r x) xs in
      let followed : Bool = has_content ss in
      shown-spans areas x (stays s followed) s.raise (begin_of s followed) (end_of s followed) (edge_at (ended_right_edges areas ss) 0 end) (spans_of areas end ss) h.0
      (spans areas end fr (over fr p x) (raises_after r x) xs h.1)

  open-spans : (start end : ℤ) (edges raises : List Length) (ns : List ℕ) → Each IsBox ns → Each IsSpan (open_spans start end edges raises ns)
  open-spans start end edges raises [] h = tt
  open-spans start end edges raises (n ∷ ns) h = (h.0, open-spans start end edges (drop 1 raises) ns h.1)

  line : (c : Container) (areas : List InlineArea) (fr : Frame) (row : Ended) (ns : List ℕ) (xs : List Part) → IsBox c.node → Each IsBox ns → Each IsPart xs
      → Each IsLinePiece (line_pieces_of c areas fr row ns xs)
  line c areas fr row ns xs own open_boxes h =
      let end : ℤ = content_end fr row xs in
      let ss : List Stroke = line_strokes fr row ns xs in
      let opened : List Span = open_spans (start_of fr row.reach.start.0) end (ended_right_edges areas ss) (behind_strut row.shifts) ns in (
        own,
        each-map IsLinePiece (piece_of areas (origin_of c row end) (baseline_of row)) (line_spans areas fr row ns xs)
            (each-append IsSpan opened (spans_of areas end ss)
            (open-spans (start_of fr row.reach.start.0) end (ended_right_edges areas ss) (behind_strut row.shifts) ns open_boxes)
            (spans areas end fr (blank_of fr row) (raises_of row.shifts (length ns)) xs h)),
      )

  open-part : (ns : List ℕ) (x : Part) → Each IsBox ns → IsPart x → Each IsBox (open_after_part ns x)
  open-part ns (Space w) h g = h
  open-part ns (PreservedSpace w) h g = h
  open-part ns (Tab t) h g = h
  open-part ns Linefeed h g = h
  open-part ns (Text w) h g = h
  open-part ns (Start b) h g = each-append IsBox ns (b.node ∷ []) h (g, tt)
  open-part ns (End b) h g = each-take IsBox (length ns - 1) ns h
  open-part ns (Atomic b) h g = h

  open-parts : (ns : List ℕ) (xs : List Part) → Each IsBox ns → Each IsPart xs → Each IsBox (open_after ns xs)
  open-parts ns [] h g = h
  open-parts ns (x ∷ xs) h g = open-parts (open_after_part ns x) xs (open-part ns x h g.0) g.1

  stretch-parts : (ss : List Stretch) → Each IsStretch ss → Each IsPart (parts_of ss)
  stretch-parts [] h = tt
  stretch-parts (s ∷ ss) h = each-append IsPart s.parts (parts_of ss) h.0 (stretch-parts ss h.1)

  all-lines : (c : Container) (areas : List InlineArea) (fr : Frame) (ns : List ℕ) (ss : List Stretch) (rows : List Ended) → IsBox c.node → Each IsBox ns → Each IsStretch ss
      → Each IsLinePiece (pieces_from c areas fr ns ss rows)
  all-lines c areas fr ns ss [] own open_boxes h = tt
  all-lines c areas fr ns ss (row ∷ rows) own open_boxes h =
      let n : ℕ = row.reach.count in
      let xs : List Part = parts_of (take n ss) in
      let these = stretch-parts (take n ss) (each-take IsStretch n ss h) in
      each-append IsLinePiece (pieces_if_seen c areas fr row ns xs) (pieces_from c areas (next_frame fr row.seen) (open_after ns xs) (drop n ss) rows)
      (each-if IsLinePiece row.seen (line_pieces_of c areas fr row ns xs) [] (line c areas fr row ns xs own open_boxes these) tt)
      (all-lines c areas (next_frame fr row.seen) (open_after ns xs) (drop n ss) rows own (open-parts ns xs open_boxes these) (each-drop IsStretch n ss h))

  pub line-pieces : (c : Container) (content : LineContentValue) (rows : List Ended) (areas : List InlineArea) (m : BoxMeasuresValue) (l : LineContainer) (segments : List Segment)
      → content.stretches ≡ stretches_of m l true segments → IsBox c.node → Each (IsSegment IsBox IsText) segments → Each IsLinePiece (pieces_of c content rows areas)
  line-pieces c content rows areas m l segments is own h =
      all-lines c areas (frame_of content c.left c.right) [] content.stretches rows own tt (rw is (stretches m l true segments h))
