-- The pieces of a formatting context in block flow are of nodes of the document, where its boxes are, and the pieces of the anonymous
-- ones inside it.
use Rattle.std.proofs.Common.{◌≡◌, ℕ, zero, suc, ◌<◌, ◌≤◌, ◌+ℤ◌, ℤ, Bool, true, false, if◌then◌else◌, List, [], ◌∷◌, ◌++◌, length, slice_index, refl, sym, subst, ◌∙◌, arith, Option, None, Some}
use Rattle.std.specs.List.{flat_map}
use Rattle.lay_units.specs.declared.length.Unit.{Unit as Length}
use Rattle.lay_units.specs.declared.records.Rect.{Rect}
use Rattle.lay_style.specs.declared.style_words.Float.{Float}
use Rattle.lay_style.specs.declared.style_words.Float.TheVariants as float
use Rattle.lay_doc.specs.Document.{Document}
use Rattle.lay_frag.specs.declared.frag.Frag.{Frag}
use Rattle.lay_frag.specs.declared.frag.FragKind.TheVariants as frag_kind
use Rattle.lay_frag.specs.Pieces.{moved, pieces_at, stretched}
use Rattle.lay_box_tree.specs.declared.box_role.Role.{Role}
use Rattle.lay_box_tree.specs.declared.box_role.Role.TheVariants as role
use Rattle.lay_box_tree.specs.declared.box_tree.BoxKind.{BoxKind}
use Rattle.lay_box_tree.specs.declared.box_tree.BoxKind.TheVariants as box_kind
use Rattle.lay_box_tree.specs.declared.box_tree.BoxNode.{BoxNode}
use Rattle.lay_box_tree.specs.declared.box_tree.Flow.{Flow}
use Rattle.lay_box_tree.specs.declared.box_tree.Flow.TheVariants as flow
use Rattle.lay_box_tree.specs.BoxColumns.{box_at, box_ids, no_box}
use Rattle.lay_box_tree.specs.ContextBoxes.{is_inner}
use Rattle.lay_box_tree.specs.Roles.{is_inline_level, role_at, role_in, role_of, role_of_kind}
use Rattle.lay_floats.specs.declared.requests.Side.{Side}
use Rattle.lay_flow.specs.Blocks.Lengths.{length_at}
use Rattle.lay_inlines.specs.declared.line_piece.LinePiece.{LinePiece}
use Rattle.lay_inlines.specs.declared.line_piece.LinePieceKind.{LinePieceKind}
use Rattle.lay_inlines.specs.declared.line_piece.LinePieceKind.TheVariants as on_line
use Rattle.lay_flow.specs.Blocks.Boxes.{empty_block}
use Rattle.lay_flow.specs.declared.blocks.flow_box.FlowBox.{FlowBox}
use Rattle.lay_flow.specs.declared.blocks.flow_box.FlowKind.{FlowKind}
use Rattle.lay_flow.specs.declared.blocks.flow_box.FlowKind.TheVariants.{Block as block}
use Rattle.lay_line_measures.specs.InlineBoxes.{inline_areas}
use Rattle.lay_line_items.specs.InlineSegments.{segments_in}
use Rattle.lay_flow_boxes.specs.ContextBlocks.{cleared_by, content_of_box, float_side, holds_lines, inner_box, is_anchor, is_inside_lines, kind_alone, kind_by, kind_in_lines, own_block}
use Rattle.lay_flow_boxes.specs.ContextBlocks as blocks
use Rattle.lay_flow_boxes.specs.PlaceInputs.{PlaceInput}
use Rattle.lay_sizes.specs.OwnBoxes.{own_box_at}
use Rattle.lay_placements.specs.InnerPieces.{inner_pieces_at}
use Rattle.lay_placements.specs.PieceParts.{numbered, with_pieces}
use Rattle.lay_placement.specs.ContextPieces.{painted_of_piece, piece_of_box, pieces_of_box, pieces_on_line, pieces_to, spliced_at}
use Rattle.lay_placement.specs.ContextPlacements.{IsPlacement}
use Rattle.lay_placement.specs.ContextPlaces.{ContextPlaces, HasPlaces, measures_of, rows_at}
use Rattle.lay_placement.specs.OnLines.{block_line_container, on_lines_of, pieces_on_lines}
use Rattle.lay_placements.specs.Placements.{Placement}
use Rattle.lay_hit.specs.Laws.{IsPieceOf}
use Rattle.lay_hit.proofs.PaintedLemmas.Each.{Each, each-append, each-at, each-flat_map, each-if, each-map, each-weaker}
use Rattle.lay_hit.proofs.PaintedLemmas.NamedItems.{IsBoxIn, IsTextIn, container-segments}
use Rattle.lay_hit.proofs.PaintedLemmas.NamedLines.{IsLinePiece, IsNamed, line-pieces}
use Rattle.lay_hit.proofs.PaintedLemmas.NodeBoxes.{IsBoxOf, is_text_box}

-- A box in the lines as a text is one.
text-by-kind : (inner : Bool) (x : BoxKind) → role_of_kind inner x ≡ role.Text → is_text_box x ≡ true
text-by-kind inner (box_kind.Text text) e = refl
text-by-kind true box_kind.Block e = absurd cc
text-by-kind false box_kind.Block e = absurd cc
text-by-kind inner (box_kind.Replaced w h true) e = absurd cc
text-by-kind inner (box_kind.Replaced w h false) e = absurd cc
text-by-kind inner _ e = absurd cc

text-by-flow : (f : Flow) (side : Float) (r : Role) → role_in f side r ≡ role.Text → r ≡ role.Text
text-by-flow flow.InFlow side r e = e
text-by-flow flow.Floating float.None r e = e
text-by-flow flow.Floating float.Left r e = absurd cc
text-by-flow flow.Floating float.Right r e = absurd cc
text-by-flow flow.Absolute side r e = e

text-box : (b : BoxNode) → role_of b ≡ role.Text → is_text_box b.kind ≡ true
text-box b e = text-by-kind b.inner b.kind (text-by-flow b.flow b.style.float (role_of_kind b.inner b.kind) e)

pub id-there : (boxes : List BoxNode) (k : ℕ) → k < length boxes → slice_index (box_ids boxes) k ≡ (box_at boxes k).node.0
id-there [] k lt = absurd (omega (arith, lt))
id-there (b ∷ bs) zero lt = refl
id-there (b ∷ bs) (suc k) lt = id-there bs k (omega (arith, lt))

module _ (d : Document) where
  abbrev pub Is : Frag → Type 0
  Is f = IsPieceOf d f

  -- Numbering, moving and stretching leave a piece with its node.
  pub number : (before : List Frag) (f : Frag) → Is f → Is (numbered before f)
  number before f h = record { at = h.at; within = h.within; node = h.node; text = h.text }

  pub move : (right down : ℤ) (f : Frag) → Is f → Is (moved right down f)
  move right down f h = record { at = h.at; within = h.within; node = h.node; text = h.text }

  pub stretch : (r : Rect) (f : Frag) → Is f → Is (stretched r f)
  stretch r f h = record { at = h.at; within = h.within; node = h.node; text = h.text }

  pub with-pieces : (before fs : List Frag) → Each Is before → Each Is fs → Each Is (with_pieces before fs)
  with-pieces before [] h g = h
  with-pieces before (f ∷ fs) h g = with-pieces (before ++ numbered before f ∷ []) fs (each-append Is before (numbered before f ∷ []) h (number before f g.0, tt)) g.1

  pub at-place : (r : Rect) (shift : Length) (fs : List Frag) → Each Is fs → Each Is (pieces_at r shift fs)
  at-place r shift [] h = tt
  at-place r shift (own ∷ inner) h = (
    stretch r own h.0,
    each-map Is (moved r.x.0 (r.y.0 +ℤ shift.0)) inner (each-weaker Is (λ f. Is (moved r.x.0 (r.y.0 +ℤ shift.0) f)) (move r.x.0 (r.y.0 +ℤ shift.0)) inner h.1),
  )

  -- the pieces of each inner formatting context that is anonymous
  abbrev pub AreInner : List (List Frag) → Type 0
  AreInner pieces = (k : ℕ) → Each Is (inner_pieces_at pieces k)

  -- The piece of a box.
  pub box-piece : (boxes : List BoxNode) (k : ℕ) (part : ℕ) (r : Rect) → Each (IsBoxOf d.nodes) boxes → k < length boxes
      → Is (record { kind = frag_kind.Box; node = record { 0 = slice_index (box_ids boxes) k }; part = part; rect = r })
  box-piece boxes k part r all lt =
      let b = each-at (IsBoxOf d.nodes) boxes all k no_box lt in
      record { at = b.at; within = b.within; node = b.node ∙ sym (id-there boxes k lt); text = λ t. absurd cc }

  line-piece : (boxes : List BoxNode) (k : ℕ) (part : ℕ) (r : Rect) → Each (IsBoxOf d.nodes) boxes → k < length boxes
      → Is (record { kind = frag_kind.Line; node = record { 0 = slice_index (box_ids boxes) k }; part = part; rect = r })
  line-piece boxes k part r all lt =
      let b = each-at (IsBoxOf d.nodes) boxes all k no_box lt in
      record { at = b.at; within = b.within; node = b.node ∙ sym (id-there boxes k lt); text = λ t. absurd cc }

  text-piece : (boxes : List BoxNode) (k : ℕ) (part : ℕ) (r : Rect) → Each (IsBoxOf d.nodes) boxes → IsTextIn boxes k
      → Is (record { kind = frag_kind.Text; node = record { 0 = slice_index (box_ids boxes) k }; part = part; rect = r })
  text-piece boxes k part r all is =
      let b = each-at (IsBoxOf d.nodes) boxes all k no_box is.within in
      record { at = b.at; within = b.within; node = b.node ∙ sym (id-there boxes k is.within); text = λ t. b.text (text-box (box_at boxes k) is.is) }

  module _ (i : PlaceInput) (p : ContextPlaces) (has : HasPlaces i p) (boxes : Each (IsBoxOf d.nodes) i.boxes) (inner : AreInner i.pieces) where
    abbrev IsOnLine : LinePiece → Type 0
    IsOnLine l = IsLinePiece (IsBoxIn i.boxes) (IsTextIn i.boxes) l

    -- What stands on the lines of a box: nothing, where it is no box with lines.
    abbrev AreOnLine : ℕ → FlowKind → Type 0
    AreOnLine k kind = Each IsOnLine (pieces_on_lines (measures_of i p) p.places k kind)

    floating : (k : ℕ) (side : Option Side) → AreOnLine k (kind_in_lines side (cleared_by i.boxes k) (own_box_at i.inner k))
    floating k None = tt
    floating k (Some side) = tt

    of-inner : (k : ℕ) (side : Option Side) → AreOnLine k (inner_box side (cleared_by i.boxes k) (own_box_at i.inner k) (record { 0 = length_at p.shape.lefts k }))
    of-inner k None = tt
    of-inner k (Some side) = tt

    alone : (k : ℕ) (is_an_anchor is_an_inner inline : Bool) → AreOnLine k (
        if is_an_anchor then block empty_block
        else (if is_an_inner then inner_box (float_side i.boxes k) (cleared_by i.boxes k) (own_box_at i.inner k) (record { 0 = length_at p.shape.lefts k })
        else (if inline then block empty_block else block (own_block i.boxes i.sizes i.own_height p.shape.lefts k))))
    alone k true is_an_inner inline = tt
    alone k false true inline = of-inner k (float_side i.boxes k)
    alone k false false true = tt
    alone k false false false = tt

    no-lines : (k : ℕ) (b : Bool) → AreOnLine k (
        if b then kind_in_lines (float_side i.boxes k) (cleared_by i.boxes k) (own_box_at i.inner k)
        else kind_alone i.boxes i.sizes i.inner i.own_height p.shape.lefts k)
    no-lines k true = floating k (float_side i.boxes k)
    no-lines k false = alone k (is_anchor (role_at i.boxes k)) (is_inner i.boxes k) (is_inline_level (role_at i.boxes k))

    of-lines : (k : ℕ) → k < length i.boxes → (b : Bool)
        → AreOnLine k (kind_by (measures_of i p) i.own_height p.shape.lefts k (if b then Some (content_of_box (measures_of i p) p.shape.lefts k) else None))
    of-lines k lt true =
        line-pieces (IsBoxIn i.boxes) (IsTextIn i.boxes)
        (block_line_container i.boxes k (own_block i.boxes i.sizes i.own_height p.shape.lefts k)) (content_of_box (measures_of i p) p.shape.lefts k) (rows_at p.places k)
        (inline_areas (measures_of i p)) (measures_of i p) (blocks.line_container (measures_of i p) p.shape.lefts k) (segments_in i.face i.boxes k) refl lt
        (container-segments i.boxes i.face k)
    of-lines k lt false = no-lines k (is_inside_lines (measures_of i p) p.shape.lefts k)

    on-lines : (k : ℕ) → k < length i.boxes → Each IsOnLine (on_lines_of i p k)
    on-lines k lt =
        subst (λ (b : FlowBox). AreOnLine k b.kind) (sym (has.is_shape.are_flow_boxes.each k lt)) (of-lines k lt (holds_lines (measures_of i p) p.shape.lefts k))

    -- Its pieces.
    splice : (k : ℕ) → Each Is (spliced_at i p k)
    splice k = at-place _ _ (inner_pieces_at i.pieces k) (inner k)

    paint : (l : LinePiece) (kind : LinePieceKind) → IsNamed (IsBoxIn i.boxes) (IsTextIn i.boxes) kind l.node → Each Is (painted_of_piece i p l kind)
    paint l on_line.Line h = (line-piece i.boxes l.node 0 _ boxes h, tt)
    paint l on_line.Inline h = (box-piece i.boxes l.node 0 _ boxes h, tt)
    paint l on_line.Text h = (text-piece i.boxes l.node 0 _ boxes h, tt)
    paint l on_line.Atomic h = splice l.node

    of-box : (k : ℕ) → k < length i.boxes → Each Is (pieces_of_box i p k)
    of-box k lt =
        let own : List Frag = piece_of_box i p k ∷ flat_map (pieces_on_line i p) (on_lines_of i p k) in
        each-if Is (is_inline_level (role_at i.boxes k)) [] (if is_inner i.boxes k then spliced_at i p k else own) tt
        (each-if Is (is_inner i.boxes k) (spliced_at i p k) own (splice k) (
          box-piece i.boxes k 0 _ boxes lt,
          each-flat_map Is (pieces_on_line i p) (on_lines_of i p k)
              (each-weaker IsOnLine (λ l. Each Is (pieces_on_line i p l)) (λ l h. paint l l.kind h) (on_lines_of i p k) (on-lines k lt)),
        ))

    up-to : (n : ℕ) → n ≤ length i.boxes → Each Is (pieces_to i p n)
    up-to zero le = tt
    up-to (suc k) le = with-pieces (pieces_to i p k) (pieces_of_box i p k) (up-to k (omega (arith, le))) (of-box k (omega (arith, le)))

  pub flow-pieces : (i : PlaceInput) (answer : Placement) → IsPlacement i answer → Each (IsBoxOf d.nodes) i.boxes → AreInner i.pieces → Each Is answer.pieces
  flow-pieces i answer h boxes inner =
      subst (λ (a : Placement). Each Is a.pieces) (sym h.answer_is) (up-to i h.places h.has_places boxes inner (length i.boxes) (omega arith))
