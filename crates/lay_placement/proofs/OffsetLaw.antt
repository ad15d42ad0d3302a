-- Offsets change corners alone.
use Rattle.std.proofs.Common.{◌≡◌, ℕ, zero, suc, ◌+◌, ℤ, ◌+ℤ◌, ◌==◌, ◌&&◌, Bool, true, false, List, [], ◌∷◌, ◌++◌, map, length, refl, sym, ap, ◌∙◌, if◌then◌else◌}
use Rattle.std.specs.List.{flat_map}
use Rattle.std.proofs.lemmas.List.{map-append}
use Rattle.lay_units.specs.declared.length.Unit.{Unit as Length}
use Rattle.lay_frag.specs.declared.frag.Frag.{Frag}
use Rattle.lay_frag.specs.declared.frag.FragKind.{FragKind}
use Rattle.lay_frag.specs.Pieces.{moved}
use Rattle.lay_box_tree.specs.Roles.{is_inline_level, role_at}
use Rattle.lay_inlines.specs.declared.line_piece.LinePiece.{LinePiece}
use Rattle.lay_inlines.specs.declared.line_piece.LinePieceKind.{LinePieceKind}
use Rattle.lay_inlines.specs.declared.line_piece.LinePieceKind.TheVariants as on_line
use Rattle.lay_sizes.specs.OwnBoxes.{own_box_at}
use Rattle.lay_box_tree.specs.ContextBoxes.{is_inner}
use Rattle.lay_flow_boxes.specs.PlaceInputs.{PlaceInput}
use Rattle.lay_abspos.specs.declared.relative.offset.Offset.{Offset}
use Rattle.lay_placements.specs.declared.corner.Corner.{Corner}
use Rattle.lay_placements.specs.declared.standing.Standing.{Standing}
use Rattle.lay_placements.specs.InnerPieces.{inner_pieces_at}
use Rattle.lay_placements.specs.PieceParts.{count_of, is_kind, numbered, with_pieces}
use Rattle.lay_placements.specs.Splicing.{spliced}
use Rattle.lay_placement.specs.BoxStandings.{standing_of_box, standings_to}
use Rattle.lay_placement.specs.ContextPieces.{painted_of_piece, piece_of_box, pieces_of_box, pieces_on_line, pieces_to, spliced_at}
use Rattle.lay_placement.specs.ContextPlaces.{ContextPlaces}
use Rattle.lay_placement.specs.Laws.{OffsetsChangeCornersAlone, moved_by, standing_without_corner, without_corner}
use Rattle.lay_placement.specs.OnLines.{on_lines_of}

count_without : (kind : FragKind) (id : ℕ) (fs : List Frag) → count_of kind id (map without_corner fs) ≡ count_of kind id fs
count_without kind id [] = refl
count_without kind id (f ∷ fs) = ap (λ n. (if is_kind f.kind kind && f.node.0 == id then 1 else 0) + n) (count_without kind id fs)

numbered_without : (before : List Frag) (f : Frag) → without_corner (numbered before f) ≡ numbered (map without_corner before) (without_corner f)
numbered_without before f =
    ap (λ (n : ℕ). let g : Frag = record { kind = f.kind; node = f.node; part = n; rect = (without_corner f).rect } in g) (sym (count_without f.kind f.node.0 before))

with_without : (before fs : List Frag) → map without_corner (with_pieces before fs) ≡ with_pieces (map without_corner before) (map without_corner fs)
with_without before [] = refl
with_without before (f ∷ fs) =
    with_without (before ++ numbered before f ∷ []) fs
    ∙ ap (λ (gs : List Frag). with_pieces gs (map without_corner fs))
    (map-append without_corner before (numbered before f ∷ []) ∙ ap (λ (g : Frag). map without_corner before ++ g ∷ []) (numbered_without before f))

moved_without : (a b x y : ℤ) (fs : List Frag) → map without_corner (map (moved a b) fs) ≡ map without_corner (map (moved x y) fs)
moved_without a b x y [] = refl
moved_without a b x y (f ∷ fs) = ap (λ (gs : List Frag). without_corner f ∷ gs) (moved_without a b x y fs)

spliced_without : (width height shift : Length) (c d : Corner) (fs : List Frag)
    → map without_corner (spliced width (record { corner = c; height = height; shift = shift }) fs) ≡ map without_corner (spliced width (record { corner = d; height = height; shift = shift }) fs)
spliced_without width height shift c d [] = refl
spliced_without width height shift c d (f ∷ fs) =
    ap (λ (gs : List Frag). without_corner (record { kind = f.kind; node = f.node; part = f.part; rect = record { x = c.x; y = c.y; w = width; h = height } }) ∷ gs)
    (moved_without c.x.0 (c.y.0 +ℤ shift.0) d.x.0 (d.y.0 +ℤ shift.0) fs)

module _ (i : PlaceInput) (p : ContextPlaces) (m n : List Offset) where
  at_box : (k : ℕ) → map without_corner (spliced_at i (moved_by m p) k) ≡ map without_corner (spliced_at i (moved_by n p) k)
  at_box k =
      spliced_without (own_box_at i.inner k).width (standing_of_box i (moved_by m p) k).height (standing_of_box i (moved_by m p) k).shift (standing_of_box i (moved_by m p) k).corner (standing_of_box i (moved_by n p) k).corner
      (inner_pieces_at i.pieces k)

  painted_without : (piece : LinePiece) (kind : LinePieceKind) → map without_corner (painted_of_piece i (moved_by m p) piece kind) ≡ map without_corner (painted_of_piece i (moved_by n p) piece kind)
  painted_without piece on_line.Line = refl
  painted_without piece on_line.Inline = refl
  painted_without piece on_line.Text = refl
  painted_without piece on_line.Atomic = at_box piece.node

  on_lines : (pieces : List LinePiece) → map without_corner (flat_map (pieces_on_line i (moved_by m p)) pieces) ≡ map without_corner (flat_map (pieces_on_line i (moved_by n p)) pieces)
  on_lines [] = refl
  on_lines (x ∷ xs) =
      map-append without_corner (pieces_on_line i (moved_by m p) x) (flat_map (pieces_on_line i (moved_by m p)) xs)
      ∙ ap (λ (fs : List Frag). fs ++ map without_corner (flat_map (pieces_on_line i (moved_by m p)) xs)) (painted_without x x.kind)
      ∙ ap (λ (fs : List Frag). map without_corner (pieces_on_line i (moved_by n p) x) ++ fs) (on_lines xs)
      ∙ sym (map-append without_corner (pieces_on_line i (moved_by n p) x) (flat_map (pieces_on_line i (moved_by n p)) xs))

  by_level : (inline inner : Bool) (k : ℕ)
      → map without_corner (if inline then [] else (if inner then spliced_at i (moved_by m p) k else piece_of_box i (moved_by m p) k ∷ flat_map (pieces_on_line i (moved_by m p)) (on_lines_of i p k)))
      ≡ map without_corner (if inline then [] else (if inner then spliced_at i (moved_by n p) k else piece_of_box i (moved_by n p) k ∷ flat_map (pieces_on_line i (moved_by n p)) (on_lines_of i p k)))
  by_level true inner k = refl
  by_level false true k = at_box k
  by_level false false k = ap (λ (fs : List Frag). without_corner (piece_of_box i (moved_by m p) k) ∷ fs) (on_lines (on_lines_of i p k))

  pieces_without : (l : ℕ) → map without_corner (pieces_to i (moved_by m p) l) ≡ map without_corner (pieces_to i (moved_by n p) l)
  pieces_without zero = refl
  pieces_without (suc k) =
      with_without (pieces_to i (moved_by m p) k) (pieces_of_box i (moved_by m p) k)
      ∙ ap (λ (fs : List Frag). with_pieces fs (map without_corner (pieces_of_box i (moved_by m p) k))) (pieces_without k)
      ∙ ap (with_pieces (map without_corner (pieces_to i (moved_by n p) k))) (by_level (is_inline_level (role_at i.boxes k)) (is_inner i.boxes k) k)
      ∙ sym (with_without (pieces_to i (moved_by n p) k) (pieces_of_box i (moved_by n p) k))

  standings_without : (l : ℕ) → map standing_without_corner (standings_to i (moved_by m p) l) ≡ map standing_without_corner (standings_to i (moved_by n p) l)
  standings_without zero = refl
  standings_without (suc k) =
      map-append standing_without_corner (standings_to i (moved_by m p) k) (standing_of_box i (moved_by m p) k ∷ [])
      ∙ ap (λ (ss : List Standing). ss ++ standing_without_corner (standing_of_box i (moved_by m p) k) ∷ []) (standings_without k)
      ∙ sym (map-append standing_without_corner (standings_to i (moved_by n p) k) (standing_of_box i (moved_by n p) k ∷ []))

pub offsets_lem : OffsetsChangeCornersAlone
offsets_lem i p m n = record { own = refl; pieces = pieces_without i p m n (length i.boxes); standings = standings_without i p m n (length i.boxes) }
