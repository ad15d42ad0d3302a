-- A list of pieces that grows, box by box and piece by piece on lines.
use Rattle.std.proofs.Common.{◌≡◌, ℕ, zero, suc, ◌+◌, ◌<◌, ◌≤◌, List, [], ◌∷◌, ◌++◌, length, take, refl, sym, ap, ◌∙◌, arith, slice_index_or, add-one}
use Rattle.std.specs.List.{flat_map}
use Rattle.std.proofs.lemmas.List.{append-nil, take_more}
use Rattle.std.proofs.lemmas.List.Concat.{flat_map-append}
use Rattle.lay_frag.specs.declared.frag.Frag.{Frag}
use Rattle.lay_inlines.specs.declared.line_piece.LinePiece.{LinePiece}
use Rattle.lay_sizes.specs.OwnBoxes.{own_box_at}
use Rattle.lay_flow_boxes.specs.PlaceInputs.{PlaceInput}
use Rattle.lay_placements.specs.InnerPieces.{inner_pieces_at}
use Rattle.lay_placements.specs.PieceParts.{with_pieces}
use Rattle.lay_placements.specs.Splicing.{spliced}
use Rattle.lay_placement.proofs.Cited.{more_pieces}
use Rattle.lay_placement.specs.BoxStandings.{standing_of_box}
use Rattle.lay_placement.specs.ContextPieces.{pieces_of_box, pieces_on_line, pieces_to, spliced_at}
use Rattle.lay_placement.specs.ContextPlaces.{ContextPlaces}

-- what is painted of one piece on lines more
pub at_line_piece : (i : PlaceInput) (p : ContextPlaces) (before : List Frag) (on_lines : List LinePiece) (k : ℕ) (d : LinePiece) (pieces more : List Frag) → k < length on_lines
    → pieces ≡ with_pieces before (flat_map (pieces_on_line i p) (take k on_lines)) → more ≡ with_pieces pieces (pieces_on_line i p (slice_index_or on_lines k d))
    → more ≡ with_pieces before (flat_map (pieces_on_line i p) (take (k + 1) on_lines))
at_line_piece i p before on_lines k d pieces more lt so_far is =
    let x : LinePiece = slice_index_or on_lines k d in
    let step : flat_map (pieces_on_line i p) (take (k + 1) on_lines) ≡ flat_map (pieces_on_line i p) (take k on_lines) ++ pieces_on_line i p x =
    ap (flat_map (pieces_on_line i p)) (take_more on_lines k d lt) ∙ flat_map-append (pieces_on_line i p) (take k on_lines) (x ∷ [])
    ∙ ap (λ (fs : List Frag). flat_map (pieces_on_line i p) (take k on_lines) ++ fs) (append-nil (pieces_on_line i p x)) in
    more_pieces before (flat_map (pieces_on_line i p) (take k on_lines)) (pieces_on_line i p x) pieces more so_far is ∙ ap (with_pieces before) (sym step)

-- the pieces of the first boxes with those of the next one
pub one_more_box : (i : PlaceInput) (p : ContextPlaces) (n : ℕ) (pieces more : List Frag) → pieces ≡ pieces_to i p n
    → more ≡ with_pieces pieces (pieces_of_box i p n) → more ≡ pieces_to i p (n + 1)
one_more_box i p n pieces more so_far is = is ∙ rw (add-one n, so_far) refl

none_read : (k : ℕ) → inner_pieces_at [] k ≡ []
none_read zero = refl
none_read (suc k) = refl

pub none_beyond : (all : List (List Frag)) (k : ℕ) → length all ≤ k → inner_pieces_at all k ≡ []
none_beyond [] k beyond = none_read k
none_beyond (x ∷ xs) zero beyond = absurd (omega arith)
none_beyond (x ∷ xs) (suc k) beyond = none_beyond xs k (omega arith)

-- past the last box there is nothing to splice
pub nothing_beyond : (i : PlaceInput) (p : ContextPlaces) (k : ℕ) (pieces : List Frag) → length i.pieces ≤ k → pieces ≡ with_pieces pieces (spliced_at i p k)
nothing_beyond i p k pieces beyond =
    sym (ap (λ (fs : List Frag). with_pieces pieces (spliced (own_box_at i.inner k).width (standing_of_box i p k) fs)) (none_beyond i.pieces k beyond))
