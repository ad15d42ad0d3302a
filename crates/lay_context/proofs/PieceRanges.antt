-- A context whose rectangle and whose pieces are near is in range, and so are its pieces on the page.
use Rattle.std.proofs.Common.{ℕ, zero, suc, ℤ, ◌+ℤ◌, List, [], ◌∷◌, arith, Some, None, Option, IfSome, option_map, slice_get, subst, sym}
use Rattle.std.proofs.lemmas.Int.{ints}
use Rattle.std.proofs.lemmas.Option.{slice_get-map}
use Rattle.lay_units.specs.Units.{IsPosition, IsNear}
use Rattle.lay_units.specs.declared.length.Unit.{Unit as Length}
use Rattle.lay_units.specs.declared.records.Rect.{Rect}
use Rattle.lay_frag.specs.declared.frag.Frag.{Frag}
use Rattle.lay_frag.specs.Pieces.{Context, AreInRange, IsRectInRange, IsContextInRange, moved, pieces_at}
use Rattle.lay_placements.specs.NearPieces.{AreNearPieces, IsRectNear}

near_position : (v : ℤ) → IsNear v → IsPosition v
near_position v near = (omega (arith, ints, near.0), omega (arith, ints, near.1))

near_rect : (r : Rect) → IsRectNear r → IsRectInRange r
near_rect r near = record { x = near_position r.x.0 near.x; y = near_position r.y.0 near.y; w = near_position r.w.0 near.w; h = near_position r.h.0 near.h }

near_piece : (o : Option Frag) → IfSome o (λ f. IsRectNear f.rect) → IfSome o (λ f. IsRectInRange f.rect)
near_piece None near = near
near_piece (Some f) near = near_rect f.rect near

moved_piece : (right down shift : ℤ) (o : Option Frag) → IsNear right → IsNear down → IsNear shift → IfSome o (λ f. IsRectNear f.rect) → IfSome (option_map (moved right (down +ℤ shift)) o) (λ f. IsRectInRange f.rect)
moved_piece right down shift None across along further near = near
moved_piece right down shift (Some f) across along further near = record {
  x = (omega (arith, ints, across.0, near.x.0), omega (arith, ints, across.1, near.x.1));
  y = (omega (arith, ints, along.0, further.0, near.y.0), omega (arith, ints, along.1, further.1, near.y.1));
  w = near_position f.rect.w.0 near.w;
  h = near_position f.rect.h.0 near.h;
}

page_pieces_in_range : (r : Rect) (shift : Length) (fs : List Frag) → IsRectNear r → IsNear shift.0 → ((k : ℕ) → IfSome (slice_get fs k) (λ f. IsRectNear f.rect)) → AreInRange (pieces_at r shift fs)
page_pieces_in_range r shift [] near further pieces k lt = absurd (omega arith)
page_pieces_in_range r shift (own ∷ inner) near further pieces zero lt = near_rect r near
page_pieces_in_range r shift (own ∷ inner) near further pieces (suc k) lt =
    subst (λ o. IfSome o (λ f. IsRectInRange f.rect)) (sym (slice_get-map (moved r.x.0 (r.y.0 +ℤ shift.0)) inner k))
    (moved_piece r.x.0 r.y.0 shift.0 (slice_get inner k) near.x near.y further (pieces (suc k)))

-- past the end of a list there is no piece
each_near : (fs : List Frag) → AreNearPieces fs → (k : ℕ) → IfSome (slice_get fs k) (λ f. IsRectNear f.rect)
each_near [] near k = tt
each_near (f ∷ fs) near zero = near 0 (omega arith)
each_near (f ∷ fs) near (suc k) = each_near fs (λ j lt. near (suc j) (omega arith)) k

pub near_context_in_range : (c : Context) → IsRectNear c.rect → IsNear c.shift.0 → AreNearPieces c.pieces → IsContextInRange c
near_context_in_range c rect shift pieces = record {
  rect = near_rect c.rect rect;
  shift = near_position c.shift.0 shift;
  pieces = λ k lt. near_piece (slice_get c.pieces k) (pieces k lt);
  page = page_pieces_in_range c.rect c.shift c.pieces rect shift (each_near c.pieces pieces);
}
