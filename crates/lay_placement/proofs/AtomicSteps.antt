-- The corners of boxes, with more and more pieces on lines.
use Rattle.std.proofs.Common.{◌≡◌, ◌≢◌, ℕ, ◌<◌, ◌==◌, ◌&&◌, nat_lt, Bool, true, false, cond, List, [], ◌∷◌, ◌++◌, length, reverse, take, ◌+◌, slice_index_or, slice_set, Option, Some, None, refl, sym, ap, ◌∙◌, arith, inl, inr}
use Rattle.std.specs.List.{find}
use Rattle.std.specs.Option.{option_map, option_or, unwrap_or}
use Rattle.std.proofs.lemmas.Bool.{cases_eq, eq-eqb, ne_eqb, and_right, or_parts}
use Rattle.std.proofs.lemmas.Bool.Decides.{nat_tests}
use Rattle.std.proofs.lemmas.Grind.{elements}
use Rattle.std.proofs.lemmas.List.{reverse-append, take_more}
use Rattle.std.proofs.lemmas.List.Folds.{find-append, list_any_more}
use Rattle.lay_inlines.specs.declared.line_piece.LinePiece.{LinePiece}
use Rattle.lay_placements.specs.declared.corner.Corner.{Corner}
use Rattle.lay_placement.specs.AtomicCorners.{atomic_piece, corner_among, corner_of_piece, has_atomic, is_atomic_piece, is_atomic_of}
use Rattle.lay_placements.specs.Corners.{AreNearCorners, IsCornerNear, corner_at}

piece_more : (xs ys : List LinePiece) (k : ℕ) → atomic_piece (xs ++ ys) k ≡ option_or (atomic_piece ys k) (atomic_piece xs k)
piece_more xs ys k = ap (find (is_atomic_of k)) (reverse-append xs ys) ∙ find-append (is_atomic_of k) (reverse ys) (reverse xs)

by_piece : (a b : Option LinePiece) (c : Corner) → unwrap_or (option_map corner_of_piece (option_or a b)) c ≡ unwrap_or (option_map corner_of_piece a) (unwrap_or (option_map corner_of_piece b) c)
by_piece None b c = refl
by_piece (Some p) b c = refl

-- pieces behind others
pub among_more : (xs ys : List LinePiece) (k : ℕ) (c : Corner) → corner_among (xs ++ ys) k c ≡ corner_among ys k (corner_among xs k c)
among_more xs ys k c = ap (λ (p : Option LinePiece). unwrap_or (option_map corner_of_piece p) c) (piece_more xs ys k) ∙ by_piece (atomic_piece ys k) (atomic_piece xs k) c

-- one piece more
pub with_piece : (pieces : List LinePiece) (p : LinePiece) (k : ℕ) (c here next : Corner) → here ≡ corner_among pieces k c → next ≡ corner_among (p ∷ []) k here → next ≡ corner_among (pieces ++ p ∷ []) k c
with_piece pieces p k c here next so_far is = is ∙ ap (corner_among (p ∷ []) k) so_far ∙ sym (among_more pieces (p ∷ []) k c)

pub at_piece : (pieces : List LinePiece) (i : ℕ) (d : LinePiece) (k : ℕ) (c here next : Corner) → i < length pieces → here ≡ corner_among (take i pieces) k c → next ≡ corner_among (slice_index_or pieces i d ∷ []) k here
    → next ≡ corner_among (take (i + 1) pieces) k c
at_piece pieces i d k c here next lt so_far is =
    with_piece (take i pieces) (slice_index_or pieces i d) k c here next so_far is ∙ ap (λ (ps : List LinePiece). corner_among ps k c) (sym (take_more pieces i d lt))

other_piece : (p : LinePiece) (k : ℕ) (c : Corner) → is_atomic_of k p ≡ false → c ≡ corner_among (p ∷ []) k c
other_piece p k c is = sym (ap (λ b. unwrap_or (option_map corner_of_piece (cond b (Some p) None)) c) is)

this_piece : (p : LinePiece) (k : ℕ) (c : Corner) → is_atomic_of k p ≡ true → corner_of_piece p ≡ corner_among (p ∷ []) k c
this_piece p k c is = sym (ap (λ b. unwrap_or (option_map corner_of_piece (cond b (Some p) None)) c) is)

set_here : (cs : List Corner) (i : ℕ) (c : Corner) → i < length cs → corner_at (slice_set cs i c) i ≡ c
set_here cs i c lt = grind (arith, elements, lt)

set_other : (cs : List Corner) (i k : ℕ) (c : Corner) → i ≢ k → corner_at (slice_set cs i c) k ≡ corner_at cs k
set_other cs i k c other = grind (arith, elements, other)

pub set_count : (cs : List Corner) (i : ℕ) (c : Corner) → length (slice_set cs i c) ≡ length cs
set_count cs i c = grind (arith, elements)

-- an atomic box is put where its piece stands
pub set_is : (cs : List Corner) (p : LinePiece) → is_atomic_piece p.kind ≡ true → p.node < length cs → (k : ℕ) → k < length cs
    → corner_at (slice_set cs p.node (corner_of_piece p)) k ≡ corner_among (p ∷ []) k (corner_at cs k)
set_is cs p atomic within k lt = elim (cases_eq p.node k) [
  | inl same ↦ (let named : (p.node == k) ≡ true = eq-eqb p.node k same in
      let is : is_atomic_of k p ≡ true = rw (atomic, named) refl in
      rw (← same) (set_here cs p.node (corner_of_piece p) within) ∙ this_piece p k (corner_at cs k) is)
  | inr other ↦ (let is : is_atomic_of k p ≡ false = and_right (is_atomic_piece p.kind) (p.node == k) (ne_eqb p.node k other) in
      set_other cs p.node k (corner_of_piece p) other ∙ other_piece p k (corner_at cs k) is)
]

beyond : (n m k : ℕ) → nat_lt n m ≡ false → k < m → n ≢ k
beyond n m k is lt same = grind (arith, nat_tests, is, lt, same)

-- no other piece moves a box
pub kept_is : (cs : List Corner) (p : LinePiece) → (is_atomic_piece p.kind && nat_lt p.node (length cs)) ≡ false → (k : ℕ) → k < length cs → corner_at cs k ≡ corner_among (p ∷ []) k (corner_at cs k)
kept_is cs p is k lt = other_piece p k (corner_at cs k) (by (is_atomic_piece p.kind) is)
  where
    by : (atomic : Bool) → (atomic && nat_lt p.node (length cs)) ≡ false → (atomic && p.node == k) ≡ false
    by true none = ne_eqb p.node k (beyond p.node (length cs) k none lt)
    by false none = refl

pub set_near : (cs : List Corner) (i : ℕ) (c : Corner) → AreNearCorners cs → IsCornerNear c → i < length cs → AreNearCorners (slice_set cs i c)
set_near cs i c near is within k lt = elim (cases_eq i k) [
  | inl same ↦ (let put = set_here cs i c within in rw (← same) (rw put is))
  | inr other ↦ (let kept = set_other cs i k c other in let counted = set_count cs i c in rw kept (near k (omega (arith, lt, counted))))
]

-- no piece moves a box where none is that of an atomic box
pub none_among : (pieces : List LinePiece) (k : ℕ) (c : Corner) → has_atomic pieces ≡ false → corner_among pieces k c ≡ c
none_among [] k c none = refl
none_among (p ∷ ps) k c none =
    let first : is_atomic_piece p.kind ≡ false = (or_parts (is_atomic_piece p.kind) (has_atomic ps) none).0 in
    let is : is_atomic_of k p ≡ false = rw first refl in
    among_more (p ∷ []) ps k c ∙ ap (corner_among ps k) (sym (other_piece p k c is)) ∙ none_among ps k c (or_parts (is_atomic_piece p.kind) (has_atomic ps) none).1

pub none_more : (pieces : List LinePiece) (i : ℕ) (d : LinePiece) → i < length pieces → has_atomic (take i pieces) ≡ false → is_atomic_piece (slice_index_or pieces i d).kind ≡ false → has_atomic (take (i + 1) pieces) ≡ false
none_more pieces i d lt none here = rw (list_any_more (λ p. is_atomic_piece p.kind) pieces i d lt, none) here
