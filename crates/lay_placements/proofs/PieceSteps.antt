-- A list of pieces that grows, piece by piece.
use Rattle.std.proofs.Common.{◌≡◌, ℕ, zero, suc, ◌+◌, ◌<◌, List, [], ◌∷◌, ◌++◌, length, take, refl, sym, ap, ◌∙◌, arith, inl, inr, Some, slice_get, length-append}
use Rattle.std.proofs.lemmas.Bool.{cases_lt}
use Rattle.std.proofs.lemmas.Grind.{elements}
use Rattle.lay_frag.specs.declared.frag.Frag.{Frag}
use Rattle.lay_placements.specs.NearPieces.{AreNearPieces, IsRectNear}
use Rattle.lay_placements.specs.PieceParts.{numbered, with_pieces}

read_before : (fs : List Frag) (f : Frag) (k : ℕ) → k < length fs → slice_get (fs ++ f ∷ []) k ≡ slice_get fs k
read_before fs f k lt = grind (arith, elements)

read_last : (fs : List Frag) (f : Frag) → slice_get (fs ++ f ∷ []) (length fs) ≡ Some f
read_last fs f = grind (arith, elements)

pub near_and_one : (fs : List Frag) (f : Frag) → AreNearPieces fs → IsRectNear f.rect → AreNearPieces (fs ++ f ∷ [])
near_and_one fs f near own k lt = elim (cases_lt k (length fs)) [
  | inl low ↦ rw (read_before fs f k low) (near k low)
  | inr high ↦ (let q : k ≡ length fs = omega (arith, length-append fs (f ∷ [])) in rw (q, read_last fs f) own)
]

-- pieces behind others, with one more
with_more : (before fs : List Frag) (f : Frag) → with_pieces before (fs ++ f ∷ []) ≡ with_pieces before fs ++ numbered (with_pieces before fs) f ∷ []
with_more before [] f = refl
with_more before (x ∷ xs) f = with_more (before ++ numbered before x ∷ []) xs f

pub one_more_piece : (before fs : List Frag) (f : Frag) (pieces more : List Frag) → pieces ≡ with_pieces before fs → more ≡ pieces ++ numbered pieces f ∷ [] → more ≡ with_pieces before (fs ++ f ∷ [])
one_more_piece before fs f pieces more so_far is = is ∙ ap (λ (ps : List Frag). ps ++ numbered ps f ∷ []) so_far ∙ sym (with_more before fs f)

-- pieces behind pieces behind others
with_all : (before fs gs : List Frag) → with_pieces before (fs ++ gs) ≡ with_pieces (with_pieces before fs) gs
with_all before [] gs = refl
with_all before (x ∷ xs) gs = with_all (before ++ numbered before x ∷ []) xs gs

pub more_pieces : (before fs gs : List Frag) (pieces more : List Frag) → pieces ≡ with_pieces before fs → more ≡ with_pieces pieces gs → more ≡ with_pieces before (fs ++ gs)
more_pieces before fs gs pieces more so_far is = is ∙ ap (λ (ps : List Frag). with_pieces ps gs) so_far ∙ sym (with_all before fs gs)

-- the front of a list up to a member and with it
take_one_more : (fs : List Frag) (k : ℕ) (f : Frag) → slice_get fs k ≡ Some f → take (k + 1) fs ≡ take k fs ++ f ∷ []
take_one_more [] k f is = absurd cc
take_one_more (g ∷ gs) zero f is = let e : g ≡ f = cc in ap (λ x. x ∷ []) e
take_one_more (g ∷ gs) (suc k) f is = let e : suc k + 1 ≡ suc (k + 1) = omega arith in rw e (ap (λ xs. g ∷ xs) (take_one_more gs k f is))

-- the next of these pieces behind others
pub next_piece : (before fs : List Frag) (k : ℕ) (f : Frag) (pieces more : List Frag) → slice_get fs k ≡ Some f → pieces ≡ with_pieces before (take k fs) → more ≡ pieces ++ numbered pieces f ∷ []
    → more ≡ with_pieces before (take (k + 1) fs)
next_piece before fs k f pieces more is so_far next = one_more_piece before (take k fs) f pieces more so_far next ∙ ap (with_pieces before) (sym (take_one_more fs k f is))
