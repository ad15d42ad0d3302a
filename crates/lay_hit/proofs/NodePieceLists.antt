-- Of each node a piece or none, by numbers.
use Rattle.std.proofs.Common.{◌≡◌, ◌∙◌, ℕ, zero, suc, ◌+◌, ◌-◌, ◌<◌, ◌≤◌, List, [], ◌∷◌, ◌++◌, length, replicate, slice_get, slice_index, slice_index_or, set, Option, Some, None, refl, sym, ap, arith, inl, inr}
use Rattle.std.proofs.lemmas.Bool.{cases_eq}
use Rattle.std.proofs.lemmas.List.{map-set, get_or-map, get_or-replicate, length-replicate, length-append, length-set, get_or-set_same, get_or-set_other}
use Rattle.lay_hit.proofs.Cited.{slice_get-append_left, slice_get-append_right}
use Rattle.lay_frag.specs.declared.frag.Frag.{Frag}
use Rattle.lay_hit.specs.NodePieces.{AreNumbers, node_pieces, piece_of}

-- no node has one at first
pub nothing_yet : (n : ℕ) → node_pieces [] (replicate n 0) ≡ replicate n None
nothing_yet zero = refl
nothing_yet (suc n) = ap (λ (ps : List (Option Frag)). None ∷ ps) (nothing_yet n)

pub zeros : (n : ℕ) → AreNumbers [] (replicate n 0)
zeros n k within = let long = length-replicate {A = ℕ} n 0 in let e = get_or-replicate {A = ℕ} n k 0 0 (omega (arith, within, long)) in omega (arith, e)

-- what a node's number says
pub piece_at_number : (pieces : List Frag) (numbers : List ℕ) (k : ℕ) → k < length numbers → slice_index_or (node_pieces pieces numbers) k None ≡ piece_of pieces (slice_index numbers k)
piece_at_number pieces numbers k within = get_or-map (piece_of pieces) numbers k 0 None within

-- with one piece more, numbers say what they said
same_piece : (pieces : List Frag) (f : Frag) (n : ℕ) → n ≤ length pieces → piece_of (pieces ++ f ∷ []) n ≡ piece_of pieces n
same_piece pieces f zero low = refl
same_piece pieces f (suc n) low = slice_get-append_left pieces (f ∷ []) n (omega (arith, low))

same_pieces : (pieces : List Frag) (f : Frag) (numbers : List ℕ) → AreNumbers pieces numbers → node_pieces (pieces ++ f ∷ []) numbers ≡ node_pieces pieces numbers
same_pieces pieces f [] are = refl
same_pieces pieces f (n ∷ ns) are =
    ap (λ (o : Option Frag). o ∷ node_pieces (pieces ++ f ∷ []) ns) (same_piece pieces f n (are 0 (omega arith)))
    ∙ ap (λ (ps : List (Option Frag)). piece_of pieces n ∷ ps) (same_pieces pieces f ns (λ k within. are (suc k) (omega (arith, within))))

-- and the next number is that of the new one
new_piece : (pieces : List Frag) (f : Frag) (m : ℕ) → m ≡ length (pieces ++ f ∷ []) → piece_of (pieces ++ f ∷ []) m ≡ Some f
new_piece pieces f m is =
    let long = length-append pieces (f ∷ []) in
    let next : m ≡ suc (length pieces) = omega (arith, is, long) in
    let first : length pieces - length pieces ≡ 0 = omega arith in
    ap (piece_of (pieces ++ f ∷ [])) next ∙ slice_get-append_right pieces (f ∷ []) (length pieces) (omega arith) ∙ ap (slice_get (f ∷ [])) first

pub set_piece : (pieces : List Frag) (f : Frag) (numbers : List ℕ) (k m : ℕ) → AreNumbers pieces numbers → m ≡ length (pieces ++ f ∷ [])
    → node_pieces (pieces ++ f ∷ []) (set numbers k m) ≡ set (node_pieces pieces numbers) k (Some f)
set_piece pieces f numbers k m are is =
    map-set (piece_of (pieces ++ f ∷ [])) numbers k m
    ∙ ap (λ (ps : List (Option Frag)). set ps k (piece_of (pieces ++ f ∷ []) m)) (same_pieces pieces f numbers are)
    ∙ ap (λ (o : Option Frag). set (node_pieces pieces numbers) k o) (new_piece pieces f m is)

pub still_numbers : (pieces : List Frag) (f : Frag) (numbers : List ℕ) (k m : ℕ) → AreNumbers pieces numbers → m ≡ length (pieces ++ f ∷ []) → AreNumbers (pieces ++ f ∷ []) (set numbers k m)
still_numbers pieces f numbers k m are is j within =
    let long = length-set numbers k m in
    let more = length-append pieces (f ∷ []) in
    elim (cases_eq j k) [
      | inl same ↦ (let e = ap (slice_index (set numbers k m)) same ∙ get_or-set_same numbers k m 0 (omega (arith, within, long, same)) in omega (arith, e, is))
      | inr other ↦ (let e = get_or-set_other numbers k j m 0 other in let low = are j (omega (arith, within, long)) in omega (arith, e, low, more))
    ]

-- a number that isn't 0 is of a piece
pub has_piece : (pieces : List Frag) (n : ℕ) → n ≤ length pieces → 0 < n → (f : Frag) → slice_get pieces (n - 1) ≡ Some f → piece_of pieces n ≡ Some f
has_piece pieces zero low some f is = absurd (omega (arith, some))
has_piece pieces (suc n) low some f is = let e : suc n - 1 ≡ n = omega arith in ap (slice_get pieces) (sym e) ∙ is
