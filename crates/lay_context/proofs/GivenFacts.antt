-- What a formatting context is given by the one around it, and where it stands.
use Rattle.std.proofs.Common.{◌≡◌, ◌<◌, ℕ, zero, suc, ◌+◌, List, [], ◌∷◌, ◌++◌, length, length-append, map, take, slice_index, refl, arith, inl, inr}
use Rattle.std.proofs.lemmas.Bool.{cases_lt}
use Rattle.std.proofs.lemmas.Grind.{elements}
use Rattle.std.proofs.lemmas.List.{map-append, take_more}
use Rattle.lay_context.proofs.Cited.{none_beyond}
use Rattle.lay_frag.specs.declared.frag.Frag.{Frag}
use Rattle.lay_sizes.specs.declared.own_boxes.OwnBox.{OwnBox}
use Rattle.lay_sizes.specs.OwnBoxes.{OwnBoxFits, OwnBoxesFit, own_box_at}
use Rattle.lay_contexts.specs.FormattingContexts.{AreFormattingContexts, FormattingContext, formatting_context_at}
use Rattle.lay_placements.specs.InnerPieces.{AreNearInnerPieces, inner_pieces_at}
use Rattle.lay_placements.specs.NearPieces.{AreNearPieces}

-- the number of an inner formatting context, or 0, is that of one of them
pub inner_within : (contexts : List FormattingContext) (i k : ℕ) → AreFormattingContexts contexts → i < length contexts → k < length (formatting_context_at contexts i).inner → slice_index (formatting_context_at contexts i).inner k < length contexts
inner_within contexts i k are lt within = by (slice_index (formatting_context_at contexts i).inner k) refl
  where
    by : (j : ℕ) → slice_index (formatting_context_at contexts i).inner k ≡ j → j < length contexts
    by zero is = omega (arith, lt)
    by (suc j) is = are.within i (suc j) lt (record { box = k; within = within; number = is; some = omega arith })

-- what is found by numbers that are found so, with one more
pub one_more_of : {X : Type 0} (f : ℕ → X) (g : ℕ → ℕ) (numbers : List ℕ) (k : ℕ) (xs : List X) (x : X) → k < length numbers → xs ≡ map f (map g (take k numbers)) → x ≡ f (g (slice_index numbers k))
    → xs ++ x ∷ [] ≡ map f (map g (take (k + 1) numbers))
one_more_of f g numbers k xs x lt are is =
    let more : take (k + 1) numbers ≡ take k numbers ++ slice_index numbers k ∷ [] = take_more numbers k 0 lt in
    rw (more, map-append g (take k numbers) (slice_index numbers k ∷ []), map-append f (map g (take k numbers)) (g (slice_index numbers k) ∷ []), are, is) refl

read_before : (os : List OwnBox) (o : OwnBox) (k : ℕ) → k < length os → own_box_at (os ++ o ∷ []) k ≡ own_box_at os k
read_before os o k lt = grind (arith, elements)

read_last : (os : List OwnBox) (o : OwnBox) (k : ℕ) → k ≡ length os → own_box_at (os ++ o ∷ []) k ≡ o
read_last os o k e = grind (arith, elements)

pub one_more_fits : (os : List OwnBox) (o : OwnBox) → OwnBoxesFit os → OwnBoxFits o → OwnBoxesFit (os ++ o ∷ [])
one_more_fits os o fit own k lt = elim (cases_lt k (length os)) [
  | inl low ↦ rw (read_before os o k low) (fit k low)
  | inr high ↦ (let counted = length-append os (o ∷ []) in rw (read_last os o k (omega (arith, high, lt, counted))) own)
]

-- pieces of inner formatting contexts that are near, with those of one more
pieces_before : (all : List (List Frag)) (p : List Frag) (k : ℕ) → k < length all → inner_pieces_at (all ++ p ∷ []) k ≡ inner_pieces_at all k
pieces_before all p k lt = grind (arith, elements)

pieces_last : (all : List (List Frag)) (p : List Frag) (k : ℕ) → k ≡ length all → inner_pieces_at (all ++ p ∷ []) k ≡ p
pieces_last all p k e = grind (arith, elements)

pub no_pieces_are_near : AreNearPieces []
no_pieces_are_near k lt = absurd (omega (arith, lt))

pub no_inner_pieces_are_near : AreNearInnerPieces []
no_inner_pieces_are_near k j lt = absurd (omega (arith, lt))

pub one_more_near : (all : List (List Frag)) (p : List Frag) → AreNearInnerPieces all → AreNearPieces p → AreNearInnerPieces (all ++ p ∷ [])
one_more_near all p near more k = elim (cases_lt k (length all)) [
  | inl low ↦ rw (pieces_before all p k low) (near k)
  | inr high ↦ elim (cases_lt (length all) k) [
    | inl behind ↦ (let counted = length-append all (p ∷ []) in rw (none_beyond (all ++ p ∷ []) k (omega (arith, behind, counted))) no_pieces_are_near)
    | inr here ↦ rw (pieces_last all p k (omega (arith, high, here))) more
  ]
]
