-- A column of corners on the page that grows, from outer to inner formatting contexts.
use Rattle.std.proofs.Common.{◌≡◌, ℕ, ◌<◌, ◌≤◌, List, [], ◌∷◌, ◌++◌, length, length-append, refl, sym, ◌∙◌, arith, inl, inr}
use Rattle.std.proofs.lemmas.Bool.{cases_lt}
use Rattle.lay_contexts.specs.FormattingContexts.{FormattingContext, AreFormattingContexts, formatting_context_at}
use Rattle.lay_placements.specs.Corners.{corner_at}
use Rattle.lay_placements.specs.declared.corner.Corner.{Corner}
use Rattle.lay_placements.proofs.CornerColumns.{read_before, read_last}
use Rattle.lay_context.specs.PlacedContexts.{PlacedContext, placed_in}
use Rattle.lay_context.specs.PageCorners.{HasPageCorners, inner_corner}

-- these are the corners of the first ones
pub record PageCornersTo (contexts : List FormattingContext) (places : List PlacedContext) (corners : List Corner) : Type 0 where
  pub first : 0 < length corners → corner_at corners 0 ≡ (placed_in places 0).offset
  pub inner : (i : ℕ) → 0 < i → i < length corners → corner_at corners i ≡ inner_corner contexts places corners i

inner_before : (contexts : List FormattingContext) (places : List PlacedContext) (cs : List Corner) (c : Corner) → AreFormattingContexts contexts
    → (i : ℕ) → 0 < i → i < length contexts → i ≤ length cs → inner_corner contexts places (cs ++ c ∷ []) i ≡ inner_corner contexts places cs i
inner_before contexts places cs c are i some within le =
    let outer = are.outer i some within in
    rw (read_before cs c (formatting_context_at contexts i).outer (omega (arith, outer, le))) refl

pub one_more : (contexts : List FormattingContext) (places : List PlacedContext) (cs : List Corner) (c : Corner) → AreFormattingContexts contexts → length cs < length contexts
    → PageCornersTo contexts places cs → (length cs ≡ 0 → c ≡ (placed_in places 0).offset) → (0 < length cs → c ≡ inner_corner contexts places cs (length cs)) → PageCornersTo contexts places (cs ++ c ∷ [])
one_more contexts places cs c are within so_far first inner =
    let counted = length-append cs (c ∷ []) in
    record {
      first = λ some. elim (cases_lt 0 (length cs)) [
        | inl low ↦ read_before cs c 0 low ∙ so_far.first low
        | inr high ↦ (let q : length cs ≡ 0 = omega (arith, high) in read_last cs c 0 (sym q) ∙ first q)
      ];
      inner = λ i some lt. elim (cases_lt i (length cs)) [
        | inl low ↦ read_before cs c i low ∙ so_far.inner i some low ∙ sym (inner_before contexts places cs c are i some (omega (arith, low, within)) (omega (arith, low)))
        | inr high ↦ (let q : i ≡ length cs = omega (arith, high, lt, counted) in
            let more : 0 < length cs = omega (arith, q, some) in
            rw q (read_last cs c (length cs) refl ∙ inner more ∙ sym (inner_before contexts places cs c are (length cs) more within (omega arith))))
      ];
    }

pub all_corners : (contexts : List FormattingContext) (places : List PlacedContext) (cs : List Corner) → length cs ≡ length contexts
    → PageCornersTo contexts places cs → HasPageCorners contexts places cs
all_corners contexts places cs e so_far = record {
  count = e;
  first = λ some. so_far.first (omega (arith, e, some));
  inner = λ i some lt. so_far.inner i some (omega (arith, e, lt));
}
