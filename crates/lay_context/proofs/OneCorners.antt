-- The corners of formatting contexts on the page are the only ones, since each rests on that of the one around it.
use Rattle.std.proofs.Common.{◌≡◌, ℕ, zero, suc, ◌<◌, ◌≤◌, List, length, refl, sym, ◌∙◌, arith, inl, inr}
use Rattle.std.proofs.lemmas.Bool.{cases_lt}
use Rattle.std.proofs.lemmas.List.{ext_get_or}
use Rattle.lay_contexts.specs.FormattingContexts.{FormattingContext, AreFormattingContexts}
use Rattle.lay_placements.specs.Corners.{corner_at, no_corner}
use Rattle.lay_placements.specs.declared.corner.Corner.{Corner}
use Rattle.lay_context.specs.Laws.{OnePageCorners}
use Rattle.lay_context.specs.PlacedContexts.{PlacedContext}
use Rattle.lay_context.specs.PageCorners.{HasPageCorners, inner_corner}

module _ (contexts : List FormattingContext) (places : List PlacedContext) (are : AreFormattingContexts contexts) (x y : List Corner) (a : HasPageCorners contexts places x) (b : HasPageCorners contexts places y) where
  inner_same : (i : ℕ) → 0 < i → i < length contexts → ((j : ℕ) → j < i → corner_at x j ≡ corner_at y j) → inner_corner contexts places x i ≡ inner_corner contexts places y i
  inner_same i some within same = let e = same _ (are.outer i some within) in rw e refl

  corner_same : (i : ℕ) → i < length contexts → ((j : ℕ) → j < i → corner_at x j ≡ corner_at y j) → corner_at x i ≡ corner_at y i
  corner_same zero within same = a.first within ∙ sym (b.first within)
  corner_same (suc i) within same = a.inner (suc i) (omega arith) within ∙ inner_same (suc i) (omega arith) within same ∙ sym (b.inner (suc i) (omega arith) within)

  corners_before : (n : ℕ) → n ≤ length contexts → (i : ℕ) → i < n → corner_at x i ≡ corner_at y i
  corners_before zero le i lt = absurd (omega arith)
  corners_before (suc n) le i lt = elim (cases_lt i n) [
    | inl low ↦ corners_before n (omega arith) i low
    | inr high ↦ corner_same i (omega arith) (λ j jl. corners_before n (omega arith) j (omega arith))
  ]

  pub one_corner_column : x ≡ y
  one_corner_column = ext_get_or no_corner x y (a.count ∙ sym b.count) (λ i lt. corners_before (length contexts) (omega arith) i (omega (arith, a.count)))

pub one_page_corners_lem : OnePageCorners
one_page_corners_lem contexts places x y are a b = one_corner_column contexts places are x y a b
