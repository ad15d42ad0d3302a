-- Formatting contexts stand on the page, each counted from the corner of the one around it.
use Rattle.std.proofs.Common.{◌≡◌, ℕ, zero, suc, ◌<◌, ◌≤◌, List, [], ◌∷◌, ◌++◌, length, refl, arith}
use Rattle.std.proofs.lemmas.List.{length_push}
use Rattle.lay_contexts.specs.FormattingContexts.{AreFormattingContexts, FormattingContext}
use Rattle.lay_placements.specs.declared.corner.Corner.{Corner}
use Rattle.lay_context.specs.PageCorners.{inner_corner}
use Rattle.lay_context.specs.PlacedContexts.{PlacedContext, placed_in}
use Rattle.lay_context.specs.SomeLayouts.{SomePageCorners}
use Rattle.lay_context.proofs.CornerSteps.{PageCornersTo, all_corners, one_more}

module _ (contexts : List FormattingContext) (places : List PlacedContext) (are : AreFormattingContexts contexts) where
  -- the next one
  record Next (cs : List Corner) : Type 0 where
    corner : Corner
    first : length cs ≡ 0 → corner ≡ (placed_in places 0).offset
    inner : 0 < length cs → corner ≡ inner_corner contexts places cs (length cs)

  next_by : (cs : List Corner) (n : ℕ) → length cs ≡ n → Next cs
  next_by cs zero e = record { corner = (placed_in places 0).offset; first = λ none. refl; inner = λ some. absurd (omega (arith, e, some)) }
  next_by cs (suc n) e =
      record { corner = inner_corner contexts places cs (length cs); first = λ none. absurd (omega (arith, e, none)); inner = λ some. refl }

  record First (n : ℕ) : Type 0 where
    corners : List Corner
    count : length corners ≡ n
    are_first : PageCornersTo contexts places corners

  first_corners : (n : ℕ) → n ≤ length contexts → First n
  first_corners zero le = record {
    corners = [];
    count = refl;
    are_first = record { first = λ some. absurd (omega (arith, some)); inner = λ i some lt. absurd (omega (arith, lt)) };
  }
  first_corners (suc n) le =
      let so_far = first_corners n (omega (arith, le)) in
      let cs = so_far.corners in
      let counted = so_far.count in
      let next = next_by cs (length cs) refl in
      let longer = length_push cs next.corner in
      record {
        corners = cs ++ next.corner ∷ [];
        count = omega (arith, counted, longer);
        are_first = one_more contexts places cs next.corner are (omega (arith, counted, le)) so_far.are_first next.first next.inner;
      }

pub some_page_corners_lem : SomePageCorners
some_page_corners_lem contexts places are =
    let all = first_corners contexts places are (length contexts) (omega arith) in
    (all.corners, all_corners contexts places all.corners all.count all.are_first)
