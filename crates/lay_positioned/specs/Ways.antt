-- The way from the anchor of an absolutely positioned box out to its containing block (CSS 2.2, 10.1): the formatting contexts from
-- that of the anchor to the one that has the containing block, both included, or out to the root's where the viewport is it. What
-- they answer is all that an absolutely positioned box depends on beside what is in it.
use Rattle.std.specs.Prelude.{ℕ, ◌≡◌, ◌<◌, Bool, List, None}
use Rattle.lay_contexts.specs.FormattingContexts.{FormattingContext, boxes_in, formatting_context_at}
use Rattle.lay_positioned.specs.Absolute.{is_fixed}
use Rattle.lay_positioned.specs.Holders.{IsHolderFor}

-- the formatting context with the number j is on the way from the box at k in the one with the number i
pub data IsOnWayFrom (is_fixed : Bool) (contexts : List FormattingContext) (j : ℕ) : (i k : ℕ) → Type 0 where
  here : (k : ℕ) → IsOnWayFrom is_fixed contexts j j k
  further : (i k : ℕ) → 0 < i → IsHolderFor is_fixed (boxes_in contexts i) k None
      → IsOnWayFrom is_fixed contexts j (formatting_context_at contexts i).outer (formatting_context_at contexts i).outer_box
      → IsOnWayFrom is_fixed contexts j i k

-- it is on that of the absolutely positioned one with the number i; nothing is around the root's
pub record IsOnWay (contexts : List FormattingContext) (i j : ℕ) : Type 0 where
  pub some : 0 < i
  pub from
      : IsOnWayFrom (is_fixed contexts i) contexts j (formatting_context_at contexts i).outer (formatting_context_at contexts i).outer_box

-- The formatting contexts with the number j of two lists have the same boxes, and stand at the same box of the one around them.
pub record AreAlikeAt (a b : List FormattingContext) (j : ℕ) : Type 0 where
  pub boxes : boxes_in a j ≡ boxes_in b j
  pub outer : 0 < j → (formatting_context_at a j).outer ≡ (formatting_context_at b j).outer
  pub outer_box : 0 < j → (formatting_context_at a j).outer_box ≡ (formatting_context_at b j).outer_box
