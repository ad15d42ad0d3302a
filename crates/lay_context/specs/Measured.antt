-- Which formatting contexts are measured: those whose own box may shrink to fit, or one around it (CSS 2.2, 10.3.5), so each table of the
-- automatic layout with its cells and captions (17.5.2.2). The preferred widths of others count for nothing, so they have none.
use Rattle.std.specs.Prelude.{ℕ, zero, suc, ◌≡◌, ◌<◌, Bool, true, ◌||◌, List}
use Rattle.lay_contexts.specs.FormattingContexts.{FormattingContext, boxes_in, formatting_context_at}
use Rattle.lay_context_sizes.specs.ShrinkToFit.{shrinks_to_fit}

-- the own box of the one with the number i may shrink to fit, or that of one around it
pub data ShrinksOutward (contexts : List FormattingContext) : ℕ → Type 0 where
  own : (i : ℕ) → shrinks_to_fit (boxes_in contexts i) ≡ true → ShrinksOutward contexts i
  around : (i : ℕ) → 0 < i → ShrinksOutward contexts (formatting_context_at contexts i).outer → ShrinksOutward contexts i

-- the same, looking at the own box of the one with the number i and of the next so many around it
abbrev pub shrinks_within : (many : ℕ) → List FormattingContext → (i : ℕ) → Bool
shrinks_within zero contexts i = shrinks_to_fit (boxes_in contexts i)
shrinks_within (suc many) contexts zero = shrinks_to_fit (boxes_in contexts 0)
shrinks_within (suc many) contexts (suc i) =
    shrinks_to_fit (boxes_in contexts (suc i)) || shrinks_within many contexts (formatting_context_at contexts (suc i)).outer

-- Whether it is measured, the value of `ShrinksOutward` by the law `measured_where_shrunk`: as each stands behind the one around it, at
-- most i are around the one with the number i.
abbrev pub is_measured : List FormattingContext → ℕ → Bool
is_measured contexts i = shrinks_within i contexts i
