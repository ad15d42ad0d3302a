-- The box that an absolutely positioned box is positioned by (CSS 2.2, 10.1, case 4), its holder: the nearest one that can be its
-- containing block, in the formatting context of its anchor or in one further out. Of some none is, as of each fixed one (case 3):
-- these are positioned by the viewport.
use Rattle.std.specs.Prelude.{ℕ, zero, suc, ◌≡◌, ◌<◌, Bool, List, Option, None, Some}
use Rattle.lay_contexts.specs.FormattingContexts.{FormattingContext, boxes_in, formatting_context_at}
use Rattle.lay_positioned.specs.Absolute.{is_fixed}
use Rattle.lay_positioned.specs.Holders.{IsHolderFor}

-- the box at a place in the formatting context with a number
pub record Holder : Type 0 where
  pub context : ℕ
  pub box : ℕ

-- this is the holder of what has its anchor at the place k in the formatting context with the number i
pub data IsHolderOutward (is_fixed : Bool) (contexts : List FormattingContext) : (i k : ℕ) → Option Holder → Type 0 where
  here : (i k box : ℕ) → IsHolderFor is_fixed (boxes_in contexts i) k (Some box)
      → IsHolderOutward is_fixed contexts i k (Some (record { context = i; box = box }))
  further : (i k : ℕ) (holder : Option Holder) → 0 < i → IsHolderFor is_fixed (boxes_in contexts i) k None
      → IsHolderOutward is_fixed contexts (formatting_context_at contexts i).outer (formatting_context_at contexts i).outer_box holder
      → IsHolderOutward is_fixed contexts i k holder
  viewport : (k : ℕ) → IsHolderFor is_fixed (boxes_in contexts 0) k None → IsHolderOutward is_fixed contexts 0 k None

-- and of the absolutely positioned formatting context with the number i; nothing is around the root's
abbrev pub IsHolderOf : List FormattingContext → ℕ → Option Holder → Type 0
IsHolderOf contexts zero holder = holder ≡ None
IsHolderOf contexts (suc i) holder =
    let c = formatting_context_at contexts (suc i) in
    IsHolderOutward (is_fixed contexts (suc i)) contexts c.outer c.outer_box holder
