-- What a task is given of formatting contexts themselves, beside the values that it needs (`Needs`): two lists of formatting contexts
-- are alike for a task where that is the same in both. It is never the whole list. To measure one are given its boxes, the numbers of
-- those inside it and whether it is measured, which rests on the own boxes of all around it (`Measured`). To size one in flow or
-- floating, its boxes and those of the one around it, among which its box has its containing block. To place one, its boxes, the
-- numbers of those inside it, and which of them are anonymous. An absolutely positioned one rests on the boxes of those on its way
-- too, and on where each stands in the one around it.
use Rattle.std.specs.Prelude.{ℕ, ◌≡◌, true, List}
use Rattle.lay_contexts.specs.FormattingContexts.{FormattingContext, boxes_in, formatting_context_at}
use Rattle.lay_positioned.specs.Absolute.{is_absolute}
use Rattle.lay_positioned.specs.Ways.{AreAlikeAt}
use Rattle.lay_context.specs.declared.task.Phase.{Phase}
use Rattle.lay_context.specs.declared.task.Phase.TheVariants.{Measure, Size, Place}
use Rattle.lay_context.specs.declared.task.Task.{Task}
use Rattle.lay_context.specs.DocumentLayout.{flow_numbers}
use Rattle.lay_context.specs.Measured.{is_measured}
use Rattle.lay_context.specs.Needs.{IsAround, IsInsideFlow, IsOnWayOf}

pub record AreAlikeToMeasure (a b : List FormattingContext) (i : ℕ) : Type 0 where
  pub boxes : boxes_in a i ≡ boxes_in b i
  pub inner : flow_numbers a i ≡ flow_numbers b i
  pub measured : is_measured a i ≡ is_measured b i

pub record AreAlikeToSize (a b : List FormattingContext) (i : ℕ) : Type 0 where
  pub own : AreAlikeAt a b i
  pub around : (j : ℕ) → IsAround a i j → boxes_in a j ≡ boxes_in b j
  pub way : (j : ℕ) → IsOnWayOf a i j → AreAlikeAt a b j

pub record AreAlikeToPlace (a b : List FormattingContext) (i : ℕ) : Type 0 where
  pub boxes : boxes_in a i ≡ boxes_in b i
  pub inner : flow_numbers a i ≡ flow_numbers b i
  pub anonymous : (j : ℕ) → IsInsideFlow a i j → (formatting_context_at a j).anonymous ≡ (formatting_context_at b j).anonymous
  pub own : is_absolute a i ≡ true → AreAlikeAt a b i
  pub way : (j : ℕ) → IsOnWayOf a i j → AreAlikeAt a b j

abbrev pub AreAlikeFor : (a b : List FormattingContext) → Task → Type 0
AreAlikeFor a b task = by task.phase
  where
    by : Phase → Type 0
    by Measure = AreAlikeToMeasure a b task.context
    by Size = AreAlikeToSize a b task.context
    by Place = AreAlikeToPlace a b task.context
