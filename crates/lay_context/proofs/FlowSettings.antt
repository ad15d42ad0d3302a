-- The setting of a formatting context in flow that isn't the root's.
use Rattle.std.proofs.Common.{◌≡◌, ◌≢◌, ℕ, zero, suc, List, refl}
use Rattle.lay_sizes.specs.declared.sizing.ContainingBlock.{ContainingBlock}
use Rattle.lay_contexts.specs.FormattingContexts.{FormattingContext, boxes_in, formatting_context_at}
use Rattle.lay_context_sizes.specs.ContextSizes.{SizedContext}
use Rattle.lay_context.specs.Settings.{flow_setting, setting_in, sizes_in}

pub setting_inside : (viewport : ContainingBlock) (contexts : List FormattingContext) (sizes : List SizedContext) (i : ℕ) → i ≢ 0
    → setting_in (boxes_in contexts (formatting_context_at contexts i).outer) (sizes_in sizes (formatting_context_at contexts i).outer) (formatting_context_at contexts i).outer_box
    ≡ flow_setting viewport contexts sizes i
setting_inside viewport contexts sizes zero some = absurd (some refl)
setting_inside viewport contexts sizes (suc i) some = refl
