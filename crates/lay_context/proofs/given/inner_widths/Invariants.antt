use Rattle.std.proofs.Common.{◌≡◌, map, take}
use Rattle.lay_contexts.specs.FormattingContexts.{formatting_context_at}
use Rattle.lay_context.specs.DocumentLayout.{flow_number, inner_widths_in}
use Rattle.lay_context.proofs.given.inner_widths.Given as goal

abbrev pub invariant-loop-k : goal.invariant-loop-k
invariant-loop-k g l = l.widths.items ≡ map (inner_widths_in (g.V.Values.workings l.at.known.now).widths) (map (flow_number l.at.contexts.now) (take l.k (formatting_context_at l.at.contexts.now l.at.number).inner))
