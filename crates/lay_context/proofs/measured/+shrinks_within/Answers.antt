use Rattle.std.proofs.Common.{rules, ◌≡◌, ◌-◌, ℕ, ap, ◌∙◌, sym, arith, true, false}
use Rattle.lay_contexts.specs.FormattingContexts.{boxes_in, formatting_context_at}
use Rattle.lay_context_sizes.specs.ShrinkToFit.{shrinks_to_fit}
use Rattle.lay_context.specs.Measured.{shrinks_within}
use Rattle.lay_context.proofs.ShrinkSteps.{shrinks_here, shrinks_out}
use Rattle.lay_context.proofs.measured.+shrinks_within.Goals as goal

pub returns-then-shrinks_to_fit : goal.returns-then-shrinks_to_fit
returns-then-shrinks_to_fit t c =
    let here : shrinks_to_fit (boxes_in c.args.contexts.now c.args.i) ≡ true = search rules in
    sym (shrinks_here c.args.many c.args.contexts.now c.args.i here)

pub returns : goal.returns
returns t c =
    let not : shrinks_to_fit (boxes_in c.args.contexts.now c.args.i) ≡ false = search rules in
    let out : c.outer.result ≡ (formatting_context_at c.args.contexts.now c.args.i).outer = search rules in
    c.shrinks_within.ensures ∙ ap (λ (o : ℕ). shrinks_within (c.args.many - 1) c.args.contexts.now o) out
    ∙ shrinks_out c.args.many (c.args.many - 1) c.args.contexts.now c.args.i (omega (arith, c.if-many-eq0.false)) (omega (arith, c.if-i-eq0.false)) not
