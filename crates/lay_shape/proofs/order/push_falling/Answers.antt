use Rattle.std.proofs.Common.{rules, ◌≡◌, ◌-◌, ◌++◌, ◌∷◌, [], ap, arith, length, reverse, slice_index, sym, ◌∙◌}
use Rattle.std.proofs.lemmas.List.{get_or-reverse, length-reverse}
use Rattle.lay_shape.specs.declared.context_phase.ContextPhase.{ContextPhase}
use Rattle.lay_shape.specs.Dependencies.{in_phase}
use Rattle.lay_shape.proofs.BuildSteps.{mapped_more}
use Rattle.lay_shape.proofs.order.push_falling.Goals as goal

pub loop-k-preserved : goal.loop-k-preserved
loop-k-preserved c =
    let numbers = c.args.numbers.now in
    let k = c.loop-k.k in
    let x = slice_index numbers (length numbers - 1 - k) in
    let back = get_or-reverse numbers k 0 c.loop-k-test.true in
    let cell : c.in_phase.result ≡ in_phase c.args.phase x = search rules in
    let items : c.push.new.self.items ≡ c.loop-k.cells.items ++ c.in_phase.result ∷ [] = (c.in_ok-push.ensures {u = tt}).items in
    mapped_more (in_phase c.args.phase) (reverse numbers) k 0 x c.args.cells.now.items c.loop-k.cells.items c.push.new.self.items (omega (arith, c.loop-k-test.true, length-reverse numbers)) (sym back) c.loop-k.invariant
    (items ∙ ap (λ (d : ContextPhase). c.loop-k.cells.items ++ d ∷ []) cell)
