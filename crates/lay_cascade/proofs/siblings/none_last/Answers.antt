use Rattle.std.proofs.Common.{◌≡◌, ◌∙◌, None, length, ap, rules, arith}
use Rattle.std.specs.Prelude.{replicate}
use Rattle.std.proofs.lemmas.Grind.{common_steps}
use Rattle.lay_cascade.proofs.Adjacent.{none_last_yet}
use Rattle.lay_cascade.proofs.siblings.none_last.Goals as goal

pub returns : goal.returns
returns c =
    let all : c.loop-k._k ≡ length c.args.nodes.now = first_of (omega (arith, c.loop-k-test.false, c.loop-k.auto._k-end), search rules, grind (arith, common_steps)) in
    none_last_yet c.args.nodes.now c.loop-k.last.items (c.loop-k.invariant ∙ ap (λ z. replicate z None) all)
