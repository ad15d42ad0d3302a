use Rattle.std.proofs.Common.{◌<◌, rules, arith}
use Rattle.std.proofs.lemmas.Grind.{common_steps}
use Rattle.lay_cascade.proofs.Adjacent.{found_adjacent, none_found}
use Rattle.lay_cascade.proofs.siblings.adjacent_at.Goals as goal

pub returns-clause-some : goal.returns-clause-some
returns-clause-some c =
    let below_root : 0 < c.args.place = first_of (search rules, grind (arith, common_steps)) in
    λ m e. found_adjacent c.args.nodes.now c.args.last.now c.args.place c.parent_at-parent.result m c.requires.tree c.requires.place c.requires.last below_root c.parent_at-parent.ensures e

pub returns-clause-none : goal.returns-clause-none
returns-clause-none c =
    let below_root : 0 < c.args.place = first_of (search rules, grind (arith, common_steps)) in
    λ m e. none_found c.args.nodes.now c.args.last.now c.args.place c.parent_at-parent.result m c.requires.tree c.requires.place c.requires.last below_root c.parent_at-parent.ensures e
