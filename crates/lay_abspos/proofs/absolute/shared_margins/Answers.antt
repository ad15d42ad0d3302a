use Rattle.std.specs.Int.{w128}
use Rattle.std.proofs.Common.{FitsSigned, rules, ap, ◌∙◌}
use Rattle.std.proofs.lemmas.Int.{to_z-of_z}
use Rattle.lay_abspos.specs.AbsoluteAxis.{first_share_of}
use Rattle.lay_abspos.proofs.Filled.{across_filled}
use Rattle.lay_abspos.proofs.absolute.shared_margins.Goals as goal

pub returns-clause-equation : goal.returns-clause-equation
returns-clause-equation c =
    let inside : FitsSigned w128 c.room_inside.result = search rules in
    let room = c.room_inside.ensures.value in
    let filled = simp to_z-of_z at c.margin_right_follows.ensures.filled in
    across_filled c.args.axis.now.block c.margin_right_follows.result c.room_inside.result room filled

pub returns-clause-margin : goal.returns-clause-margin
returns-clause-margin c =
    let fits : FitsSigned w128 c.rest.result = search rules in
    let share : FitsSigned w128 c.first_share-margin_left.result = search rules in
    let e = simp to_z-of_z at c.margin_right_follows.ensures.margin in
    let s = simp to_z-of_z at c.first_share-margin_left.ensures.value in
    let r = c.rest.ensures.value in
    e ∙ s ∙ ap (first_share_of c.args.axis.now.content) r
