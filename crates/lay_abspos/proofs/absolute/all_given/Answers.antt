use Rattle.std.specs.Int.{w128}
use Rattle.std.proofs.Common.{FitsSigned, rules}
use Rattle.std.proofs.lemmas.Int.{to_z-of_z}
use Rattle.lay_abspos.proofs.Filled.{across_filled}
use Rattle.lay_abspos.proofs.absolute.all_given.Goals as goal

pub returns-in-Of-Auto-clause-equation : goal.returns-in-Of-Auto-clause-equation
returns-in-Of-Auto-clause-equation c =
    let inside : FitsSigned w128 c.room_inside.result = search rules in
    across_filled c.args.axis.now.block c.margin_right_follows.result c.room_inside.result (c.room_inside.ensures.value) (simp to_z-of_z at c.margin_right_follows.ensures.filled)

pub returns-in-Auto-Of-clause-equation : goal.returns-in-Auto-Of-clause-equation
returns-in-Auto-Of-clause-equation c =
    let inside : FitsSigned w128 c.room_inside-in-Auto-Of.result = search rules in
    across_filled c.args.axis.now.block c.margin_left_follows.result c.room_inside-in-Auto-Of.result (c.room_inside-in-Auto-Of.ensures.value) (simp to_z-of_z at c.margin_left_follows.ensures.filled)

pub returns-in-Auto-Auto-clause-margins : goal.returns-in-Auto-Auto-clause-margins
returns-in-Auto-Auto-clause-margins c =
    let e = c.shared_margins.ensures in
    rw (c.in-Auto-Auto.is-0, c.in-Auto-Auto.is-1, e.left, e.width) (e.right, e.margin)
