use Rattle.std.proofs.Common.{◌∙◌, ap, arith, refl, None, [], ◌∷◌}
use mathlib.Core.Option.{none}
use Rattle.atomic_table.specs.Table.{step}
use Rattle.lay_board.specs.Rules.{SeatView, held_by, meeting, pass_view}
use Rattle.lay_board.specs.Passes.{PassOf, known_of}
use Rattle.lay_board.proofs.Steps.{learned_me, learns_as, meets_as}
use Rattle.lay_board.proofs.closing.meet.Goals as goal

pub join_seat-requires : goal.join_seat-requires
join_seat-requires c =
    let t = c.requires.table in let o = c.requires.out in let i = c.pass.invariant in
    (t.0, ap (λ (z : PassOf). z.table) c.pass.view_is ∙ c.requires.of, ap (λ (m : SeatView). m.1) i.me_is, omega (arith, t.1), meets_as _ _ _ _ _ c.args.core.now (known_of c.pass.inside.seat.me) (ap (λ (m : SeatView). m.0.hold) o.1) (ap (λ (m : SeatView). m.0) i.me_is))

pub load-requires : goal.load-requires
load-requires c =
    let t = c.requires.table in let o = c.requires.out in let i = c.pass.invariant in let j = c.join_seat.ensures in
    let me = j.2 ∙ (λ k. (meeting (o.1 k).0 (i.me_is k).0, (o.1 k).1)) in
    (j.0 ∙ t.0, omega (arith, t.1), learns_as _ _ _ _ (meeting (held_by o.0 c.args.core.now) (pass_view (known_of c.pass.inside.seat.me))) ((0, None) ∷ []) c.args.core.now me refl)

pub returns-clause-out : goal.returns-clause-out
returns-clause-out c =
    let o = c.requires.out in let i = c.pass.invariant in let j = c.join_seat.ensures in let l = c.load.ensures in
    let me = j.2 ∙ (λ k. (meeting (o.1 k).0 (i.me_is k).0, (o.1 k).1)) in
    (record (o.0) { met = None }, (learned_me (step 1 0 0 0 none) _ _ o.0 ((0, None) ∷ []) c.args.core.now (known_of c.pass.inside.seat.me) 0 me l.2).0)
