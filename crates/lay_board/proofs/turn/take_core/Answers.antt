use Rattle.std.proofs.Common.{◌∙◌, sym, ap, arith, subst, Some, None, [], ◌∷◌}
use mathlib.Core.Option.{none}
use Rattle.atomic_table.specs.Table.{step}
use Rattle.lay_board.specs.Rules.{MeetsSeat}
use Rattle.lay_board.proofs.Steps.{takes_as, took_me}
use Rattle.lay_board.proofs.turn.take_core.Goals as goal

pub compare_exchange-found-requires : goal.compare_exchange-found-requires
compare_exchange-found-requires g c =
    let v = c.loop.invariant in let t = c.requires.table in (v.0 ∙ t.0, omega (arith, t.1), takes_as _ _ _ _ c.args.seat.me.0 v.1)

pub carry-requires-clause-out : goal.carry-requires-clause-out
carry-requires-clause-out g c =
    let v = c.loop.invariant in
    let o = (took_me (step c.args.table.now.shared.table_id.slots 1 0 1 none) _ _ c.args.seat.me.0 c.compare_exchange-found.result v.1 c.compare_exchange-found.ensures.2).0 c.if-found-eq0.true in
    (_, o.0, o.1)

pub returns-then-found-eq0-clause-held : goal.returns-then-found-eq0-clause-held
returns-then-found-eq0-clause-held g c =
    let v = c.loop.invariant in
    let o = (took_me (step c.args.table.now.shared.table_id.slots 1 0 1 none) _ _ c.args.seat.me.0 c.compare_exchange-found.result v.1 c.compare_exchange-found.ensures.2).0 c.if-found-eq0.true in
    let h = c.carry.ensures.held _ o.0 o.1 in
    h.1 ∙ ap (λ k. (record (c.args.seat.me.0) { hold = Some k }, (0, None) ∷ [])) (sym h.0)

pub returns-then-found-eq0-clause-met : goal.returns-then-found-eq0-clause-met
returns-then-found-eq0-clause-met g c =
    let v = c.loop.invariant in
    let o = (took_me (step c.args.table.now.shared.table_id.slots 1 0 1 none) _ _ c.args.seat.me.0 c.compare_exchange-found.result v.1 c.compare_exchange-found.ensures.2).0 c.if-found-eq0.true in
    subst (λ k. MeetsSeat k c.args.seat.me.0) (sym (c.carry.ensures.held _ o.0 o.1).0) o.2
