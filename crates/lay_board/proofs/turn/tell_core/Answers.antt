use Rattle.std.proofs.Common.{◌∙◌, sym, ap, arith, refl, Some, None, [], length}
use mathlib.Core.Option.{none}
use Rattle.atomic_table.specs.Table.{step}
use Rattle.lay_board.specs.Rules.{SeatView, grown, held_by, pass_view}
use Rattle.lay_board.specs.Passes.{known_of}
use Rattle.lay_board.proofs.Steps.{gives_as, gave_me, tells_as, told_me, rest_of, swapped}
use Rattle.lay_board.proofs.turn.tell_core.Goals as goal

pub exchange-none-requires : goal.exchange-none-requires
exchange-none-requires c = let t = c.requires.table in let o = c.requires.out in (t.0, (None, rest_of _ _ (ap (λ (m : SeatView). m.1) o.3)))

pub compare_exchange-requires : goal.compare_exchange-requires
compare_exchange-requires c =
    let t = c.requires.table in let o = c.requires.out in let x = c.exchange-none.ensures in
    let at = swapped c.args.seat.me _ _ None (Some c.args.core) o.3 x.3 in
    (x.0 ∙ t.0, omega (arith, t.1), tells_as _ _ _ _ o.0 o.1 c.args.core o.2 _ _ at o.4 o.5 o.6 (ap length c.history.ensures.value))

pub store-requires : goal.store-requires
store-requires c =
    let t = c.requires.table in let o = c.requires.out in let x = c.exchange-none.ensures in let y = c.compare_exchange.ensures in
    let at = swapped c.args.seat.me _ _ None (Some c.args.core) o.3 x.3 in
    let a = told_me (step c.args.table.now.shared.table_id.slots 0 c.args.before (length c.history.result.now) none) _ _ o.0 o.1 c.args.core c.compare_exchange.result at y.2 in
    (y.0 ∙ x.0 ∙ t.0, omega (arith, t.1), gives_as _ _ _ _ _ c.args.core c.args.core t.2 a refl refl (record { origin = refl; history = refl; calls_left = refl; draws = Rattle.std.proofs.Common.inl (omega arith) }))

pub returns-clause-pass : goal.returns-clause-pass
returns-clause-pass c =
    let o = c.requires.out in let x = c.exchange-none.ensures in let y = c.compare_exchange.ensures in let z = c.store.ensures in
    let at = swapped c.args.seat.me _ _ None (Some c.args.core) o.3 x.3 in
    let a = told_me (step c.args.table.now.shared.table_id.slots 0 c.args.before (length c.history.result.now) none) _ _ o.0 o.1 c.args.core c.compare_exchange.result at y.2 in
    gave_me (step c.args.table.now.shared.table_id.slots 1 0 0 none) _ _ (held_by (pass_view (grown c.args.core o.0)) c.args.core) _ 0 a z.2
    ∙ ap (λ p. (pass_view (grown c.args.core p), [])) (sym (ap known_of o.3))
