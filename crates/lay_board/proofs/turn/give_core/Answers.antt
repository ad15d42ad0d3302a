use Rattle.std.proofs.Common.{◌∙◌, ap, arith, Some, None, []}
use mathlib.Core.Option.{none}
use Rattle.atomic_table.specs.Table.{step}
use Rattle.lay_board.specs.Rules.{SeatView}
use Rattle.lay_board.proofs.Steps.{gives_as, gave_me, rest_of, swapped}
use Rattle.lay_board.proofs.turn.give_core.Goals as goal

pub exchange-none-requires : goal.exchange-none-requires
exchange-none-requires c = let t = c.requires.table in let o = c.requires.out in (t.0, (None, rest_of _ _ (ap (λ (m : SeatView). m.1) o.2)))

pub store-requires : goal.store-requires
store-requires c =
    let t = c.requires.table in let o = c.requires.out in let x = c.exchange-none.ensures in
    let at = swapped c.args.seat.me _ _ None (Some c.args.core) o.2 x.3 in
    (x.0 ∙ t.0, omega (arith, t.1), gives_as _ _ _ _ o.0 o.1 c.args.core t.2 at o.3 o.4 o.5)

pub returns-clause-empty : goal.returns-clause-empty
returns-clause-empty c =
    let o = c.requires.out in let x = c.exchange-none.ensures in let y = c.store.ensures in
    let at = swapped c.args.seat.me _ _ None (Some c.args.core) o.2 x.3 in
    gave_me (step c.args.table.now.shared.table_id.slots 1 0 0 none) _ _ o.0 _ 0 at y.2 ∙ ap (λ (m : SeatView). (record (m.0) { hold = None }, [])) (Rattle.std.proofs.Common.sym o.2)
