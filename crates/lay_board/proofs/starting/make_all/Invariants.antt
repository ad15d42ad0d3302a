use Rattle.std.proofs.Common.{◌≡◌, ◌≤◌, length, [], sum, vec_capacity}
use Rattle.std.specs.Vec.Iter.{into_iter_items, into_iter_len}
use Rattle.lay_board.specs.Rules.{maker_view}
use Rattle.lay_board.specs.declared.views.Origin.{Origin}
use Rattle.lay_board.proofs.Makings.{IsMaking}
use Rattle.lay_board.proofs.starting.make_all.Given as goal

abbrev pub invariant-loop-left : goal.invariant-loop-left
invariant-loop-left l =
    (l.maker.table_id ≡ l.fn.maker.table_id)
    × (into_iter_len l.left-iterator ≡ length (into_iter_items l.left-iterator))
    × (sum (into_iter_items l.left-iterator) ≤ 8192)
    × (length l.fn.calls.items ≤ vec_capacity l.passes)
    × ((i : Origin) → l.fn.maker.me ≡ (maker_view i 0 l.fn.calls.items, []) → IsMaking l.table.shared.table_id i l.fn.calls.items l.yielded (into_iter_items l.left-iterator) l.maker.me l.passes.items)
