use Rattle.std.proofs.Common.{◌≡◌, ◌++◌, length, None, [], ◌∷◌}
use Rattle.std.specs.List.{All}
use Rattle.std.specs.Vec.Iter.{into_iter_items, into_iter_len}
use Rattle.lay_board.specs.Rules.{held_by}
use Rattle.lay_board.specs.Passes.{IsKnownIn}
use Rattle.lay_board.specs.declared.views.View.{View}
use Rattle.lay_board.proofs.closing.meet_all.Given as goal

abbrev pub invariant-loop-pass : goal.invariant-loop-pass
invariant-loop-pass l =
    (l.seat.table_id ≡ l.table.shared.table_id) × ((v : View) × (l.seat.me ≡ (held_by v l.core, (0, None) ∷ [])))
    × (l.yielded ++ into_iter_items l.pass-iterator ≡ l.fn.passes.items)
    × (into_iter_len l.pass-iterator ≡ length (into_iter_items l.pass-iterator))
    × All (IsKnownIn l.core.history) l.yielded
