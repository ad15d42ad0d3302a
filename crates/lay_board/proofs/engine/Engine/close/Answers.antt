use Rattle.std.proofs.Common.{◌≡◌, subst, sym}
use Rattle.std.specs.List.{All}
use Rattle.lay_board.proofs.engine.Engine.close.Goals as goal

pub meet_all-seat-requires-clause-of : goal.meet_all-seat-requires-clause-of
meet_all-seat-requires-clause-of g c =
    subst (λ e. All (λ p. p.table ≡ e.table) c.args.passes.items.items) (sym c.self.view_is) c.requires.of
