use Rattle.std.proofs.Common.{◌<◌, List, length, map, subst, sym}
use Rattle.lay_cells.specs.Rows.{State, row_of}
use Rattle.lay_cells.specs.Kept.{HasIndex, wire_of}
use Rattle.lay_cells.specs.Reuses.{AreNeedsAt}
use Rattle.lay_cells.proofs.ByPlace.{within_rows}
use Rattle.lay_cells.proofs.cells.Cells.needs_at.Goals as goal

pub needs_in-requires-clause-wired : goal.needs_in-requires-clause-wired
needs_in-requires-clause-wired g c _ _ =
    subst (λ (xs : List _). HasIndex g.W.Key.Ord.cmp (map wire_of xs)) (sym c.as_slice.ensures.value) (c.self.inside.index, c.self.invariant.wired)

pub needs_in-requires-clause-within : goal.needs_in-requires-clause-within
needs_in-requires-clause-within g c _ _ =
    subst (λ (xs : List _). c.args.place < length xs) (sym c.as_slice.ensures.value) (within_rows c.args.self.now c.self.inside.cells.items c.self.inside.draws c.self.view_is c.args.place c.requires)

pub returns : goal.returns
returns g c =
    subst (λ (s : State _ _ _). AreNeedsAt s.rows c.args.place c.needs_in.result.now) c.self.view_is
    (subst (λ (cells : List _). AreNeedsAt (map row_of cells) c.args.place c.needs_in.result.now) c.as_slice.ensures.value c.needs_in.ensures)
