use Rattle.std.proofs.Common.{◌<◌, List, IfNone, IfSome, length, map, subst, sym}
use Rattle.lay_cells.specs.Rows.{State, row_of}
use Rattle.lay_cells.specs.Kept.{HasIndex, wire_of}
use Rattle.lay_cells.specs.Places.{HasNoNeedAt, IsNeedAt}
use Rattle.lay_cells.proofs.ByPlace.{within_rows}
use Rattle.lay_cells.proofs.cells.Cells.need_at.Goals as goal

pub need_in-requires-clause-wired : goal.need_in-requires-clause-wired
need_in-requires-clause-wired g c _ _ =
    subst (λ (xs : List _). HasIndex g.W.Key.Ord.cmp (map wire_of xs)) (sym c.as_slice.ensures.value) (c.self.inside.index, c.self.invariant.wired)

pub need_in-requires-clause-within : goal.need_in-requires-clause-within
need_in-requires-clause-within g c _ _ =
    subst (λ (xs : List _). c.args.place < length xs) (sym c.as_slice.ensures.value) (within_rows c.args.self.now c.self.inside.cells.items c.self.inside.draws c.self.view_is c.args.place c.requires)

pub returns-clause-some : goal.returns-clause-some
returns-clause-some g c =
    subst (λ (s : State _ _ _). IfSome c.need_in.result (IsNeedAt s.rows c.args.place c.args.number)) c.self.view_is
    (subst (λ (cells : List _). IfSome c.need_in.result (IsNeedAt (map row_of cells) c.args.place c.args.number)) c.as_slice.ensures.value c.need_in.ensures.some)

pub returns-clause-none : goal.returns-clause-none
returns-clause-none g c =
    subst (λ (s : State _ _ _). IfNone c.need_in.result (HasNoNeedAt s.rows c.args.place c.args.number)) c.self.view_is
    (subst (λ (cells : List _). IfNone c.need_in.result (HasNoNeedAt (map row_of cells) c.args.place c.args.number)) c.as_slice.ensures.value c.need_in.ensures.none)
