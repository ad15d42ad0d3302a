use Rattle.std.proofs.Common.{◌<◌, List, length, map, subst, sym}
use Rattle.lay_cells.specs.Rows.{Row, State, row_of}
use Rattle.lay_cells.specs.Looks.{Looks}
use Rattle.lay_cells.specs.Kept.{HasIndex, wire_of}
use Rattle.lay_cells.specs.Places.{AtPlace}
use Rattle.lay_cells.specs.Sound.{IsSound}
use Rattle.lay_cells.proofs.ByPlace.{at_place, within_rows}
use Rattle.lay_cells.proofs.ClaimedCells.{claimed_is_ready}
use Rattle.lay_cells.proofs.cells.Cells.look_at.Goals as goal

pub look_at-requires-clause-wired : goal.look_at-requires-clause-wired
look_at-requires-clause-wired g c _ _ =
    subst (λ (xs : List _). HasIndex g.W.Key.Ord.cmp (map wire_of xs)) (sym c.as_slice.ensures.value) (c.self.inside.index, c.self.invariant.wired)

pub look_at-requires-clause-within : goal.look_at-requires-clause-within
look_at-requires-clause-within g c _ _ =
    subst (λ (xs : List _). c.args.place < length xs) (sym c.as_slice.ensures.value) (within_rows c.args.self.now c.self.inside.cells.items c.self.inside.draws c.self.view_is c.args.place c.requires)

pub returns-in-Some : goal.returns-in-Some
returns-in-Some g c =
    claimed_is_ready g.W.Work.relates c.args.self.now (subst (IsSound g.W.Work.relates) c.self.view_is c.self.invariant.sound) c.args.place c.in-Some._number c.in-Some.ensures.some

pub returns-in-None : goal.returns-in-None
returns-in-None g c =
    let cells = c.self.inside.cells.items in
    let lt = within_rows c.args.self.now cells c.self.inside.draws c.self.view_is c.args.place c.requires in
    subst (λ (s : State _ _ _). AtPlace s.rows c.args.place (λ (r : Row _ _ _). Looks s.rows r.key c.look_at.result)) c.self.view_is
    (subst (λ (xs : List _). AtPlace (map row_of xs) c.args.place (λ (r : Row _ _ _). Looks (map row_of xs) r.key c.look_at.result)) c.as_slice.ensures.value
    (at_place c.as_slice.result.now c.args.place (subst (λ (xs : List _). c.args.place < length xs) (sym c.as_slice.ensures.value) lt) (λ (r : Row _ _ _). Looks (map row_of c.as_slice.result.now) r.key c.look_at.result) c.look_at.ensures))
