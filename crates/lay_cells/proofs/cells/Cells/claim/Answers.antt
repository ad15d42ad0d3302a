use Rattle.std.proofs.Common.{List, map, subst}
use Rattle.std.specs.Arc.{arc_value}
use Rattle.lay_cells.specs.Rows.{Row, State, row_of}
use Rattle.lay_cells.specs.Looks.{IsAt, IsGone}
use Rattle.lay_cells.proofs.ByPlace.{claims_there, ready_there}
use Rattle.lay_cells.proofs.cells.Cells.claim.Goals as goal

pub unreachable-requires : goal.unreachable-requires
unreachable-requires g c =
    let gone =
    subst (λ (s : State _ _ _). IsGone s.rows c.args.key) c.self.view_is
    (subst (λ (cells : List _). IsGone (map row_of cells) c.args.key) c.as_slice.ensures.value c.in_default.ensures.gone) in
    gone c.requires.ready.0 c.requires.ready.1 c.requires.ready.2

pub claim_at_place-requires-clause-ready : goal.claim_at_place-requires-clause-ready
claim_at_place-requires-clause-ready g c _ _ =
    let found =
    subst (λ (s : State _ _ _). (r : Row _ _ _) × IsAt s.rows c.args.key c.in-Some.place r) c.self.view_is
    (subst (λ (xs : List _). (r : Row _ _ _) × IsAt (map row_of xs) c.args.key c.in-Some.place r) c.as_slice.ensures.value c.in-Some.ensures.found) in
    ready_there c.args.self.now.rows c.args.key c.in-Some.place found.0 found.1 c.requires.ready

pub returns : goal.returns
returns g c =
    let found =
    subst (λ (s : State _ _ _). (r : Row _ _ _) × IsAt s.rows c.args.key c.in-Some.place r) c.self.view_is
    (subst (λ (xs : List _). (r : Row _ _ _) × IsAt (map row_of xs) c.args.key c.in-Some.place r) c.as_slice.ensures.value c.in-Some.ensures.found) in
    claims_there c.args.self.now c.claim_at_place.new.self c.args.key c.in-Some.place found.0 found.1 (arc_value c.args.input) c.claim_at_place.result c.claim_at_place.ensures
