use Rattle.std.proofs.Common.{arith, ap, length, refl, subst, ◌∙◌}
use Rattle.lay_cells.specs.Places.{AreCleanFrom, IsFirstDirtyFrom}
use Rattle.lay_document_cells.specs.Settling.{none}
use Rattle.lay_document_cells.specs.State.{State}
use Rattle.lay_document_cells.proofs.SettledPlaces.{clean_to_first, few_rows, first_within, settled_all, settled_already, settled_more}
use Rattle.lay_document_cells.proofs.document_cells.DocumentCells.settle.Goals as goal

pub returns-in-None-clause-ok : goal.returns-in-None-clause-ok
returns-in-None-clause-ok c =
    settled_already c.args.self.now (subst (λ (s : State). AreCleanFrom s.cells.rows 0) c.self.view_is c.in-None.ensures.none)

pub loop-place-init : goal.loop-place-init
loop-place-init c = record {
  settles = none;
  clean = clean_to_first c.args.self.now.cells.rows c.in-Some.first (subst (λ (s : State). IsFirstDirtyFrom s.cells.rows 0 c.in-Some.first) c.self.view_is c.in-Some.ensures.some);
  count = refl;
  draws = omega arith;
}

pub loop-place-preserved : goal.loop-place-preserved
loop-place-preserved c =
    let h = c.in_ok-settle_at.ensures.ok in
    let was = c.loop-place.invariant in
    record {
      settles = settled_more c.args.self.now c.loop-place.self c.settle_at.new.self c.loop-place.place was.settles h;
      clean = h.clean;
      count = h.count ∙ was.count;
      draws = (let more = h.draws in let few = was.draws in omega (arith, more, few));
    }

pub returns-clause-ok : goal.returns-clause-ok
returns-clause-ok c =
    let was = c.loop-place.invariant in
    let rows = ap (λ (s : State). length s.cells.rows) c.self.view_is in
    let count = was.count in
    settled_all c.args.self.now c.loop-place.self c.loop-place.place was.settles was.clean
    (omega (arith, c.loop-place-test.false, c.len-place-end.ensures, rows, count))

pub returns-clause-few : goal.returns-clause-few
returns-clause-few c =
    let draws = c.loop-place.invariant.draws in
    let few = few_rows c.self.inside.cells.rows c.self.invariant.kept.cells.cells.sound.shaped in
    let first = first_within c.self.inside.cells.rows c.in-Some.first c.in-Some.ensures.some in
    let le = c.loop-place.auto.place-end (omega (arith, first, c.len-place-end.ensures)) in
    omega (arith, draws, few, le, c.len-place-end.ensures)
