use Rattle.std.proofs.Common.{◌≡◌, ◌<◌, ap, arith, length, map, refl, subst, sym, ◌∙◌}
use Rattle.lay_cells.specs.Rows.{entry_of}
use Rattle.lay_cells.specs.Shapes.{IsShape}
use Rattle.lay_cells.specs.Sound.{IsSound}
use Rattle.lay_cell_work.specs.CellLocal.{IsCellLocal}
use Rattle.lay_document_cells.specs.Claims.{none}
use Rattle.lay_document_cells.specs.State.{State}
use Rattle.lay_document_cells.specs.Walks.{IsWalked, PassesAt}
use Rattle.lay_document_cells.proofs.WalkSteps.{answers_busy, answers_granted, answers_none, changes_of, count_of, passes_by, passes_on, walked_on}
use Rattle.lay_document_cells.proofs.document_cells.DocumentCells.walk_on.Goals as goal

pub loop-place-init : goal.loop-place-init
loop-place-init c = record { place = refl; passes = none; walked = c.requires.walked; entries = refl; draws = omega arith }

pub returns-in-Granted-clause-answers : goal.returns-in-Granted-clause-answers
returns-in-Granted-clause-answers c =
    let was = c.loop-place.invariant in
    let g = subst (λ p. PassesAt c.loop-place.self c.loop-place.place p c.pass.new.self) c.in-Granted.is c.in-Ok.ensures.ok in
    answers_granted c.args.self.now c.loop-place.self c.requires.open was.passes c.loop-place.place c.loop-place.walk.least
    (subst (λ p. IsWalked c.loop-place.self.cells.rows p c.loop-place.walk.least) was.place was.walked) c.in-Granted.claim c.pass.new.self g.0

pub returns-in-Granted-clause-walked : goal.returns-in-Granted-clause-walked
returns-in-Granted-clause-walked c =
    let was = c.loop-place.invariant in
    let sound = subst (λ (x : State). IsSound IsCellLocal x.cells) c.self.view_is c.sound.ensures in
    let rows = ap (λ (x : State). length x.cells.rows) c.self.view_is in
    let count = count_of c.args.self.now.cells.rows c.loop-place.self.cells.rows was.entries in
    walked_on c.loop-place.self c.pass.new.self (subst IsShape (sym was.entries) sound.shaped) c.loop-place.place c.loop-place.walk.least
    (subst (λ p. IsWalked c.loop-place.self.cells.rows p c.loop-place.walk.least) was.place was.walked)
    (changes_of c.loop-place.self c.loop-place.place c.in-Ok.passed c.pass.new.self c.in-Ok.ensures.ok)
    (omega (arith, c.loop-place-test.true, c.len-place-end.ensures, rows, count)) c.in-Ok.passed c.least_after-least.result c.in-Ok.ensures.ok c.least_after-least.ensures

pub loop-place-preserved : goal.loop-place-preserved
loop-place-preserved c =
    let was = c.loop-place.invariant in
    let sound = subst (λ (x : State). IsSound IsCellLocal x.cells) c.self.view_is c.sound.ensures in
    let rows = ap (λ (x : State). length x.cells.rows) c.self.view_is in
    let count = count_of c.args.self.now.cells.rows c.loop-place.self.cells.rows was.entries in
    let changes = changes_of c.loop-place.self c.loop-place.place c.in-Ok.passed c.pass.new.self c.in-Ok.ensures.ok in
    record {
      place = refl;
      passes = passes_on c.args.self.now c.loop-place.self c.pass.new.self was.passes
          (passes_by c.loop-place.self c.loop-place.place c.in-Ok.passed c.pass.new.self c.in_default.not-Granted c.in-Ok.ensures.ok);
      walked = walked_on c.loop-place.self c.pass.new.self (subst IsShape (sym was.entries) sound.shaped) c.loop-place.place c.loop-place.walk.least
          (subst (λ p. IsWalked c.loop-place.self.cells.rows p c.loop-place.walk.least) was.place was.walked) changes
          (omega (arith, c.loop-place-test.true, c.len-place-end.ensures, rows, count)) c.in-Ok.passed c.least_after-least.result c.in-Ok.ensures.ok
          c.least_after-least.ensures;
      entries = changes.entries ∙ was.entries;
      draws = let a = was.draws in let b = changes.draws in let e = was.place in omega (arith, a, b, e);
    }

pub returns-in-Some-clause-answers : goal.returns-in-Some-clause-answers
returns-in-Some-clause-answers c =
    let was = c.loop-place.invariant in
    let sound = subst (λ (x : State). IsSound IsCellLocal x.cells) c.self.view_is c.sound.ensures in
    let rows = ap (λ (x : State). length x.cells.rows) c.self.view_is in
    let count = count_of c.args.self.now.cells.rows c.loop-place.self.cells.rows was.entries in
    answers_busy c.args.self.now c.loop-place.self c.requires.open was.passes c.loop-place.walk.place c.loop-place.walk.least
    (subst IsShape (sym was.entries) sound.shaped) (let e = was.place in omega (arith, c.loop-place-test.false, c.len-place-end.ensures, rows, count, e)) was.walked
    c.in-Some.number c.in-Some.is

pub returns-in-None-clause-answers : goal.returns-in-None-clause-answers
returns-in-None-clause-answers c =
    let was = c.loop-place.invariant in
    let sound = subst (λ (x : State). IsSound IsCellLocal x.cells) c.self.view_is c.sound.ensures in
    let rows = ap (λ (x : State). length x.cells.rows) c.self.view_is in
    let count = count_of c.args.self.now.cells.rows c.loop-place.self.cells.rows was.entries in
    answers_none c.args.self.now c.loop-place.self c.requires.open was.passes c.loop-place.walk.place c.loop-place.walk.least
    (subst IsShape (sym was.entries) sound.shaped) (let e = was.place in omega (arith, c.loop-place-test.false, c.len-place-end.ensures, rows, count, e)) was.walked
    c.in-None.is
