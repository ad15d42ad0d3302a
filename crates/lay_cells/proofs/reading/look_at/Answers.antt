use Rattle.std.proofs.Common.{map, refl, subst, sym, ap, ◌∙◌}
use Rattle.lay_cells.specs.Rows.{Row, row_of}
use Rattle.lay_cells.specs.Looks.{IsFirstDirty, AreClean}
use Rattle.lay_cells.proofs.Lists.{one_at}
use Rattle.lay_cells.proofs.reading.look_at.Goals as goal

pub returns-then-not-cell_at : goal.returns-then-not-cell_at
returns-then-not-cell_at g c r at =
    let one = one_at (map row_of c.args.cells.now) c.args.place (row_of c.cell_at.result.now) r c.cell_at.ensures.row at in
    (r, (c.args.place, at), refl, ap (λ (x : Row _ _ _). x.dirty) (sym one) ∙ c.if-not-cell_at.true)

pub returns-in-Some : goal.returns-in-Some
returns-in-Some g c r at =
    let rows = map row_of c.args.cells.now in
    let mine = one_at rows c.args.place (row_of c.cell_at.result.now) r c.cell_at.ensures.row at in
    let f = c.in-Some.ensures.some in
    let one = one_at rows c.args.place f.0 r f.1 at in
    (r, (c.args.place, at), refl, ap (λ (x : Row _ _ _). x.dirty) (sym mine) ∙ c.if-not-cell_at.false, subst (λ (x : Row _ _ _). IsFirstDirty rows x.needs c.in-Some.need) one f.2)

pub returns-in-None : goal.returns-in-None
returns-in-None g c r at =
    let rows = map row_of c.args.cells.now in
    let mine = one_at rows c.args.place (row_of c.cell_at.result.now) r c.cell_at.ensures.row at in
    let f = c.in-None.ensures.none in
    let one = one_at rows c.args.place f.0 r f.1 at in
    (r, (c.args.place, at), refl, ap (λ (x : Row _ _ _). x.dirty) (sym mine) ∙ c.if-not-cell_at.false, subst (λ (x : Row _ _ _). AreClean rows x.needs) one f.2)
