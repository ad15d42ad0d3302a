use Rattle.std.proofs.Common.{◌<◌, List, map, subst, refl, inl, arith, rules}
use Rattle.lay_cells.specs.Rows.{Row, State, row_of}
use Rattle.lay_cells.specs.Looks.{IsAt, IsGone}
use Rattle.lay_cells.specs.Steps.{GivesBack}
use Rattle.lay_cells.proofs.Answered.{back_fits, back_lowest, gives_back_in, kept_after}
use Rattle.lay_cells.proofs.cells.Cells.give_back.Goals as goal

pub give_back_at-requires-clause-small : goal.give_back_at-requires-clause-small
give_back_at-requires-clause-small g c _ _ r at =
    let h = c.self.invariant.sound.each r (c.in-Some.place, at) in
    let few : c.self.inside.draws < 18446744073709551616 = search (rules, c.self.ranges) in
    omega (arith, h.laid, h.counted.back, few)

pub invariant_of-self : goal.invariant_of-self
invariant_of-self g c =
    let cells = c.self.inside.cells.items in
    let new = c.give_back_at.new.cells.items in
    let answer = c.give_back_at.result in
    kept_after g.W.Work.relates g.W.Key.Ord.cmp cells new c.self.inside.index c.self.inside.lowest c.self.inside.lowest c.self.inside.draws c.self.inside.draws
    c.self.invariant (omega arith) c.in-Some.place (λ r q. GivesBack r c.args.number answer q) c.give_back_at.ensures
    (back_fits g.W.Work.relates (map row_of cells) c.self.inside.draws c.self.invariant.sound c.in-Some.place c.args.number answer)
    (back_lowest cells new c.self.inside.lowest c.self.invariant.first_dirty c.in-Some.place c.args.number answer c.give_back_at.ensures)

pub returns-in-Some : goal.returns-in-Some
returns-in-Some g c =
    let cells = c.self.inside.cells.items in
    let found = subst (λ (xs : List _). (r : Row _ _ _) × IsAt (map row_of xs) c.args.key c.in-Some.place r) c.as_slice.ensures.value c.in-Some.ensures.found in
    gives_back_in c.args.self.now cells c.give_back_at.new.cells.items c.self.inside.draws c.self.view_is c.args.key c.args.number c.in-Some.place found.0 found.1 c.give_back_at.result c.give_back_at.ensures

pub returns-in-None : goal.returns-in-None
returns-in-None g c =
    let gone =
    subst (λ (s : State _ _ _). IsGone s.rows c.args.key) c.self.view_is
    (subst (λ (cells : List _). IsGone (map row_of cells) c.args.key) c.as_slice.ensures.value c.in-None.ensures.gone) in
    inl (gone, refl, refl)
