use Rattle.std.proofs.Common.{List, map, subst, sym, ◌∙◌}
use Rattle.lay_cells.specs.Rows.{State, row_of}
use Rattle.lay_cells.specs.Marks.{Marks}
use Rattle.lay_cells.specs.Kept.{IsLowest, IsWired}
use Rattle.lay_cells.proofs.Marked.{shaped_wires}
use Rattle.lay_cells.proofs.Reaching.{marks_keep, reaches}
use Rattle.lay_cells.proofs.cells.Cells.mark.Goals as goal

pub mark_dependents-requires-clause-shaped : goal.mark_dependents-requires-clause-shaped
mark_dependents-requires-clause-shaped g c _ _ = shaped_wires c.self.inside.cells.items c.mark_listed.new.cells.items c.mark_listed.ensures.wires c.self.invariant.sound.shaped

pub invariant_of-self : goal.invariant_of-self
invariant_of-self g c =
    let rows = map row_of c.self.inside.cells.items in
    let new = map row_of c.mark_dependents.new.cells.items in
    let reached = reaches g.W.Work.relates rows c.self.inside.draws c.self.invariant.sound c.args.keys.now (map row_of c.mark_listed.new.cells.items) c.mark_listed.ensures.rows new c.mark_dependents.ensures.rows in
    record {
      sound = marks_keep g.W.Work.relates rows new c.self.inside.draws c.args.keys.now c.self.invariant.sound reached;
      wired = subst (IsWired g.W.Key.Ord.cmp c.self.inside.index) (sym (c.mark_dependents.ensures.wires ∙ c.mark_listed.ensures.wires)) c.self.invariant.wired;
      first_dirty = subst (λ (xs : List _). IsLowest (map row_of xs) c.next_dirty-self-inside.result) c.as_slice.ensures.value c.next_dirty-self-inside.ensures;
    }

pub returns-clause-rows : goal.returns-clause-rows
returns-clause-rows g c =
    let rows = map row_of c.self.inside.cells.items in
    let new = map row_of c.mark_dependents.new.cells.items in
    subst (λ (s : State _ _ _). Marks s.rows c.args.keys.now new) c.self.view_is
    (reaches g.W.Work.relates rows c.self.inside.draws c.self.invariant.sound c.args.keys.now (map row_of c.mark_listed.new.cells.items) c.mark_listed.ensures.rows new c.mark_dependents.ensures.rows)
