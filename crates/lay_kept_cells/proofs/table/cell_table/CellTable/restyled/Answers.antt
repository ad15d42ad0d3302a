use Rattle.std.proofs.Common.{◌≡◌, subst, sym}
use Rattle.std.specs.Arc.{arc_value}
use Rattle.lay_shape.specs.Touched.ContextFlags.{ContextLists}
use Rattle.lay_after_edits.specs.Contexts.Links.{AreRestyled}
use Rattle.lay_kept_cells.specs.declared.table.cell_table.SharedColumns.{SharedColumns}
use Rattle.lay_kept_cells.specs.Table.CellTables.{AreTableColumns}
use Rattle.lay_kept_cells.proofs.Cited.{links-stay, unflagged-stay}
use Rattle.lay_kept_cells.proofs.TableLemmas.RestyledTables.{columns_of, restyled_columns}
use Rattle.lay_kept_cells.proofs.table.cell_table.CellTable.restyled.Goals as goal

pub later_formatting_contexts-requires-clause-are : goal.later_formatting_contexts-requires-clause-are
later_formatting_contexts-requires-clause-are c = c.self.invariant.are_formatting_contexts

pub later_formatting_contexts-requires-clause-links : goal.later_formatting_contexts-requires-clause-links
later_formatting_contexts-requires-clause-links c =
    links-stay c.self.inside.contexts c.args.contexts c.args.made.now
    (subst (λ (t : ContextLists). AreRestyled t.contexts c.args.contexts c.args.made.now) (sym c.self.view_is) c.requires)

pub later_formatting_contexts-requires-clause-kept : goal.later_formatting_contexts-requires-clause-kept
later_formatting_contexts-requires-clause-kept c =
    unflagged-stay c.self.inside.contexts c.args.contexts c.args.made.now
    (subst (λ (t : ContextLists). AreRestyled t.contexts c.args.contexts c.args.made.now) (sym c.self.view_is) c.requires)

pub invariant_of-result : goal.invariant_of-result
invariant_of-result c =
    let was : ContextLists = record { contexts = c.self.inside.contexts; formatting_contexts = c.self.inside.formatting_contexts } in
    let later : ContextLists = record { contexts = c.args.contexts; formatting_contexts = c.in_ok-all.all } in
    let flags = c.in_ok-measured.measured.items in
    let restyled = subst (λ (t : ContextLists). AreRestyled t.contexts c.args.contexts c.args.made.now) (sym c.self.view_is) c.requires in
    let same : arc_value c.in_ok-shared.shared ≡ arc_value c.self.inside.shared = c.in_ok-shared.ensures.cases in
    subst (λ (s : SharedColumns). AreTableColumns later (columns_of flags s)) (sym same)
    (restyled_columns was (columns_of c.self.inside.measured.items (arc_value c.self.inside.shared)) c.self.invariant c.args.contexts c.args.made.now restyled
    c.in_ok-all.all (c.in_ok-all.ensures {u = tt}) c.len.ensures.are flags (c.in_ok-measured.ensures {u = tt}))
