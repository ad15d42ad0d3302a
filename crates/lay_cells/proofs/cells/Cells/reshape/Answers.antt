use Rattle.std.proofs.Common.{◌≡◌, ◌∙◌, List, ap, map, subst, sym, true}
use Rattle.std.proofs.lemmas.Bool.{false≢true}
use Rattle.std.specs.BTreeSet.{contains}
use Rattle.lay_cells.specs.Shapes.{Entry, IsEachOnce, IsIn, IsShape}
use Rattle.lay_cells.specs.Rows.{entry_of, row_of}
use Rattle.lay_cells.specs.Kept.{IsLowest, IsWired}
use Rattle.lay_cells.specs.Sound.{IsSound}
use Rattle.lay_cells.specs.Plans.{IsIndexOf, blank_row}
use Rattle.lay_cells.specs.Reshapes.{RebuildsAll}
use Rattle.lay_cells.proofs.Unchanged.{reshapes_present}
use Rattle.lay_cells.proofs.Rebuilt.{blank_entries, blank_is, blank_wired, keys_once, needs_named, rebuilt_sound, reshaped}
use Rattle.lay_cells.proofs.Marked.{shaped_wires}
use Rattle.lay_cells.proofs.Settled.{rebuilds_more}
use Rattle.lay_cells.proofs.cells.Cells.reshape.Goals as goal

pub index_of-requires-after_bounds : goal.index_of-requires-after_bounds
index_of-requires-after_bounds g c _ _ = subst IsEachOnce (sym c.keys.ensures) (keys_once c.args.shape (subst IsShape c.shape.view_is c.shape.invariant.shaped))

pub blank_cells-requires-after_bounds : goal.blank_cells-requires-after_bounds
blank_cells-requires-after_bounds g c _ _ =
    let index = subst (IsIndexOf g.W.Key.Ord.cmp c.in_ok-index.index) c.keys.ensures c.in_ok-index.ensures in
    let plans = c.into_plans.ensures.plans in
    needs_named g.W.Key.Ord.cmp c.in_ok-index.index c.into_plans.result.items (subst IsShape (sym plans) c.into_plans.ensures.shaped)
    (subst (λ (es : List (Entry _)). IsIndexOf g.W.Key.Ord.cmp c.in_ok-index.index (map (λ (e : Entry _). e.key) es)) (sym plans) index)

pub settle_all-self-inside-requires-clause-wired : goal.settle_all-self-inside-requires-clause-wired
settle_all-self-inside-requires-clause-wired g c _ _ =
    let index = subst (IsIndexOf g.W.Key.Ord.cmp c.in_ok-index.index) c.keys.ensures c.in_ok-index.ensures in
    let rows = c.in_ok-cells.ensures.rows ∙ ap (map blank_row) c.into_plans.ensures.plans in
    (c.in_ok-index.index, blank_wired g.W.Key.Ord.cmp c.in_ok-index.index c.in_ok-cells.cells.items c.args.shape rows index c.in_ok-cells.ensures.placed)

pub settle_all-self-inside-requires-clause-shaped : goal.settle_all-self-inside-requires-clause-shaped
settle_all-self-inside-requires-clause-shaped g c _ _ =
    let rows = c.in_ok-cells.ensures.rows ∙ ap (map blank_row) c.into_plans.ensures.plans in
    subst IsShape (sym (blank_entries c.in_ok-cells.cells.items c.args.shape rows)) c.into_plans.ensures.shaped

pub settle_all-self-inside-requires-clause-blank : goal.settle_all-self-inside-requires-clause-blank
settle_all-self-inside-requires-clause-blank g c _ _ =
    let rows = c.in_ok-cells.ensures.rows ∙ ap (map blank_row) c.into_plans.ensures.plans in
    blank_is c.in_ok-cells.cells.items c.args.shape rows

pub invariant_of-self : goal.invariant_of-self
invariant_of-self g c =
    let cells = c.in_ok-cells.cells.items in
    let new = c.settle_all-self-inside.new.cells.items in
    let index = subst (IsIndexOf g.W.Key.Ord.cmp c.in_ok-index.index) c.keys.ensures c.in_ok-index.ensures in
    let rows = c.in_ok-cells.ensures.rows ∙ ap (map blank_row) c.into_plans.ensures.plans in
    let shaped = subst IsShape (sym (blank_entries cells c.args.shape rows)) c.into_plans.ensures.shaped in
    let wires = c.settle_all-self-inside.ensures.wires in
    record {
      sound = rebuilt_sound g.W.Work.relates (map row_of c.self.inside.cells.items) c.self.inside.draws c.self.invariant.sound (λ k. contains g.W.Key.Ord.cmp c.in_ok-fresh.fresh k ≡ true) (map row_of new)
          (map entry_of (map row_of cells)) c.settle_all-self-inside.result c.settle_all-self-inside.ensures.rows (shaped_wires cells new wires shaped);
      wired = subst (IsWired g.W.Key.Ord.cmp c.in_ok-index.index) (sym wires) (blank_wired g.W.Key.Ord.cmp c.in_ok-index.index cells c.args.shape rows index c.in_ok-cells.ensures.placed);
      first_dirty = subst (λ (xs : List _). IsLowest (map row_of xs) c.next_dirty-self-inside.result) c.as_slice.ensures.value c.next_dirty-self-inside.ensures;
    }

pub returns-clause-ok : goal.returns-clause-ok
returns-clause-ok g c =
    let cells = c.in_ok-cells.cells.items in
    let new = c.settle_all-self-inside.new.cells.items in
    let rows = c.in_ok-cells.ensures.rows ∙ ap (map blank_row) c.into_plans.ensures.plans in
    let old = map row_of c.self.inside.cells.items in
    let listed = rebuilds_more old (λ k. contains g.W.Key.Ord.cmp c.in_ok-fresh.fresh k ≡ true) (IsIn c.args.fresh.now) (λ k f. (c.in_ok-fresh.ensures k).0 f) (λ k h. (c.in_ok-fresh.ensures k).1 h)
    (map row_of new) (map row_of new) (λ x has. has) c.self.inside.draws (map entry_of (map row_of cells)) (map row_of new) c.settle_all-self-inside.result c.settle_all-self-inside.ensures.rows in
    reshaped c.args.self.now c.self.inside.cells.items new c.self.inside.draws c.settle_all-self-inside.result c.self.view_is c.args.shape c.args.fresh.now
    (subst (λ (es : List (Entry _)). RebuildsAll old (IsIn c.args.fresh.now) (map row_of new) c.self.inside.draws es (map row_of new) c.settle_all-self-inside.result)
    (blank_entries cells c.args.shape rows) listed)

pub returns-clause-present : goal.returns-clause-present
returns-clause-present g c same none = absurd (false≢true (sym c.if-is_present.false ∙ c.is_present.ensures.1 (same, none)))

pub returns-then-is_present-clause-ok : goal.returns-then-is_present-clause-ok
returns-then-is_present-clause-ok g c =
    let same = c.is_present.ensures.0 c.if-is_present.true in
    let sound = subst (IsSound g.W.Work.relates) c.self.view_is c.self.invariant.sound in
    reshapes_present g.W.Work.relates c.args.self.now sound c.args.shape c.args.fresh.now same.0 same.1
