-- Preferred widths that don't count change no tree: workings that have all of them meet the equations with those alone that count.
use Rattle.std.proofs.Common.{◌≡◌, ◌<◌, ◌≤◌, ℕ, zero, suc, ◌+◌, Bool, true, false, if◌then◌else◌, List, [], ◌∷◌, length, slice_index, refl, sym, ◌∙◌, subst, arith}
use Rattle.std.specs.Prelude.{Option, Some, None}
use Rattle.std.proofs.lemmas.Bool.{false_from_ne_true, both_ways}
use Rattle.lay_box_tree.specs.declared.box_tree.BoxNode.{BoxNode}
use Rattle.lay_box_tree.specs.declared.box_tree.Flow.{Flow}
use Rattle.lay_box_tree.specs.declared.box_tree.Flow.TheVariants.{Absolute as absolute, Floating as floating, InFlow as in_flow}
use Rattle.lay_sizes.specs.declared.sizing.BoxSizes.{BoxSizes}
use Rattle.lay_sizes.specs.declared.sizing.ContainingBlock.{ContainingBlock}
use Rattle.lay_contexts.specs.FormattingContexts.{AreFormattingContexts, FormattingContext, boxes_in, formatting_context_at}
use Rattle.lay_contexts.specs.FormattingLaws.{FormattingContextsStandInOrder}
use Rattle.lay_frag.specs.Pieces.{Context as PageContext}
use Rattle.lay_positioned.specs.Absolute.{is_absolute, is_absolute_flow, is_own_absolute}
use Rattle.lay_positioned.specs.Settings.{absolute_setting}
use Rattle.lay_table_sizes.specs.TableSizesValue.{TableSizesValue, cell_at}
use Rattle.lay_table_sizes.specs.declared.cell_size.CellSize.{CellSize}
use Rattle.lay_context_sizes.specs.ContextSizes.{HasSizes, SizedContext}
use Rattle.lay_context_sizes.specs.ContextWidths.{IsMeasured}
use Rattle.lay_context_sizes.specs.Inputs.{MeasureInput}
use Rattle.lay_context_sizes.specs.Laws.{WidthsCountWhereShrunk, is_absolute_setting}
use Rattle.lay_context_sizes.specs.MeasuredContexts.{MeasuredContext}
use Rattle.lay_context_sizes.specs.ShrinkToFit.{shrinks, shrinks_to_fit}
use Rattle.lay_context_sizes.specs.declared.setting.Setting.{Setting}
use Rattle.lay_context_sizes.specs.declared.setting.Setting.TheVariants.{Absolute}
use Rattle.lay_context.specs.declared.task.Phase.{Phase}
use Rattle.lay_context.specs.declared.task.Phase.TheVariants.{Measure, Size, Place}
use Rattle.lay_context.specs.declared.value.Value.TheVariants as value
use Rattle.lay_context.specs.AllMeasured.{SolvesMeasured}
use Rattle.lay_context.specs.DocumentLayout.{flow_numbers, inner_widths, widths_in}
use Rattle.lay_context.specs.Laws.{MeasuringAllChangesNoTree}
use Rattle.lay_context.specs.Local.{IsLocal, IsTaskDone, measure_as, measure_input, size_input}
use Rattle.lay_context.specs.Measured.{is_measured}
use Rattle.lay_context.specs.Medium.{Medium}
use Rattle.lay_context.specs.Settings.{flow_setting, laid, setting_as, setting_in_table, setting_of, sizes_in}
use Rattle.lay_context.specs.Solves.{IsAssembled, SolvesContexts, medium_of}
use Rattle.lay_context.specs.Workings.{Workings}
use Rattle.lay_context.proofs.MeasuredInward.{measured_goes_inward_lem}
use Rattle.lay_context.proofs.OneTree.{in_order, one_tree, page_contexts_same}
use Rattle.lay_context.proofs.OneValue.{OneAnswer}
use Rattle.lay_context.proofs.ShrinkSteps.{shrinks_here}
use Rattle.lay_context.proofs.TaskInputs.{widths_same}
use Rattle.lay_context.proofs.TaskOrder.{flow_inside}

-- what is absolutely positioned shrinks to fit, and so is measured
absolute_shrinks : (boxes : List BoxNode) → is_own_absolute boxes ≡ true → shrinks_to_fit boxes ≡ true
absolute_shrinks [] is = cc
absolute_shrinks (b ∷ boxes) is = by b.flow is
  where
    by : (flow : Flow) → is_absolute_flow flow ≡ true → shrinks flow b.kind b.style ≡ true
    by absolute e = refl
    by floating e = cc
    by in_flow e = cc

in_table : (sizes : List BoxSizes) (table : TableSizesValue) (cell : Option CellSize) → is_absolute_setting (setting_in_table sizes table cell) ≡ false
in_table sizes table None = refl
in_table sizes table (Some cell) = refl

among_boxes : (boxes : List BoxNode) (sizes : List BoxSizes) (table : Option TableSizesValue) (k : ℕ) → is_absolute_setting (setting_as boxes sizes table k) ≡ false
among_boxes boxes sizes None k = refl
among_boxes boxes sizes (Some table) k = in_table sizes table (cell_at table k)

in_flow_setting : (viewport : ContainingBlock) (contexts : List FormattingContext) (sizes : List SizedContext) (i : ℕ) → is_absolute_setting (flow_setting viewport contexts sizes i) ≡ false
in_flow_setting viewport contexts sizes zero = refl
in_flow_setting viewport contexts sizes (suc i) =
    let c = formatting_context_at contexts (suc i) in
    among_boxes (boxes_in contexts c.outer) (sizes_in sizes c.outer).boxes (sizes_in sizes c.outer).table c.outer_box

not_absolute : (b : Bool) (x y : Setting) → b ≡ false → is_absolute_setting y ≡ false → is_absolute_setting (if b then x else y) ≡ false
not_absolute true x y e is = cc
not_absolute false x y e is = is

measured_local : (b : Bool) (i : MeasureInput) (widths : MeasuredContext) → b ≡ true → IsLocal (measure_as b i) (value.Measure widths) → IsMeasured i widths
measured_local true i widths e local = local
measured_local false i widths e local = cc

module _ (one : OneAnswer) (count : WidthsCountWhereShrunk) (medium : Medium) (contexts : List FormattingContext) (are : AreFormattingContexts contexts)
    (s t : List PageContext) (a : SolvesContexts medium contexts s) (b : SolvesMeasured medium contexts t) where
  abbrev v : Workings
  v = a.workings

  abbrev w : Workings
  w = b.workings

  -- from the last one to the first, where they count they are the same
  same_widths : (m i : ℕ) → length contexts ≤ i + m → i < length contexts → is_measured contexts i ≡ true → widths_in v.widths i ≡ widths_in w.widths i
  same_widths zero i le lt is = absurd (omega (arith, le, lt))
  same_widths (suc m) i le lt is =
      let inner : inner_widths contexts v.widths i ≡ inner_widths contexts w.widths i =
      widths_same v.widths w.widths (flow_numbers contexts i) (λ k there some.
      (let j : ℕ = slice_index (flow_numbers contexts i) k in
      let inside = (flow_inside contexts i j (record { box = k; within = there; number = refl; some = some })).inside in
      let behind = are.behind i j lt inside in
      same_widths m j (omega (arith, behind, le)) (are.within i j lt inside) (measured_goes_inward_lem contexts i j are lt inside is))) in
      let here : IsMeasured (measure_input medium contexts v i) (widths_in v.widths i) =
      measured_local (is_measured contexts i) (measure_input medium contexts v i) (widths_in v.widths i) is (a.done (record { context = i; phase = Measure }) lt) in
      let there : IsMeasured (measure_input medium contexts w i) (widths_in w.widths i) = b.done (record { context = i; phase = Measure }) lt in
      let moved : IsMeasured (measure_input medium contexts v i) (widths_in w.widths i) = rw inner there in
      one.widths (measure_input medium contexts v i) (widths_in v.widths i) (widths_in w.widths i) here moved

  -- those that count, with all other values
  abbrev kept : Workings
  kept = record { widths = v.widths; sizes = w.sizes; places = w.places }

  sized_by : (i : ℕ) → i < length contexts → (m : Bool) → is_measured contexts i ≡ m → HasSizes (size_input medium contexts kept i) (sizes_in w.sizes i)
  sized_by i lt true is =
      let same = same_widths (length contexts) i (omega arith) lt is in
      subst (λ (x : MeasuredContext). HasSizes (record { boxes = boxes_in contexts i; measured = x; setting = setting_of medium.viewport contexts w i }) (sizes_in w.sizes i)) (sym same)
      (b.done (record { context = i; phase = Size }) lt).1
  sized_by i lt false is =
      let shrunk : shrinks_to_fit (boxes_in contexts i) ≡ false = false_from_ne_true (shrinks_to_fit (boxes_in contexts i)) (λ e. both_ways (is_measured contexts i) is (shrinks_here i contexts i e)) in
      let flow : is_absolute contexts i ≡ false = false_from_ne_true (is_absolute contexts i) (λ e. both_ways (shrinks_to_fit (boxes_in contexts i)) shrunk (absolute_shrinks (boxes_in contexts i) e)) in
      let setting = not_absolute (is_absolute contexts i) (Absolute (absolute_setting medium.viewport contexts (laid w) i)) (flow_setting medium.viewport contexts w.sizes i) flow (in_flow_setting medium.viewport contexts w.sizes i) in
      count (size_input medium contexts w i) (widths_in v.widths i) (sizes_in w.sizes i) shrunk setting (b.done (record { context = i; phase = Size }) lt).1

  kept_done : (phase : Phase) (i : ℕ) → i < length contexts → IsTaskDone medium contexts kept (record { context = i; phase = phase })
  kept_done Measure i lt = a.done (record { context = i; phase = Measure }) lt
  kept_done Size i lt = (are.boxes i lt, sized_by i lt (is_measured contexts i) refl)
  kept_done Place i lt = b.done (record { context = i; phase = Place }) lt

  kept_assembled : IsAssembled contexts kept t
  kept_assembled = record {
    corners = b.assembled.corners;
    has_corners = b.assembled.has_corners;
    tree_is = b.assembled.tree_is ∙ page_contexts_same contexts w kept b.assembled.corners b.assembled.corners refl refl refl (length contexts);
  }

  pub same_tree : s ≡ t
  same_tree = one_tree one medium contexts are s t a (record {
    workings = kept;
    counts = record { widths = a.counts.widths; sizes = b.counts.sizes; places = b.counts.places };
    done = λ task lt. kept_done task.phase task.context lt;
    assembled = kept_assembled;
  })

pub measuring_all_changes_no_tree_lem : OneAnswer → WidthsCountWhereShrunk → FormattingContextsStandInOrder → MeasuringAllChangesNoTree
measuring_all_changes_no_tree_lem one count stand_in_order d face s t is a b =
    same_tree one count (medium_of d face) a.formatting_contexts (in_order stand_in_order d face s is a) s t a.solves_contexts b
