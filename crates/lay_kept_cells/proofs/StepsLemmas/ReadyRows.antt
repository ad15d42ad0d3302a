-- What a clean cell keeps is right beside what it would be given now, so its sizes are of the boxes of its context; and all that a cell
-- that is ready depends on is clean.
use Rattle.std.proofs.Common.{◌≡◌, ⊎_elim, inl, inr, ◌<◌, ◌+◌, ◌-◌, ℕ, suc, List, length, slice_get, Option, None, Some, option_map, refl, ap, sym, subst, ◌∙◌, arith}
use Rattle.std.proofs.lemmas.List.FromFn.{get_or-map-range_with_len, length-map-range_with_len}
use Rattle.std.proofs.lemmas.Option.{slice_get-get_or}
use Rattle.lay_doc.specs.Document.{Document}
use Rattle.lay_face.specs.FaceValue.{FaceValue}
use Rattle.lay_context_sizes.specs.MeasuredContexts.{not_measured}
use Rattle.lay_table_grid.specs.GridLaws.{GridsAreOfBoxes}
use Rattle.lay_cells.specs.Looks.{IsClean, Looks}
use Rattle.lay_cells.specs.Reads.{AllClean}
use Rattle.lay_cells.specs.Rows.{Solved}
use Rattle.lay_cells.specs.Shapes.{IsIn}
use Rattle.lay_cells.specs.declared.answers.Look.TheVariants as look
use Rattle.lay_contexts.specs.Contexts.{Context}
use Rattle.lay_contexts.specs.FormattingContexts.{AreFormattingContexts, FormattingContext, boxes_in}
use Rattle.lay_contexts.specs.FormattingContextList.{first_number}
use Rattle.lay_contexts.specs.Laws.{AnonymousBoxesAreInFlow}
use Rattle.lay_kept_cells.proofs.Cited.{all_done, AreCalm, counted as values_counted, first_le, in_map, in_order as contexts_in_order, IsOf, kept_right, leads_out, number_is_of, own_number, root_of, same_context, sizes_are_of_boxes, sizes_at, stands}
use Rattle.lay_context_sizes.specs.ContextSizes.{SizedContext, not_sized}
use Rattle.lay_context.specs.declared.task.Phase.{Phase}
use Rattle.lay_context.specs.declared.task.Phase.TheVariants as phase
use Rattle.lay_context.specs.declared.value.Value.{Value}
use Rattle.lay_context.specs.declared.value.Value.TheVariants as value
use Rattle.lay_context.specs.Local.{IsLocal, flow_input, size_input, stand_input, table_input}
use Rattle.lay_context.specs.Medium.{Medium}
use Rattle.lay_context.specs.Needs.{Needs}
use Rattle.lay_context.specs.PlacedContexts.{not_placed, placed_in}
use Rattle.lay_context.specs.Settings.{sizes_in}
use Rattle.lay_context.specs.Settling.{AreKnown, AreOfBoxes, IsReady}
use Rattle.lay_context.specs.Solves.{medium_of}
use Rattle.lay_context.specs.Workings.{Workings}
use Rattle.lay_shape.specs.declared.cell_key.CellKey.{CellKey}
use Rattle.lay_shape.specs.Dependencies.{in_phase, needs_in}
use Rattle.lay_shape.specs.Keys.{key_of as key_of_cell}
use Rattle.lay_shape.specs.ShapeLaws.NeedLaws.{IsShapedNeed, NeedsAreShaped}
use Rattle.lay_cell_work.specs.CellInputs.{CellInput, RootInput}
use Rattle.lay_cell_work.specs.CellLocal.{IsCellLocal, whole_input}
use Rattle.lay_cell_work.specs.CellValues.{CellValue, Places, Sizes, Widths, own_measured, own_places, own_sizes, phase_of, root_value}
use Rattle.lay_cell_work.specs.KeptValues.{kept_value, kept_workings, value_or_none}
use Rattle.lay_cell_work.specs.PresentInputs.{key_of, present_input, root_count, root_input}
use Rattle.lay_cell_work.specs.CellLaws.DocumentCells.{AreDocumentCells}
use Rattle.lay_cell_work.specs.CellLaws.SoundCells.{CellRow, CellState, CleanCellsSolve, input_now}
use Rattle.lay_kept_cells.specs.Steps.ReadyCells.{AssembledTreesSolve, CleanCellsAreKnown, KeptValuesAreCounted, ReadyToInput}
use Rattle.lay_kept_cells.proofs.StepsLemmas.ChangedRow.{apart, counted, in_order}
use Rattle.lay_kept_cells.proofs.StepsLemmas.RowsOfContexts.{needs_are, value_is}

pub kept_values_are_counted_lem : KeptValuesAreCounted
kept_values_are_counted_lem contexts all rows of = record {
  widths = values_counted not_measured contexts (λ c. own_measured (kept_value rows contexts c phase.Measure)) (length contexts) ∙ sym of.count;
  sizes = values_counted not_sized contexts (λ c. own_sizes (kept_value rows contexts c phase.Size)) (length contexts) ∙ sym of.count;
  places = values_counted not_placed contexts (λ c. own_places (kept_value rows contexts c phase.Place)) (length contexts) ∙ sym of.count;
}

pub assembled_trees_solve_lem : CleanCellsSolve → AssembledTreesSolve
assembled_trees_solve_lem solve d face contexts all s tree cells clean assembled =
    solve d face s tree cells.is_document (record {
      styles = cells.styles;
      has_styles = cells.has_styles;
      contexts = contexts;
      are_contexts = cells.are_contexts;
      formatting_contexts = all;
      are_formatting_contexts = cells.are_formatting_contexts;
      cells = cells.cells;
    }) clean assembled

-- what a row keeps
record KeepsPair (k : Option (Solved CellKey CellInput CellValue)) (i : CellInput) : Type 0 where
  pair : Solved CellKey CellInput CellValue
  is : k ≡ Some pair
  input : pair.input ≡ i

keeps_pair : (k : Option (Solved CellKey CellInput CellValue)) (i : CellInput) → option_map (λ (x : Solved CellKey CellInput CellValue). x.input) k ≡ Some i → KeepsPair k i
keeps_pair None i e = absurd cc
keeps_pair (Some x) i e = record { pair = x; is = refl; input = cc }

-- the part of a root
size_part : (v : CellValue) (r : ℕ) → phase_of v ≡ phase.Size → root_value v r ≡ value.Size (sizes_in (own_sizes v) r)
size_part (Widths ws) r e = absurd cc
size_part (Sizes zs) r e = refl
size_part (Places ps) r e = absurd cc

-- sizes of a value that is right beside what a cell is given are of its boxes
module _ (below : GridsAreOfBoxes) (medium : Medium) (contexts : List Context) (all : List FormattingContext) (w : Workings) (v : CellValue) where
  sized_root : (c j : ℕ) → IsOf contexts c j → IsCellLocal (present_input medium contexts all w c phase.Size) v → AreOfBoxes (boxes_in all j) (sizes_in (own_sizes v) (j - first_number contexts c))
  sized_root c j is right =
      let first : ℕ = first_number contexts c in
      let r : ℕ = j - first in
      let from = is.from in
      let until = is.until in
      let f : ℕ → RootInput = λ k. root_input medium all w first (first + k) phase.Size in
      let roots : List RootInput = (present_input medium contexts all w c phase.Size).roots in
      let count : length roots ≡ root_count contexts c = length-map-range_with_len f 0 (root_count contexts c) in
      let low : r < root_count contexts c = omega (arith, from, until) in
      let e : first + r ≡ j = omega (arith, from) in
      let x : RootInput = root_input medium all w first j phase.Size in
      let there : slice_get roots r ≡ Some x =
      slice_get-get_or roots r (f 0) (omega (arith, low, count))
      ∙ ap Some (get_or-map-range_with_len f 0 (root_count contexts c) r r (f 0) low (omega arith) ∙ ap (λ (i : ℕ). root_input medium all w first i phase.Size) e) in
      let local : IsLocal (whole_input roots v x) (value.Size (sizes_in (own_sizes v) r)) = subst (λ (y : Value). IsLocal (whole_input roots v x) y) (size_part v r right.phase) (right.each r x there) in
      sizes_are_of_boxes below _ (sizes_in (own_sizes v) r) local.0 local.1

-- the sizes that a task of sizes needs are of a formatting context before it
size_needs_lower : (all : List FormattingContext) → AreFormattingContexts all → (p : Phase) (m j : ℕ) → m < length all → p ≡ phase.Size
    → Needs all (record { context = m; phase = p }) (record { context = j; phase = phase.Size }) → j < m
size_needs_lower all are phase.Measure m j lt e needs = absurd needs
size_needs_lower all are phase.Place m j lt e needs = absurd cc
size_needs_lower all are phase.Size m j lt e (inl around) = let low = are.outer m around.some lt in let is = around.is in omega (arith, low, is)
size_needs_lower all are phase.Size m j lt e (inr way) = leads_out all are m j lt way.way

module _ (d : Document) (face : FaceValue) (contexts : List Context) (all : List FormattingContext) (s : CellState) (cells : AreDocumentCells d face contexts all s) where
  abbrev W : Workings
  W = kept_workings s.rows contexts

  pub right_at : (c : ℕ) (p : Phase) → c < length contexts → IsClean s.rows (key_of contexts c p)
      → IsCellLocal (input_now (medium_of d face) contexts all s.rows c p) (kept_value s.rows contexts c p)
  right_at c p lt clean =
      let u : CellRow = clean.0 in
      let has = cells.cells.present c p u lt (record { there = clean.1; key = clean.2 }) clean.3 in
      let k = keeps_pair u.kept (input_now (medium_of d face) contexts all s.rows c p) has in
      let meets = ((cells.cells.sound.each u clean.1).pair k.pair k.is).meets in
      let value : kept_value s.rows contexts c p ≡ k.pair.value =
      value_is s.rows cells.cells.sound.shaped (key_of contexts c p) u clean.1 clean.2 ∙ ap (value_or_none p) k.is in
      subst (λ (i : CellInput). IsCellLocal i (kept_value s.rows contexts c p)) k.input (subst (λ (v : CellValue). IsCellLocal k.pair.input v) (sym value) meets)

  -- so sizes that are kept of a clean cell are of its boxes
  pub sized_at : GridsAreOfBoxes → (c j : ℕ) → c < length contexts → IsOf contexts c j → IsClean s.rows (key_of contexts c phase.Size) → AreOfBoxes (boxes_in all j) (sizes_in W.sizes j)
  sized_at below c j lt is clean =
      let v : CellValue = kept_value s.rows contexts c phase.Size in
      let sized = sized_root below (medium_of d face) contexts all W v c j is (right_at c phase.Size lt clean) in
      subst (λ (z : SizedContext). AreOfBoxes (boxes_in all j) z) (sym (sizes_at contexts (kept_value s.rows contexts) c j lt is)) sized

  -- what a cell that is ready depends on
  needs_clean : (c : ℕ) (p : Phase) → c < length contexts → Looks s.rows (key_of contexts c p) look.Ready → (x : ℕ) (needed : Phase)
      → IsIn (needs_in contexts (in_phase p c)) (in_phase needed x) → IsClean s.rows (key_of contexts x needed)
  needs_clean c p lt ready x needed has =
      let needs = needs_are contexts (in_order d face contexts all s cells) s.rows cells.shaped (apart d face contexts all s cells) c p ready.0 lt ready.1 ready.2 in
      let listed : IsIn ready.0.needs (key_of contexts x needed) =
      subst (λ (ns : List CellKey). IsIn ns (key_of contexts x needed)) (sym needs) (in_map (key_of_cell contexts) (needs_in contexts (in_phase p c)) (in_phase needed x) has) in
      ready.4 (key_of contexts x needed) listed

  module _ (below : GridsAreOfBoxes) (shaped : NeedsAreShaped) (c r : ℕ) (p : Phase) (lt : c < length contexts) (low : r < root_count contexts c) (own : p ≡ phase.Size → r ≡ 0)
      (ready : Looks s.rows (key_of contexts c p) look.Ready) where
    abbrev M : ℕ
    M = first_number contexts c + r

    within : M < length all
    within =
        let up = first_le contexts (suc c) (length contexts) (omega (arith, lt)) in
        omega (arith, up, low, cells.are_formatting_contexts.count)

    here : IsOf contexts c M
    here = record { from = omega arith; until = omega (arith, low) }

    -- a need of sizes, by which cell it is of
    need_sized : (j : ℕ) → Needs all (record { context = M; phase = p }) (record { context = j; phase = phase.Size })
        → IsShapedNeed contexts c p (record { context = j; phase = phase.Size }) → AreOfBoxes (boxes_in all j) (sizes_in W.sizes j)
    need_sized j needs of =
        let is : IsOf contexts of.context j = subst (IsOf contexts of.context) (sym of.number) (number_is_of contexts of.context of.root of.inside of.is_root) in
        ⊎_elim
        (λ (has : IsIn (needs_in contexts (in_phase p c)) (in_phase phase.Size of.context)).
        sized_at below of.context j of.within is (needs_clean c p lt ready of.context phase.Size has))
        (λ (same : (of.context ≡ c) × (phase.Size ≡ p)).
        absurd (
        let first = own (sym same.1) in
        let before = size_needs_lower all (contexts_in_order contexts all (in_order d face contexts all s cells) cells.are_formatting_contexts) p M j within (sym same.1) needs in
        let at = (subst (λ (n : ℕ). IsOf contexts n j) same.0 is).from in
        omega (arith, first, before, at)
        ))
        of.shaped

    ready_for : IsReady all W (record { context = M; phase = p })
    ready_for = record {
      within = within;
      counts = kept_values_are_counted_lem contexts all s.rows cells.are_formatting_contexts;
      sized = λ j needs.
          (let n = root_of contexts all (in_order d face contexts all s cells) cells.are_formatting_contexts M within in
          let same : n.context ≡ c = same_context contexts n.context c M (own_number contexts all (in_order d face contexts all s cells) cells.are_formatting_contexts M n) here in
          let numbered = subst (λ (m : ℕ). Needs all (record { context = m; phase = p }) (record { context = j; phase = phase.Size })) (sym n.number) needs in
          let of = shaped d cells.styles contexts all n.context n.place p (record { context = j; phase = phase.Size }) cells.is_document (counted d face contexts all s cells) cells.are_contexts
          cells.are_formatting_contexts n.before n.inside n.root numbered in
          need_sized j needs (subst (λ (i : ℕ). IsShapedNeed contexts i p (record { context = j; phase = phase.Size })) same of));
    }

  module _ (below : GridsAreOfBoxes) (calm : AnonymousBoxesAreInFlow) (clean : AllClean s.rows) where
    flows : AreCalm contexts
    flows i k lt anonymous = calm d cells.styles contexts i k cells.is_document (counted d face contexts all s cells) cells.are_contexts lt anonymous

    known : AreKnown all W
    known =
        let are = in_order d face contexts all s cells in
        let right = kept_right (medium_of d face) contexts all s cells.cells clean in
        let done = all_done (medium_of d face) contexts all are flows cells.are_formatting_contexts (kept_value s.rows contexts) right in
        record {
          counts = kept_values_are_counted_lem contexts all s.rows cells.are_formatting_contexts;
          sized = λ i lt. (let local = done (record { context = i; phase = phase.Size }) lt in
              (sizes_are_of_boxes below (size_input (medium_of d face) all W i) (sizes_in W.sizes i) local.0 local.1).count);
          standing = λ i lt. stands (flow_input (medium_of d face) all W i) (stand_input (medium_of d face) all W i) (table_input all W i) (λ t. refl) (sizes_in W.sizes i).table (placed_in W.places i)
              (done (record { context = i; phase = phase.Place }) lt);
        }

pub ready_to_input_lem : GridsAreOfBoxes → NeedsAreShaped → ReadyToInput
ready_to_input_lem below shaped d face contexts all s c r p cells lt low own ready = ready_for d face contexts all s cells below shaped c r p lt low own ready

pub clean_cells_are_known_lem : GridsAreOfBoxes → AnonymousBoxesAreInFlow → CleanCellsAreKnown
clean_cells_are_known_lem below calm d face contexts all s cells clean = known d face contexts all s cells below calm clean
