-- Cells that are all clean solve their document: what each keeps is right beside what it is given now.
use Rattle.std.proofs.Common.{◌≡◌, ◌<◌, ◌+◌, ◌-◌, ◌==◌, ◌&&◌, ℕ, zero, suc, Bool, true, false, List, [], ◌∷◌, length, slice_get, Option, None, Some, option_map, refl, ap, sym, subst, ◌∙◌, arith}
use Rattle.std.proofs.lemmas.List.FromFn.{get_or-map-range_with_len, length-map-range_with_len}
use Rattle.std.proofs.lemmas.Option.{slice_get-get_or}
use Rattle.std.proofs.lemmas.Bool.{eqb-true}
use Rattle.lay_cell_work.proofs.Cited.{are_contexts, length-parents, root_of}
use Rattle.lay_context_sizes.specs.MeasuredContexts.{not_measured}
use Rattle.lay_cells.specs.Shapes.{IsIn}
use Rattle.lay_cells.specs.Reads.{AllClean}
use Rattle.lay_cells.specs.Rows.{Solved}
use Rattle.lay_contexts.specs.Contexts.{AreContexts, Context}
use Rattle.lay_contexts.specs.FormattingContexts.{FormattingContext}
use Rattle.lay_contexts.specs.FormattingContextList.{AreFormattingContextsOf, first_number}
use Rattle.lay_contexts.specs.Laws.{AnonymousBoxesAreInFlow}
use Rattle.lay_context_sizes.specs.ContextSizes.{not_sized}
use Rattle.lay_context.specs.declared.input.Input.{Input}
use Rattle.lay_context.specs.declared.task.Phase.{Phase}
use Rattle.lay_context.specs.declared.task.Phase.TheVariants as phase
use Rattle.lay_context.specs.declared.task.Task.{Task}
use Rattle.lay_context.specs.declared.value.Value.{Value}
use Rattle.lay_context.specs.declared.value.Value.TheVariants as value
use Rattle.lay_context.specs.DocumentLayout.{widths_in}
use Rattle.lay_context.specs.Local.{HasCounts, IsLocal, IsTaskDone, input_of, value_by}
use Rattle.lay_context.specs.Medium.{Medium}
use Rattle.lay_context.specs.PlacedContexts.{not_placed, placed_in}
use Rattle.lay_context.specs.Settings.{sizes_in}
use Rattle.lay_context.specs.Solves.{medium_of}
use Rattle.lay_context.specs.Workings.{Workings}
use Rattle.lay_cell_work.specs.CellInputs.{CellInput, RootInput}
use Rattle.lay_shape.specs.declared.cell_key.CellKey.{CellKey}
use Rattle.lay_cell_work.specs.CellLocal.{IsCellLocal, whole_input}
use Rattle.lay_cell_work.specs.CellValues.{CellValue, Places, Sizes, Widths, own_measured, own_places, own_sizes, phase_of, root_value}
use Rattle.lay_cell_work.specs.KeptValues.{is_key, is_phase, kept_value, kept_workings, value_or_none, value_under, workings_of}
use Rattle.lay_cell_work.specs.PresentInputs.{key_of, present_input, root_count, root_input}
use Rattle.lay_cell_work.specs.CellLaws.SoundCells.{AreCellsOf, CellRow, CellState, CleanCellsSolve, input_now}
use Rattle.lay_cell_work.proofs.CellLawsLemmas.EndToEnd.{counted}
use Rattle.lay_cell_work.proofs.CellLawsLemmas.RootsOfContexts.{AreCalm, IsOf, own_number}
use Rattle.lay_cell_work.proofs.CellLawsLemmas.WholeInputs.{placed_at, sizes_at, whole_is, widths_at}

-- the part of a root
measure_part : (v : CellValue) (r : ℕ) → phase_of v ≡ phase.Measure → root_value v r ≡ value.Measure (widths_in (own_measured v) r)
measure_part (Widths ws) r e = refl
measure_part (Sizes zs) r e = absurd cc
measure_part (Places ps) r e = absurd cc

size_part : (v : CellValue) (r : ℕ) → phase_of v ≡ phase.Size → root_value v r ≡ value.Size (sizes_in (own_sizes v) r)
size_part (Widths ws) r e = absurd cc
size_part (Sizes zs) r e = refl
size_part (Places ps) r e = absurd cc

place_part : (v : CellValue) (r : ℕ) → phase_of v ≡ phase.Place → root_value v r ≡ value.Place (placed_in (own_places v) r)
place_part (Widths ws) r e = absurd cc
place_part (Sizes zs) r e = absurd cc
place_part (Places ps) r e = refl

module _ (medium : Medium) (contexts : List Context) (all : List FormattingContext) (are : AreContexts contexts) (calm : AreCalm contexts) (of : AreFormattingContextsOf contexts all) (kept : ℕ → Phase → CellValue)
    (right : (c : ℕ) (p : Phase) → c < length contexts → IsCellLocal (present_input medium contexts all (workings_of contexts kept) c p) (kept c p)) where
  abbrev W : Workings
  W = workings_of contexts kept

  value_is : (p : Phase) (c m : ℕ) → c < length contexts → IsOf contexts c m → root_value (kept c p) (m - first_number contexts c) ≡ value_by W p m
  value_is phase.Measure c m lt is =
      measure_part (kept c phase.Measure) (m - first_number contexts c) (right c phase.Measure lt).phase ∙ ap value.Measure (sym (widths_at contexts kept c m lt is))
  value_is phase.Size c m lt is =
      size_part (kept c phase.Size) (m - first_number contexts c) (right c phase.Size lt).phase ∙ ap value.Size (sym (sizes_at contexts kept c m lt is))
  value_is phase.Place c m lt is =
      place_part (kept c phase.Place) (m - first_number contexts c) (right c phase.Place lt).phase ∙ ap value.Place (sym (placed_at contexts kept c m lt is))

  done_at : (p : Phase) (m : ℕ) → m < length all → IsLocal (input_of medium all W (record { context = m; phase = p })) (value_by W p m)
  done_at p m lt =
      let n = root_of contexts all are of m lt in
      let c : ℕ = n.context in
      let first : ℕ = first_number contexts c in
      let r : ℕ = m - first in
      let is = own_number contexts all are of m n in
      let from = is.from in
      let until = is.until in
      let f : ℕ → RootInput = λ k. root_input medium all W first (first + k) p in
      let roots : List RootInput = (present_input medium contexts all W c p).roots in
      let count : length roots ≡ root_count contexts c = length-map-range_with_len f 0 (root_count contexts c) in
      let low : r < root_count contexts c = omega (arith, from, until) in
      let e : first + r ≡ m = omega (arith, from) in
      let there : slice_get roots r ≡ Some (root_input medium all W first m p) =
      slice_get-get_or roots r (f 0) (omega (arith, low, count))
      ∙ ap Some (get_or-map-range_with_len f 0 (root_count contexts c) r r (f 0) low (omega arith) ∙ ap (λ (i : ℕ). root_input medium all W first i p) e) in
      let local = (right c p n.before).each r (root_input medium all W first m p) there in
      subst (λ (i : Input). IsLocal i (value_by W p m)) (whole_is medium contexts all are of kept m lt n calm p)
      (subst (λ (v : Value). IsLocal (whole_input roots (kept c p) (root_input medium all W first m p)) v) (value_is p c m n.before is) local)

  pub all_done : (task : Task) → task.context < length all → IsTaskDone medium all W task
  all_done task lt = done_at task.phase task.context lt

  pub has_counts : HasCounts all W
  has_counts = record {
    widths = counted not_measured contexts (λ c. own_measured (kept c phase.Measure)) (length contexts) ∙ sym of.count;
    sizes = counted not_sized contexts (λ c. own_sizes (kept c phase.Size)) (length contexts) ∙ sym of.count;
    places = counted not_placed contexts (λ c. own_places (kept c phase.Place)) (length contexts) ∙ sym of.count;
  }

same_phase : (p q : Phase) → is_phase p q ≡ true → p ≡ q
same_phase phase.Measure phase.Measure e = refl
same_phase phase.Measure phase.Size e = absurd cc
same_phase phase.Measure phase.Place e = absurd cc
same_phase phase.Size phase.Size e = refl
same_phase phase.Size phase.Measure e = absurd cc
same_phase phase.Size phase.Place e = absurd cc
same_phase phase.Place phase.Place e = refl
same_phase phase.Place phase.Measure e = absurd cc
same_phase phase.Place phase.Size e = absurd cc

is_same_phase : (p : Phase) → is_phase p p ≡ true
is_same_phase phase.Measure = refl
is_same_phase phase.Size = refl
is_same_phase phase.Place = refl

is_same_number : (a : ℕ) → (a == a) ≡ true
is_same_number a = grind arith

key_by : (a b : CellKey) (same : Bool) → (a.node.0 == b.node.0) ≡ same → (same && is_phase a.phase b.phase) ≡ true → a ≡ b
key_by a b true e f =
    let number : a.node.0 ≡ b.node.0 = eqb-true a.node.0 b.node.0 e in
    let phases : a.phase ≡ b.phase = same_phase a.phase b.phase f in
    ap (λ (n : ℕ). record { node = record { 0 = n }; phase = a.phase }) number ∙ ap (λ (p : Phase). record { node = b.node; phase = p }) phases
key_by a b false e f = absurd cc

pub key_is : (a b : CellKey) → is_key a b ≡ true → a ≡ b
key_is a b e = key_by a b (a.node.0 == b.node.0) refl e

pub is_same_key : (a : CellKey) → is_key a a ≡ true
is_same_key a = rw (is_same_number a.node.0) (is_same_phase a.phase)

-- the cell that is read under a key
record IsRead (rows : List CellRow) (key : CellKey) : Type 0 where
  row : CellRow
  there : IsIn rows row
  is : row.key ≡ key
  value : value_under rows key ≡ value_or_none key.phase row.kept

read_at : (rows : List CellRow) (key : CellKey) (place : ℕ) (r : CellRow) → slice_get rows place ≡ Some r → r.key ≡ key → IsRead rows key
read_at [] key place r e same = absurd cc
read_at (q ∷ rows) key place r e same = by (is_key q.key key) refl place e (λ k there. read_at rows key k r there same)
  where
    by : (b : Bool) → is_key q.key key ≡ b → (place : ℕ) → slice_get (q ∷ rows) place ≡ Some r → ((k : ℕ) → slice_get rows k ≡ Some r → IsRead rows key) → IsRead (q ∷ rows) key
    by true is place there rest = record { row = q; there = (0, refl); is = key_is q.key key is; value = rw is refl }
    by false is zero there rest = absurd (let own : is_key q.key key ≡ true = (let s : q ≡ r = cc in rw (s, same) (is_same_key key)) in let never : false ≡ true = sym is ∙ own in cc)
    by false is (suc k) there rest =
        let s = rest k there in
        record { row = s.row; there = (suc s.there.0, s.there.1); is = s.is; value = rw is s.value }

-- what a clean cell keeps
record KeepsPair (k : Option (Solved CellKey CellInput CellValue)) (i : CellInput) : Type 0 where
  pair : Solved CellKey CellInput CellValue
  is : k ≡ Some pair
  input : pair.input ≡ i

keeps_pair : (k : Option (Solved CellKey CellInput CellValue)) (i : CellInput) → option_map (λ (d : Solved CellKey CellInput CellValue). d.input) k ≡ Some i → KeepsPair k i
keeps_pair None i e = absurd cc
keeps_pair (Some d) i e = record { pair = d; is = refl; input = cc }

module _ (medium : Medium) (contexts : List Context) (all : List FormattingContext) (s : CellState) (cells : AreCellsOf medium contexts all s) (clean : AllClean s.rows) where
  pub kept_right : (c : ℕ) (p : Phase) → c < length contexts → IsCellLocal (input_now medium contexts all s.rows c p) (kept_value s.rows contexts c p)
  kept_right c p lt =
      let found = cells.has_cells c p lt in
      let there = found.1.there in
      let q = read_at s.rows (key_of contexts c p) there.0 found.0 there.1 found.1.key in
      let has = cells.present c p q.row lt (record { there = q.there; key = q.is }) (clean q.row q.there) in
      let k = keeps_pair q.row.kept (input_now medium contexts all s.rows c p) has in
      let meets = ((cells.sound.each q.row q.there).pair k.pair k.is).meets in
      let value : kept_value s.rows contexts c p ≡ k.pair.value = q.value ∙ ap (value_or_none p) k.is in
      subst (λ (i : CellInput). IsCellLocal i (kept_value s.rows contexts c p)) k.input (subst (λ (v : CellValue). IsCellLocal k.pair.input v) (sym value) meets)

pub clean_cells_solve_lem : AnonymousBoxesAreInFlow → CleanCellsSolve
clean_cells_solve_lem calm d face s tree is of clean assembled =
    let counted : length of.styles ≡ length d.nodes = of.has_styles.length_is ∙ length-parents d.nodes in
    let are : AreContexts of.contexts = are_contexts d of.styles of.contexts is counted of.are_contexts in
    let flows : AreCalm of.contexts = λ i k lt anonymous. calm d of.styles of.contexts i k is counted of.are_contexts lt anonymous in
    let right = kept_right (medium_of d face) of.contexts of.formatting_contexts s of.cells clean in
    record {
      styles = of.styles;
      has_styles = of.has_styles;
      contexts = of.contexts;
      are_contexts = of.are_contexts;
      formatting_contexts = of.formatting_contexts;
      are_formatting_contexts = of.are_formatting_contexts;
      solves_contexts = record {
        workings = kept_workings s.rows of.contexts;
        counts = has_counts (medium_of d face) of.contexts of.formatting_contexts are flows of.are_formatting_contexts (kept_value s.rows of.contexts) right;
        done = all_done (medium_of d face) of.contexts of.formatting_contexts are flows of.are_formatting_contexts (kept_value s.rows of.contexts) right;
        assembled = assembled;
      };
    }
