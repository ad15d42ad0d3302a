-- Formatting contexts have a tree: turn by turn each task is given a value beside those that it needs, which had their turns before.
use Rattle.std.proofs.Common.{◌≡◌, ◌⊎◌, inl, inr, ℕ, zero, suc, ◌+◌, ◌-◌, ◌<◌, ◌≤◌, Bool, true, false, List, [], ◌∷◌, length, replicate, slice_index, Option, None, Some, option_map, refl, subst, arith}
use Rattle.std.proofs.lemmas.Bool.{cases_eq}
use Rattle.std.proofs.lemmas.List.{length-replicate}
use Rattle.lay_box_tree.specs.ContextBoxes.{AreContextBoxes}
use Rattle.lay_flow_boxes.specs.PlaceInputs.{PlaceInput}
use Rattle.lay_frag.specs.Pieces.{Context as PageContext}
use Rattle.lay_table.specs.TableInputs.{TableInput}
use Rattle.lay_table_grid.specs.GridLaws.{GridsAreOfBoxes}
use Rattle.lay_contexts.specs.FormattingContexts.{AreFormattingContexts, FormattingContext, boxes_in}
use Rattle.lay_positioned.specs.Levels.{HasLevels}
use Rattle.lay_abspos.specs.OwnOffsets.{StandInput}
use Rattle.lay_context_sizes.specs.ContextSizes.{not_sized}
use Rattle.lay_context_sizes.specs.Inputs.{MeasureInput}
use Rattle.lay_context_sizes.specs.MeasuredContexts.{not_measured}
use Rattle.lay_context.specs.declared.task.Phase.{Phase}
use Rattle.lay_context.specs.declared.task.Phase.TheVariants.{Measure, Size, Place}
use Rattle.lay_context.specs.declared.task.Task.{Task}
use Rattle.lay_context.specs.Local.{HasCounts, flow_input, input_of, measure_as, measure_input, place_as, stand_input, table_input, with_value}
use Rattle.lay_context.specs.Measured.{is_measured}
use Rattle.lay_context.specs.Medium.{Medium}
use Rattle.lay_context.specs.Needs.{round_start}
use Rattle.lay_context.specs.PlacedContexts.{not_placed}
use Rattle.lay_context.specs.Settings.{sizes_in}
use Rattle.lay_context.specs.Settling.{AreDone, BeforeTurn, IsSettled}
use Rattle.lay_context.specs.Solves.{SolvesContexts, page_contexts}
use Rattle.lay_context.specs.SomeLayouts.{AreGivenBoxes, SomeLocal, SomeTree}
use Rattle.lay_context.specs.Workings.{Workings}
use Rattle.lay_context.proofs.Cited.{levels_are, levels_of}
use Rattle.lay_context.proofs.SomeCorners.{some_page_corners_lem}
use Rattle.lay_context.proofs.TaskSteps.{first_round, next_round, none_done, none_placed, none_sized, one_measured, one_placed_more, one_sized, solved}

-- a number above all of these
abbrev Bound : List ℕ → Type 0
Bound xs = (most : ℕ) × ((k : ℕ) → k < length xs → slice_index xs k < most)

with_one : (x : ℕ) (xs : List ℕ) (rest : Bound xs) (k : ℕ) → k < length (x ∷ xs) → slice_index (x ∷ xs) k < suc (x + rest.0)
with_one x xs rest zero lt = omega arith
with_one x xs rest (suc k) lt = let low = rest.1 k (omega (arith, lt)) in omega (arith, low)

bound_of : (xs : List ℕ) → Bound xs
bound_of [] = (0, λ k lt. absurd (omega (arith, lt)))
bound_of (x ∷ xs) = (let rest = bound_of xs in (suc (x + rest.0), with_one x xs rest))

-- what tasks are given has the boxes of formatting contexts
given_measured : (is_measured : Bool) (i : MeasureInput) → AreGivenBoxes (measure_as is_measured i)
given_measured true i = tt
given_measured false i = tt

given_placed : (flow : PlaceInput) (table : Option TableInput) (at : StandInput) → AreContextBoxes flow.boxes → AreGivenBoxes (place_as flow table at)
given_placed flow None at are = are
given_placed flow (Some table) at are = tt

module _ (some : SomeLocal) (below : GridsAreOfBoxes) (medium : Medium) (contexts : List FormattingContext)
    (are : AreFormattingContexts contexts) where
  abbrev levels : List ℕ
  levels = levels_of contexts

  has : HasLevels contexts levels
  has = levels_are contexts are

  given_by : (w : Workings) (phase : Phase) (i : ℕ) → i < length contexts → AreGivenBoxes (input_of medium contexts w (record { context = i; phase = phase }))
  given_by w Measure i lt = given_measured (is_measured contexts i) (measure_input medium contexts w i)
  given_by w Size i lt = are.boxes i lt
  given_by w Place i lt =
      given_placed (flow_input medium contexts w i) (option_map (table_input contexts w i) (sizes_in w.sizes i).table) (stand_input medium contexts w i)
      (are.boxes i lt)

  -- a task has its turn
  settle : (w : Workings) (phase : Phase) (i : ℕ) → i < length contexts
      → (next : Workings) × IsSettled (input_of medium contexts w (record { context = i; phase = phase })) w i next
  settle w phase i lt =
      let v = some (input_of medium contexts w (record { context = i; phase = phase })) (given_by w phase i lt) in
      (with_value w i v.0, record { value = v.0; local = v.1; noted = refl })

  record Done (turn : ℕ) : Type 0 where
    w : Workings
    done : AreDone medium contexts w (BeforeTurn levels turn)

  at_turn : (turn next : ℕ) → turn ≡ next → Done turn → Done next
  at_turn turn next e d = subst Done e d

  abbrev nothing : Workings
  nothing = record { widths = replicate (length contexts) not_measured; sizes = replicate (length contexts) not_sized; places = replicate (length contexts) not_placed }

  nothing_counts : HasCounts contexts nothing
  nothing_counts = record {
    widths = length-replicate (length contexts) not_measured;
    sizes = length-replicate (length contexts) not_sized;
    places = length-replicate (length contexts) not_placed;
  }

  measured_to : (k : ℕ) → k ≤ length contexts → Done k
  measured_to zero le = record { w = nothing; done = none_done medium contexts levels are has below nothing nothing_counts }
  measured_to (suc k) le =
      let so_far = measured_to k (omega (arith, le)) in
      let next = settle so_far.w Measure (length contexts - 1 - k) (omega (arith, le)) in
      at_turn (k + 1) (suc k) (omega arith)
      (record { w = next.0; done = one_measured medium contexts levels are has below so_far.w next.0 k (omega (arith, le)) so_far.done next.1 })

  -- sizes and placements of a level
  module _ (l : ℕ) where
    sized_to : (i : ℕ) → i ≤ length contexts → Done (round_start (length contexts) l) → Done (round_start (length contexts) l + i)
    sized_to zero le begun = at_turn (round_start (length contexts) l) (round_start (length contexts) l + zero) (omega arith) begun
    sized_to (suc i) le begun =
        let so_far = sized_to i (omega (arith, le)) begun in
        at_turn (round_start (length contexts) l + (i + 1)) (round_start (length contexts) l + suc i) (omega arith)
        (from so_far (cases_eq (slice_index levels i) l))
      where
        from : Done (round_start (length contexts) l + i) → (slice_index levels i ≡ l) ⊎ (slice_index levels i ≡ l → ⊥)
            → Done (round_start (length contexts) l + (i + 1))
        from so_far (inl at) =
            let next = settle so_far.w Size i (omega (arith, le)) in
            record { w = next.0; done = one_sized medium contexts levels are has below so_far.w next.0 l i (omega (arith, le)) at so_far.done next.1 }
        from so_far (inr differ) =
            record { w = so_far.w; done = none_sized medium contexts levels are has below so_far.w l i (omega (arith, le)) differ so_far.done }

    placed_to : (k : ℕ) → k ≤ length contexts → Done (round_start (length contexts) l + length contexts)
        → Done (round_start (length contexts) l + length contexts + k)
    placed_to zero le begun =
        at_turn (round_start (length contexts) l + length contexts) (round_start (length contexts) l + length contexts + zero) (omega arith) begun
    placed_to (suc k) le begun =
        let so_far = placed_to k (omega (arith, le)) begun in
        at_turn (round_start (length contexts) l + length contexts + (k + 1)) (round_start (length contexts) l + length contexts + suc k) (omega arith)
        (from so_far (cases_eq (slice_index levels (length contexts - 1 - k)) l))
      where
        from : Done (round_start (length contexts) l + length contexts + k)
            → (slice_index levels (length contexts - 1 - k) ≡ l) ⊎ (slice_index levels (length contexts - 1 - k) ≡ l → ⊥)
            → Done (round_start (length contexts) l + length contexts + (k + 1))
        from so_far (inl at) =
            let next = settle so_far.w Place (length contexts - 1 - k) (omega (arith, le)) in
            record { w = next.0; done = one_placed_more medium contexts levels are has below so_far.w next.0 l k (omega (arith, le)) at so_far.done next.1 }
        from so_far (inr differ) =
            record { w = so_far.w; done = none_placed medium contexts levels are has below so_far.w l k (omega (arith, le)) differ so_far.done }

    round : Done (round_start (length contexts) l) → Done (round_start (length contexts) (l + 1))
    round begun =
        let all = placed_to (length contexts) (omega arith) (sized_to (length contexts) (omega arith) begun) in
        record { w = all.w; done = next_round medium contexts levels are has below all.w l all.done }

  rounds : (l : ℕ) → Done (round_start (length contexts) l)
  rounds zero =
      let all = measured_to (length contexts) (omega arith) in
      record { w = all.w; done = first_round medium contexts levels are has below all.w all.done }
  rounds (suc l) =
      let e : l + 1 ≡ suc l = omega arith in
      subst (λ (k : ℕ). Done (round_start (length contexts) k)) e (round l (rounds l))

  tree_of : (tree : List PageContext) × SolvesContexts medium contexts tree
  tree_of =
      let most = bound_of levels in
      let all = rounds most.0 in
      let corners = some_page_corners_lem contexts all.w.places are in
      let tree : List PageContext = page_contexts contexts all.w corners.0 (length contexts) in
      (tree, solved medium contexts levels are has below all.w most.0 most.1 all.done tree (record { corners = corners.0; has_corners = corners.1; tree_is = refl }))

pub some_tree_lem : SomeLocal → GridsAreOfBoxes → SomeTree
some_tree_lem some below medium contexts are = tree_of some below medium contexts are
