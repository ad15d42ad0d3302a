-- The loop over tasks: each is given a value in its turn, and those that had theirs stay done.
use Rattle.std.proofs.Common.{◌≡◌, ◌≢◌, ◌<◌, ◌≤◌, ℕ, ◌+◌, ◌-◌, ◌*◌, List, length, slice_index, slice_set, refl, ap, sym, subst, ◌∙◌, arith, inl, inr, option_map}
use Rattle.std.proofs.Math.Nat.{add-mul, one-mul}
use Rattle.std.proofs.lemmas.Bool.{cases_lt}
use Rattle.std.proofs.lemmas.Grind.{elements}
use Rattle.lay_context_sizes.specs.MeasuredContexts.{MeasuredContext}
use Rattle.lay_frag.specs.Pieces.{Context as PageContext}
use Rattle.lay_table_grid.specs.GridLaws.{GridsAreOfBoxes}
use Rattle.lay_contexts.specs.FormattingContexts.{FormattingContext, AreFormattingContexts, boxes_in}
use Rattle.lay_positioned.specs.Levels.{HasLevels}
use Rattle.lay_context.specs.declared.task.Phase.{Phase}
use Rattle.lay_context.specs.declared.task.Phase.TheVariants.{Measure, Size, Place}
use Rattle.lay_context.specs.declared.task.Task.{Task}
use Rattle.lay_context.specs.declared.value.Value.{Value}
use Rattle.lay_context.specs.declared.value.Value.TheVariants as value
use Rattle.lay_context_sizes.specs.ContextSizes.{SizedContext}
use Rattle.lay_context.specs.DocumentLayout.{widths_in}
use Rattle.lay_context.specs.Local.{HasCounts, IsLocal, IsTaskDone, flow_input, input_of, measure_input, size_input, stand_input, table_input, value_by, value_of_task, with_value}
use Rattle.lay_context.specs.Workings.{Workings}
use Rattle.lay_context.specs.Measured.{is_measured}
use Rattle.lay_context.specs.Medium.{Medium}
use Rattle.lay_context.specs.Needs.{round_start, turn_of}
use Rattle.lay_context.specs.PlacedContexts.{PlacedContext, placed_in}
use Rattle.lay_context.specs.Settings.{sizes_in}
use Rattle.lay_context.specs.Settling.{AreOfBoxes, IsReady, AreDone, BeforeTurn, AreKnown, IsSettled}
use Rattle.lay_context.specs.Solves.{IsAssembled, SolvesContexts}
use Rattle.lay_context.proofs.PlaceFacts.{measured_not_placed, measured_not_sized, not_measured, not_sized, stands}
use Rattle.lay_context.proofs.SizedFacts.{sizes_are_of_boxes}
use Rattle.lay_context.proofs.TaskInputs.{input_again}
use Rattle.lay_context.proofs.TaskOrder.{measured, needs_come_first_lem, placed, sized, turn_within}

widths_other : (xs : List MeasuredContext) (i j : ℕ) (x : MeasuredContext) → i ≢ j → widths_in (slice_set xs i x) j ≡ widths_in xs j
widths_other xs i j x other = grind (arith, elements, other)

widths_here : (xs : List MeasuredContext) (i : ℕ) (x : MeasuredContext) → i < length xs → widths_in (slice_set xs i x) i ≡ x
widths_here xs i x lt = grind (arith, elements, lt)

sizes_other : (xs : List SizedContext) (i j : ℕ) (x : SizedContext) → i ≢ j → sizes_in (slice_set xs i x) j ≡ sizes_in xs j
sizes_other xs i j x other = grind (arith, elements, other)

sizes_here : (xs : List SizedContext) (i : ℕ) (x : SizedContext) → i < length xs → sizes_in (slice_set xs i x) i ≡ x
sizes_here xs i x lt = grind (arith, elements, lt)

places_other : (xs : List PlacedContext) (i j : ℕ) (x : PlacedContext) → i ≢ j → placed_in (slice_set xs i x) j ≡ placed_in xs j
places_other xs i j x other = grind (arith, elements, other)

places_here : (xs : List PlacedContext) (i : ℕ) (x : PlacedContext) → i < length xs → placed_in (slice_set xs i x) i ≡ x
places_here xs i x lt = grind (arith, elements, lt)

widths_length : (xs : List MeasuredContext) (i : ℕ) (x : MeasuredContext) → length (slice_set xs i x) ≡ length xs
widths_length xs i x = grind (arith, elements)

sizes_length : (xs : List SizedContext) (i : ℕ) (x : SizedContext) → length (slice_set xs i x) ≡ length xs
sizes_length xs i x = grind (arith, elements)

places_length : (xs : List PlacedContext) (i : ℕ) (x : PlacedContext) → length (slice_set xs i x) ≡ length xs
places_length xs i x = grind (arith, elements)

module _ (medium : Medium) (contexts : List FormattingContext) (w : Workings) where
  -- the value of the task itself
  here : (phase : Phase) (i : ℕ) (v : Value) → i < length contexts → HasCounts contexts w → IsLocal (input_of medium contexts w (record { context = i; phase = phase })) v → value_by (with_value w i v) phase i ≡ v
  here Measure i (value.Measure m) lt counts local = ap value.Measure (widths_here w.widths i m (omega (arith, counts.widths)))
  here Measure i (value.Size z) lt counts local = absurd (measured_not_sized (is_measured contexts i) (measure_input medium contexts w i) z local)
  here Measure i (value.Place p) lt counts local = absurd (measured_not_placed (is_measured contexts i) (measure_input medium contexts w i) p local)
  here Size i (value.Measure m) lt counts local = absurd local
  here Size i (value.Size z) lt counts local = ap value.Size (sizes_here w.sizes i z (omega (arith, counts.sizes)))
  here Size i (value.Place p) lt counts local = absurd local
  here Place i (value.Measure m) lt counts local = absurd (not_measured (flow_input medium contexts w i) (option_map (table_input contexts w i) (sizes_in w.sizes i).table) (stand_input medium contexts w i) m local)
  here Place i (value.Size z) lt counts local = absurd (not_sized (flow_input medium contexts w i) (option_map (table_input contexts w i) (sizes_in w.sizes i).table) (stand_input medium contexts w i) z local)
  here Place i (value.Place p) lt counts local = ap value.Place (places_here w.places i p (omega (arith, counts.places)))

  -- that of another one
  other : (phase : Phase) (i : ℕ) (v : Value) → IsLocal (input_of medium contexts w (record { context = i; phase = phase })) v → (q : Phase) (j : ℕ) → ((phase ≡ q) → i ≢ j) → value_by (with_value w i v) q j ≡ value_by w q j
  other Measure i (value.Measure m) local Measure j differ = ap value.Measure (widths_other w.widths i j m (differ refl))
  other Measure i (value.Measure m) local Size j differ = refl
  other Measure i (value.Measure m) local Place j differ = refl
  other Measure i (value.Size z) local q j differ = absurd (measured_not_sized (is_measured contexts i) (measure_input medium contexts w i) z local)
  other Measure i (value.Place p) local q j differ = absurd (measured_not_placed (is_measured contexts i) (measure_input medium contexts w i) p local)
  other Size i (value.Measure m) local q j differ = absurd local
  other Size i (value.Size z) local Measure j differ = refl
  other Size i (value.Size z) local Size j differ = ap value.Size (sizes_other w.sizes i j z (differ refl))
  other Size i (value.Size z) local Place j differ = refl
  other Size i (value.Place p) local q j differ = absurd local
  other Place i (value.Measure m) local q j differ = absurd (not_measured (flow_input medium contexts w i) (option_map (table_input contexts w i) (sizes_in w.sizes i).table) (stand_input medium contexts w i) m local)
  other Place i (value.Size z) local q j differ = absurd (not_sized (flow_input medium contexts w i) (option_map (table_input contexts w i) (sizes_in w.sizes i).table) (stand_input medium contexts w i) z local)
  other Place i (value.Place p) local Measure j differ = refl
  other Place i (value.Place p) local Size j differ = refl
  other Place i (value.Place p) local Place j differ = ap value.Place (places_other w.places i j p (differ refl))

  counts_with : (i : ℕ) (v : Value) → HasCounts contexts w → HasCounts contexts (with_value w i v)
  counts_with i (value.Measure m) counts = record { widths = widths_length w.widths i m ∙ counts.widths; sizes = counts.sizes; places = counts.places }
  counts_with i (value.Size z) counts = record { widths = counts.widths; sizes = sizes_length w.sizes i z ∙ counts.sizes; places = counts.places }
  counts_with i (value.Place p) counts = record { widths = counts.widths; sizes = counts.sizes; places = places_length w.places i p ∙ counts.places }

  other_task : (t u : Task) (v : Value) → IsLocal (input_of medium contexts w t) v → (t ≡ u → ⊥) → value_of_task (with_value w t.context v) u ≡ value_of_task w u
  other_task t u v local differ = other t.phase t.context v local u.phase u.context (λ same e. differ (rw (same, e) refl))

module _ (medium : Medium) (contexts : List FormattingContext) (levels : List ℕ) (are : AreFormattingContexts contexts) (has : HasLevels contexts levels) (below : GridsAreOfBoxes) where
  sized_done : (w : Workings) (j : ℕ) → j < length contexts → IsTaskDone medium contexts w (record { context = j; phase = Size }) → AreOfBoxes (boxes_in contexts j) (sizes_in w.sizes j)
  sized_done w j lt done = sizes_are_of_boxes below (size_input medium contexts w j) (sizes_in w.sizes j) (are.boxes j lt) done.1

  -- needed sizes are of their boxes
  pub ready : (w : Workings) (task : Task) → task.context < length contexts → AreDone medium contexts w (BeforeTurn levels (turn_of levels task)) → IsReady contexts w task
  ready w task within so_far = record {
    within = within;
    counts = so_far.counts;
    sized = λ j needs.
        let needed : Task = record { context = j; phase = Size } in
        let had = needs_come_first_lem contexts levels task needed are has within needs in
        sized_done w j had.within (so_far.done needed had.within had.earlier);
  }

  -- nothing is done at first
  pub none_done : (w : Workings) → HasCounts contexts w → AreDone medium contexts w (BeforeTurn levels 0)
  none_done w counts = record { counts = counts; done = λ task within lt. absurd (omega (arith, lt)) }

  -- a turn that no task has
  pub skipped : (w : Workings) (turn : ℕ) → ((s : Task) → s.context < length contexts → turn_of levels s ≡ turn → ⊥) → AreDone medium contexts w (BeforeTurn levels turn) → AreDone medium contexts w (BeforeTurn levels (turn + 1))
  skipped w turn none so_far = record {
    counts = so_far.counts;
    done = λ s within lt. elim (cases_lt (turn_of levels s) turn) [
      | inl low ↦ so_far.done s within low
      | inr high ↦ absurd (none s within (omega (arith, lt, high)))
    ];
  }

  module _ (w : Workings) (task : Task) (within : task.context < length contexts) (v : Value) (local : IsLocal (input_of medium contexts w task) v) where
    abbrev after : Workings
    after = with_value w task.context v

    -- a task with another turn has the value that it had
    value_stays : (s : Task) → turn_of levels s < turn_of levels task → value_of_task after s ≡ value_of_task w s
    value_stays s lt = other_task medium contexts w task s v local (λ same. (let e = ap (turn_of levels) same in omega (arith, e, lt)))

    -- and what a task is given that has its turn by then
    input_stays : (s : Task) → s.context < length contexts → turn_of levels s ≤ turn_of levels task → input_of medium contexts after s ≡ input_of medium contexts w s
    input_stays s there le = input_again medium contexts after w s are there (λ needed needs.
        (let had = needs_come_first_lem contexts levels s needed are has there needs in value_stays needed (omega (arith, had.earlier, le))))

  -- the turn of a task, which is the only one that has it
  pub one_more : (w next : Workings) (task : Task) (turn : ℕ) → task.context < length contexts → turn_of levels task ≡ turn
      → ((s : Task) → s.context < length contexts → turn_of levels s ≡ turn → s ≡ task)
      → AreDone medium contexts w (BeforeTurn levels turn) → IsSettled (input_of medium contexts w task) w task.context next → AreDone medium contexts next (BeforeTurn levels (turn + 1))
  one_more w next task turn within is alone so_far settled =
      let v : Value = settled.value in
      let a : Workings = with_value w task.context v in
      let done : AreDone medium contexts a (BeforeTurn levels (turn + 1)) = record {
        counts = counts_with medium contexts w task.context v so_far.counts;
        done = λ s there lt. elim (cases_lt (turn_of levels s) turn) [
          | inl low ↦ (let i = input_stays w task within v settled.local s there (omega (arith, low, is)) in
              let x = value_stays w task within v settled.local s (omega (arith, low, is)) in rw (i, x) (so_far.done s there low))
          | inr high ↦ (let q : s ≡ task = alone s there (omega (arith, lt, high)) in
              let i = input_stays w task within v settled.local task within (omega arith) in
              let x = here medium contexts w task.phase task.context v within so_far.counts settled.local in
              subst (λ (t : Task). IsTaskDone medium contexts a t) (sym q) (rw (i, x) settled.local))
        ];
      } in
      subst (λ (k : Workings). AreDone medium contexts k (BeforeTurn levels (turn + 1))) (sym settled.noted) done

  -- the first round: preferred widths
  pub one_measured : (w next : Workings) (done : ℕ) → done < length contexts → AreDone medium contexts w (BeforeTurn levels done)
      → IsSettled (input_of medium contexts w (record { context = length contexts - 1 - done; phase = Measure })) w (length contexts - 1 - done) next → AreDone medium contexts next (BeforeTurn levels (done + 1))
  one_measured w next done lt so_far settled =
      let i : ℕ = length contexts - 1 - done in
      let counted = has.count in
      one_more w next (record { context = i; phase = Measure }) done (omega arith) (omega (arith, counted))
      (λ s within e. measured contexts levels are has s.phase s.context i (omega (arith, within, counted)) (omega (arith, counted)) (omega (arith, e, counted))) so_far settled

  pub measure_ready : (w : Workings) (done : ℕ) → done < length contexts → AreDone medium contexts w (BeforeTurn levels done)
      → IsReady contexts w (record { context = length contexts - 1 - done; phase = Measure })
  measure_ready w done lt so_far =
      let i : ℕ = length contexts - 1 - done in
      let turn : turn_of levels (record { context = i; phase = Measure }) ≡ done = omega (arith, has.count) in
      ready w (record { context = i; phase = Measure }) (omega arith) (subst (λ (t : ℕ). AreDone medium contexts w (BeforeTurn levels t)) (sym turn) so_far)

  -- sizes in the round of a level
  pub one_sized : (w next : Workings) (l i : ℕ) → i < length contexts → slice_index levels i ≡ l → AreDone medium contexts w (BeforeTurn levels (round_start (length contexts) l + i))
      → IsSettled (input_of medium contexts w (record { context = i; phase = Size })) w i next → AreDone medium contexts next (BeforeTurn levels (round_start (length contexts) l + (i + 1)))
  one_sized w next l i lt at so_far settled =
      let counted = has.count in
      let start : round_start (length levels) (slice_index levels i) ≡ round_start (length contexts) l = rw (at, counted) refl in
      let other : round_start (length contexts) l ≡ round_start (length levels) l = rw counted refl in
      let more = one_more w next (record { context = i; phase = Size }) (round_start (length contexts) l + i) lt (omega (arith, start))
      (λ s within e. (sized contexts levels are has s.phase s.context l i (omega (arith, within, counted)) (omega (arith, lt, counted)) (omega (arith, e, other))).0) so_far settled in
      subst (λ (t : ℕ). AreDone medium contexts next (BeforeTurn levels t)) (omega arith) more

  pub none_sized : (w : Workings) (l i : ℕ) → i < length contexts → slice_index levels i ≢ l → AreDone medium contexts w (BeforeTurn levels (round_start (length contexts) l + i))
      → AreDone medium contexts w (BeforeTurn levels (round_start (length contexts) l + (i + 1)))
  none_sized w l i lt differ so_far =
      let counted = has.count in
      let other : round_start (length contexts) l ≡ round_start (length levels) l = rw counted refl in
      let more = skipped w (round_start (length contexts) l + i)
      (λ s within e. differ (sized contexts levels are has s.phase s.context l i (omega (arith, within, counted)) (omega (arith, lt, counted)) (omega (arith, e, other))).1) so_far in
      subst (λ (t : ℕ). AreDone medium contexts w (BeforeTurn levels t)) (omega arith) more

  pub size_ready : (w : Workings) (l i : ℕ) → i < length contexts → slice_index levels i ≡ l → AreDone medium contexts w (BeforeTurn levels (round_start (length contexts) l + i))
      → IsReady contexts w (record { context = i; phase = Size })
  size_ready w l i lt at so_far =
      let counted = has.count in
      let start : round_start (length levels) (slice_index levels i) ≡ round_start (length contexts) l = rw (at, counted) refl in
      let turn : turn_of levels (record { context = i; phase = Size }) ≡ round_start (length contexts) l + i = omega (arith, start) in
      ready w (record { context = i; phase = Size }) lt (subst (λ (t : ℕ). AreDone medium contexts w (BeforeTurn levels t)) (sym turn) so_far)

  -- and then placements
  abbrev place_turn : (l done : ℕ) → ℕ
  place_turn l done = round_start (length contexts) l + length contexts + done

  pub one_placed_more : (w next : Workings) (l done : ℕ) → done < length contexts → slice_index levels (length contexts - 1 - done) ≡ l → AreDone medium contexts w (BeforeTurn levels (place_turn l done))
      → IsSettled (input_of medium contexts w (record { context = length contexts - 1 - done; phase = Place })) w (length contexts - 1 - done) next → AreDone medium contexts next (BeforeTurn levels (place_turn l (done + 1)))
  one_placed_more w next l done lt at so_far settled =
      let i : ℕ = length contexts - 1 - done in
      let counted = has.count in
      let start : round_start (length levels) (slice_index levels i) ≡ round_start (length contexts) l = rw (at, counted) refl in
      let other : round_start (length contexts) l ≡ round_start (length levels) l = rw counted refl in
      let more = one_more w next (record { context = i; phase = Place }) (place_turn l done) (omega arith) (omega (arith, start, counted))
      (λ s within e. (placed contexts levels are has s.phase s.context l i (omega (arith, within, counted)) (omega (arith, counted)) (omega (arith, e, other, counted))).0) so_far settled in
      subst (λ (t : ℕ). AreDone medium contexts next (BeforeTurn levels t)) (omega arith) more

  pub none_placed : (w : Workings) (l done : ℕ) → done < length contexts → slice_index levels (length contexts - 1 - done) ≢ l → AreDone medium contexts w (BeforeTurn levels (place_turn l done))
      → AreDone medium contexts w (BeforeTurn levels (place_turn l (done + 1)))
  none_placed w l done lt differ so_far =
      let i : ℕ = length contexts - 1 - done in
      let counted = has.count in
      let other : round_start (length contexts) l ≡ round_start (length levels) l = rw counted refl in
      let more = skipped w (place_turn l done)
      (λ s within e. differ (placed contexts levels are has s.phase s.context l i (omega (arith, within, counted)) (omega (arith, counted)) (omega (arith, e, other, counted))).1) so_far in
      subst (λ (t : ℕ). AreDone medium contexts w (BeforeTurn levels t)) (omega arith) more

  pub place_ready : (w : Workings) (l done : ℕ) → done < length contexts → slice_index levels (length contexts - 1 - done) ≡ l → AreDone medium contexts w (BeforeTurn levels (place_turn l done))
      → IsReady contexts w (record { context = length contexts - 1 - done; phase = Place })
  place_ready w l done lt at so_far =
      let i : ℕ = length contexts - 1 - done in
      let counted = has.count in
      let start : round_start (length levels) (slice_index levels i) ≡ round_start (length contexts) l = rw (at, counted) refl in
      let turn : turn_of levels (record { context = i; phase = Place }) ≡ place_turn l done = omega (arith, start, counted) in
      ready w (record { context = i; phase = Place }) (omega arith) (subst (λ (t : ℕ). AreDone medium contexts w (BeforeTurn levels t)) (sym turn) so_far)

  -- a round ends where that of the next level begins
  pub next_round : (w : Workings) (l : ℕ) → AreDone medium contexts w (BeforeTurn levels (place_turn l (length contexts))) → AreDone medium contexts w (BeforeTurn levels (round_start (length contexts) (l + 1)))
  next_round w l so_far =
      let n : ℕ = length contexts in
      let e : (l + 1) * (n + n) ≡ l * (n + n) + (n + n) = add-mul l 1 (n + n) ∙ ap (λ k. l * (n + n) + k) (one-mul (n + n)) in
      subst (λ (t : ℕ). AreDone medium contexts w (BeforeTurn levels t)) (omega (arith, e)) so_far

  -- the first round of levels begins where all are measured
  pub first_round : (w : Workings) → AreDone medium contexts w (BeforeTurn levels (length contexts)) → AreDone medium contexts w (BeforeTurn levels (round_start (length contexts) 0))
  first_round w so_far = subst (λ (t : ℕ). AreDone medium contexts w (BeforeTurn levels t)) (omega arith) so_far

  -- when all levels had their rounds, each task is done
  module _ (w : Workings) (count : ℕ) (above : (i : ℕ) → i < length levels → slice_index levels i < count) (all : AreDone medium contexts w (BeforeTurn levels (round_start (length contexts) count))) where
    each_done : (phase : Phase) (i : ℕ) → i < length contexts → IsTaskDone medium contexts w (record { context = i; phase = phase })
    each_done phase i lt =
        let counted = has.count in
        let there : i < length levels = omega (arith, lt, counted) in
        let e = turn_within contexts levels are has phase i count there (above i there) in
        let other : round_start (length contexts) count ≡ round_start (length levels) count = rw counted refl in
        all.done (record { context = i; phase = phase }) lt (omega (arith, e, other))

    pub known : AreKnown contexts w
    known = record {
      counts = all.counts;
      sized = λ i lt. (sized_done w i lt (each_done Size i lt)).count;
      standing = λ i lt. stands (flow_input medium contexts w i) (stand_input medium contexts w i) (table_input contexts w i) (λ t. refl) (sizes_in w.sizes i).table (placed_in w.places i) (each_done Place i lt);
    }

    pub solved : (tree : List PageContext) → IsAssembled contexts w tree → SolvesContexts medium contexts tree
    solved tree assembled = record {
      workings = w;
      counts = all.counts;
      done = λ task lt. each_done task.phase task.context lt;
      assembled = assembled;
    }
