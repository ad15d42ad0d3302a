-- What cells are given among the contexts of a document is of their phase, and where anonymous roots stand is said by places among boxes.
use Rattle.std.proofs.Common.{◌≡◌, ◌<◌, ◌+◌, ◌-◌, ℕ, suc, Bool, true, false, List, [], length, slice_get, Option, None, Some, option_map, refl, ap, sym, subst, ◌∙◌, arith, inl, inr}
use Rattle.std.proofs.lemmas.Bool.{cases_lt}
use Rattle.std.proofs.lemmas.List.{get_or-map}
use Rattle.std.proofs.lemmas.List.FromFn.{get_or-map-range_with_len, length-map-range_with_len}
use Rattle.lay_contexts.specs.Contexts.{AreContexts, Context, boxes_in as boxes_of_context}
use Rattle.lay_contexts.specs.FormattingContexts.{FormattingContext, boxes_in, formatting_context_at}
use Rattle.lay_contexts.specs.FormattingContextList.{AreFormattingContextsOf, first_number}
use Rattle.lay_cell_work.proofs.Cited.{first_le, in_order, root_of, roots_lt}
use Rattle.lay_table_sizes.specs.TableSizesValue.{TableSizesValue}
use Rattle.lay_context_sizes.specs.Inputs.{MeasureInput}
use Rattle.lay_context.specs.declared.input.Input.{Input}
use Rattle.lay_context.specs.declared.input.Input.TheVariants as input
use Rattle.lay_context.specs.declared.task.Phase.{Phase}
use Rattle.lay_context.specs.declared.task.Phase.TheVariants as phase
use Rattle.lay_context.specs.Local.{flow_input, input_of, measure_as, measure_input, place_as, stand_input, table_input}
use Rattle.lay_context.specs.Measured.{is_measured}
use Rattle.lay_context.specs.Medium.{Medium}
use Rattle.lay_context.specs.Settings.{sizes_in}
use Rattle.lay_context.specs.Workings.{Workings}
use Rattle.lay_cell_work.specs.declared.root_spot.RootSpot.{RootSpot}
use Rattle.lay_cell_work.specs.CellColumns.{links_of}
use Rattle.lay_cell_work.specs.CellInputFits.{phase_given}
use Rattle.lay_cell_work.specs.CellInputs.{RootInput}
use Rattle.lay_cell_work.specs.CellLocal.{boxes_given, masked_input, sized_boxes}
use Rattle.lay_cell_work.specs.PresentInputs.{asked_spot, root_count, root_input, spot_in}
use Rattle.lay_cell_work.specs.CellLaws.Laws.{PresentInputsFit}
use Rattle.lay_cell_work.proofs.CellLawsLemmas.LeadingInward.{Root, Roots, is_root_input, number_below, present_inputs_lead_inward_lem, spot_asked, spot_of_some, within}
use Rattle.lay_cell_work.proofs.CellLawsLemmas.RootsOfContexts.{IsOf, anonymous_some, outer_is_of, own_number}

-- a mask changes no phase
masked_phase : (links : List (Option ℕ)) (around : Option RootSpot) (given : Input) → phase_given (masked_input links around given) ≡ phase_given given
masked_phase links around (input.Measure i) = refl
masked_phase links around input.Unmeasured = refl
masked_phase links around (input.Size i) = refl
masked_phase links around (input.Place i at) = refl
masked_phase links around (input.PlaceTable i at) = refl

measure_phase : (b : Bool) (i : MeasureInput) → phase_given (measure_as b i) ≡ phase.Measure
measure_phase true i = refl
measure_phase false i = refl

place_phase : (medium : Medium) (all : List FormattingContext) (w : Workings) (m : ℕ) (table : Option TableSizesValue)
    → phase_given (place_as (flow_input medium all w m) (option_map (table_input all w m) table) (stand_input medium all w m)) ≡ phase.Place
place_phase medium all w m None = refl
place_phase medium all w m (Some table) = refl

-- a task is given what is of its phase
given_phase : (medium : Medium) (all : List FormattingContext) (w : Workings) (m : ℕ) (p : Phase) → phase_given (input_of medium all w (record { context = m; phase = p })) ≡ p
given_phase medium all w m phase.Measure = measure_phase (is_measured all m) (measure_input medium all w m)
given_phase medium all w m phase.Size = refl
given_phase medium all w m phase.Place = place_phase medium all w m (sizes_in w.sizes m).table

-- only what is sized is asked where it stands
unasked : (given : Input) (around : Option RootSpot) (spot : RootSpot) → asked_spot given around ≡ Some spot → phase_given given ≡ phase.Size
unasked (input.Measure i) around spot e = absurd cc
unasked input.Unmeasured around spot e = absurd cc
unasked (input.Size i) around spot e = refl
unasked (input.Place i at) around spot e = absurd cc
unasked (input.PlaceTable i at) around spot e = absurd cc

-- a number is that of a root of one context
pub same_context : (contexts : List Context) (c e m : ℕ) → IsOf contexts c m → IsOf contexts e m → c ≡ e
same_context contexts c e m a b = elim (cases_lt c e) [
  | inl low ↦ absurd (let up = first_le contexts (suc c) e (omega (arith, low)) in let until = a.until in let from = b.from in
      let next : first_number contexts (suc c) ≡ first_number contexts c + root_count contexts c = refl in omega (arith, up, until, from, next))
  | inr high ↦ elim (cases_lt e c) [
    | inl low ↦ absurd (let up = first_le contexts (suc e) c (omega (arith, low)) in let until = b.until in let from = a.from in
        let next : first_number contexts (suc e) ≡ first_number contexts e + root_count contexts e = refl in omega (arith, up, until, from, next))
    | inr same ↦ omega (arith, high, same)
  ]
]

module _ (medium : Medium) (contexts : List Context) (all : List FormattingContext) (w : Workings) (c : ℕ) (are : AreContexts contexts) (of : AreFormattingContextsOf contexts all) (lt : c < length contexts) where
  some_root : 0 < root_count contexts c
  some_root = roots_lt (boxes_of_context contexts c) 0 (length (boxes_of_context contexts c)) refl (are.boxes c lt).some

  module _ (p : Phase) where
    count : length (Roots medium contexts all w c p are of lt) ≡ root_count contexts c
    count = length-map-range_with_len (λ r. Root medium contexts all w c p are of lt r) 0 (root_count contexts c)

    phases : (r : ℕ) (x : RootInput) → slice_get (Roots medium contexts all w c p are of lt) r ≡ Some x → phase_given x.given ≡ p
    phases r x e =
        let m : ℕ = first_number contexts c + r in
        ap (λ (y : RootInput). phase_given y.given) (is_root_input medium contexts all w c p are of lt r x e)
        ∙ masked_phase (links_of all (first_number contexts c) m) (spot_in all (first_number contexts c) m) (input_of medium all w (record { context = m; phase = p }))
        ∙ given_phase medium all w m p

  -- the boxes of another root, where sizes are asked for
  boxes_there : (j : ℕ) → IsOf contexts c j → boxes_given (Roots medium contexts all w c phase.Size are of lt) (j - first_number contexts c) ≡ boxes_in all j
  boxes_there j is =
      let first : ℕ = first_number contexts c in
      let from = is.from in
      let until = is.until in
      let f : ℕ → RootInput = λ r. root_input medium all w first (first + r) phase.Size in
      let low : j - first < root_count contexts c = omega (arith, from, until) in
      let e : first + (j - first) ≡ j = omega (arith, from) in
      get_or-map (λ (x : RootInput). sized_boxes x.given) (Roots medium contexts all w c phase.Size are of lt) (j - first) (f 0) [] (let n = count phase.Size in omega (arith, low, n))
      ∙ ap (λ (x : RootInput). sized_boxes x.given) (get_or-map-range_with_len f 0 (root_count contexts c) (j - first) (j - first) (f 0) low (omega arith))
      ∙ ap (boxes_in all) e

  stands : (r : ℕ) → r < root_count contexts c → (formatting_context_at all (first_number contexts c + r)).anonymous ≡ true
      → (formatting_context_at all (first_number contexts c + r)).outer_box
      < length (boxes_given (Roots medium contexts all w c phase.Size are of lt) ((formatting_context_at all (first_number contexts c + r)).outer - first_number contexts c))
  stands r low anonymous =
      let m : ℕ = first_number contexts c + r in
      let below = number_below medium contexts all w c phase.Size are of lt r low in
      let n = root_of contexts all are of m below in
      let mine : IsOf contexts c m = record { from = omega arith; until = omega (arith, low) } in
      let here : n.context ≡ c = same_context contexts n.context c m (own_number contexts all are of m n) mine in
      let outer : IsOf contexts c (formatting_context_at all m).outer = subst (λ (k : ℕ). IsOf contexts k (formatting_context_at all m).outer) here (outer_is_of contexts all are of m below n anonymous) in
      let some = anonymous_some contexts all are of m below n anonymous in
      rw (boxes_there (formatting_context_at all m).outer outer) ((in_order contexts all are of).outer_box m some below)

  spots_by : (p : Phase) → p ≡ phase.Size → (r : ℕ) (spot : RootSpot) → r < root_count contexts c → spot_in all (first_number contexts c) (first_number contexts c + r) ≡ Some spot
      → spot.place < length (boxes_given (Roots medium contexts all w c p are of lt) spot.root)
  spots_by p e r spot low there =
      let m : ℕ = first_number contexts c + r in
      let f : FormattingContext = formatting_context_at all m in
      let is = spot_of_some f.anonymous (record { root = f.outer - first_number contexts c; place = f.outer_box }) spot there in
      rw (e, is.1) (stands r low is.0)

  spots_stand : (p : Phase) (r : ℕ) (x : RootInput) (spot : RootSpot) → slice_get (Roots medium contexts all w c p are of lt) r ≡ Some x → x.around ≡ Some spot
      → spot.place < length (boxes_given (Roots medium contexts all w c p are of lt) spot.root)
  spots_stand p r x spot e there =
      let m : ℕ = first_number contexts c + r in
      let given : Input = input_of medium all w (record { context = m; phase = p }) in
      let asked : asked_spot given (spot_in all (first_number contexts c) m) ≡ Some spot = ap (λ (y : RootInput). y.around) (sym (is_root_input medium contexts all w c p are of lt r x e)) ∙ there in
      let size : p ≡ phase.Size = sym (given_phase medium all w m p) ∙ unasked given (spot_in all (first_number contexts c) m) spot asked in
      spots_by p size r spot (within medium contexts all w c p are of lt r x e) (spot_asked given (spot_in all (first_number contexts c) m) spot asked)

pub present_inputs_fit_lem : PresentInputsFit
present_inputs_fit_lem medium contexts all w c p are of lt = record {
  some = (let n = count medium contexts all w c are of lt p in let some = some_root medium contexts all w c are of lt in omega (arith, n, some));
  phase = phases medium contexts all w c are of lt p;
  inward = present_inputs_lead_inward_lem medium contexts all w c p are of lt;
  spots = spots_stand medium contexts all w c are of lt p;
}
