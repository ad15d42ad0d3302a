-- What the roots of a context are given, one by one.
use Rattle.std.proofs.Common.{◌≡◌, ℕ, ◌+◌, ◌<◌, ◌↔◌, Bool, true, false, List, [], ◌∷◌, ◌++◌, IsTrue, length, map, Option, None, Some, option_map, refl, ap, sym, subst, ◌∙◌, arith, inl, inr}
use Rattle.std.specs.List.{range_with_len}
use Rattle.std.proofs.lemmas.Bool.{cases_lt}
use Rattle.std.proofs.lemmas.List.FromFn.{map-range_with_len_more}
use Rattle.lay_contexts.specs.Contexts.{AreContexts, Context}
use Rattle.lay_contexts.specs.FormattingContexts.{FormattingContext, formatting_context_at}
use Rattle.lay_contexts.specs.FormattingContextList.{AreFormattingContextsOf, first_number}
use Rattle.lay_table_sizes.specs.TableSizesValue.{TableSizesValue}
use Rattle.lay_context_sizes.specs.Inputs.{MeasureInput}
use Rattle.lay_context.specs.declared.input.Input.{Input}
use Rattle.lay_context.specs.declared.task.Phase.{Phase}
use Rattle.lay_context.specs.declared.task.Phase.TheVariants as phase
use Rattle.lay_context.specs.Local.{flow_input, input_of, measure_as, measure_input, place_as, stand_input, table_input}
use Rattle.lay_context.specs.Measured.{is_measured}
use Rattle.lay_context.specs.Medium.{Medium}
use Rattle.lay_context.specs.Settings.{sizes_in}
use Rattle.lay_context.specs.Settling.{IsReady}
use Rattle.lay_context.specs.Workings.{Workings}
use Rattle.lay_shape.specs.declared.context_phase.ContextPhase.{ContextPhase}
use Rattle.lay_cell_work.specs.declared.root_spot.RootSpot.{RootSpot}
use Rattle.lay_cell_work.specs.CellInputs.{RootInput}
use Rattle.lay_cell_work.specs.CellColumns.{links_of}
use Rattle.lay_cell_work.specs.PresentInputs.{present_input, root_count, root_input, root_input_as}
use Rattle.lay_cell_work.specs.CellLaws.SoundCells.{CellRow}
use Rattle.lay_shape.specs.Touched.ContextFlags.{ContextLists}
use Rattle.lay_kept_cells.specs.Table.LinkedRoots.{asks_spot}
use Rattle.lay_kept_cells.specs.Table.TableCells.{HaveNeeds, workings_in}
use Rattle.lay_kept_cells.proofs.TableLemmas.LinkedInputs.{no_spot, only_input, parts}
use Rattle.lay_kept_cells.proofs.TableLemmas.RootFlags.{no_links, own_flag}

-- a spot is asked for by sizes alone
measured_asks : (b : Bool) (i : MeasureInput) → asks_spot (measure_as b i) ≡ false
measured_asks true i = refl
measured_asks false i = refl

placed_asks : (medium : Medium) (all : List FormattingContext) (w : Workings) (i : ℕ) (table : Option TableSizesValue)
    → asks_spot (place_as (flow_input medium all w i) (option_map (table_input all w i) table) (stand_input medium all w i)) ≡ false
placed_asks medium all w i None = refl
placed_asks medium all w i (Some table) = refl

pub asks_where_sized : (medium : Medium) (all : List FormattingContext) (w : Workings) (i : ℕ) (p : Phase) → asks_spot (input_of medium all w (record { context = i; phase = p })) ≡ true → p ≡ phase.Size
asks_where_sized medium all w i phase.Measure e = absurd (let n : false ≡ true = sym (measured_asks (is_measured all i) (measure_input medium all w i)) ∙ e in cc)
asks_where_sized medium all w i phase.Size e = refl
asks_where_sized medium all w i phase.Place e = absurd (let n : false ≡ true = sym (placed_asks medium all w i (sizes_in w.sizes i).table) ∙ e in cc)

-- where a root isn't an anonymous one to be sized
pub own_where_sized : (p : Phase) (r : ℕ) (b : Bool) → IsTrue b ↔ ((p ≡ phase.Size) × (0 < r)) → b ≡ false → p ≡ phase.Size → r ≡ 0
own_where_sized p r b is not_so size = elim (cases_lt 0 r) [
  | inl some ↦ absurd (let yes : b ≡ true = is.1 (size, some) in let n : false ≡ true = sym not_so ∙ yes in cc)
  | inr none ↦ omega (arith, none)
]

pub one_more_root : (part : ℕ → RootInput) (r : ℕ) (roots : List RootInput) (x : RootInput) → roots ≡ map part (range_with_len 0 r) → x ≡ part r → roots ++ x ∷ [] ≡ map part (range_with_len 0 (r + 1))
one_more_root part r roots x are_roots is = rw (are_roots, is) (sym (map-range_with_len_more part 0 r r (omega arith)))

module _ (medium : Medium) (contexts : List Context) (all : List FormattingContext) (are : AreContexts contexts) (of : AreFormattingContextsOf contexts all) (w : Workings) (c : ℕ) (lt : c < length contexts) (p : Phase) where
  abbrev First : ℕ
  First = first_number contexts c

  -- the own box is no anonymous one
  pub own_asks : (r : ℕ) (given : Input) → (p ≡ phase.Size → r ≡ 0) → given ≡ input_of medium all w (record { context = First + r; phase = p }) → asks_spot given ≡ true → (formatting_context_at all (First + r)).anonymous ≡ false
  own_asks r given own is asks =
      let zero_is : r ≡ 0 = own (asks_where_sized medium all w (First + r) p (ap asks_spot (sym is) ∙ asks)) in
      let here : First + r ≡ First = omega (arith, zero_is) in
      ap (λ (i : ℕ). (formatting_context_at all i).anonymous) here ∙ own_flag contexts all are of c lt

  abbrev part : ℕ → RootInput
  part r = root_input medium all w First (First + r) p

  only_part : (given : Input) → root_count contexts c ≡ 1 → given ≡ input_of medium all w (record { context = First; phase = p }) → parts given [] None ≡ part 0
  only_part given only is =
      let here : First + 0 ≡ First = omega arith in
      let links = no_links contexts all are of c lt only in
      let spot = no_spot all First First (own_flag contexts all are of c lt) in
      only_input given ∙ ap (root_input_as [] None) is
      ∙ ap (λ (l : List (Option ℕ)). root_input_as l None (input_of medium all w (record { context = First; phase = p }))) (sym links)
      ∙ ap (λ (s : Option RootSpot). root_input_as (links_of all First First) s (input_of medium all w (record { context = First; phase = p }))) (sym spot)
      ∙ ap (λ (i : ℕ). root_input medium all w First i p) (sym here)

  pub only_roots : (given : Input) → root_count contexts c ≡ 1 → given ≡ input_of medium all w (record { context = First; phase = p }) → parts given [] None ∷ [] ≡ (present_input medium contexts all w c p).roots
  only_roots given only is = ap (λ (x : RootInput). x ∷ []) (only_part given only is) ∙ ap (λ (n : ℕ). map part (range_with_len 0 n)) (sym only)

pub own_needs : (t : ContextLists) (rows : List CellRow) (cell : ContextPhase) → HaveNeeds t rows cell → 0 < root_count t.contexts cell.context
    → IsReady t.formatting_contexts (workings_in t rows) (record { context = first_number t.contexts cell.context; phase = cell.phase })
own_needs t rows cell needs some =
    let here : first_number t.contexts cell.context + 0 ≡ first_number t.contexts cell.context = omega arith in
    subst (λ (i : ℕ). IsReady t.formatting_contexts (workings_in t rows) (record { context = i; phase = cell.phase })) here (needs 0 some (λ e. refl))
