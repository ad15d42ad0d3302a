-- What the roots of a context are given in all, without numbers of formatting contexts.
use Rattle.std.proofs.Common.{◌≡◌, ◌<◌, ◌-◌, ℕ, zero, suc, Bool, true, false, List, [], ◌∷◌, length, map, Option, None, Some, option_map, refl, ap, ◌∙◌, arith}
use Rattle.lay_frag.specs.declared.frag.Frag.{Frag}
use Rattle.lay_box_tree.specs.declared.box_tree.BoxNode.{BoxNode}
use Rattle.lay_measure.specs.MeasureInValue.{no_widths}
use Rattle.lay_measure.specs.declared.preferred_widths.PreferredWidths.{PreferredWidths}
use Rattle.lay_context_sizes.specs.MeasuredContexts.{MeasuredContext}
use Rattle.lay_sizes.specs.declared.own_boxes.OwnBox.{OwnBox}
use Rattle.lay_sizes.specs.OwnBoxes.{no_own_box}
use Rattle.lay_table_sizes.specs.TableSizesValue.{TableSizesValue}
use Rattle.lay_contexts.specs.Contexts.{AreContexts, boxes_in, context_at}
use Rattle.lay_contexts.specs.FormattingBoxes.{boxes_of_root}
use Rattle.lay_contexts.specs.FormattingContexts.{FormattingContext, boxes_in as boxes_of, formatting_context_at}
use Rattle.lay_contexts.specs.FormattingContextList.{first_number, homes_in, number_of, roots_before}
use Rattle.lay_contexts.specs.Homes.{is_root}
use Rattle.lay_contexts.specs.Laws.{KeepsFlowAround}
use Rattle.lay_cell_work.proofs.Cited.{anonymous_in_flow, are_contexts, contexts_keep_flow, roots_lt}
use Rattle.lay_placements.specs.Placements.{Placement}
use Rattle.lay_abspos.specs.declared.own_place.OwnPlace.{OwnPlace}
use Rattle.lay_context_sizes.specs.ContextSizes.{SizedContext}
use Rattle.lay_context_sizes.specs.declared.setting.Setting.{Setting}
use Rattle.lay_context.specs.declared.input.Input.TheVariants as input
use Rattle.lay_context.specs.declared.task.Phase.TheVariants as phase
use Rattle.lay_context.specs.DocumentLayout.{inner_boxes, inner_pieces, inner_widths, inner_widths_in, own_box_in, painted_of, pieces_in, widths_in}
use Rattle.lay_context.specs.Local.{flow_input, measure_as, measure_input, place_as, stand_input, table_input}
use Rattle.lay_context.specs.Measured.{is_measured}
use Rattle.lay_context.specs.Medium.{Medium}
use Rattle.lay_context.specs.OwnHeights.{own_height_rule}
use Rattle.lay_context.specs.PlacedContexts.{PlacedContext, placed_in, placement_in}
use Rattle.lay_context.specs.Settings.{own_place_of, sizes_in}
use Rattle.lay_context.specs.Workings.{Workings}
use Rattle.lay_cell_work.specs.declared.root_spot.RootSpot.{RootSpot}
use Rattle.lay_cell_work.specs.CellColumns.{links_of, links_or_none, masked}
use Rattle.lay_cell_work.specs.CellInputs.{RootInput}
use Rattle.lay_cell_work.specs.CellValues.{own_measured, own_places, own_sizes}
use Rattle.lay_cell_work.specs.PresentInputs.{root_input, root_input_as, spot_in}
use Rattle.lay_cell_work.specs.CellLaws.SameContexts.{IsTable, Table, workings_in}
use Rattle.lay_cell_work.proofs.CellLawsLemmas.RootForms.{boxes_are, given_at, link_at, links_are, masked_are, members, own_anonymous, own_some}
use Rattle.lay_cell_work.proofs.CellLawsLemmas.RootsOfContexts.{AreCalm, IsOf, number_is_of}
use Rattle.lay_cell_work.proofs.CellLawsLemmas.WholeInputs.{box_some, placed_at, sizes_at, widths_at, widths_some}

-- what a root is given to be measured
abbrev pub measured_root : Bool → List BoxNode → List PreferredWidths → List (Option ℕ) → Medium → RootInput
measured_root true boxes inner links medium = record { given = input.Measure (record { boxes = boxes; inner = inner; face = medium.face }); links = links; around = None }
measured_root false boxes inner links medium = record { given = input.Unmeasured; links = []; around = None }

-- to be sized
abbrev pub sized_root : List BoxNode → MeasuredContext → Setting → Option RootSpot → RootInput
sized_root boxes widths setting around = record { given = input.Size (record { boxes = boxes; measured = widths; setting = setting }); links = []; around = around }

-- and to be placed
abbrev pub placed_root : List BoxNode → SizedContext → List OwnBox → List (List Frag) → List (Option ℕ) → OwnPlace → Medium → RootInput
placed_root boxes sized inner pieces links position medium = record {
  given = place_as (record {
    boxes = boxes;
    sizes = sized.boxes;
    inner = inner;
    pieces = pieces;
    own_height = own_height_rule boxes sized.boxes sized.stretched;
    face = medium.face;
  }) (option_map (λ table. record { boxes = boxes; sizes = sized.boxes; table = table; inner = inner; pieces = pieces }) sized.table)
      (record { boxes = boxes; sizes = sized.boxes; left = sized.left; position = position });
  links = links;
  around = None;
}

pub measured_root_same : (p q : Bool) (m n : List BoxNode) (x y : List PreferredWidths) (k l : List (Option ℕ)) (medium : Medium) → p ≡ q → m ≡ n → x ≡ y → k ≡ l
    → measured_root p m x k medium ≡ measured_root q n y l medium
measured_root_same p q m n x y k l medium measured boxes inner links = rw (measured, boxes, inner, links) refl

pub sized_root_same : (m n : List BoxNode) (x y : MeasuredContext) (s t : Setting) (k l : Option RootSpot) → m ≡ n → x ≡ y → s ≡ t → k ≡ l → sized_root m x s k ≡ sized_root n y t l
sized_root_same m n x y s t k l boxes widths setting around = rw (boxes, widths, setting, around) refl

pub placed_root_same : (m n : List BoxNode) (s t : SizedContext) (x y : List OwnBox) (p q : List (List Frag)) (k l : List (Option ℕ)) (o u : OwnPlace) (medium : Medium) → m ≡ n → s ≡ t → x ≡ y → p ≡ q → k ≡ l → o ≡ u
    → placed_root m s x p k o medium ≡ placed_root n t y q l u medium
placed_root_same m n s t x y p q k l o u medium boxes sizes inner pieces links place = rw (boxes, sizes, inner, pieces, links, place) refl

-- what the cell of a context gives the one around
abbrev pub measure_cell : Table → ℕ → PreferredWidths
measure_cell t p = (widths_in (own_measured (t.kept p phase.Measure)) 0).widths

abbrev pub place_cell : Table → ℕ → OwnBox
place_cell t p = (placed_in (own_places (t.kept p phase.Place)) 0).placement.own

painted_none : (b : Bool) (p : Placement) → b ≡ false → painted_of b p ≡ []
painted_none b p e = rw e refl

pieces_none : (all : List FormattingContext) (places : List PlacedContext) (j : ℕ) → (formatting_context_at all j).anonymous ≡ false → pieces_in all places j ≡ []
pieces_none all places zero e = refl
pieces_none all places (suc j) e = painted_none (formatting_context_at all (suc j)).anonymous (placement_in places (suc j)) e

module _ (t : Table) (is : IsTable t) where
  pub table_are : AreContexts t.contexts
  table_are = are_contexts is.document is.styles t.contexts is.is_document is.counted is.are_contexts

  pub table_calm : AreCalm t.contexts
  table_calm = λ i k lt anonymous. anonymous_in_flow is.document is.styles t.contexts i k is.is_document is.counted is.are_contexts lt anonymous

  pub table_keeps : (j : ℕ) → 0 < j → j < length t.contexts → KeepsFlowAround t.contexts j
  table_keeps = λ j some lt. contexts_keep_flow is.document is.styles t.contexts j is.is_document is.counted is.are_contexts some lt

  abbrev All : List FormattingContext
  All = t.formatting_contexts

  abbrev W : Workings
  W = workings_in t

  -- the first root of a context
  first_is_of : (p : ℕ) → p < length t.contexts → IsOf t.contexts p (first_number t.contexts p)
  first_is_of p lt =
      let low = roots_lt (boxes_in t.contexts p) 0 (length (boxes_in t.contexts p)) refl (table_are.boxes p lt).some in
      record { from = omega arith; until = omega (arith, low) }

  no_step : (n : ℕ) → n - n ≡ 0
  no_step n = omega arith

  gives_widths : (p : ℕ) → 0 < p → p < length t.contexts → inner_widths_in W.widths (first_number t.contexts p) ≡ measure_cell t p
  gives_widths p some lt =
      widths_some W.widths (first_number t.contexts p) (own_some t.contexts All table_are is.are_formatting_contexts table_calm table_keeps p some lt)
      ∙ ap (λ (m : MeasuredContext). m.widths) (widths_at t.contexts t.kept p (first_number t.contexts p) lt (first_is_of p lt)
      ∙ ap (widths_in (own_measured (t.kept p phase.Measure))) (no_step (first_number t.contexts p)))

  gives_box : (p : ℕ) → 0 < p → p < length t.contexts → own_box_in W.places (first_number t.contexts p) ≡ place_cell t p
  gives_box p some lt =
      box_some W.places (first_number t.contexts p) (own_some t.contexts All table_are is.are_formatting_contexts table_calm table_keeps p some lt)
      ∙ ap (λ (x : PlacedContext). x.placement.own) (placed_at t.contexts t.kept p (first_number t.contexts p) lt (first_is_of p lt)
      ∙ ap (placed_in (own_places (t.kept p phase.Place))) (no_step (first_number t.contexts p)))

  gives_pieces : (p : ℕ) → 0 < p → p < length t.contexts → pieces_in All W.places (first_number t.contexts p) ≡ []
  gives_pieces p some lt =
      pieces_none All W.places (first_number t.contexts p) (own_anonymous t.contexts All table_are is.are_formatting_contexts table_calm table_keeps p lt)

  module _ (c : ℕ) (lt : c < length t.contexts) (r : ℕ) (inside : r < length (boxes_in t.contexts c)) (root : is_root (boxes_in t.contexts c) r ≡ true) where
    abbrev B : List BoxNode
    B = boxes_in t.contexts c

    abbrev H : List ℕ
    H = homes_in is.are_formatting_contexts.homes c

    abbrev M : ℕ
    M = number_of t.contexts c r

    abbrev First : ℕ
    First = first_number t.contexts c

    abbrev Inner : List ℕ
    Inner = (context_at t.contexts c).inner

    abbrev Links : List (Option ℕ)
    Links = links_or_none (None ∷ map (link_at B) (members B H r))

    links_form : links_of All First M ≡ Links
    links_form =
        links_are t.contexts All table_are is.are_formatting_contexts table_calm table_keeps no_widths (inner_widths_in W.widths) (measure_cell t) refl gives_widths c lt r inside root

    widths_form : masked no_widths (links_of All First M) (inner_widths All W.widths M) ≡ no_widths ∷ map (given_at no_widths (measure_cell t) B Inner) (members B H r)
    widths_form =
        masked_are t.contexts All table_are is.are_formatting_contexts table_calm table_keeps no_widths (inner_widths_in W.widths) (measure_cell t) refl gives_widths c lt r inside root

    own_boxes_form : masked no_own_box (links_of All First M) (inner_boxes All W.places M) ≡ no_own_box ∷ map (given_at no_own_box (place_cell t) B Inner) (members B H r)
    own_boxes_form =
        masked_are t.contexts All table_are is.are_formatting_contexts table_calm table_keeps no_own_box (own_box_in W.places) (place_cell t) refl gives_box c lt r inside root

    pieces_form : masked [] (links_of All First M) (inner_pieces All W.places M) ≡ [] ∷ map (given_at [] (λ p. []) B Inner) (members B H r)
    pieces_form =
        masked_are t.contexts All table_are is.are_formatting_contexts table_calm table_keeps [] (pieces_in All W.places) (λ p. []) refl gives_pieces c lt r inside root

    boxes_form : boxes_of All M ≡ boxes_of_root B H r
    boxes_form = boxes_are t.contexts All table_are is.are_formatting_contexts table_calm table_keeps c r lt inside root

    root_is_of : IsOf t.contexts c M
    root_is_of = number_is_of t.contexts c r inside root

    ordinal : M - First ≡ roots_before B r
    ordinal = omega arith

    pub sizes_form : sizes_in W.sizes M ≡ sizes_in (own_sizes (t.kept c phase.Size)) (roots_before B r)
    sizes_form = sizes_at t.contexts t.kept c M lt root_is_of ∙ ap (sizes_in (own_sizes (t.kept c phase.Size))) ordinal

    pub placed_form : placed_in W.places M ≡ placed_in (own_places (t.kept c phase.Place)) (roots_before B r)
    placed_form = placed_at t.contexts t.kept c M lt root_is_of ∙ ap (placed_in (own_places (t.kept c phase.Place))) ordinal

    pub own_widths_form : widths_in W.widths M ≡ widths_in (own_measured (t.kept c phase.Measure)) (roots_before B r)
    own_widths_form = widths_at t.contexts t.kept c M lt root_is_of ∙ ap (widths_in (own_measured (t.kept c phase.Measure))) ordinal

    as_measured : (medium : Medium) (b : Bool) → root_input_as (links_of All First M) (spot_in All First M) (measure_as b (measure_input medium All W M))
        ≡ measured_root b (boxes_of All M) (masked no_widths (links_of All First M) (inner_widths All W.widths M)) (links_of All First M) medium
    as_measured medium true = refl
    as_measured medium false = refl

    pub measure_form : (medium : Medium) → root_input medium All W First M phase.Measure
        ≡ measured_root (is_measured All M) (boxes_of_root B H r) (no_widths ∷ map (given_at no_widths (measure_cell t) B Inner) (members B H r)) Links medium
    measure_form medium =
        as_measured medium (is_measured All M)
        ∙ ap (λ (boxes : List BoxNode). measured_root (is_measured All M) boxes (masked no_widths (links_of All First M) (inner_widths All W.widths M)) (links_of All First M) medium) boxes_form
        ∙ ap (λ (inner : List PreferredWidths). measured_root (is_measured All M) (boxes_of_root B H r) inner (links_of All First M) medium) widths_form
        ∙ ap (λ (links : List (Option ℕ)). measured_root (is_measured All M) (boxes_of_root B H r) (no_widths ∷ map (given_at no_widths (measure_cell t) B Inner) (members B H r)) links medium) links_form

    as_placed : (medium : Medium) (table : Option TableSizesValue)
        → root_input_as (links_of All First M) (spot_in All First M) (place_as (flow_input medium All W M) (option_map (table_input All W M) table) (stand_input medium All W M))
        ≡ record {
          given = place_as (record (flow_input medium All W M) { inner = masked no_own_box (links_of All First M) (inner_boxes All W.places M); pieces = masked [] (links_of All First M) (inner_pieces All W.places M) })
              (option_map (λ x. record (table_input All W M x) { inner = masked no_own_box (links_of All First M) (inner_boxes All W.places M); pieces = masked [] (links_of All First M) (inner_pieces All W.places M) }) table)
              (stand_input medium All W M);
          links = links_of All First M;
          around = None;
        }
    as_placed medium None = refl
    as_placed medium (Some table) = refl

    pub place_form : (medium : Medium) → root_input medium All W First M phase.Place
        ≡ placed_root (boxes_of_root B H r) (sizes_in (own_sizes (t.kept c phase.Size)) (roots_before B r)) (no_own_box ∷ map (given_at no_own_box (place_cell t) B Inner) (members B H r))
        ([] ∷ map (given_at [] (λ p. []) B Inner) (members B H r)) Links (own_place_of medium.viewport All W M) medium
    place_form medium =
        let position : OwnPlace = own_place_of medium.viewport All W M in
        let masked_inner : List OwnBox = masked no_own_box (links_of All First M) (inner_boxes All W.places M) in
        let masked_pieces : List (List Frag) = masked [] (links_of All First M) (inner_pieces All W.places M) in
        as_placed medium (sizes_in W.sizes M).table
        ∙ placed_root_same (boxes_of All M) (boxes_of_root B H r) (sizes_in W.sizes M) (sizes_in (own_sizes (t.kept c phase.Size)) (roots_before B r)) masked_inner (no_own_box ∷ map (given_at no_own_box (place_cell t) B Inner) (members B H r))
        masked_pieces ([] ∷ map (given_at [] (λ p. []) B Inner) (members B H r)) (links_of All First M) Links position position medium boxes_form sizes_form own_boxes_form pieces_form links_form refl
