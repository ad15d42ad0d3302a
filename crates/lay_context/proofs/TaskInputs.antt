-- What a task is given comes of what it needs, so the value of another task changes nothing of it.
use Rattle.std.proofs.Common.{◌≡◌, ◌<◌, ℕ, zero, suc, Bool, true, false, if◌then◌else◌, List, [], ◌∷◌, length, map, slice_index, refl, ap, ◌∙◌, arith, inl, inr, option_map}
use Rattle.lay_frag.specs.declared.frag.Frag.{Frag}
use Rattle.lay_box_tree.specs.declared.box_tree.BoxNode.{BoxNode}
use Rattle.lay_sizes.specs.declared.sizing.ContainingBlock.{ContainingBlock}
use Rattle.lay_measure.specs.declared.preferred_widths.PreferredWidths.{PreferredWidths}
use Rattle.lay_context_sizes.specs.MeasuredContexts.{MeasuredContext}
use Rattle.lay_contexts.specs.FormattingContexts.{AreFormattingContexts, FormattingContext, formatting_context_at, boxes_in}
use Rattle.lay_placements.specs.Placements.{Placement}
use Rattle.lay_positioned.specs.Absolute.{is_absolute, is_own_absolute}
use Rattle.lay_positioned.specs.Layouts.{Layout}
use Rattle.lay_positioned.specs.Settings.{absolute_setting}
use Rattle.lay_positioned.specs.Ways.{AreAlikeAt, IsOnWay}
use Rattle.lay_context.proofs.Cited.{alike, same_setting}
use Rattle.lay_sizes.specs.declared.own_boxes.OwnBox.{OwnBox}
use Rattle.lay_context.specs.declared.input.Input.{Input}
use Rattle.lay_context.specs.declared.input.Input.TheVariants as input
use Rattle.lay_context.specs.declared.task.Phase.{Phase}
use Rattle.lay_context.specs.declared.task.Phase.TheVariants.{Measure, Size, Place}
use Rattle.lay_context.specs.declared.task.Task.{Task}
use Rattle.lay_context.specs.declared.value.Value.TheVariants as value
use Rattle.lay_context_sizes.specs.ContextSizes.{SizedContext}
use Rattle.lay_context.specs.Alike.{AreAlikeFor, AreAlikeToMeasure, AreAlikeToPlace, AreAlikeToSize}
use Rattle.lay_context.specs.DocumentLayout.{flow_numbers, inner_boxes, inner_pieces, inner_widths, inner_widths_in, own_box_in, painted_of, pieces_in, widths_in}
use Rattle.lay_context.specs.Laws.{InputsComeOfNeeds}
use Rattle.lay_context.specs.Local.{input_of, measure_as, place_as, value_by, value_of_task}
use Rattle.lay_context.specs.Workings.{Workings}
use Rattle.lay_context.specs.Measured.{is_measured}
use Rattle.lay_context.specs.Medium.{Medium}
use Rattle.lay_context.specs.OwnHeights.{own_height_rule}
use Rattle.lay_context.specs.Needs.{Needs}
use Rattle.lay_context.specs.PlacedContexts.{PlacedContext, placed_in, placement_in}
use Rattle.lay_context.specs.Settings.{flow_place, flow_setting, laid, own_place_of, setting_in, setting_of, sizes_in}
use Rattle.lay_abspos.specs.declared.own_place.OwnPlace.{OwnPlace}
use Rattle.lay_abspos.specs.declared.own_place.OwnPlace.TheVariants as own_place
use Rattle.lay_context_sizes.specs.declared.setting.Setting.{Setting}
use Rattle.lay_context_sizes.specs.declared.setting.Setting.TheVariants.{Absolute}

pub width_value : (x y : MeasuredContext) → value.Measure x ≡ value.Measure y → x ≡ y
width_value x y e = cc

pub size_value : (x y : SizedContext) → value.Size x ≡ value.Size y → x ≡ y
size_value x y e = cc

pub place_value : (x y : PlacedContext) → value.Place x ≡ value.Place y → x ≡ y
place_value x y e = cc

-- the preferred widths of inner ones are equal where all are
inner_same : (x y : List MeasuredContext) (j : ℕ) → (0 < j → widths_in x j ≡ widths_in y j) → inner_widths_in x j ≡ inner_widths_in y j
inner_same x y zero same = refl
inner_same x y (suc j) same = ap (λ (m : MeasuredContext). m.widths) (same (omega arith))

pub widths_same : (x y : List MeasuredContext) (numbers : List ℕ) → ((k : ℕ) → k < length numbers → 0 < slice_index numbers k → widths_in x (slice_index numbers k) ≡ widths_in y (slice_index numbers k))
    → map (inner_widths_in x) numbers ≡ map (inner_widths_in y) numbers
widths_same x y [] same = refl
widths_same x y (j ∷ numbers) same =
    let own : inner_widths_in x j ≡ inner_widths_in y j = inner_same x y j (same 0 (omega arith)) in
    let rest : map (inner_widths_in x) numbers ≡ map (inner_widths_in y) numbers = widths_same x y numbers (λ k lt. same (suc k) (omega arith)) in
    rw (own, rest) refl

-- the boxes of equal placements are equal
own_box_same : (x y : List PlacedContext) (j : ℕ) → (0 < j → placement_in x j ≡ placement_in y j) → own_box_in x j ≡ own_box_in y j
own_box_same x y zero same = refl
own_box_same x y (suc j) same = ap (λ (p : Placement). p.own) (same (omega arith))

boxes_same : (x y : List PlacedContext) (numbers : List ℕ) → ((k : ℕ) → k < length numbers → 0 < slice_index numbers k → placement_in x (slice_index numbers k) ≡ placement_in y (slice_index numbers k))
    → map (own_box_in x) numbers ≡ map (own_box_in y) numbers
boxes_same x y [] same = refl
boxes_same x y (j ∷ numbers) same =
    let own : own_box_in x j ≡ own_box_in y j = own_box_same x y j (same 0 (omega arith)) in
    let rest : map (own_box_in x) numbers ≡ map (own_box_in y) numbers = boxes_same x y numbers (λ k lt. same (suc k) (omega arith)) in
    rw (own, rest) refl

-- and so are their pieces, where the same ones are anonymous
pieces_in_same : (a b : List FormattingContext) (x y : List PlacedContext) (j : ℕ) → (0 < j → (formatting_context_at a j).anonymous ≡ (formatting_context_at b j).anonymous) → (0 < j → placement_in x j ≡ placement_in y j)
    → pieces_in a x j ≡ pieces_in b y j
pieces_in_same a b x y zero anonymous same = refl
pieces_in_same a b x y (suc j) anonymous same =
    ap (λ (h : Bool). painted_of h (placement_in x (suc j))) (anonymous (omega arith)) ∙ ap (painted_of (formatting_context_at b (suc j)).anonymous) (same (omega arith))

pieces_same : (a b : List FormattingContext) (x y : List PlacedContext) (numbers : List ℕ)
    → ((k : ℕ) → k < length numbers → 0 < slice_index numbers k → (formatting_context_at a (slice_index numbers k)).anonymous ≡ (formatting_context_at b (slice_index numbers k)).anonymous)
    → ((k : ℕ) → k < length numbers → 0 < slice_index numbers k → placement_in x (slice_index numbers k) ≡ placement_in y (slice_index numbers k))
    → map (pieces_in a x) numbers ≡ map (pieces_in b y) numbers
pieces_same a b x y [] anonymous same = refl
pieces_same a b x y (j ∷ numbers) anonymous same =
    let own : pieces_in a x j ≡ pieces_in b y j = pieces_in_same a b x y j (anonymous 0 (omega arith)) (same 0 (omega arith)) in
    let rest : map (pieces_in a x) numbers ≡ map (pieces_in b y) numbers = pieces_same a b x y numbers (λ k lt. anonymous (suc k) (omega arith)) (λ k lt. same (suc k) (omega arith)) in
    rw (own, rest) refl

-- what is known of one comes of its sizes and its places
abbrev layout_of : SizedContext → PlacedContext → Layout
layout_of sized placed = record { sizes = sized.boxes; standings = placed.placement.standings; offset = placed.offset }

same_layout : (a b : SizedContext) (p q : PlacedContext) → a ≡ b → p ≡ q → layout_of a p ≡ layout_of b q
same_layout a b p q sizes places = rw (sizes, places) refl

-- what a placement is given comes of these
abbrev placed_by : Medium → List BoxNode → SizedContext → List OwnBox → List (List Frag) → OwnPlace → Input
placed_by medium boxes sized inner pieces place = place_as (record {
  boxes = boxes;
  sizes = sized.boxes;
  inner = inner;
  pieces = pieces;
  own_height = own_height_rule boxes sized.boxes sized.stretched;
  face = medium.face;
}) (option_map (λ table. record { boxes = boxes; sizes = sized.boxes; table = table; inner = inner; pieces = pieces }) sized.table)
    (record { boxes = boxes; sizes = sized.boxes; left = sized.left; position = place })

placed_same : (medium : Medium) (m n : List BoxNode) (s t : SizedContext) (x y : List OwnBox) (p q : List (List Frag)) (o u : OwnPlace) → m ≡ n → s ≡ t → x ≡ y → p ≡ q → o ≡ u
    → placed_by medium m s x p o ≡ placed_by medium n t y q u
placed_same medium m n s t x y p q o u boxes sizes inner pieces place = rw (boxes, sizes, inner, pieces, place) refl

abbrev measured_by : Medium → List BoxNode → List PreferredWidths → Bool → Input
measured_by medium boxes inner measured = measure_as measured (record { boxes = boxes; inner = inner; face = medium.face })

measured_same : (medium : Medium) (m n : List BoxNode) (x y : List PreferredWidths) (p q : Bool) → m ≡ n → x ≡ y → p ≡ q → measured_by medium m x p ≡ measured_by medium n y q
measured_same medium m n x y p q boxes inner measured = rw (boxes, inner, measured) refl

abbrev sized_by : List BoxNode → MeasuredContext → Setting → Input
sized_by boxes widths setting = input.Size (record { boxes = boxes; measured = widths; setting = setting })

sized_same : (m n : List BoxNode) (x y : MeasuredContext) (s t : Setting) → m ≡ n → x ≡ y → s ≡ t → sized_by m x s ≡ sized_by n y t
sized_same m n x y s t boxes widths setting = rw (boxes, widths, setting) refl

inside_same : (m n : List BoxNode) (s t : SizedContext) (k l : ℕ) → m ≡ n → s ≡ t → k ≡ l → setting_in m s k ≡ setting_in n t l
inside_same m n s t k l boxes sizes place = rw (boxes, sizes, place) refl

-- the setting in flow comes of the boxes and the sizes of the one around
flow_same : (viewport : ContainingBlock) (a b : List FormattingContext) (x y : List SizedContext) (i : ℕ) → AreAlikeAt a b i
    → (0 < i → boxes_in a (formatting_context_at a i).outer ≡ boxes_in b (formatting_context_at b i).outer)
    → (0 < i → sizes_in x (formatting_context_at a i).outer ≡ sizes_in y (formatting_context_at b i).outer)
    → flow_setting viewport a x i ≡ flow_setting viewport b y i
flow_same viewport a b x y zero own boxes sizes = refl
flow_same viewport a b x y (suc i) own boxes sizes =
    let c = formatting_context_at a (suc i) in
    let d = formatting_context_at b (suc i) in
    inside_same (boxes_in a c.outer) (boxes_in b d.outer) (sizes_in x c.outer) (sizes_in y d.outer) c.outer_box d.outer_box
    (boxes (omega arith)) (sizes (omega arith)) (own.outer_box (omega arith))

module _ (medium : Medium) (a b : List FormattingContext) (v w : Workings) (are_a : AreFormattingContexts a) (are_b : AreFormattingContexts b) (i : ℕ) (in_a : i < length a) (in_b : i < length b) where
  -- the values that this task needs are equal
  abbrev AreSame : Phase → Type 0
  AreSame phase = (needed : Phase) (j : ℕ) → Needs a (record { context = i; phase = phase }) (record { context = j; phase = needed }) → value_by v needed j ≡ value_by w needed j

  -- an absolutely positioned one is given the same, where those on its way are alike and have the same values
  absolute_same : AreAlikeAt a b i → ((j : ℕ) → IsOnWay a i j → AreAlikeAt a b j) → ((j : ℕ) → IsOnWay a i j → sizes_in v.sizes j ≡ sizes_in w.sizes j) → ((j : ℕ) → IsOnWay a i j → placed_in v.places j ≡ placed_in w.places j)
      → absolute_setting medium.viewport a (laid v) i ≡ absolute_setting medium.viewport b (laid w) i
  absolute_same own way sizes places = same_setting medium.viewport a b (laid v) (laid w) i are_a are_b in_a in_b own
      (λ j on. (way j on, same_layout (sizes_in v.sizes j) (sizes_in w.sizes j) (placed_in v.places j) (placed_in w.places j) (sizes j on) (places j on)))

  setting_by : (x : Bool) → is_absolute a i ≡ x → AreAlikeToSize a b i → AreSame Size
      → (if x then Absolute (absolute_setting medium.viewport a (laid v) i) else flow_setting medium.viewport a v.sizes i)
      ≡ (if x then Absolute (absolute_setting medium.viewport b (laid w) i) else flow_setting medium.viewport b w.sizes i)
  setting_by true is alike same =
      ap Absolute (absolute_same alike.own (λ j on. alike.way j (record { absolute = is; way = on }))
      (λ j on. size_value (sizes_in v.sizes j) (sizes_in w.sizes j) (same Size j (inr (record { absolute = is; way = on }))))
      (λ j on. place_value (placed_in v.places j) (placed_in w.places j) (same Place j (record { absolute = is; way = on }))))
  setting_by false is alike same =
      let outer : ℕ = (formatting_context_at a i).outer in
      flow_same medium.viewport a b v.sizes w.sizes i alike.own
      (λ some. alike.around outer (record { in_flow = is; some = some; is = refl }) ∙ ap (boxes_in b) (alike.own.outer some))
      (λ some. size_value (sizes_in v.sizes outer) (sizes_in w.sizes outer) (same Size outer (inl (record { in_flow = is; some = some; is = refl }))) ∙ ap (sizes_in w.sizes) (alike.own.outer some))

  position_by : (x : Bool) → is_absolute a i ≡ x → AreAlikeToPlace a b i → AreSame Place
      → (if x then own_place.Absolute (absolute_setting medium.viewport a (laid v) i) else flow_place medium.viewport i)
      ≡ (if x then own_place.Absolute (absolute_setting medium.viewport b (laid w) i) else flow_place medium.viewport i)
  position_by true is alike same =
      ap own_place.Absolute (absolute_same (alike.own is) (λ j on. alike.way j (record { absolute = is; way = on }))
      (λ j on. size_value (sizes_in v.sizes j) (sizes_in w.sizes j) (same Size j (inr (record { absolute = is; way = on }))))
      (λ j on. place_value (placed_in v.places j) (placed_in w.places j) (same Place j (inr (record { absolute = is; way = on })))))
  position_by false is alike same = refl

  measure_same : AreAlikeToMeasure a b i → AreSame Measure → input_of medium a v (record { context = i; phase = Measure }) ≡ input_of medium b w (record { context = i; phase = Measure })
  measure_same alike same =
      let inner : inner_widths a v.widths i ≡ inner_widths b w.widths i =
      widths_same v.widths w.widths (flow_numbers a i) (λ k lt some. (let j : ℕ = slice_index (flow_numbers a i) k in
      width_value (widths_in v.widths j) (widths_in w.widths j) (same Measure j (record { box = k; within = lt; number = refl; some = some }))))
      ∙ ap (map (inner_widths_in w.widths)) alike.inner in
      measured_same medium (boxes_in a i) (boxes_in b i) (inner_widths a v.widths i) (inner_widths b w.widths i) (is_measured a i) (is_measured b i) alike.boxes inner alike.measured

  size_same : AreAlikeToSize a b i → AreSame Size → input_of medium a v (record { context = i; phase = Size }) ≡ input_of medium b w (record { context = i; phase = Size })
  size_same alike same =
      let widths = width_value (widths_in v.widths i) (widths_in w.widths i) (same Measure i refl) in
      let absolute : is_absolute a i ≡ is_absolute b i = ap is_own_absolute alike.own.boxes in
      let setting : setting_of medium.viewport a v i ≡ setting_of medium.viewport b w i =
      setting_by (is_absolute a i) refl alike same
      ∙ ap (λ (x : Bool). if x then Absolute (absolute_setting medium.viewport b (laid w) i) else flow_setting medium.viewport b w.sizes i) absolute in
      sized_same (boxes_in a i) (boxes_in b i) (widths_in v.widths i) (widths_in w.widths i) (setting_of medium.viewport a v i) (setting_of medium.viewport b w i) alike.own.boxes widths setting

  place_same : AreAlikeToPlace a b i → AreSame Place → input_of medium a v (record { context = i; phase = Place }) ≡ input_of medium b w (record { context = i; phase = Place })
  place_same alike same =
      let numbers : List ℕ = flow_numbers a i in
      let sizes = size_value (sizes_in v.sizes i) (sizes_in w.sizes i) (same Size i (inl refl)) in
      let places : (k : ℕ) → k < length numbers → 0 < slice_index numbers k → placement_in v.places (slice_index numbers k) ≡ placement_in w.places (slice_index numbers k) = λ k lt some.
      (let j : ℕ = slice_index numbers k in
      ap (λ (p : PlacedContext). p.placement) (place_value (placed_in v.places j) (placed_in w.places j) (same Place j (inl (record { box = k; within = lt; number = refl; some = some }))))) in
      let inner : inner_boxes a v.places i ≡ inner_boxes b w.places i = boxes_same v.places w.places numbers places ∙ ap (map (own_box_in w.places)) alike.inner in
      let anonymous : (k : ℕ) → k < length numbers → 0 < slice_index numbers k → (formatting_context_at a (slice_index numbers k)).anonymous ≡ (formatting_context_at b (slice_index numbers k)).anonymous = λ k lt some.
      alike.anonymous (slice_index numbers k) (record { box = k; within = lt; number = refl; some = some }) in
      let pieces : inner_pieces a v.places i ≡ inner_pieces b w.places i = pieces_same a b v.places w.places numbers anonymous places ∙ ap (map (pieces_in b w.places)) alike.inner in
      let absolute : is_absolute a i ≡ is_absolute b i = ap is_own_absolute alike.boxes in
      let position : own_place_of medium.viewport a v i ≡ own_place_of medium.viewport b w i =
      position_by (is_absolute a i) refl alike same
      ∙ ap (λ (x : Bool). if x then own_place.Absolute (absolute_setting medium.viewport b (laid w) i) else flow_place medium.viewport i) absolute in
      placed_same medium (boxes_in a i) (boxes_in b i) (sizes_in v.sizes i) (sizes_in w.sizes i) (inner_boxes a v.places i) (inner_boxes b w.places i) (inner_pieces a v.places i) (inner_pieces b w.places i)
      (own_place_of medium.viewport a v i) (own_place_of medium.viewport b w i) alike.boxes sizes inner pieces position

  input_same : (phase : Phase) → AreAlikeFor a b (record { context = i; phase = phase }) → AreSame phase → input_of medium a v (record { context = i; phase = phase }) ≡ input_of medium b w (record { context = i; phase = phase })
  input_same Measure alike same = measure_same alike same
  input_same Size alike same = size_same alike same
  input_same Place alike same = place_same alike same

pub inputs_come_of_needs_lem : InputsComeOfNeeds
inputs_come_of_needs_lem medium a b v w task are_a are_b in_a in_b alike same =
    input_same medium a b v w are_a are_b task.context in_a in_b task.phase alike (λ phase j needs. same (record { context = j; phase = phase }) needs)

-- a list is like itself for each task
like_itself : (a : List FormattingContext) (i : ℕ) (phase : Phase) → AreAlikeFor a a (record { context = i; phase = phase })
like_itself a i Measure = record { boxes = refl; inner = refl; measured = refl }
like_itself a i Size = record { own = alike a i; around = λ j around. refl; way = λ j on. alike a j }
like_itself a i Place = record { boxes = refl; inner = refl; anonymous = λ j inside. refl; own = λ absolute. alike a i; way = λ j on. alike a j }

-- so other values of what it doesn't need change nothing of what a task is given
pub input_again : (medium : Medium) (contexts : List FormattingContext) (v w : Workings) (task : Task) → AreFormattingContexts contexts → task.context < length contexts
    → ((needed : Task) → Needs contexts task needed → value_of_task v needed ≡ value_of_task w needed) → input_of medium contexts v task ≡ input_of medium contexts w task
input_again medium contexts v w task are within same = inputs_come_of_needs_lem medium contexts contexts v w task are are within within (like_itself contexts task.context task.phase) same
