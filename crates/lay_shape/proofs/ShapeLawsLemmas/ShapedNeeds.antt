-- What a task needs is of a cell that its cell depends on, or of that cell.
use Rattle.std.proofs.Common.{◌≡◌, inl, inr, ℕ, zero, suc, ◌<◌, ◌&&◌, not, nat_lt, Bool, true, false, List, [], ◌∷◌, ◌++◌, length, map, slice_index, slice_index_or, refl, ap, sym, subst, ◌∙◌, arith, if◌then◌else◌, Some}
use Rattle.std.proofs.lemmas.Bool.{and_from, lt-ltb}
use Rattle.std.proofs.lemmas.Option.{slice_get-get_or}
use Rattle.lay_box_tree.specs.BoxColumns.{box_at}
use Rattle.lay_box_tree.specs.Containing.{is_anonymous}
use Rattle.lay_box_tree.specs.declared.box_tree.BoxNode.{BoxNode}
use Rattle.lay_box_tree.specs.declared.box_tree.Flow.TheVariants.{InFlow}
use Rattle.lay_cells.specs.Shapes.{IsIn}
use Rattle.lay_context.specs.declared.task.Phase.{Phase}
use Rattle.lay_context.specs.declared.task.Phase.TheVariants.{Measure, Size, Place}
use Rattle.lay_context.specs.Needs.{IsAround, IsInsideFlow, IsOnWayOf, Needs}
use Rattle.lay_shape.proofs.Cited.{anonymous_in_flow, are_contexts, contexts_are_noted, flow_inside, flow_of, home_root, home_there, is_behind, spot_there}
use Rattle.lay_contexts.specs.Contexts.{AreContexts, Context, boxes_in, context_at}
use Rattle.lay_contexts.specs.FlowLaws.{flow_at}
use Rattle.lay_contexts.specs.FormattingBoxes.{as_member, as_own, at_home_before}
use Rattle.lay_contexts.specs.FormattingContexts.{FormattingContext, formatting_context_at}
use Rattle.lay_contexts.specs.FormattingContextList.{AreFormattingContextsOf, homes_in, number_of, spot_of}
use Rattle.lay_contexts.specs.Homes.{box_roots, is_root, is_wrapper_or_cell}
use Rattle.lay_contexts.specs.Laws.{IsNotedAround}
use Rattle.lay_contexts.specs.declared.spot.Spot.{Spot}
use Rattle.lay_positioned.specs.Absolute.{is_absolute as is_absolute_among, is_absolute_flow, is_fixed as is_fixed_among, is_own_absolute, is_own_fixed}
use Rattle.lay_shape.specs.Dependencies.{in_phase, inner_flows, is_inner_flow, needs_in, on_way, outer_needs, way_needs}
use Rattle.lay_shape.specs.Ways.{IsOnContextWay, is_absolute, is_fixed, way_of}
use Rattle.lay_shape.proofs.Members.{in_filter, in_flat_map, in_here, in_left, in_map, in_right, in_there}
use Rattle.lay_shape.proofs.WaySteps.{on_way_in}
use Rattle.lay_shape.specs.ShapeLaws.NeedLaws.{IsShapedNeed, NeedsAreShaped}
use Rattle.lay_shape.proofs.ShapeLawsLemmas.WayContexts.{way_contexts}

-- an anonymous root is anonymous
anonymous_by : (anonymous inner kind : Bool) → (anonymous && not inner && kind) ≡ true → anonymous ≡ true
anonymous_by true inner kind e = refl
anonymous_by false inner kind e = absurd cc

pub root_anonymous : (boxes : List BoxNode) (k : ℕ) → slice_index_or (box_roots boxes) k false ≡ true → is_anonymous boxes k ≡ true
root_anonymous [] k e = absurd cc
root_anonymous (b ∷ bs) zero e = anonymous_by b.anonymous b.inner (is_wrapper_or_cell b.kind) e
root_anonymous (b ∷ bs) (suc k) e = root_anonymous bs k e

-- the own box says whether a context is absolutely positioned, and fixed
own_absolute : (boxes : List BoxNode) → is_own_absolute boxes ≡ is_absolute_flow (box_at boxes 0).flow
own_absolute [] = refl
own_absolute (b ∷ bs) = refl

own_fixed : (boxes others : List BoxNode) → 0 < length boxes → is_own_fixed (as_own (box_at boxes 0) ∷ others) ≡ is_own_fixed boxes
own_fixed [] others some = absurd (omega (arith, some))
own_fixed (b ∷ bs) others some = refl

module _ (contexts : List Context) (all : List FormattingContext) (are : AreContexts contexts) (of : AreFormattingContextsOf contexts all)
    (noted : (j : ℕ) → 0 < j → j < length contexts → IsNotedAround contexts j)
    (calm : (i k : ℕ) → i < length contexts → is_anonymous (boxes_in contexts i) k ≡ true → flow_at (boxes_in contexts i) k ≡ InFlow) where
  abbrev n : ℕ
  n = length contexts

  module _ (i r : ℕ) (lt : i < n) (inside : r < length (boxes_in contexts i)) (root : is_root (boxes_in contexts i) r ≡ true) where
    abbrev own : ℕ
    own = number_of contexts i r

    -- the own box is that of the root
    absolute_is : is_absolute_among all own ≡ is_absolute_flow (box_at (boxes_in contexts i) r).flow
    absolute_is = ap (λ (f : FormattingContext). is_own_absolute f.boxes) (of.each i r lt inside root)

  context_absolute : (i : ℕ) → i < n → is_absolute_among all (number_of contexts i 0) ≡ is_absolute contexts i
  context_absolute i lt = absolute_is i 0 lt ((are.boxes i lt).some) refl ∙ sym (own_absolute (boxes_in contexts i))

  context_fixed : (i : ℕ) → i < n → is_fixed_among all (number_of contexts i 0) ≡ is_fixed contexts i
  context_fixed i lt =
      ap (λ (f : FormattingContext). is_own_fixed f.boxes) (of.each i 0 lt ((are.boxes i lt).some) refl)
      ∙ own_fixed (boxes_in contexts i) (map (as_member (boxes_in contexts i) (homes_in of.homes i)) (at_home_before (homes_in of.homes i) 0 (length (boxes_in contexts i)))) ((are.boxes i lt).some)

  -- only a context itself is absolutely positioned
  anonymous_not : (i r : ℕ) → i < n → suc r < length (boxes_in contexts i) → is_root (boxes_in contexts i) (suc r) ≡ true → is_absolute_among all (number_of contexts i (suc r)) ≡ true → ⊥
  anonymous_not i r lt inside root e =
      let flow : flow_at (boxes_in contexts i) (suc r) ≡ InFlow = calm i (suc r) lt (root_anonymous (boxes_in contexts i) (suc r) root) in
      let never : true ≡ false = sym e ∙ absolute_is i (suc r) lt inside root ∙ ap is_absolute_flow (sym (flow_of (boxes_in contexts i) (suc r)) ∙ flow) in
      cc

  -- an inner context that is in flow is one of those
  flow_listed : (i c : ℕ) → suc c < n → (context_at contexts (suc c)).outer ≡ i → is_absolute contexts (suc c) ≡ false → IsIn (inner_flows contexts i) (suc c)
  flow_listed i c lt e flow =
      let o = (context_at contexts (suc c)).outer in
      let k = (context_at contexts (suc c)).outer_box in
      let before = are.outer (suc c) (omega arith) lt in
      let place = are.outer_box (suc c) (omega arith) lt in
      let count = are.count o (omega (arith, before, lt)) in
      let number : slice_index (context_at contexts o).inner k ≡ suc c = (noted (suc c) (omega arith) lt).number in
      let there : IsIn (context_at contexts o).inner (suc c) = (k, slice_get-get_or (context_at contexts o).inner k 0 (omega (arith, count, place)) ∙ ap Some number) in
      subst (λ (m : ℕ). IsIn (inner_flows contexts m) (suc c)) e
      (in_filter (is_inner_flow contexts) (context_at contexts o).inner (suc c) there (and_from (nat_lt 0 (suc c)) (not (is_absolute contexts (suc c))) (lt-ltb 0 (suc c) (omega arith)) (ap not flow)))

  -- the formatting contexts inside one, in flow or floating
  by_place : (i k m c s : ℕ) → c < n → s < length (boxes_in contexts c) → is_root (boxes_in contexts c) s ≡ true → number_of contexts c s ≡ m → 0 < m → is_absolute_among all m ≡ false
      → spot_of contexts c s ≡ record { context = i; place = k } → (p : Phase) → ((j : ℕ) → IsIn (inner_flows contexts i) j → IsIn (needs_in contexts (in_phase p i)) (in_phase p j))
      → IsShapedNeed contexts i p (record { context = m; phase = p })
  by_place i k m zero zero lt inside root number some flow spot p listed = absurd (omega (arith, number, some))
  by_place i k m (suc c) zero lt inside root number some flow spot p listed =
      let outer : (context_at contexts (suc c)).outer ≡ i = ap (λ (x : Spot). x.context) spot in
      let calm_own : is_absolute contexts (suc c) ≡ false = sym (context_absolute (suc c) lt) ∙ ap (is_absolute_among all) number ∙ flow in
      record {
        context = suc c;
        root = 0;
        within = lt;
        inside = inside;
        is_root = root;
        number = sym number;
        shaped = inl (listed (suc c) (flow_listed i c lt outer calm_own));
      }
  by_place i k m zero (suc s) lt inside root number some flow spot p listed = record {
    context = 0;
    root = suc s;
    within = lt;
    inside = inside;
    is_root = root;
    number = sym number;
    shaped = inr (ap (λ (x : Spot). x.context) spot, refl);
  }
  by_place i k m (suc c) (suc s) lt inside root number some flow spot p listed = record {
    context = suc c;
    root = suc s;
    within = lt;
    inside = inside;
    is_root = root;
    number = sym number;
    shaped = inr (ap (λ (x : Spot). x.context) spot, refl);
  }

  module _ (i r : ℕ) (lt : i < n) (inside : r < length (boxes_in contexts i)) (root : is_root (boxes_in contexts i) r ≡ true) where
    inner_shaped : (m : ℕ) (p : Phase) → IsInsideFlow all (number_of contexts i r) m → ((j : ℕ) → IsIn (inner_flows contexts i) j → IsIn (needs_in contexts (in_phase p i)) (in_phase p j))
        → IsShapedNeed contexts i p (record { context = m; phase = p })
    inner_shaped m p has listed =
        let here = flow_inside all (number_of contexts i r) m has in
        let in_it = here.inside in
        let e = ap (λ (f : FormattingContext). f.inner) (of.each i r lt inside root) in
        let within = subst (λ (l : List ℕ). in_it.box < length l) e in_it.within in
        let number = subst (λ (l : List ℕ). slice_index l in_it.box ≡ m) e in_it.number in
        let b = is_behind contexts of.homes are of.homes_are i r in_it.box m lt inside root within number in_it.some in
        let s = b.stands in
        by_place i b.box m s.context s.place s.before s.inside s.root s.number has.some here.flow s.spot p listed

    own_shaped : (p q : Phase) → IsIn (needs_in contexts (in_phase p i)) (in_phase q i) → (m : ℕ) → m ≡ number_of contexts i r → IsShapedNeed contexts i p (record { context = m; phase = q })
    own_shaped p q has m e = record { context = i; root = r; within = lt; inside = inside; is_root = root; number = e; shaped = inl has }

  around_shaped : (i r : ℕ) → i < n → r < length (boxes_in contexts i) → is_root (boxes_in contexts i) r ≡ true → (m : ℕ) → IsAround all (number_of contexts i r) m → IsShapedNeed contexts i Size (record { context = m; phase = Size })
  around_shaped zero zero lt inside root m around = absurd (let s = around.some in omega (arith, s))
  around_shaped (suc i) zero lt inside root m around =
      let o = (context_at contexts (suc i)).outer in
      let k = (context_at contexts (suc i)).outer_box in
      let t = spot_there contexts are (suc i) zero lt inside in
      let flow : is_absolute contexts (suc i) ≡ false = sym (context_absolute (suc i) lt) ∙ around.in_flow in
      let need : IsIn (outer_needs contexts (suc i)) (in_phase Size o) =
      subst (λ (b : Bool). IsIn (if b then way_needs contexts (suc i) else in_phase Size o ∷ []) (in_phase Size o)) (sym flow) (in_here (in_phase Size o) []) in
      record {
        context = o;
        root = slice_index (homes_in of.homes o) k;
        within = t.context;
        inside = home_there contexts of.homes are of.homes_are o k t.context t.place;
        is_root = home_root contexts of.homes are of.homes_are o k t.context t.place;
        number = around.is ∙ ap (λ (f : FormattingContext). f.outer) (of.each (suc i) zero lt inside root);
        shaped = inl (in_there (in_phase Measure (suc i)) (in_phase Size o) (outer_needs contexts (suc i)) need);
      }
  around_shaped zero (suc r) lt inside root m around = record {
    context = zero;
    root = slice_index (homes_in of.homes zero) (suc r);
    within = lt;
    inside = home_there contexts of.homes are of.homes_are zero (suc r) lt inside;
    is_root = home_root contexts of.homes are of.homes_are zero (suc r) lt inside;
    number = around.is ∙ ap (λ (f : FormattingContext). f.outer) (of.each zero (suc r) lt inside root);
    shaped = inr (refl, refl);
  }
  around_shaped (suc i) (suc r) lt inside root m around = record {
    context = suc i;
    root = slice_index (homes_in of.homes (suc i)) (suc r);
    within = lt;
    inside = home_there contexts of.homes are of.homes_are (suc i) (suc r) lt inside;
    is_root = home_root contexts of.homes are of.homes_are (suc i) (suc r) lt inside;
    number = around.is ∙ ap (λ (f : FormattingContext). f.outer) (of.each (suc i) (suc r) lt inside root);
    shaped = inr (refl, refl);
  }

  way_shaped : (i r : ℕ) → i < n → r < length (boxes_in contexts i) → is_root (boxes_in contexts i) r ≡ true → (p q : Phase) (m : ℕ) → IsOnWayOf all (number_of contexts i r) m
      → ((j : ℕ) → is_absolute contexts i ≡ true → IsIn (way_of contexts i) j → IsIn (needs_in contexts (in_phase p i)) (in_phase q j)) → IsShapedNeed contexts i p (record { context = m; phase = q })
  way_shaped i (suc r) lt inside root p q m way listed = absurd (anonymous_not i r lt inside root way.absolute)
  way_shaped zero zero lt inside root p q m way listed = absurd (let s = way.way.some in omega (arith, s))
  way_shaped (suc i) zero lt inside root p q m way listed =
      let o = (context_at contexts (suc i)).outer in
      let k = (context_at contexts (suc i)).outer_box in
      let t = spot_there contexts are (suc i) zero lt inside in
      let is = of.each (suc i) zero lt inside root in
      let absolute : is_absolute contexts (suc i) ≡ true = sym (context_absolute (suc i) lt) ∙ way.absolute in
      let f = formatting_context_at all (number_of contexts (suc i) 0) in
      let w = way_contexts contexts all are of (is_fixed_among all (number_of contexts (suc i) 0)) m f.outer f.outer_box o k way.way.from t.context t.place
      (ap (λ (x : FormattingContext). x.outer) is) (ap (λ (x : FormattingContext). x.outer_box) is) in
      let on : IsOnContextWay contexts (suc i) w.context = record { some = omega arith; absolute = absolute; from = rw (← context_fixed (suc i) lt) w.on } in
      record {
        context = w.context;
        root = w.root;
        within = w.within;
        inside = w.inside;
        is_root = w.is_root;
        number = w.number;
        shaped = inl (listed w.context absolute (on_way_in contexts are (suc i) w.context lt on));
      }

  -- what is on a way is needed
  way_size : (i j : ℕ) → IsIn (way_of contexts i) j → IsIn (way_needs contexts i) (in_phase Size j)
  way_size i j has = in_flat_map on_way (way_of contexts i) j (in_phase Size j) has (in_here (in_phase Size j) (in_phase Place j ∷ []))

  way_place : (i j : ℕ) → IsIn (way_of contexts i) j → IsIn (way_needs contexts i) (in_phase Place j)
  way_place i j has = in_flat_map on_way (way_of contexts i) j (in_phase Place j) has (in_there (in_phase Size j) (in_phase Place j) (in_phase Place j ∷ []) (in_here (in_phase Place j) []))

  sizes_need : (i : ℕ) (q : Phase) (j : ℕ) → is_absolute contexts i ≡ true → IsIn (way_needs contexts i) (in_phase q j) → IsIn (needs_in contexts (in_phase Size i)) (in_phase q j)
  sizes_need zero q j absolute has = absurd (let never = has.1 in cc)
  sizes_need (suc i) q j absolute has =
      in_there (in_phase Measure (suc i)) (in_phase q j) (outer_needs contexts (suc i))
      (subst (λ (b : Bool). IsIn (if b then way_needs contexts (suc i) else in_phase Size (context_at contexts (suc i)).outer ∷ []) (in_phase q j)) (sym absolute) has)

  places_need : (i : ℕ) (q : Phase) (j : ℕ) → IsIn (way_needs contexts i) (in_phase q j) → IsIn (needs_in contexts (in_phase Place i)) (in_phase q j)
  places_need i q j has =
      in_there (in_phase Size i) (in_phase q j) (map (in_phase Place) (inner_flows contexts i) ++ way_needs contexts i)
      (in_right (map (in_phase Place) (inner_flows contexts i)) (way_needs contexts i) (in_phase q j) has)

  inner_place : (i j : ℕ) → IsIn (inner_flows contexts i) j → IsIn (needs_in contexts (in_phase Place i)) (in_phase Place j)
  inner_place i j has =
      in_there (in_phase Size i) (in_phase Place j) (map (in_phase Place) (inner_flows contexts i) ++ way_needs contexts i)
      (in_left (map (in_phase Place) (inner_flows contexts i)) (way_needs contexts i) (in_phase Place j) (in_map (in_phase Place) (inner_flows contexts i) j has))

  shaped_by : (i r : ℕ) → i < n → r < length (boxes_in contexts i) → is_root (boxes_in contexts i) r ≡ true → (p q : Phase) (m : ℕ)
      → Needs all (record { context = number_of contexts i r; phase = p }) (record { context = m; phase = q }) → IsShapedNeed contexts i p (record { context = m; phase = q })
  shaped_by i r lt inside root Measure Measure m needs = inner_shaped i r lt inside root m Measure needs (λ j has. in_map (in_phase Measure) (inner_flows contexts i) j has)
  shaped_by i r lt inside root Measure Size m needs = absurd needs
  shaped_by i r lt inside root Measure Place m needs = absurd needs
  shaped_by i r lt inside root Size Measure m needs = own_shaped i r lt inside root Size Measure (in_here (in_phase Measure i) (outer_needs contexts i)) m needs
  shaped_by i r lt inside root Size Size m (inl around) = around_shaped i r lt inside root m around
  shaped_by i r lt inside root Size Size m (inr way) = way_shaped i r lt inside root Size Size m way (λ j absolute has. sizes_need i Size j absolute (way_size i j has))
  shaped_by i r lt inside root Size Place m way = way_shaped i r lt inside root Size Place m way (λ j absolute has. sizes_need i Place j absolute (way_place i j has))
  shaped_by i r lt inside root Place Measure m needs = absurd needs
  shaped_by i r lt inside root Place Size m (inl same) =
      own_shaped i r lt inside root Place Size (in_here (in_phase Size i) (map (in_phase Place) (inner_flows contexts i) ++ way_needs contexts i)) m same
  shaped_by i r lt inside root Place Size m (inr way) = way_shaped i r lt inside root Place Size m way (λ j absolute has. places_need i Size j (way_size i j has))
  shaped_by i r lt inside root Place Place m (inl inner) = inner_shaped i r lt inside root m Place inner (inner_place i)
  shaped_by i r lt inside root Place Place m (inr way) = way_shaped i r lt inside root Place Place m way (λ j absolute has. places_need i Place j (way_place i j has))

pub needs_are_shaped_lem : NeedsAreShaped
needs_are_shaped_lem d styles contexts all i r phase needed doc same of of_all lt inside root needs =
    shaped_by contexts all (are_contexts d styles contexts doc same of) of_all (λ j positive l. contexts_are_noted d styles contexts j doc same of positive l)
    (λ j k l anonymous. anonymous_in_flow d styles contexts j k doc same of l anonymous) i r lt inside root phase needed.phase needed.context needs
