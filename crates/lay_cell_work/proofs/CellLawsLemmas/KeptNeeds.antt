-- What a cell is given is kept where what it depends on is: for each phase that is what the laws of the phases ask for.
use Rattle.std.proofs.Common.{◌≡◌, ◌<◌, ℕ, Bool, true, false, List, [], ◌∷◌, ◌++◌, map, refl, ap, sym, subst, ◌∙◌, arith}
use Rattle.lay_doc.specs.declared.node.NodeId.{NodeId}
use Rattle.lay_cells.specs.Shapes.{IsIn}
use Rattle.lay_contexts.specs.Contexts.{context_at}
use Rattle.lay_positioned.specs.Absolute.{is_own_absolute, is_own_fixed}
use Rattle.lay_context.specs.declared.task.Phase.{Phase}
use Rattle.lay_context.specs.declared.task.Phase.TheVariants.{Measure, Size, Place}
use Rattle.lay_shape.specs.declared.cell_key.CellKey.{CellKey}
use Rattle.lay_shape.specs.declared.context_phase.ContextPhase.{ContextPhase}
use Rattle.lay_shape.specs.Dependencies.{in_phase, inner_flows, needs_in, needs_of, on_way, outer_needs, way_needs}
use Rattle.lay_shape.specs.Keys.{key_of as key_of_cell}
use Rattle.lay_shape.specs.Ways.{is_absolute, is_fixed, way_from, way_of}
use Rattle.lay_cell_work.proofs.Cited.{in_flat_map, in_here, in_left, in_map, in_right, in_there}
use Rattle.lay_cell_work.specs.CellLaws.SameContexts.{CounterpartsAreOfOneNode, IsSameAround, IsSameContext, IsSameOut, IsSameToMeasure, IsSameToPlace, IsSameToSize, IsTable, MeasureInputsAreKept, PlaceInputsAreKept, SizeInputsAreKept, Table}
use Rattle.lay_cell_work.proofs.CellLawsLemmas.InputForms.{table_are}
use Rattle.lay_cell_work.proofs.CellLawsLemmas.SameWays.{positive_other}
use Rattle.lay_cell_work.specs.CellLaws.KeptInputs.{AreNeedsKept, InputsAreKept, IsSameTo}
use Rattle.lay_cell_work.proofs.CellLawsLemmas.InnerNeeds.{inner_keys, inside_kept, out_of_flow}
use Rattle.lay_cell_work.proofs.CellLawsLemmas.KeptWays.{AreLaidSame, same_out, way_keys}
use Rattle.lay_cell_work.proofs.CellLawsLemmas.NeedLists.{heads, same_rest, tails}
use Rattle.lay_cell_work.proofs.CellLawsLemmas.OuterNeeds.{absolute_needs, flow_needs, way_is}

module _ (counterparts : CounterpartsAreOfOneNode) (a b : Table) (is_a : IsTable a) (is_b : IsTable b) (c e : ℕ) (same : IsSameContext a b c e) where
  some_there : 0 < c → 0 < e
  some_there some = positive_other e (λ z. (let y = same.root.1 z in omega (arith, some, y)))

  absolute_there : is_absolute a.contexts c ≡ is_absolute b.contexts e
  absolute_there = ap is_own_absolute same.boxes

  fixed_there : is_fixed a.contexts c ≡ is_fixed b.contexts e
  fixed_there = ap is_own_fixed same.boxes

  -- contexts of one node that a cell depends on in both phases are laid out the same
  way_laid : (phase : Phase) → AreNeedsKept a b c phase
      → ((d : ContextPhase) → IsIn (way_needs a.contexts c) d → IsIn (needs_in a.contexts (in_phase phase c)) d) → AreLaidSame a b (way_of a.contexts c)
  way_laid phase kept listed x y lt_x lt_y has node =
      let put : Phase → NodeId → CellKey = λ p n. record { node = n; phase = p } in
      let size = kept x y Size lt_x lt_y (listed (in_phase Size x) (in_flat_map on_way (way_of a.contexts c) x (in_phase Size x) has (in_here (in_phase Size x) (in_phase Place x ∷ []))))
      (ap (put Size) node) in
      let place = kept x y Place lt_x lt_y
      (listed (in_phase Place x) (in_flat_map on_way (way_of a.contexts c) x (in_phase Place x) has (in_there (in_phase Size x) (in_phase Place x) (in_phase Place x ∷ []) (in_here (in_phase Place x) []))))
      (ap (put Place) node) in
      record { own = size.own; sizes = size.kept; places = place.kept }

  -- an absolutely positioned one, and the ways out
  out_kept : (phase : Phase) → AreNeedsKept a b c phase
      → ((d : ContextPhase) → IsIn (way_needs a.contexts c) d → IsIn (needs_in a.contexts (in_phase phase c)) d)
      → map (key_of_cell a.contexts) (way_needs a.contexts c) ≡ map (key_of_cell b.contexts) (way_needs b.contexts e)
      → 0 < c → is_absolute a.contexts c ≡ true → IsSameOut a b c e
  out_kept phase kept listed keys some absolute =
      let some_b = some_there some in
      let fixed : Bool = is_fixed a.contexts c in
      let low_a = (table_are a is_a).outer c some same.within in
      let low_b = (table_are b is_b).outer e some_b same.there in
      let outer_a : ℕ = (context_at a.contexts c).outer in
      let outer_b : ℕ = (context_at b.contexts e).outer in
      let box_a : ℕ = (context_at a.contexts c).outer_box in
      let box_b : ℕ = (context_at b.contexts e).outer_box in
      let here : way_of a.contexts c ≡ way_from c fixed a.contexts outer_a box_a = way_is a.contexts c some absolute in
      let there : way_of b.contexts e ≡ way_from e fixed b.contexts outer_b box_b =
      way_is b.contexts e some_b (sym absolute_there ∙ absolute) ∙ ap (λ (f : Bool). way_from e f b.contexts outer_b box_b) (sym fixed_there) in
      let all : way_keys a.contexts (way_from c fixed a.contexts outer_a box_a) ≡ way_keys b.contexts (way_from e fixed b.contexts outer_b box_b) =
      ap (way_keys a.contexts) (sym here) ∙ keys ∙ ap (way_keys b.contexts) there in
      same_out a b is_a is_b fixed c e c e some same (omega (arith, low_a)) (omega (arith, low_b)) all
      (λ x y lt_x lt_y has node. way_laid phase kept listed x y lt_x lt_y (subst (λ (ws : List ℕ). IsIn ws x) (sym here) has) node)

  to_measure : IsSameTo Measure a b c e → AreNeedsKept a b c Measure → IsSameToMeasure a b c e
  to_measure to kept = record {
    own = same;
    measured = to.measured refl;
    inside = inside_kept counterparts a b is_a is_b c e same Measure kept (λ j has. in_map (in_phase Measure) (inner_flows a.contexts c) j has);
  }

  -- sizes
  module _ (keys : needs_of a.contexts (in_phase Size c) ≡ needs_of b.contexts (in_phase Size e)) (kept : AreNeedsKept a b c Size) where
    own_key : key_of_cell a.contexts (in_phase Measure c) ≡ key_of_cell b.contexts (in_phase Measure e)
    own_key =
        heads (key_of_cell a.contexts (in_phase Measure c)) (key_of_cell b.contexts (in_phase Measure e))
        (map (key_of_cell a.contexts) (outer_needs a.contexts c)) (map (key_of_cell b.contexts) (outer_needs b.contexts e)) keys

    outer_keys : map (key_of_cell a.contexts) (outer_needs a.contexts c) ≡ map (key_of_cell b.contexts) (outer_needs b.contexts e)
    outer_keys =
        tails (key_of_cell a.contexts (in_phase Measure c)) (key_of_cell b.contexts (in_phase Measure e))
        (map (key_of_cell a.contexts) (outer_needs a.contexts c)) (map (key_of_cell b.contexts) (outer_needs b.contexts e)) keys

    size_widths : a.kept c Measure ≡ b.kept e Measure
    size_widths = (kept c e Measure same.within same.there (in_here (in_phase Measure c) (outer_needs a.contexts c)) own_key).kept

    outer_listed : (d : ContextPhase) → IsIn (outer_needs a.contexts c) d → IsIn (needs_in a.contexts (in_phase Size c)) d
    outer_listed d has = in_there (in_phase Measure c) d (outer_needs a.contexts c) has

    size_around : 0 < c → is_absolute a.contexts c ≡ false → IsSameAround a b c e
    size_around some flow =
        let some_b = some_there some in
        let p : ℕ = (context_at a.contexts c).outer in
        let q : ℕ = (context_at b.contexts e).outer in
        let low_a = (table_are a is_a).outer c some same.within in
        let low_b = (table_are b is_b).outer e some_b same.there in
        let lt_c = same.within in
        let lt_e = same.there in
        let here : outer_needs a.contexts c ≡ in_phase Size p ∷ [] = flow_needs a.contexts c some flow in
        let there : outer_needs b.contexts e ≡ in_phase Size q ∷ [] = flow_needs b.contexts e some_b (sym absolute_there ∙ flow) in
        let both : key_of_cell a.contexts (in_phase Size p) ∷ [] ≡ key_of_cell b.contexts (in_phase Size q) ∷ [] =
        ap (map (key_of_cell a.contexts)) (sym here) ∙ outer_keys ∙ ap (map (key_of_cell b.contexts)) there in
        let listed : IsIn (outer_needs a.contexts c) (in_phase Size p) = subst (λ (ds : List ContextPhase). IsIn ds (in_phase Size p)) (sym here) (in_here (in_phase Size p) []) in
        let cell = kept p q Size (omega (arith, low_a, lt_c)) (omega (arith, low_b, lt_e)) (outer_listed (in_phase Size p) listed)
        (heads (key_of_cell a.contexts (in_phase Size p)) (key_of_cell b.contexts (in_phase Size q)) [] [] both) in
        record { around = cell.own; sizes = cell.kept }

    size_out : 0 < c → is_absolute a.contexts c ≡ true → IsSameOut a b c e
    size_out some absolute =
        let here : outer_needs a.contexts c ≡ way_needs a.contexts c = absolute_needs a.contexts c some absolute in
        let there : outer_needs b.contexts e ≡ way_needs b.contexts e = absolute_needs b.contexts e (some_there some) (sym absolute_there ∙ absolute) in
        out_kept Size kept (λ d has. outer_listed d (subst (λ (ds : List ContextPhase). IsIn ds d) (sym here) has))
        (ap (map (key_of_cell a.contexts)) (sym here) ∙ outer_keys ∙ ap (map (key_of_cell b.contexts)) there) some absolute

    to_size : IsSameToSize a b c e
    to_size = record {
      own = same;
      widths = size_widths;
      around = λ some flow. size_around some (out_of_flow a c ∙ flow);
      out = λ some absolute. size_out some (out_of_flow a c ∙ absolute);
    }

  -- places
  module _ (keys : needs_of a.contexts (in_phase Place c) ≡ needs_of b.contexts (in_phase Place e)) (kept : AreNeedsKept a b c Place) where
    abbrev inner_a : List ContextPhase
    inner_a = map (in_phase Place) (inner_flows a.contexts c)

    abbrev inner_b : List ContextPhase
    inner_b = map (in_phase Place) (inner_flows b.contexts e)

    sized_key : key_of_cell a.contexts (in_phase Size c) ≡ key_of_cell b.contexts (in_phase Size e)
    sized_key =
        heads (key_of_cell a.contexts (in_phase Size c)) (key_of_cell b.contexts (in_phase Size e))
        (map (key_of_cell a.contexts) (inner_a ++ way_needs a.contexts c)) (map (key_of_cell b.contexts) (inner_b ++ way_needs b.contexts e)) keys

    behind_keys : map (key_of_cell a.contexts) (inner_a ++ way_needs a.contexts c) ≡ map (key_of_cell b.contexts) (inner_b ++ way_needs b.contexts e)
    behind_keys =
        tails (key_of_cell a.contexts (in_phase Size c)) (key_of_cell b.contexts (in_phase Size e))
        (map (key_of_cell a.contexts) (inner_a ++ way_needs a.contexts c)) (map (key_of_cell b.contexts) (inner_b ++ way_needs b.contexts e)) keys

    ways : map (key_of_cell a.contexts) (way_needs a.contexts c) ≡ map (key_of_cell b.contexts) (way_needs b.contexts e)
    ways =
        same_rest (key_of_cell a.contexts) (key_of_cell b.contexts) inner_a (way_needs a.contexts c) inner_b (way_needs b.contexts e)
        (inner_keys counterparts a b is_a is_b c e same Place) behind_keys

    place_sizes : a.kept c Size ≡ b.kept e Size
    place_sizes = (kept c e Size same.within same.there (in_here (in_phase Size c) (inner_a ++ way_needs a.contexts c)) sized_key).kept

    to_place : IsSameToPlace a b c e
    to_place = record {
      own = same;
      sizes = place_sizes;
      inside = inside_kept counterparts a b is_a is_b c e same Place kept
          (λ j has. in_there (in_phase Size c) (in_phase Place j) (inner_a ++ way_needs a.contexts c)
          (in_left inner_a (way_needs a.contexts c) (in_phase Place j) (in_map (in_phase Place) (inner_flows a.contexts c) j has)));
      out = λ some absolute. out_kept Place kept
          (λ d has. in_there (in_phase Size c) d (inner_a ++ way_needs a.contexts c) (in_right inner_a (way_needs a.contexts c) d has)) ways some (out_of_flow a c ∙ absolute);
    }

pub inputs_are_kept_lem : CounterpartsAreOfOneNode → MeasureInputsAreKept → SizeInputsAreKept → PlaceInputsAreKept → InputsAreKept
inputs_are_kept_lem counterparts measure size place medium a b c e Measure is_a is_b to keys kept =
    measure medium a b c e is_a is_b (to_measure counterparts a b is_a is_b c e to.own to kept)
inputs_are_kept_lem counterparts measure size place medium a b c e Size is_a is_b to keys kept =
    size medium a b c e is_a is_b (to_size counterparts a b is_a is_b c e to.own keys kept)
inputs_are_kept_lem counterparts measure size place medium a b c e Place is_a is_b to keys kept =
    place medium a b c e is_a is_b (to_place counterparts a b is_a is_b c e to.own keys kept)
