-- The contexts inside that are in flow or float: the cells of a context depend on theirs, and contexts with the same boxes have the same
-- ones inside, in the same order.
use Rattle.std.proofs.Common.{◌≡◌, ◌<◌, ◌↔◌, ◌&&◌, ℕ, zero, suc, not, nat_lt, Bool, true, false, List, [], ◌∷◌, length, map, refl, ap, sym, ◌∙◌, arith}
use Rattle.std.proofs.lemmas.Bool.{and_from, and_parts, lt-ltb}
use Rattle.std.proofs.lemmas.Option.{slice_get-get_or}
use Rattle.lay_boxgen.specs.Forms as forms
use Rattle.lay_box_tree.specs.declared.box_tree.BoxNode.{BoxNode}
use Rattle.lay_box_tree.specs.declared.box_tree.Flow.{Flow}
use Rattle.lay_box_tree.specs.declared.box_tree.Flow.TheVariants.{InFlow, Floating, Absolute}
use Rattle.lay_cells.specs.Shapes.{IsIn}
use Rattle.lay_contexts.specs.Contexts.{IsInside, boxes_in, context_at}
use Rattle.lay_contexts.specs.FlowLaws.{flow_at, is_anchor_at}
use Rattle.lay_positioned.specs.Absolute.{is_absolute_flow, is_own_absolute}
use Rattle.lay_context.specs.declared.task.Phase.{Phase}
use Rattle.lay_shape.specs.Dependencies.{in_phase, inner_flows, is_inner_flow, needs_in}
use Rattle.lay_shape.specs.Keys.{key_of as key_of_cell}
use Rattle.lay_shape.specs.Ways.{is_absolute}
use Rattle.lay_cell_work.proofs.Cited.{in_filter}
use Rattle.lay_cell_work.specs.CellLaws.SameContexts.{AreSameInside, CounterpartsAreOfOneNode, IsSameContext, IsTable, Table, inner_number_at, is_context_out_of_flow}
use Rattle.lay_cell_work.proofs.CellLawsLemmas.InnerContexts.{none_same}
use Rattle.lay_cell_work.proofs.CellLawsLemmas.InputForms.{table_are, table_keeps}
use Rattle.lay_cell_work.specs.CellLaws.KeptInputs.{AreNeedsKept}
use Rattle.lay_cell_work.proofs.CellLawsLemmas.NeedLists.{filtered_alike}

same_absolute : (f : Flow) → is_absolute_flow f ≡ forms.is_absolute f
same_absolute InFlow = refl
same_absolute Floating = refl
same_absolute Absolute = refl

own_flow : (boxes : List BoxNode) → is_own_absolute boxes ≡ forms.is_absolute (flow_at boxes 0)
own_flow [] = refl
own_flow (b ∷ boxes) = same_absolute b.flow

-- a context is absolutely positioned by its boxes
pub out_of_flow : (t : Table) (c : ℕ) → is_absolute t.contexts c ≡ is_context_out_of_flow t c
out_of_flow t c = own_flow (boxes_in t.contexts c)

positive_alike : (m n : ℕ) → (m ≡ 0) ↔ (n ≡ 0) → nat_lt 0 m ≡ nat_lt 0 n
positive_alike zero zero both = refl
positive_alike zero (suc n) both = absurd (let z = both.0 refl in omega (arith, z))
positive_alike (suc m) zero both = absurd (let z = both.1 refl in omega (arith, z))
positive_alike (suc m) (suc n) both = lt-ltb 0 (suc m) (omega arith) ∙ sym (lt-ltb 0 (suc n) (omega arith))

positive : (n : ℕ) (b : Bool) → nat_lt 0 n ≡ b → b ≡ true → 0 < n
positive zero b e is = absurd cc
positive (suc n) b e is = omega arith

flow_by : (j : ℕ) (x y : Bool) → (0 < j → x ≡ y) → (nat_lt 0 j && not x) ≡ (nat_lt 0 j && not y)
flow_by zero x y e = refl
flow_by (suc j) x y e = ap (λ (b : Bool). nat_lt 0 (suc j) && not b) (e (omega arith))

module _ (t : Table) (is : IsTable t) (c k : ℕ) (lt : c < length t.contexts) (inside : k < length (boxes_in t.contexts c)) where
  within : k < length (context_at t.contexts c).inner
  within = (let n = (table_are t is).count c lt in omega (arith, n, inside))

  abbrev has_inside : 0 < inner_number_at t c k → IsInside t.contexts c (inner_number_at t c k)
  has_inside some = record { box = k; within = within; number = refl; some = some }

  pub inner_within : 0 < inner_number_at t c k → inner_number_at t c k < length t.contexts
  inner_within some = (table_are t is).within c (inner_number_at t c k) lt (has_inside some)

  -- it is absolutely positioned just where its box is an anchor
  anchor_is : 0 < inner_number_at t c k → is_absolute t.contexts (inner_number_at t c k) ≡ is_anchor_at (boxes_in t.contexts c) k
  anchor_is some =
      let p : ℕ = inner_number_at t c k in
      let has = has_inside some in
      out_of_flow t p ∙ sym (table_keeps t is p some (inner_within some)).anchor
      ∙ ap (λ (o : ℕ). is_anchor_at (boxes_in t.contexts o) (context_at t.contexts p).outer_box) ((table_are t is).around c p lt has)
      ∙ ap (is_anchor_at (boxes_in t.contexts c)) ((table_are t is).at c p lt has)

  flow_is : is_inner_flow t.contexts (inner_number_at t c k) ≡ (nat_lt 0 (inner_number_at t c k) && not (is_anchor_at (boxes_in t.contexts c) k))
  flow_is = flow_by (inner_number_at t c k) (is_absolute t.contexts (inner_number_at t c k)) (is_anchor_at (boxes_in t.contexts c) k) anchor_is

  -- it is listed where it is in flow or floats
  pub inner_listed : 0 < inner_number_at t c k → is_anchor_at (boxes_in t.contexts c) k ≡ false → IsIn (inner_flows t.contexts c) (inner_number_at t c k)
  inner_listed some plain =
      in_filter (is_inner_flow t.contexts) (context_at t.contexts c).inner (inner_number_at t c k) (k, slice_get-get_or (context_at t.contexts c).inner k 0 within)
      (and_from (nat_lt 0 (inner_number_at t c k)) (not (is_absolute t.contexts (inner_number_at t c k))) (lt-ltb 0 (inner_number_at t c k) some) (ap not (anchor_is some ∙ plain)))

module _ (counterparts : CounterpartsAreOfOneNode) (a b : Table) (is_a : IsTable a) (is_b : IsTable b) (c e : ℕ) (same : IsSameContext a b c e) where
  module _ (k : ℕ) (inside : k < length (boxes_in a.contexts c)) where
    inside_there : k < length (boxes_in b.contexts e)
    inside_there = (let n : length (boxes_in a.contexts c) ≡ length (boxes_in b.contexts e) = ap length same.boxes in omega (arith, inside, n))

    some_alike : nat_lt 0 (inner_number_at a c k) ≡ nat_lt 0 (inner_number_at b e k)
    some_alike = positive_alike (inner_number_at a c k) (inner_number_at b e k) (none_same a b is_a is_b c e same k inside)

    some_there : 0 < inner_number_at a c k → 0 < inner_number_at b e k
    some_there some = positive (inner_number_at b e k) (nat_lt 0 (inner_number_at b e k)) refl (sym some_alike ∙ lt-ltb 0 (inner_number_at a c k) some)

    flow_alike : is_inner_flow a.contexts (inner_number_at a c k) ≡ is_inner_flow b.contexts (inner_number_at b e k)
    flow_alike =
        flow_is a is_a c k same.within inside
        ∙ ap (λ (x : Bool). x && not (is_anchor_at (boxes_in a.contexts c) k)) some_alike
        ∙ ap (λ (boxes : List BoxNode). nat_lt 0 (inner_number_at b e k) && not (is_anchor_at boxes k)) same.boxes
        ∙ sym (flow_is b is_b e k same.there inside_there)

    flow_some : is_inner_flow a.contexts (inner_number_at a c k) ≡ true → 0 < inner_number_at a c k
    flow_some flow = positive (inner_number_at a c k) (nat_lt 0 (inner_number_at a c k)) refl (and_parts (nat_lt 0 (inner_number_at a c k)) (not (is_absolute a.contexts (inner_number_at a c k))) flow).0

  -- the keys of their cells are the same
  pub inner_keys : (phase : Phase) → map (key_of_cell a.contexts) (map (in_phase phase) (inner_flows a.contexts c)) ≡ map (key_of_cell b.contexts) (map (in_phase phase) (inner_flows b.contexts e))
  inner_keys phase =
      let count_a = (table_are a is_a).count c same.within in
      let count_b = (table_are b is_b).count e same.there in
      let count : length (boxes_in a.contexts c) ≡ length (boxes_in b.contexts e) = ap length same.boxes in
      filtered_alike (is_inner_flow a.contexts) (is_inner_flow b.contexts) (in_phase phase) (key_of_cell a.contexts) (key_of_cell b.contexts)
      (context_at a.contexts c).inner (context_at b.contexts e).inner (omega (arith, count_a, count_b, count))
      (λ k lt. flow_alike k (omega (arith, lt, count_a)))
      (λ k lt flow. (let inside : k < length (boxes_in a.contexts c) = omega (arith, lt, count_a) in counterparts a b c e k phase is_a is_b same inside (flow_some k inside flow)))

  -- where a cell depends on the cells of these in its own phase, they keep the same
  pub inside_kept : (phase : Phase) → AreNeedsKept a b c phase
      → ((j : ℕ) → IsIn (inner_flows a.contexts c) j → IsIn (needs_in a.contexts (in_phase phase c)) (in_phase phase j)) → AreSameInside a b c e phase
  inside_kept phase kept listed k inside some plain =
      (kept (inner_number_at a c k) (inner_number_at b e k) phase (inner_within a is_a c k same.within inside some)
      (inner_within b is_b e k same.there (inside_there k inside) (some_there k inside some))
      (listed (inner_number_at a c k) (inner_listed a is_a c k same.within inside some plain))
      (counterparts a b c e k phase is_a is_b same inside some)).kept
