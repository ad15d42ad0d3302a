-- At the same box of contexts with the same boxes stand contexts of one node.
use Rattle.std.proofs.Common.{◌≡◌, ◌<◌, ℕ, List, [], ◌∷◌, length, slice_index, refl, ap, sym, ◌∙◌, arith, inl, inr}
use Rattle.std.proofs.lemmas.Bool.{cases_lt}
use Rattle.lay_doc.specs.declared.node.NodeId.{NodeId}
use Rattle.lay_box_tree.specs.BoxColumns.{box_at, box_ids}
use Rattle.lay_box_tree.specs.declared.box_tree.BoxNode.{BoxNode}
use Rattle.lay_contexts.specs.Contexts.{AreContexts, IsInside as IsInsideContext, boxes_in, context_at}
use Rattle.lay_shape.specs.declared.cell_key.CellKey.{CellKey}
use Rattle.lay_cell_work.specs.CellLaws.SameContexts.{CounterpartsAreOfOneNode, IsTable, Table, inner_number_at}
use Rattle.lay_cell_work.proofs.CellLawsLemmas.InnerContexts.{none_same}
use Rattle.lay_cell_work.proofs.CellLawsLemmas.InputForms.{table_are}
use Rattle.lay_cell_work.proofs.CellLawsLemmas.OuterBoxes.{box_id}

node_form : (boxes : List BoxNode) → (box_at boxes 0).node ≡ record { 0 = slice_index (box_ids boxes) 0 }
node_form [] = refl
node_form (b ∷ boxes) = refl

-- the box of a context inside is of its node
inner_id : (t : Table) (is : IsTable t) (c k : ℕ) → c < length t.contexts → k < length (boxes_in t.contexts c) → 0 < inner_number_at t c k
    → slice_index (box_ids (boxes_in t.contexts c)) k ≡ slice_index (box_ids (boxes_in t.contexts (inner_number_at t c k))) 0
inner_id t is c k lt inside some =
    let are : AreContexts t.contexts = table_are t is in
    let p : ℕ = inner_number_at t c k in
    let has : IsInsideContext t.contexts c p = record { box = k; within = (let n = are.count c lt in omega (arith, n, inside)); number = refl; some = some } in
    ap (λ (o : ℕ). slice_index (box_ids (boxes_in t.contexts o)) k) (sym (are.around c p lt has))
    ∙ ap (slice_index (box_ids (boxes_in t.contexts (context_at t.contexts p).outer))) (sym (are.at c p lt has))
    ∙ box_id t is p some (are.within c p lt has)

pub counterparts_lem : CounterpartsAreOfOneNode
counterparts_lem a b c e k phase is_a is_b same inside some =
    let inside_b : k < length (boxes_in b.contexts e) = (let n : length (boxes_in a.contexts c) ≡ length (boxes_in b.contexts e) = ap length same.boxes in omega (arith, inside, n)) in
    let both = none_same a b is_a is_b c e same k inside in
    let some_b : 0 < inner_number_at b e k = elim (cases_lt 0 (inner_number_at b e k)) [
      | inl low ↦ low
      | inr high ↦ absurd (let z = both.1 (omega (arith, high)) in omega (arith, some, z))
    ] in
    let id : slice_index (box_ids (boxes_in a.contexts (inner_number_at a c k))) 0 ≡ slice_index (box_ids (boxes_in b.contexts (inner_number_at b e k))) 0 =
    sym (inner_id a is_a c k same.within inside some) ∙ ap (λ (boxes : List BoxNode). slice_index (box_ids boxes) k) same.boxes ∙ inner_id b is_b e k same.there inside_b some_b in
    let put : NodeId → CellKey = λ n. record { node = n; phase = phase } in
    ap put (node_form (boxes_in a.contexts (inner_number_at a c k))) ∙ ap (λ (n : ℕ). put (record { 0 = n })) id ∙ ap put (sym (node_form (boxes_in b.contexts (inner_number_at b e k))))
