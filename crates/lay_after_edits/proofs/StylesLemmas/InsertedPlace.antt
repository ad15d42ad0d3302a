-- Where a node that is put in stands.
use Rattle.std.proofs.Common.{◌≡◌, ℕ, ◌+◌, ◌==◌, ◌||◌, slice_index, Bool, true, false, not, refl, ap, ◌∙◌, arith, Option, None, Some, if◌then◌else◌, is_some, nat_lt, option_map, subst}
use Rattle.std.proofs.lemmas.Bool.{ltb-false, or_parts}
use Rattle.lay_after_edits.proofs.Cited.{ids_inserted, length-ids, length-parents, place_insert_here, place_within, put-in, slot_found}
use Rattle.lay_style.specs.Places.{place_of}
use Rattle.lay_doc.specs.declared.edit.Edit.{Edit}
use Rattle.lay_doc.specs.declared.edit.Edit.TheVariants.{Insert}
use Rattle.lay_doc.specs.declared.edit.EditFault.{EditFault}
use Rattle.lay_doc.specs.declared.edit.EditFault.TheVariants.{NotElement, IdTaken, BadIndex}
use Rattle.lay_doc.specs.declared.node.Node.{Node}
use Rattle.lay_doc.specs.declared.node.NodeId.{NodeId}
use Rattle.lay_doc.specs.Document.{Document, IsDocument, becomes, depths_of, ids_of, is_element_at, parents_of}
use Rattle.lay_doc.specs.Edits.{after, after_insert, fault, fault_below, insert_fault}
use Rattle.lay_doc.specs.NewNodes.{NewNodeValue}
use Rattle.lay_doc.specs.Tree.{IsSlot, child_count, slot_of}
use Rattle.lay_after_edits.specs.Styles.Stretches.{inserted_at, edit_stretch}

passed : (b : Bool) (f : EditFault) (rest : Option EditFault) → (if b then Some f else rest) ≡ None → (b ≡ false) × (rest ≡ None)
passed true f rest h = absurd cc
passed false f rest h = (refl, h)

none_there : (o : Option ℕ) → is_some o ≡ false → o ≡ None
none_there None h = refl
none_there (Some k) h = absurd cc

-- a new node has a parent there, and its place is free
pub record IsPutIn (d : Document) (parent index : ℕ) (new : NewNodeValue) : Type 0 where
  pub place : ℕ
  pub named : place_of parent (ids_of d.nodes) ≡ Some place
  pub fresh : place_of new.id.0 (ids_of d.nodes) ≡ None
  pub slot : IsSlot (parents_of d.nodes) place index (slot_of (parents_of d.nodes) place index)

put_below : (d : Document) (parent index p : ℕ) (new : NewNodeValue) → IsDocument d → place_of parent (ids_of d.nodes) ≡ Some p
    → fault_below d.nodes p index new ≡ None → IsPutIn d parent index new
put_below d parent index p new is named none =
    let a = passed (not (is_element_at d.nodes p)) NotElement _ none in
    let b = passed ((new.id.0 == 0) || is_some (place_of new.id.0 (ids_of d.nodes))) IdTaken _ a.1 in
    let c = passed (nat_lt (child_count (parents_of d.nodes) p) index) BadIndex _ b.1 in
    let few = ltb-false (child_count (parents_of d.nodes) p) index c.0 in
    let has = place_within parent (ids_of d.nodes) p named in
    record {
      place = p;
      named = named;
      fresh = none_there (place_of new.id.0 (ids_of d.nodes)) (or_parts (new.id.0 == 0) (is_some (place_of new.id.0 (ids_of d.nodes))) b.0).1;
      slot = slot_found (parents_of d.nodes) is.tree p index few (omega (arith, has, length-ids d.nodes, length-parents d.nodes));
    }

pub put_in : (d : Document) (parent index : ℕ) (new : NewNodeValue) → IsDocument d → insert_fault d parent index new ≡ None
    → IsPutIn d parent index new
put_in d parent index new is none = by (place_of parent (ids_of d.nodes)) refl
  where
    by : (o : Option ℕ) → place_of parent (ids_of d.nodes) ≡ o → IsPutIn d parent index new
    by None e = absurd (let h = rw e at none in cc)
    by (Some p) e = put_below d parent index p new is e (rw e at none)

pub new_place : (d : Document) (parent index : ℕ) (new : NewNodeValue) → (put : IsPutIn d parent index new)
    → place_of new.id.0 (ids_of (after_insert d parent index new).nodes) ≡ Some (slot_of (parents_of d.nodes) put.place index)
new_place d parent index new put =
    let p : ℕ = put.place in
    let at : ℕ = slot_of (parents_of d.nodes) p index in
    let node : Node = becomes new p (slice_index (depths_of d.nodes) p + 1) in
    let within = put.slot.within in
    ap (λ (e : Document). place_of new.id.0 (ids_of e.nodes)) (put-in d parent index new p put.named)
    ∙ ap (place_of new.id.0) (ids_inserted d.nodes at node)
    ∙ place_insert_here (ids_of d.nodes) at new.id.0 (omega (arith, within, length-ids d.nodes, length-parents d.nodes)) put.fresh

-- found among the nodes after the edit
pub record IsFound (d e : Document) (edit : Edit) (id : ℕ) : Type 0 where
  pub at : ℕ
  pub there : place_of id (ids_of e.nodes) ≡ Some at
  pub stretch : edit_stretch d edit ≡ Some (inserted_at at)

pub found_new : (d e : Document) (edit : Edit) (parent : NodeId) (index : ℕ) (new : NewNodeValue) (id : NodeId) → IsDocument d → fault d edit ≡ None
    → e ≡ after d edit → edit ≡ Insert parent index new → id ≡ new.id → IsFound d e edit id.0
found_new d e edit parent index new id is accepted later inserts named =
    let put = put_in d parent.0 index new is (subst (λ (x : Edit). fault d x ≡ None) inserts accepted) in
    record {
      at = slot_of (parents_of d.nodes) put.place index;
      there = ap (λ (i : NodeId). place_of i.0 (ids_of e.nodes)) named
          ∙ ap (λ (x : Document). place_of new.id.0 (ids_of x.nodes)) (later ∙ ap (after d) inserts)
          ∙ new_place d parent.0 index new put;
      stretch = ap (edit_stretch d) inserts ∙ ap (option_map (λ (p : ℕ). inserted_at (slot_of (parents_of d.nodes) p index))) put.named;
    }
