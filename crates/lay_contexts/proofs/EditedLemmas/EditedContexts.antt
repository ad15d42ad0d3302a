-- Each edit keeps the nodes that it doesn't reach, and so the boxes of the contexts that have none but these.
use Rattle.std.proofs.Common.{◌≡◌, ◌⊎◌, ◌↔◌, inl, inr, ℕ, ◌+◌, ◌<◌, ◌≤◌, ◌==◌, ◌||◌, zero, suc, Bool, true, false, not, List, length, refl, sym, subst, arith, Option, None, Some, if◌then◌else◌, nat_lt, is_some, slice_index}
use Rattle.std.proofs.lemmas.Bool.{ltb-false}
use Rattle.lay_style.specs.declared.style.Style.{Style}
use Rattle.lay_style.specs.Places.{place_of}
use Rattle.lay_doc.specs.declared.edit.Edit.{Edit}
use Rattle.lay_doc.specs.declared.edit.Edit.TheVariants.{SetStyle, ClearStyle, SetText, Insert, Remove, Bad}
use Rattle.lay_doc.specs.declared.edit.EditFault.{EditFault}
use Rattle.lay_doc.specs.declared.edit.EditFault.TheVariants.{NotElement, IdTaken, BadIndex}
use Rattle.lay_doc.specs.declared.node.Node.{Node}
use Rattle.lay_doc.specs.Changes.{after_change, changed_at, style_fault, text_fault, with_style, with_text, without_style}
use Rattle.lay_doc.specs.Document.{Document, IsDocument, becomes, depths_of, ids_of, is_element_at, parents_of}
use Rattle.lay_doc.specs.Edits.{after, after_insert, fault_below, insert_fault, inserted_below}
use Rattle.lay_doc.specs.NewNodes.{NewNodeValue}
use Rattle.lay_doc.specs.Removal.{after_remove, remove_fault, removed}
use Rattle.lay_doc.specs.Tree.{child_count, slot_of}
use Rattle.lay_contexts.proofs.Cited.{edits_leave_documents, slot_found, there}
use Rattle.lay_doc.proofs.NodeColumns.{length-parents}
use Rattle.lay_box_tree.specs.declared.box_tree.BoxKind.{BoxKind}
use Rattle.lay_box_tree.specs.declared.box_tree.Flow.{Flow}
use Rattle.lay_boxgen.specs.Contexts.{IsContext, IsContextAt}
use Rattle.lay_contexts.specs.Edited.Reached.{IsReached}
use Rattle.lay_contexts.specs.Edited.Touched.{Edits, EditsTouchReachedContexts, HasReached, KeepsBoxes, UnreachedContextsKeepBoxes}
use Rattle.lay_contexts.specs.Edited.Shrinking.{IsWithin, UnreachedContextsStayWithin}
use Rattle.lay_contexts.specs.Edited.Unreached.{IsKeptAt, UnreachedNodesStay}
use Rattle.lay_contexts.proofs.EditedLemmas.ChangedNodes.{Stays, changed-keeping}
use Rattle.lay_contexts.proofs.EditedLemmas.InsertedNodes.{Shifts, grown-keeping}
use Rattle.lay_contexts.proofs.EditedLemmas.KeptContexts.{Keeping, Styled, reached-known, touched}
use Rattle.lay_contexts.proofs.EditedLemmas.KeptNodes.{kept-here, kept-there}
use Rattle.lay_contexts.proofs.EditedLemmas.KeptShrinking.{context-stays, stays-within}
use Rattle.lay_contexts.proofs.EditedLemmas.RemovedNodes.{Closes, shrunk-keeping}

-- a change of declarations or a text
pub restyled : (d : Document) (id : ℕ) (f : Node → Node) (p : ℕ) → place_of id (ids_of d.nodes) ≡ Some p → after_change d id f ≡ record d { nodes = changed_at p f d.nodes }
restyled d id f p e = rw e refl

pub named-by-style : (d : Document) (id : ℕ) → style_fault d id ≡ None → (p : ℕ) × (place_of id (ids_of d.nodes) ≡ Some p)
named-by-style d id none = by (place_of id (ids_of d.nodes)) refl
  where
    by : (o : Option ℕ) → place_of id (ids_of d.nodes) ≡ o → (p : ℕ) × (place_of id (ids_of d.nodes) ≡ Some p)
    by None e = absurd (let h = rw e at none in cc)
    by (Some p) e = (p, e)

named-by-text : (d : Document) (id bytes : ℕ) → text_fault d id bytes ≡ None → (p : ℕ) × (place_of id (ids_of d.nodes) ≡ Some p)
named-by-text d id bytes none = by (place_of id (ids_of d.nodes)) refl
  where
    by : (o : Option ℕ) → place_of id (ids_of d.nodes) ≡ o → (p : ℕ) × (place_of id (ids_of d.nodes) ≡ Some p)
    by None e = absurd (let h = rw e at none in cc)
    by (Some p) e = (p, e)

-- a node put in
passed : (b : Bool) (f : EditFault) (rest : Option EditFault) → (if b then Some f else rest) ≡ None → (b ≡ false) × (rest ≡ None)
passed true f rest h = absurd cc
passed false f rest h = (refl, h)

index-fits : (nodes : List Node) (p index : ℕ) (new : NewNodeValue) → fault_below nodes p index new ≡ None → index ≤ child_count (parents_of nodes) p
index-fits nodes p index new none =
    let a = passed (not (is_element_at nodes p)) NotElement _ none in
    let b = passed ((new.id.0 == 0) || is_some (place_of new.id.0 (ids_of nodes))) IdTaken _ a.1 in
    let c = passed (nat_lt (child_count (parents_of nodes) p) index) BadIndex _ b.1 in
    ltb-false (child_count (parents_of nodes) p) index c.0

pub put-in : (d : Document) (parent index : ℕ) (new : NewNodeValue) (p : ℕ) → place_of parent (ids_of d.nodes) ≡ Some p → after_insert d parent index new ≡ inserted_below d p index new
put-in d parent index new p e = rw e refl

named-by-parent : (d : Document) (parent index : ℕ) (new : NewNodeValue) → insert_fault d parent index new ≡ None
    → (p : ℕ) × (place_of parent (ids_of d.nodes) ≡ Some p) × (fault_below d.nodes p index new ≡ None)
named-by-parent d parent index new none = by (place_of parent (ids_of d.nodes)) refl
  where
    by : (o : Option ℕ) → place_of parent (ids_of d.nodes) ≡ o → (p : ℕ) × (place_of parent (ids_of d.nodes) ≡ Some p) × (fault_below d.nodes p index new ≡ None)
    by None e = absurd (let h = rw e at none in cc)
    by (Some p) e = (p, e, rw e at none)

-- nodes taken out
taken-out : (d : Document) (id p : ℕ) → place_of id (ids_of d.nodes) ≡ Some p → after_remove d id ≡ record d { nodes = removed d.nodes p }
taken-out d id p e = rw e refl

named-by-removal : (d : Document) (id : ℕ) → remove_fault d id ≡ None → (p : ℕ) × (place_of id (ids_of d.nodes) ≡ Some p) × (0 < p)
named-by-removal d id none = by (place_of id (ids_of d.nodes)) refl
  where
    by : (o : Option ℕ) → place_of id (ids_of d.nodes) ≡ o → (p : ℕ) × (place_of id (ids_of d.nodes) ≡ Some p) × (0 < p)
    by None e = absurd (let h = rw e at none in cc)
    by (Some zero) e = absurd (let h = rw e at none in cc)
    by (Some (suc p)) e = (suc p, e, omega arith)

-- What follows of an edit, where it follows of the nodes that it keeps.
module _ (d : Document) (edit : Edit) (styles others : List Style) (edits : Edits d edit styles others) (Answer : Type 0) where
  abbrev Follows : Type 1
  Follows = (R : ℕ → ℕ → Type 0) → Keeping d (after d edit) (IsReached d edit) (IsReached (after d edit) edit) R → Answer

  -- an edit that leaves this document
  by-keeping : Follows → (e : Document) (R : ℕ → ℕ → Type 0) → after d edit ≡ e → Keeping d e (IsReached d edit) (IsReached e edit) R → Answer
  by-keeping follows e R is keep = follows R (subst (λ (x : Document). Keeping d x (IsReached d edit) (IsReached x edit) R) (sym is) keep)

over-edit : (d : Document) (edit : Edit) (styles others : List Style) (edits : Edits d edit styles others) (Answer : Type 0) → Follows d edit styles others edits Answer → Answer
over-edit d (SetStyle node decl) styles others edits Answer follows =
    let n = named-by-style d node.0 edits.accepted in
    let edit : Edit = SetStyle node decl in
    by-keeping d edit styles others edits Answer follows (record d { nodes = changed_at n.0 (with_style decl) d.nodes }) (Stays d edit n.0 (with_style decl) edits.document n.1 (λ x. refl) (λ x. refl))
    (restyled d node.0 (with_style decl) n.0 n.1) (changed-keeping d edit n.0 (with_style decl) edits.document n.1 (λ x. refl) (λ x. refl))
over-edit d (ClearStyle node property) styles others edits Answer follows =
    let n = named-by-style d node.0 edits.accepted in
    let edit : Edit = ClearStyle node property in
    by-keeping d edit styles others edits Answer follows (record d { nodes = changed_at n.0 (without_style property) d.nodes }) (Stays d edit n.0 (without_style property) edits.document n.1 (λ x. refl) (λ x. refl))
    (restyled d node.0 (without_style property) n.0 n.1) (changed-keeping d edit n.0 (without_style property) edits.document n.1 (λ x. refl) (λ x. refl))
over-edit d (SetText node text) styles others edits Answer follows =
    let n = named-by-text d node.0 (length text) edits.accepted in
    let edit : Edit = SetText node text in
    by-keeping d edit styles others edits Answer follows (record d { nodes = changed_at n.0 (with_text text) d.nodes }) (Stays d edit n.0 (with_text text) edits.document n.1 (λ x. refl) (λ x. refl))
    (restyled d node.0 (with_text text) n.0 n.1) (changed-keeping d edit n.0 (with_text text) edits.document n.1 (λ x. refl) (λ x. refl))
over-edit d (Insert parent index new) styles others edits Answer follows =
    let n = named-by-parent d parent.0 index new edits.accepted in
    let edit : Edit = Insert parent index new in
    let p : ℕ = n.0 in
    let at : ℕ = slot_of (parents_of d.nodes) p index in
    let has = there d.nodes parent.0 p n.1 in
    let slot = slot_found (parents_of d.nodes) edits.document.tree p index (index-fits d.nodes p index new n.2) (omega (arith, has, length-parents d.nodes)) in
    let node : Node = becomes new p (slice_index (depths_of d.nodes) p + 1) in
    let above : 0 < at = (let a = slot.after in omega (arith, a)) in
    let within : at ≤ length d.nodes = (let w = slot.within in omega (arith, w, length-parents d.nodes)) in
    let is : after d edit ≡ inserted_below d p index new = put-in d parent.0 index new p n.1 in
    let doc = subst IsDocument is (edits_leave_documents d edit edits.document edits.puts edits.accepted) in
    by-keeping d edit styles others edits Answer follows (inserted_below d p index new) (Shifts d edit at node edits.document above within doc refl) is
    (grown-keeping d edit at node edits.document above within doc refl)
over-edit d (Remove node) styles others edits Answer follows =
    let n = named-by-removal d node.0 edits.accepted in
    let edit : Edit = Remove node in
    let has = there d.nodes node.0 n.0 n.1 in
    by-keeping d edit styles others edits Answer follows (record d { nodes = removed d.nodes n.0 }) (Closes d edit n.0 edits.document n.2 has n.1)
    (taken-out d node.0 n.0 n.1) (shrunk-keeping d edit n.0 edits.document n.2 has n.1)
over-edit d (Bad bad) styles others edits Answer follows = absurd (let h = edits.accepted in cc)

module _ (d : Document) (edit : Edit) (styles others : List Style) (edits : Edits d edit styles others) where
  left : IsDocument (after d edit)
  left = edits_leave_documents d edit edits.document edits.puts edits.accepted

  here : Styled d styles
  here = record { document = edits.document; has = edits.before }

  elsewhere : Styled (after d edit) others
  elsewhere = record { document = left; has = edits.after }

  by-touched : (id : ℕ) → IsContext d styles id ⊎ IsContext (after d edit) others id
      → KeepsBoxes d (after d edit) styles others id ⊎ HasReached d styles edit id ⊎ HasReached (after d edit) others edit id
  by-touched id context =
      over-edit d edit styles others edits (KeepsBoxes d (after d edit) styles others id ⊎ HasReached d styles edit id ⊎ HasReached (after d edit) others edit id)
      (λ R keep. touched d (after d edit) (IsReached d edit) (IsReached (after d edit) edit) R keep styles others here elsewhere
      (reached-known d edit edits.document) (reached-known (after d edit) edit left) id context)

  by-kept : (k : ℕ) → k < length d.nodes → (IsReached d edit k → ⊥) → (m : ℕ) × IsKeptAt d (after d edit) styles others k m
  by-kept k lt apart =
      over-edit d edit styles others edits ((m : ℕ) × IsKeptAt d (after d edit) styles others k m)
      (λ R keep. kept-there d (after d edit) (IsReached d edit) (IsReached (after d edit) edit) R keep styles others here elsewhere k lt apart)

  by-come : (m : ℕ) → m < length (after d edit).nodes → (IsReached (after d edit) edit m → ⊥) → (k : ℕ) × IsKeptAt d (after d edit) styles others k m
  by-come m lt apart =
      over-edit d edit styles others edits ((k : ℕ) × IsKeptAt d (after d edit) styles others k m)
      (λ R keep. kept-here d (after d edit) (IsReached d edit) (IsReached (after d edit) edit) R keep styles others here elsewhere m lt apart)

  by-within : (S : Flow → BoxKind → Style → Bool) (k : ℕ) → k < length d.nodes → (IsReached d edit k → ⊥)
      → (m : ℕ) × IsKeptAt d (after d edit) styles others k m × (IsWithin S d.nodes styles k ↔ IsWithin S (after d edit).nodes others m)
  by-within S k lt apart =
      over-edit d edit styles others edits ((m : ℕ) × IsKeptAt d (after d edit) styles others k m × (IsWithin S d.nodes styles k ↔ IsWithin S (after d edit).nodes others m))
      (λ R keep. stays-within d (after d edit) (IsReached d edit) (IsReached (after d edit) edit) R keep styles others here elsewhere S k lt apart)

  pub by-context : (S : Flow → BoxKind → Style → Bool) (k : ℕ) → k < length d.nodes → (IsReached d edit k → ⊥) → IsContextAt d.nodes styles k
      → (m : ℕ) × IsKeptAt d (after d edit) styles others k m × IsContextAt (after d edit).nodes others m × (IsWithin S d.nodes styles k ↔ IsWithin S (after d edit).nodes others m)
  by-context S k lt apart context =
      over-edit d edit styles others edits
      ((m : ℕ) × IsKeptAt d (after d edit) styles others k m × IsContextAt (after d edit).nodes others m × (IsWithin S d.nodes styles k ↔ IsWithin S (after d edit).nodes others m))
      (λ R keep. context-stays d (after d edit) (IsReached d edit) (IsReached (after d edit) edit) R keep styles others here elsewhere S k lt apart context)

pub edits_touch_reached_contexts : EditsTouchReachedContexts
edits_touch_reached_contexts d edit styles others id edits context = by-touched d edit styles others edits id context

pub unreached_contexts_keep_boxes : UnreachedContextsKeepBoxes
unreached_contexts_keep_boxes d edit styles others id edits context apart none = elim (edits_touch_reached_contexts d edit styles others id edits context) [
  | inl kept ↦ kept
  | inr more ↦ elim more [ inl reached ↦ absurd (apart reached) | inr reached ↦ absurd (none reached) ]
]

pub unreached_nodes_stay : UnreachedNodesStay
unreached_nodes_stay d edit styles others edits = record { kept = by-kept d edit styles others edits; all = by-come d edit styles others edits }

pub unreached_contexts_stay_within : UnreachedContextsStayWithin
unreached_contexts_stay_within d edit styles others edits S k lt apart = by-within d edit styles others edits S k lt apart
