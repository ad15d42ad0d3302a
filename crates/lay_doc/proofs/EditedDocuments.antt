-- An edit without a fault leaves a document.
use Rattle.std.proofs.Common.{◌≡◌, ℕ, zero, suc, ◌+◌, ◌<◌, ◌≤◌, Bool, true, false, not, ◌||◌, ◌==◌, List, [], ◌∷◌, length, get_or, refl, sym, arith, subst, Option, None, Some, if◌then◌else◌, nat_lt, nat_le, is_some}
use Rattle.std.specs.List.{remove_range}
use Rattle.std.proofs.lemmas.Bool.{leb-false, ltb-false, not-false, or_parts}
use Rattle.std.proofs.lemmas.List.Sums.{sum_by-cons}
use Rattle.lay_units.specs.Limits.{longest_text, most_depth, most_nodes, most_text}
use Rattle.lay_style.specs.Places.{place_of}
use Rattle.lay_doc.proofs.Cited.{place_within}
use Rattle.lay_doc.specs.declared.node.Node.{Node}
use Rattle.lay_doc.specs.declared.edit.Edit.TheVariants.{SetStyle, ClearStyle, SetText, Insert, Remove, Bad}
use Rattle.lay_doc.specs.declared.edit.EditFault.{EditFault}
use Rattle.lay_doc.specs.declared.edit.EditFault.TheVariants.{NotElement, IdTaken, BadIndex, TooManyNodes, TooDeep, TextTooLong}
use Rattle.lay_doc.specs.NewNodes.{NewNodeValue, IsNodeForm}
use Rattle.lay_doc.specs.Tree.{IsSlot, child_count, slot_of, end_of}
use Rattle.lay_doc.specs.Document.{Document, IsDocument, parents_of, ids_of, depths_of, text_size, is_element_at, is_text_at, is_too_long, becomes}
use Rattle.lay_doc.specs.Changes.{style_fault, text_fault, after_change, with_style, without_style, with_text, changed_at}
use Rattle.lay_doc.specs.Edits.{fault_below, insert_fault, after_insert, inserted_below}
use Rattle.lay_doc.specs.Removal.{remove_fault, after_remove}
use Rattle.lay_doc.specs.Laws.{EditsLeaveDocuments}
use Rattle.lay_doc.proofs.Changed.{KeepsTree, styled_document, texted_document, fits_at}
use Rattle.lay_doc.proofs.FoundSlots.{slot_found}
use Rattle.lay_doc.proofs.Inserted.{put_document}
use Rattle.lay_doc.proofs.NodeColumns.{length-parents, length-ids}
use Rattle.lay_doc.proofs.Removed.{removed_document}
use Rattle.lay_doc.proofs.Subtrees.{end_is_slot}

pub there : (nodes : List Node) (id p : ℕ) → place_of id (ids_of nodes) ≡ Some p → p < length nodes
there nodes id p e = let h = place_within id (ids_of nodes) p e in omega (arith, h, length-ids nodes)

-- a change of declarations
styled : (d : Document) (id : ℕ) (f : Node → Node) → IsDocument d → KeepsTree f → ((n : Node) → (f n).text ≡ n.text) → (o : Option ℕ) → place_of id (ids_of d.nodes) ≡ o → style_fault d id ≡ None → IsDocument (after_change d id f)
styled d id f is keeps texts None e none = absurd (let h = rw e at none in cc)
styled d id f is keeps texts (Some p) e none = rw e (by (is_text_at d.nodes p) refl)
  where
    by : (b : Bool) → is_text_at d.nodes p ≡ b → IsDocument (record d { nodes = changed_at p f d.nodes })
    by true q = absurd (let h = rw (e, q) at none in cc)
    by false q = styled_document d p f is q keeps texts

-- a change of a text
texted : (d : Document) (id : ℕ) (t : List ℕ) → IsDocument d → (o : Option ℕ) → place_of id (ids_of d.nodes) ≡ o → text_fault d id (length t) ≡ None → IsDocument (after_change d id (with_text t))
texted d id t is None e none = absurd (let h = rw e at none in cc)
texted d id t is (Some p) e none = rw e (texted_document d p t is (there d.nodes id p e) (fits_at d.nodes p (length t) (rw e at none)))

-- A node put in.
record Passed (b : Bool) (rest : Option EditFault) : Type 0 where
  no : b ≡ false
  after : rest ≡ None

passed : (b : Bool) (f : EditFault) (rest : Option EditFault) → (if b then Some f else rest) ≡ None → Passed b rest
passed true f rest h = absurd cc
passed false f rest h = record { no = refl; after = h }

none_there : (o : Option ℕ) → is_some o ≡ false → o ≡ None
none_there None h = refl
none_there (Some k) h = absurd cc

inserted_at : (d : Document) (p index : ℕ) (new : NewNodeValue) → IsDocument d → p < length d.nodes → IsNodeForm new.kind new.decls new.text → fault_below d.nodes p index new ≡ None → IsDocument (inserted_below d p index new)
inserted_at d p index new is has form none =
    let parents : List ℕ = parents_of d.nodes in
    let a = passed (not (is_element_at d.nodes p)) NotElement _ none in
    let b = passed ((new.id.0 == 0) || is_some (place_of new.id.0 (ids_of d.nodes))) IdTaken _ a.after in
    let c = passed (nat_lt (child_count parents p) index) BadIndex _ b.after in
    let e = passed (nat_le most_nodes (length d.nodes)) TooManyNodes _ c.after in
    let g = passed (nat_le most_depth (get_or (depths_of d.nodes) p 0)) TooDeep _ e.after in
    let t = passed (is_too_long (text_size d.nodes) (length new.text)) TextTooLong _ g.after in
    let few = ltb-false (child_count parents p) index c.no in
    let slot = slot_found parents is.tree p index few (omega (arith, length-parents d.nodes)) in
    put_document d is (slot_of parents p index) (becomes new p (get_or (depths_of d.nodes) p 0 + 1)) (record {
      has_parent = has;
      slot = subst (λ (i : ℕ). IsSlot parents p i (slot_of parents p index)) (sym slot.index_is) slot;
      of_element = not-false (is_element_at d.nodes p) a.no;
      fresh = none_there (place_of new.id.0 (ids_of d.nodes)) (or_parts (new.id.0 == 0) (is_some (place_of new.id.0 (ids_of d.nodes))) b.no).1;
      has_name = named new.id.0 (or_parts (new.id.0 == 0) (is_some (place_of new.id.0 (ids_of d.nodes))) b.no).0;
      room = leb-false most_nodes (length d.nodes) e.no;
      deeper = refl;
      not_deep = leb-false most_depth (get_or (depths_of d.nodes) p 0) g.no;
      not_long = ltb-false longest_text (length new.text) (or_parts (nat_lt longest_text (length new.text)) (nat_lt most_text (text_size d.nodes + length new.text)) t.no).0;
      form = form;
      texts_fit = ltb-false most_text (text_size d.nodes + length new.text) (or_parts (nat_lt longest_text (length new.text)) (nat_lt most_text (text_size d.nodes + length new.text)) t.no).1;
    })
  where
    named : (n : ℕ) → (n == 0) ≡ false → 0 < n
    named zero h = absurd cc
    named (suc n) h = omega arith

put_in : (d : Document) (parent index : ℕ) (new : NewNodeValue) → IsDocument d → IsNodeForm new.kind new.decls new.text → (o : Option ℕ) → place_of parent (ids_of d.nodes) ≡ o → insert_fault d parent index new ≡ None → IsDocument (after_insert d parent index new)
put_in d parent index new is form None e none = absurd (let h = rw e at none in cc)
put_in d parent index new is form (Some p) e none = rw e (inserted_at d p index new is (there d.nodes parent p e) form (rw e at none))

-- A subtree taken out.
text_size_less : (nodes : List Node) (p e : ℕ) → p ≤ e → text_size (remove_range nodes p e) ≤ text_size nodes
text_size_less [] zero zero le = omega arith
text_size_less [] zero (suc e) le = omega arith
text_size_less [] (suc p) zero le = omega arith
text_size_less [] (suc p) (suc e) le = omega arith
text_size_less (x ∷ xs) zero zero le = omega arith
text_size_less (x ∷ xs) zero (suc e) le =
    let a = sum_by-cons (λ (n : Node). length n.text) x xs in
    let h = text_size_less xs zero e (omega arith) in
    omega arith
text_size_less (x ∷ xs) (suc p) zero le = absurd (omega (arith, le))
text_size_less (x ∷ xs) (suc p) (suc e) le =
    let a = sum_by-cons (λ (n : Node). length n.text) x xs in
    let b = sum_by-cons (λ (n : Node). length n.text) x (remove_range xs p e) in
    let h = text_size_less xs p e (omega arith) in
    omega arith

taken_out : (d : Document) (id : ℕ) → IsDocument d → (o : Option ℕ) → place_of id (ids_of d.nodes) ≡ o → remove_fault d id ≡ None → IsDocument (after_remove d id)
taken_out d id is None e none = absurd (let h = rw e at none in cc)
taken_out d id is (Some zero) e none = absurd (let h = rw e at none in cc)
taken_out d id is (Some (suc p)) e none =
    let parents : List ℕ = parents_of d.nodes in
    let has : suc p < length parents = let h = there d.nodes id (suc p) e in omega (arith, length-parents d.nodes) in
    let slot = end_is_slot parents is.tree (suc p) has in
    let less = text_size_less d.nodes (suc p) (end_of parents (suc p)) (omega (arith, slot.after)) in
    rw e (removed_document d (suc p) (end_of parents (suc p)) is (record { tree = is.tree; has = has; not_root = omega arith; slot = slot }) (omega (arith, is.small)))

pub edits_leave_documents : EditsLeaveDocuments
edits_leave_documents d (SetStyle node decl) is form none = styled d node.0 (with_style decl) is (record { ids = λ n. refl; parents = λ n. refl; depths = λ n. refl; kinds = λ n. refl }) (λ n. refl) (place_of node.0 (ids_of d.nodes)) refl none
edits_leave_documents d (ClearStyle node property) is form none = styled d node.0 (without_style property) is (record { ids = λ n. refl; parents = λ n. refl; depths = λ n. refl; kinds = λ n. refl }) (λ n. refl) (place_of node.0 (ids_of d.nodes)) refl none
edits_leave_documents d (SetText node text) is form none = texted d node.0 text is (place_of node.0 (ids_of d.nodes)) refl none
edits_leave_documents d (Insert parent index new) is form none = put_in d parent.0 index new is form (place_of parent.0 (ids_of d.nodes)) refl none
edits_leave_documents d (Remove node) is form none = taken_out d node.0 is (place_of node.0 (ids_of d.nodes)) refl none
edits_leave_documents d (Bad bad) is form none = is
