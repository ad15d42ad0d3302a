-- An edit keeps the styles outside of its stretch.
use Rattle.std.proofs.Common.{◌≡◌, ℕ, zero, suc, ◌+◌, List, length, refl, sym, ap, ◌∙◌, arith, subst, Option, None, Some, option_map, slice_index}
use Rattle.std.proofs.lemmas.Option.{same_Some}
use Rattle.lay_after_edits.proofs.Cited.{length-parents, put-in, there}
use Rattle.lay_style.specs.declared.style.Style.{Style}
use Rattle.lay_style.specs.Places.{place_of}
use Rattle.lay_style.specs.ComputedStyle.{HasStyles}
use Rattle.lay_doc.specs.declared.edit.Edit.{Edit}
use Rattle.lay_doc.specs.declared.edit.Edit.TheVariants.{SetStyle, ClearStyle, SetText, Insert, Remove, Bad}
use Rattle.lay_doc.specs.declared.node.Node.{Node}
use Rattle.lay_doc.specs.Changes.{after_change, text_fault, with_style, with_text, without_style}
use Rattle.lay_doc.specs.Document.{Document, IsDocument, becomes, declarations_of, depths_of, ids_of, parents_of}
use Rattle.lay_doc.specs.Edits.{after, after_insert, fault, insert_fault, inserted_below}
use Rattle.lay_doc.specs.NewNodes.{NewNodeValue}
use Rattle.lay_doc.specs.Removal.{after_remove, remove_fault}
use Rattle.lay_doc.specs.Tree.{slot_of}
use Rattle.lay_after_edits.specs.declared.styles.stretch.Stretch.{Stretch}
use Rattle.lay_after_edits.specs.Styles.KeptStyles.{KeepsStyles}
use Rattle.lay_after_edits.specs.Styles.Stretches.{inserted_at, none_of, removed_at, edit_stretch, subtree_at}
use Rattle.lay_after_edits.proofs.StylesLemmas.ChangedNodes.{all_stay, changed_moved}
use Rattle.lay_after_edits.proofs.StylesLemmas.InsertedNodes.{inserted_moved}
use Rattle.lay_after_edits.proofs.StylesLemmas.InsertedPlace.{put_in}
use Rattle.lay_after_edits.proofs.StylesLemmas.MovedStyles.{IsMoved, moved_keeps}
use Rattle.lay_after_edits.proofs.StylesLemmas.RemovedNodes.{removed_moved}

-- the stretch of nodes in a move from these nodes to those
abbrev Moves : List Node → List Node → Stretch → Type 0
Moves nodes news s = IsMoved (parents_of nodes) (parents_of news) (declarations_of nodes) (declarations_of news) s

-- a change of declarations
restyled : (d : Document) (id : ℕ) (f : Node → Node) (s : Stretch) → IsDocument d → ((n : Node) → (f n).parent ≡ n.parent) → (o : Option ℕ) → place_of id (ids_of d.nodes) ≡ o
    → option_map (subtree_at (parents_of d.nodes)) o ≡ Some s → Moves d.nodes (after_change d id f).nodes s
restyled d id f s is same None e none = absurd cc
restyled d id f s is same (Some p) e stretch =
    let moved = changed_moved d.nodes p f is.tree same (there d.nodes id p e) in
    subst (Moves d.nodes (after_change d id f).nodes) (same_Some (subtree_at (parents_of d.nodes) p) s stretch) (rw e moved)

-- a change of a text
retexted : (d : Document) (id : ℕ) (t : List ℕ) → IsDocument d → (o : Option ℕ) → place_of id (ids_of d.nodes) ≡ o → text_fault d id (length t) ≡ None
    → Moves d.nodes (after_change d id (with_text t)).nodes (none_of (length d.nodes))
retexted d id t is None e none = absurd (let h = rw e at none in cc)
retexted d id t is (Some p) e none = rw e (all_stay d.nodes p (with_text t) is.some (λ n. refl) (λ n. refl))

-- a node put in
grown : (d : Document) (edit : Edit) (parent index : ℕ) (new : NewNodeValue) (s : Stretch) → IsDocument d → insert_fault d parent index new ≡ None
    → option_map (λ (p : ℕ). inserted_at (slot_of (parents_of d.nodes) p index)) (place_of parent (ids_of d.nodes)) ≡ Some s → Moves d.nodes (after_insert d parent index new).nodes s
grown d edit parent index new s is none stretch =
    let put = put_in d parent index new is none in
    let p : ℕ = put.place in
    let at : ℕ = slot_of (parents_of d.nodes) p index in
    let a = put.slot.after in
    let w = put.slot.within in
    let moved = inserted_moved d.nodes at (becomes new p (slice_index (depths_of d.nodes) p + 1)) is.tree (omega (arith, a)) (omega (arith, w, length-parents d.nodes)) in
    let same : Some (inserted_at at) ≡ Some s = sym (ap (option_map (λ (q : ℕ). inserted_at (slot_of (parents_of d.nodes) q index))) put.named) ∙ stretch in
    subst (λ (e : Document). Moves d.nodes e.nodes s) (sym (put-in d parent index new p put.named))
    (subst (Moves d.nodes (inserted_below d p index new).nodes) (same_Some (inserted_at at) s same) moved)

-- nodes taken out
shrunk : (d : Document) (id : ℕ) (s : Stretch) → IsDocument d → (o : Option ℕ) → place_of id (ids_of d.nodes) ≡ o → remove_fault d id ≡ None
    → option_map (removed_at (parents_of d.nodes)) o ≡ Some s → Moves d.nodes (after_remove d id).nodes s
shrunk d id s is None e none stretch = absurd cc
shrunk d id s is (Some zero) e none stretch = absurd (let h = rw e at none in cc)
shrunk d id s is (Some (suc p)) e none stretch =
    let moved = removed_moved d.nodes (suc p) is.tree (omega arith) (there d.nodes id (suc p) e) in
    subst (Moves d.nodes (after_remove d id).nodes) (same_Some (removed_at (parents_of d.nodes) (suc p)) s stretch) (rw e moved)

edited_moves : (d : Document) (edit : Edit) (s : Stretch) → IsDocument d → fault d edit ≡ None → edit_stretch d edit ≡ Some s → Moves d.nodes (after d edit).nodes s
edited_moves d (SetStyle node decl) s is none stretch = restyled d node.0 (with_style decl) s is (λ n. refl) (place_of node.0 (ids_of d.nodes)) refl stretch
edited_moves d (ClearStyle node property) s is none stretch = restyled d node.0 (without_style property) s is (λ n. refl) (place_of node.0 (ids_of d.nodes)) refl stretch
edited_moves d (SetText node text) s is none stretch =
    subst (Moves d.nodes (after_change d node.0 (with_text text)).nodes) (same_Some (none_of (length d.nodes)) s stretch)
    (retexted d node.0 text is (place_of node.0 (ids_of d.nodes)) refl none)
edited_moves d (Insert parent index new) s is none stretch = grown d (Insert parent index new) parent.0 index new s is none stretch
edited_moves d (Remove node) s is none stretch = shrunk d node.0 s is (place_of node.0 (ids_of d.nodes)) refl none stretch
edited_moves d (Bad bad) s is none stretch = absurd cc

pub edited_keeps : (d e : Document) (edit : Edit) (s : Stretch) (styles : List Style) → IsDocument d → fault d edit ≡ None → e ≡ after d edit → edit_stretch d edit ≡ Some s
    → HasStyles (parents_of d.nodes) (declarations_of d.nodes) styles → KeepsStyles (parents_of e.nodes) (declarations_of e.nodes) styles s
edited_keeps d e edit s styles is none later stretch has =
    subst (λ (x : Document). KeepsStyles (parents_of x.nodes) (declarations_of x.nodes) styles s) (sym later)
    (moved_keeps (parents_of d.nodes) (parents_of (after d edit).nodes) (declarations_of d.nodes) (declarations_of (after d edit).nodes) s
    (edited_moves d edit s is none stretch) styles has)
