-- Where declarations of an absolute or fixed element change, all contexts but its own and those inside it keep their boxes.
use Rattle.std.proofs.Common.{◌≡◌, inl, inr, ℕ, ◌<◌, ◌==◌, true, false, List, length, refl, ap, sym, subst, ◌∙◌, arith, Option, None, Some, IfSome, is_some, option_map, slice_get, slice_index}
use Rattle.lay_style.specs.declared.style.Style.{Style}
use Rattle.lay_style.specs.ComputedStyle.{HasStyles, style_at}
use Rattle.lay_style.specs.Places.{place_of}
use Rattle.lay_doc.specs.declared.edit.Edit.{Edit}
use Rattle.lay_doc.specs.declared.edit.Edit.TheVariants.{SetStyle, ClearStyle, SetText, Insert, Remove, Bad}
use Rattle.lay_doc.specs.declared.node.Node.{Node}
use Rattle.lay_doc.specs.Document.{Document, IsDocument, declarations_of, ids_of, parents_of}
use Rattle.lay_doc.specs.Edits.{after}
use Rattle.lay_doc.specs.Laws.{PutsNode}
use Rattle.lay_doc.specs.Tree.{IsUnder}
use Rattle.lay_after_edits.proofs.Cited.{anchors_keep_contexts_around, length-ids, marked-true, place-is}
use Rattle.lay_boxgen.specs.Forms.{is_absolute}
use Rattle.lay_boxgen.specs.declared.facts.Facts.{Facts}
use Rattle.lay_boxgen.specs.declared.facts.Form.{Form}
use Rattle.lay_boxgen.specs.Contexts.{IsContextAt, IsContextThere, box_at, box_of_node, is_marked}
use Rattle.lay_boxgen.specs.Listing.{boxes_at, boxes_of}
use Rattle.lay_boxgen.specs.NodeBoxes.{facts_with, form_of, node_flow}
use Rattle.lay_contexts.specs.ContextTree.{boxes_of_place}
use Rattle.lay_contexts.specs.ListedContexts.{AreContextPlaces}
use Rattle.lay_contexts.specs.Edited.Anchors.{HasAbsoluteBox, IsRestyling, ReachesNode}
use Rattle.lay_contexts.specs.Edited.Reached.{IsUnderThere, place_in, subject_of}
use Rattle.lay_contexts.specs.Edited.Touched.{Edits}
use Rattle.lay_after_edits.specs.Contexts.Anchored.{FlowsAbsolutely, IsAnchored, IsStyleEdit}
use Rattle.lay_after_edits.specs.Contexts.Edited.{IsEdited}
use Rattle.lay_after_edits.specs.Contexts.Reach.{IsChange}
use Rattle.lay_after_edits.specs.Contexts.Rebuilt.{SameBoxes}

-- a box has the flow of its node
flow-of : (k : ℕ) (n : Node) (s : Style) (f : Facts) (o : Option Form) → option_map (facts_with k n s) o ≡ Some f → f.flow ≡ node_flow n.kind s
flow-of k n s f None e = absurd cc
flow-of k n s f (Some x) e = let z : facts_with k n s x ≡ f = cc in ap (λ (g : Facts). g.flow) (sym z)

absolute-box : (nodes : List Node) (styles : List Style) (k : ℕ) (f : Facts) → box_at nodes styles k ≡ Some f → FlowsAbsolutely nodes styles k → is_absolute f.flow ≡ true
absolute-box nodes styles k f there flows = by (slice_get nodes k) refl there
  where
    by : (o : Option Node) → slice_get nodes k ≡ o → box_of_node k o (style_at styles k) ≡ Some f → is_absolute f.flow ≡ true
    by None e h = absurd cc
    by (Some n) e h = ap is_absolute (flow-of k n (style_at styles k) f (form_of (k == 0) n.kind n.text (style_at styles k)) h) ∙ flows n e

marked-box : (o : Option Facts) → is_marked o ≡ true → (f : Facts) × (o ≡ Some f)
marked-box None e = absurd (let z : false ≡ true = e in cc)
marked-box (Some f) e = (f, refl)

-- a context generates a box
pub anchored-at : (edit : Edit) (nodes : List Node) (styles : List Style) (k : ℕ) → IsStyleEdit edit → FlowsAbsolutely nodes styles k → IsContextAt nodes styles k → IsAnchored edit nodes styles k
anchored-at edit nodes styles k restyles flows context =
    let b = marked-box (box_at nodes styles k) (marked-true (is_marked (box_at nodes styles k)) context.establishes) in
    record { restyles = restyles; box = b.0; there = b.1; absolute = absolute-box nodes styles k b.0 b.1 flows }

-- where a context is listed at a place it stands there
pub context-listed : (nodes : List Node) (styles : List Style) (places : List ℕ) (k : ℕ) → AreContextPlaces nodes styles places
    → (o : Option ℕ) → IfSome o (λ i. (i < length places) × (slice_index places i ≡ k)) → is_some o ≡ true → IsContextAt nodes styles k
context-listed nodes styles places k are None at e = absurd (let z : false ≡ true = e in cc)
context-listed nodes styles places k are (Some i) at e = subst (IsContextAt nodes styles) at.1 (are.are i at.0)

restyling-is : (edit : Edit) (id : ℕ) → IsStyleEdit edit → IsChange edit id → IsRestyling edit id
restyling-is (SetStyle node decl) id s c = c
restyling-is (ClearStyle node property) id s c = c
restyling-is (SetText node text) id s c = absurd s
restyling-is (Insert parent index new) id s c = absurd s
restyling-is (Remove node) id s c = absurd s
restyling-is (Bad bad) id s c = absurd s

puts-node : (edit : Edit) → IsStyleEdit edit → PutsNode edit
puts-node (SetStyle node decl) s = tt
puts-node (ClearStyle node property) s = tt
puts-node (SetText node text) s = absurd s
puts-node (Insert parent index new) s = absurd s
puts-node (Remove node) s = absurd s
puts-node (Bad bad) s = absurd s

subject-is : (edit : Edit) (id : ℕ) → IsChange edit id → subject_of edit ≡ Some id
subject-is (SetStyle node decl) id c = ap Some c
subject-is (ClearStyle node property) id c = ap Some c
subject-is (SetText node text) id c = ap Some c
subject-is (Insert parent index new) id c = absurd c
subject-is (Remove node) id c = absurd c
subject-is (Bad bad) id c = absurd c

module _ (d e : Document) (ss ts : List Style) (edit : Edit) (doc : IsDocument d) (edited : IsEdited d ss edit e ts) (id p : ℕ) (change : IsChange edit id) (named : place_of id (ids_of d.nodes) ≡ Some p)
    (ids : ids_of e.nodes ≡ ids_of d.nodes) (same : SameBoxes d.nodes e.nodes ss ts) (anchored : IsAnchored edit d.nodes ss p) where
  edits : Edits d edit ss ts
  edits = record {
    document = doc;
    puts = puts-node edit anchored.restyles;
    accepted = edited.accepted;
    before = edited.before;
    after = subst (λ (x : Document). HasStyles (parents_of x.nodes) (declarations_of x.nodes) ts) edited.later edited.after;
  }

  box-before : HasAbsoluteBox d ss id
  box-before = record { place = p; named = named; box = anchored.box; there = anchored.there; absolute = anchored.absolute }

  box-there : HasAbsoluteBox e ts id
  box-there = record { place = p; named = ap (place_of id) ids ∙ named; box = anchored.box; there = same.box p ∙ anchored.there; absolute = anchored.absolute }

  box-after : HasAbsoluteBox (after d edit) ts id
  box-after = subst (λ (x : Document). HasAbsoluteBox x ts id) edited.later box-there

  under : (name a : ℕ) → place_of name (ids_of d.nodes) ≡ Some a → ReachesNode d edit name → IsUnder (parents_of d.nodes) p a
  under name a at reached =
      let s : Some reached.place ≡ Some a = sym reached.named ∙ at in
      let z : reached.place ≡ a = cc in
      let subject : place_in (ids_of d.nodes) (subject_of edit) ≡ Some p = ap (place_in (ids_of d.nodes)) (subject-is edit id change) ∙ named in
      subst (IsUnder (parents_of d.nodes) p) z (subst (λ (o : Option ℕ). IsUnderThere (parents_of d.nodes) o reached.place) subject reached.reached)

  pub anchored-boxes : (a : ℕ) → a < length d.nodes → IsContextAt d.nodes ss a → (IsUnder (parents_of d.nodes) p a → ⊥) → boxes_of_place e.nodes ts a ≡ boxes_of_place d.nodes ss a
  anchored-boxes a lt context apart =
      let name : ℕ = slice_index (ids_of d.nodes) a in
      let at : place_of name (ids_of d.nodes) ≡ Some a =
      place-is name (ids_of d.nodes) (λ j k less in_ids. doc.ids j k less (omega (arith, in_ids, length-ids d.nodes))) a (omega (arith, lt, length-ids d.nodes)) refl in
      let there : place_of name (ids_of e.nodes) ≡ Some a = ap (place_of name) ids ∙ at in
      elim (anchors_keep_contexts_around d edit ss ts id name edits (restyling-is edit id anchored.restyles change) box-before box-after (inl (subst (IsContextThere d.nodes ss) (sym at) context))) [
        | inl kept ↦ sym (ap (boxes_at e.nodes ts) there) ∙ (ap (λ (x : Document). boxes_of x ts name) edited.later ∙ (sym kept.boxes ∙ ap (boxes_at d.nodes ss) at))
        | inr reached ↦ absurd (apart (under name a at reached))
      ]
