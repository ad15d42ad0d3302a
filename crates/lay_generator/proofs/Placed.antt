-- A node that is put into a document as the last child of a parent: it has no fault where the parent is an element and not deep, the id is
-- new, and nodes and texts are few. What was so of the nodes is so of them with it.
use Rattle.std.proofs.Common.{◌≡◌, ℕ, zero, suc, ◌+◌, ◌-◌, ◌==◌, ◌||◌, ◌<◌, ◌≤◌, true, false, not, List, [], ◌∷◌, take, drop, length, get_or, is_some, nat_lt, nat_le, refl, sym, ap, ◌∙◌, arith, Option, Some, None, inl, inr}
use Rattle.std.specs.List.{All, insert}
use Rattle.std.proofs.lemmas.Bool.{cases_eq, cases_lt, le-ltb, lt-leb, ne_eqb, not_from_true}
use Rattle.std.proofs.lemmas.List.{length-drop, length-map}
use Rattle.std.proofs.lemmas.List.Elements.{All-append, All-cons, All-drop, All-get_or, All-head, All-map, All-tail, All-take, All-weaker}
use Rattle.std.proofs.lemmas.List.Edits.{length-insert, get_or-insert_below, get_or-insert_at, get_or-insert_above}
use Rattle.lay_units.specs.Limits.{longest_text, most_depth, most_nodes, most_text}
use Rattle.lay_style.specs.Places.{place_of}
use Rattle.lay_style.proofs.Places.{map_some, place_fresh, place_here, place_later, place_none, place_within}
use Rattle.lay_doc.specs.declared.node.Node.{Node}
use Rattle.lay_doc.specs.declared.node.NodeId.{NodeId}
use Rattle.lay_doc.specs.declared.node.Kind.{Kind}
use Rattle.lay_doc.specs.declared.node.Kind.TheVariants.{Element, Text, Replaced}
use Rattle.lay_doc.specs.NewNodes.{NewNodeValue, is_element, is_text}
use Rattle.lay_doc.specs.Tree.{child_count, slot_from, slot_of}
use Rattle.lay_doc.specs.Document.{Document, becomes, depths_of, ids_of, inserted, is_element_at, is_text_at, moved, parents_of, text_size}
use Rattle.lay_doc.specs.Changes.{style_fault}
use Rattle.lay_doc.specs.Edits.{insert_fault, last_index}
use Rattle.lay_doc.proofs.Inserted.{ids_inserted, text_size_inserted}
use Rattle.lay_doc.proofs.NodeColumns.{length-ids, length-parents}
use Rattle.lay_generator.specs.Generated.{with_node}
use Rattle.lay_generator.proofs.Steps.{by_bool}

-- a node with this id is an element, no deeper than this
abbrev pub AsParent : ℕ → ℕ → Node → Type 0
AsParent id r n = n.id.0 ≡ id → (is_element n.kind ≡ true) × (n.depth ≤ r)

-- there is a node with this id, an element no deeper than this
pub record IsParent (nodes : List Node) (id r : ℕ) : Type 0 where
  pub place : ℕ
  pub within : place < length nodes
  pub named : get_or (ids_of nodes) place 0 ≡ id
  pub each : All (AsParent id r) nodes

-- so many nodes, whose ids are no greater than this, with so many bytes of text at most
pub record Fits (d : Document) (m b t : ℕ) : Type 0 where
  pub count : length d.nodes ≡ m
  pub low : All (λ n. n.id.0 ≤ b) d.nodes
  pub texts : text_size d.nodes ≤ t

record Looked (nodes : List Node) (r p : ℕ) : Type 0 where
  element : is_element_at nodes p ≡ true
  depth : get_or (depths_of nodes) p 0 ≤ r

looked : (nodes : List Node) (id r p : ℕ) → All (AsParent id r) nodes → place_of id (ids_of nodes) ≡ Some p → Looked nodes r p
looked [] id r p each is = absurd cc
looked (n ∷ ns) id r p each is = elim (cases_eq n.id.0 id) [
  | inl same ↦ (let h = sym (place_here id n.id.0 (ids_of ns) same) ∙ is in let z : p ≡ 0 = cc in
      let both = All-head (AsParent id r) n ns each same in rw z (record { element = both.0; depth = both.1 }))
  | inr other ↦ (let m = map_some (place_of id (ids_of ns)) p (sym (place_later id n.id.0 (ids_of ns) other) ∙ is) in
      let rest = looked ns id r m.before (All-tail (AsParent id r) n ns each) m.is in rw m.next (record { element = rest.element; depth = rest.depth }))
]

record Found (nodes : List Node) (id r : ℕ) : Type 0 where
  place : ℕ
  is : place_of id (ids_of nodes) ≡ Some place
  within : place < length nodes
  element : is_element_at nodes place ≡ true
  depth : get_or (depths_of nodes) place 0 ≤ r

found : (nodes : List Node) (id r : ℕ) → IsParent nodes id r → Found nodes id r
found nodes id r parent = by (place_of id (ids_of nodes)) refl
  where
    by : (o : Option ℕ) → place_of id (ids_of nodes) ≡ o → Found nodes id r
    by None e = absurd (place_none id (ids_of nodes) e parent.place (omega (arith, parent.within, length-ids nodes)) parent.named)
    by (Some p) e =
        let l = looked nodes id r p parent.each e in
        record { place = p; is = e; within = omega (arith, place_within id (ids_of nodes) p e, length-ids nodes); element = l.element; depth = l.depth }

element_no_text : (kind : Kind) → is_element kind ≡ true → is_text kind ≡ false
element_no_text (Element colspan rowspan) e = refl
element_no_text Text e = absurd cc
element_no_text (Replaced w h) e = refl

no_text : (nodes : List Node) (p : ℕ) → is_element_at nodes p ≡ true → is_text_at nodes p ≡ false
no_text [] p e = absurd cc
no_text (n ∷ ns) zero e = element_no_text n.kind e
no_text (n ∷ ns) (suc p) e = no_text ns p e

-- a declaration may be set on it
pub may_be_styled : (d : Document) (id r : ℕ) → IsParent d.nodes id r → style_fault d id ≡ None
may_be_styled d id r parent =
    let f = found d.nodes id r parent in
    rw (f.is, no_text d.nodes f.place f.element) refl

-- no node has an id that is greater than each
unnamed : (nodes : List Node) (b id : ℕ) → All (λ n. n.id.0 ≤ b) nodes → b < id → place_of id (ids_of nodes) ≡ None
unnamed nodes b id low above =
    let ids : All (λ i. i ≤ b) (ids_of nodes) = All-map (λ i. i ≤ b) (λ n. n.id.0) nodes low in
    place_fresh id (ids_of nodes) (λ k lt same. omega (arith, All-get_or (λ i. i ≤ b) (ids_of nodes) k 0 lt ids, same))

-- such a node has no fault
pub no_fault : (d : Document) (m b t parent r : ℕ) (new : NewNodeValue) → Fits d m b t → IsParent d.nodes parent r → b < new.id.0
    → m < most_nodes → r < most_depth → length new.text ≤ longest_text → t + length new.text ≤ most_text
    → insert_fault d parent (last_index d parent) new ≡ None
no_fault d m b t parent r new fits there above few shallow short small =
    let f = found d.nodes parent r there in
    let count = child_count (parents_of d.nodes) f.place in
    let element : not (is_element_at d.nodes f.place) ≡ false = not_from_true (is_element_at d.nodes f.place) f.element in
    let zero : (new.id.0 == 0) ≡ false = ne_eqb new.id.0 0 (λ e. omega (arith, e, above)) in
    let fresh = unnamed d.nodes b new.id.0 fits.low above in
    let taken : ((new.id.0 == 0) || is_some (place_of new.id.0 (ids_of d.nodes))) ≡ false = rw (zero, fresh) refl in
    let index : nat_lt count count ≡ false = le-ltb count count (omega arith) in
    let room : nat_le most_nodes (length d.nodes) ≡ false = lt-leb most_nodes (length d.nodes) (omega (arith, fits.count, few)) in
    let deep : nat_le most_depth (get_or (depths_of d.nodes) f.place 0) ≡ false = lt-leb most_depth (get_or (depths_of d.nodes) f.place 0) (omega (arith, f.depth, shallow)) in
    let long : nat_lt longest_text (length new.text) ≡ false = le-ltb longest_text (length new.text) short in
    let all : nat_lt most_text (text_size d.nodes + length new.text) ≡ false = le-ltb most_text (text_size d.nodes + length new.text) (omega (arith, fits.texts, small)) in
    rw (f.is, element, taken, index, room, deep, long, all) refl

slot_within : (p index at : ℕ) (us : List ℕ) → slot_from p index at us ≤ at + length us
slot_within p index at [] = omega arith
slot_within p index at (u ∷ us) =
    by_bool (nat_lt u p) (λ past. rw past (omega arith)) (λ under. rw under (
    by_bool (u == p) (λ child. rw child (
    by_bool (index == 0) (λ last. rw last (omega arith)) (λ more. rw more (let h = slot_within p (index - 1) (at + 1) us in omega (arith, h)))))
    (λ below. rw below (let h = slot_within p index (at + 1) us in omega (arith, h)))))

-- the document with the node, whose place is `at`
pub record Put (d : Document) (parent r : ℕ) (new : NewNodeValue) : Type 0 where
  pub at : ℕ
  pub node : Node
  pub within : at ≤ length d.nodes
  pub nodes : (with_node d (record { 0 = parent }, new)).nodes ≡ inserted d.nodes at node
  pub id : node.id ≡ new.id
  pub kind : node.kind ≡ new.kind
  pub text : node.text ≡ new.text
  pub depth : node.depth ≤ r + 1

pub put : (d : Document) (parent r : ℕ) (new : NewNodeValue) → IsParent d.nodes parent r → Put d parent r new
put d parent r new there =
    let f = found d.nodes parent r there in
    let p = f.place in
    let count = child_count (parents_of d.nodes) p in
    let slot = slot_within p count (p + 1) (drop (p + 1) (parents_of d.nodes)) in
    record {
      at = slot_of (parents_of d.nodes) p count;
      node = becomes new p (get_or (depths_of d.nodes) p 0 + 1);
      within = omega (arith, slot, length-drop (p + 1) (parents_of d.nodes), length-parents d.nodes, f.within);
      nodes = rw f.is refl;
      id = refl;
      kind = refl;
      text = refl;
      depth = omega (arith, f.depth);
    }

-- what holds of each node wherever its parent stands holds of each with one put in
all_inserted : (P : Node → Type 0) (nodes : List Node) (at : ℕ) (node : Node) → ((n : Node) → P n → P (moved at n)) → All P nodes → P node → All P (inserted nodes at node)
all_inserted P nodes at node keeps all one =
    All-map P (moved at) (insert nodes at node) (All-weaker P (λ n. P (moved at n)) keeps (insert nodes at node)
    (All-append P (take at nodes) (node ∷ drop at nodes) (All-take P at nodes all) (All-cons P node (drop at nodes) one (All-drop P at nodes all))))

pub fits_more : (d : Document) (m b t parent r : ℕ) (new : NewNodeValue) → Fits d m b t → Put d parent r new → b < new.id.0
    → Fits (with_node d (record { 0 = parent }, new)) (m + 1) new.id.0 (t + length new.text)
fits_more d m b t parent r new fits p above =
    let id : p.node.id.0 ≡ new.id.0 = ap (λ (i : NodeId). i.0) p.id in
    let text : length p.node.text ≡ length new.text = ap (λ (x : List ℕ). length x) p.text in
    let low = All-weaker (λ n. n.id.0 ≤ b) (λ n. n.id.0 ≤ new.id.0) (λ n small. omega (arith, small, above)) d.nodes fits.low in
    let count : length (inserted d.nodes p.at p.node) ≡ length d.nodes + 1 = length-map (insert d.nodes p.at p.node) (moved p.at) ∙ length-insert d.nodes p.at p.node p.within in
    record {
      count = rw p.nodes (count ∙ ap (λ (k : ℕ). k + 1) fits.count);
      low = rw p.nodes (all_inserted (λ n. n.id.0 ≤ new.id.0) d.nodes p.at p.node (λ n small. small) low (omega (arith, id)));
      texts = rw p.nodes (omega (arith, text_size_inserted d.nodes p.at p.node, text, fits.texts));
    }

-- the id at a place, once another was put in
record Moved (xs : List ℕ) (at y k : ℕ) : Type 0 where
  place : ℕ
  within : place < length xs + 1
  named : get_or (insert xs at y) place 0 ≡ get_or xs k 0

moved_to : (xs : List ℕ) (at y k : ℕ) → at ≤ length xs → k < length xs → Moved xs at y k
moved_to xs at y k within lt = elim (cases_lt k at) [
  | inl below ↦ record { place = k; within = omega arith; named = get_or-insert_below xs at y 0 k below within }
  | inr above ↦ record { place = k + 1; within = omega arith; named = get_or-insert_above xs at y 0 k above within }
]

-- a parent stays one beside a node with another id
pub parent_stays : (d : Document) (parent r id low : ℕ) (new : NewNodeValue) → IsParent d.nodes id low → Put d parent r new → (new.id.0 ≡ id → ⊥)
    → IsParent (with_node d (record { 0 = parent }, new)).nodes id low
parent_stays d parent r id low new is p other =
    let same : p.node.id.0 ≡ new.id.0 = ap (λ (i : NodeId). i.0) p.id in
    let len = length-ids d.nodes in
    let count : length (inserted d.nodes p.at p.node) ≡ length d.nodes + 1 = length-map (insert d.nodes p.at p.node) (moved p.at) ∙ length-insert d.nodes p.at p.node p.within in
    let m = moved_to (ids_of d.nodes) p.at p.node.id.0 is.place (omega (arith, p.within, len)) (omega (arith, is.within, len)) in
    rw p.nodes (record {
      place = m.place;
      within = omega (arith, m.within, len, count);
      named = ap (λ (xs : List ℕ). get_or xs m.place 0) (ids_inserted d.nodes p.at p.node) ∙ (m.named ∙ is.named);
      each = all_inserted (AsParent id low) d.nodes p.at p.node (λ n one. one) is.each (λ e. absurd (other (sym same ∙ e)));
    })

-- an element that is put in is a parent
pub parent_more : (d : Document) (m b t parent r : ℕ) (new : NewNodeValue) → Fits d m b t → Put d parent r new → b < new.id.0 → is_element new.kind ≡ true
    → IsParent (with_node d (record { 0 = parent }, new)).nodes new.id.0 (r + 1)
parent_more d m b t parent r new fits p above element =
    let same : p.node.id.0 ≡ new.id.0 = ap (λ (i : NodeId). i.0) p.id in
    let len = length-ids d.nodes in
    let count : length (inserted d.nodes p.at p.node) ≡ length d.nodes + 1 = length-map (insert d.nodes p.at p.node) (moved p.at) ∙ length-insert d.nodes p.at p.node p.within in
    let others = All-weaker (λ n. n.id.0 ≤ b) (AsParent new.id.0 (r + 1)) (λ n low. λ e. absurd (omega (arith, low, e, above))) d.nodes fits.low in
    rw p.nodes (record {
      place = p.at;
      within = omega (arith, p.within, count);
      named = ap (λ (xs : List ℕ). get_or xs p.at 0) (ids_inserted d.nodes p.at p.node) ∙ (get_or-insert_at (ids_of d.nodes) p.at p.node.id.0 0 (omega (arith, p.within, len)) ∙ same);
      each = all_inserted (AsParent new.id.0 (r + 1)) d.nodes p.at p.node (λ n one. one) others (λ e. (rw p.kind element, p.depth));
    })
