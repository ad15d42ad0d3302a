-- Nodes that generate the same boxes by themselves with other styles: the same of them are contexts, with the same contexts around them.
use Rattle.std.proofs.Common.{◌≡◌, inl, inr, ℕ, ◌<◌, List, length, ap, sym, subst, ◌∙◌, arith, IsTrue, Option, Some, slice_index}
use Rattle.std.proofs.lemmas.Bool.{cases_lt}
use Rattle.std.proofs.lemmas.Option.{slice_get_within as there}
use Rattle.lay_style.specs.declared.style.Style.{Style}
use Rattle.lay_style.specs.ComputedStyle.{style_at}
use Rattle.lay_doc.specs.declared.node.Node.{Node}
use Rattle.lay_doc.specs.Document.{Document, IsDocument, parents_of}
use Rattle.lay_after_edits.proofs.Cited.{are-own, length-parents, own_nodes, own_nodes_decide, own_places, SameNode}
use Rattle.lay_boxgen.specs.declared.facts.Facts.{Facts}
use Rattle.lay_boxgen.specs.Contexts.{GeneratesBox, IsContextAt, below, box_at, has_box, is_marked, keeps, root}
use Rattle.lay_contexts.specs.ContextTree.{IsAround, boxes_of_place, further, parent, parent_of}
use Rattle.lay_contexts.specs.OwnNodes.{AreOwnNodes, IsOwnNode, OwnNode, own_at}
use Rattle.lay_after_edits.specs.Contexts.Rebuilt.{SameBoxes}
use Rattle.lay_after_edits.specs.Contexts.Reach.{IsAlike}
use Rattle.lay_after_edits.proofs.ContextsLemmas.AlikeBoxes.{AlikeNode, no-box, same-box}

pub turned : (ns ms : List Node) (ss ts : List Style) → SameBoxes ns ms ss ts → SameBoxes ms ns ts ss
turned ns ms ss ts same = record { parents = sym same.parents; box = λ k. sym (same.box k) }

module _ (ns ms : List Node) (ss ts : List Style) (same : SameBoxes ns ms ss ts) where
  pub up : (k : ℕ) → parent_of ms k ≡ parent_of ns k
  up k = ap (λ (ps : List ℕ). slice_index ps k) same.parents

  same-mark : (k : ℕ) → is_marked (box_at ms ts (parent_of ms k)) ≡ is_marked (box_at ns ss (parent_of ns k))
  same-mark k = ap (λ (j : ℕ). is_marked (box_at ms ts j)) (up k) ∙ ap is_marked (same.box (parent_of ns k))

  pub same-around : (k a : ℕ) → IsAround ns ss k a → IsAround ms ts k a
  same-around _ _ (parent k positive e) = subst (IsAround ms ts k) (up k) (parent k positive (same-mark k ∙ e))
  same-around _ _ (further k a positive e above) =
      further k a positive (same-mark k ∙ e) (subst (λ (j : ℕ). IsAround ms ts j a) (sym (up k)) (same-around (parent_of ns k) a above))

  same-keep : (k : ℕ) → keeps (box_at ms ts (parent_of ms k)) (box_at ms ts k) ≡ keeps (box_at ns ss (parent_of ns k)) (box_at ns ss k)
  same-keep k =
      ap (λ (j : ℕ). keeps (box_at ms ts j) (box_at ms ts k)) (up k)
      ∙ (ap (λ (o : Option Facts). keeps o (box_at ms ts k)) (same.box (parent_of ns k)) ∙ ap (λ (o : Option Facts). keeps (box_at ns ss (parent_of ns k)) o) (same.box k))

  same-generation : (k : ℕ) → GeneratesBox ns ss k → GeneratesBox ms ts k
  same-generation _ (root has) = root (subst IsTrue (sym (ap has_box (same.box 0))) has)
  same-generation _ (below k positive kept made) =
      below k positive (subst IsTrue (sym (same-keep k)) kept) (subst (GeneratesBox ms ts) (sym (up k)) (same-generation (parent_of ns k) made))

  pub same-context : (k : ℕ) → IsContextAt ns ss k → IsContextAt ms ts k
  same-context k c = record { establishes = subst IsTrue (sym (ap is_marked (same.box k))) c.establishes; generates = same-generation k c.generates }

-- nodes that are alike generate the same boxes by themselves
pub boxes-of-alike : (ns ms : List Node) (ss ts : List Style) → parents_of ms ≡ parents_of ns → ((k : ℕ) → k < length ns → AlikeNode ns ms k)
    → ((k : ℕ) → k < length ns → IsAlike (style_at ss k) (style_at ts k)) → SameBoxes ns ms ss ts
boxes-of-alike ns ms ss ts parents node alike =
    let count : length ns ≡ length ms = sym (length-parents ns) ∙ (sym (ap length parents) ∙ length-parents ms) in
    record {
      parents = parents;
      box = λ k. elim (cases_lt k (length ns)) [
        | inl lt ↦ same-box ns ms ss ts k (node k lt) (alike k lt)
        | inr past ↦ no-box ns ms ss ts k count (λ lt. omega (arith, lt, past))
      ];
    }

-- a node that keeps its content and its style
pub record Stays (ns ms : List Node) (ss ts : List Style) (k : ℕ) : Type 0 where
  pub content : SameNode ns ms k k
  pub style : style_at ts k ≡ style_at ss k

-- own nodes that do
module _ (ns ms : List Node) (ss ts : List Style) (same : SameBoxes ns ms ss ts)
    (a : ℕ) (places : List ℕ) (own : List OwnNode) (are : AreOwnNodes ns ss a places own)
    (stay : (i : ℕ) → i < length places → Stays ns ms ss ts (slice_index places i)) where
  own-stays-at : (k : ℕ) (o : OwnNode) → IsOwnNode ns ss k o → Stays ns ms ss ts k → IsOwnNode ms ts k o
  own-stays-at k o is stays =
      let s = stays.content in
      let e = stays.style in
      let z : Some is.node ≡ Some s.one = sym is.there ∙ s.here in
      let one : is.node ≡ s.one = cc in
      record {
        node = s.other;
        there = s.there;
        id = is.id ∙ (ap (λ (n : Node). n.id) one ∙ s.id);
        kind = is.kind ∙ (ap (λ (n : Node). n.kind) one ∙ s.kind);
        text = is.text ∙ (ap (λ (n : Node). n.text) one ∙ s.text);
        style = is.style ∙ sym e;
        root = is.root;
      }

  pub own-stays : AreOwnNodes ms ts a places own
  own-stays =
      let count : length ms ≡ length ns = sym (length-parents ms) ∙ (ap length same.parents ∙ length-parents ns) in
      record {
        count = are.count;
        some = are.some;
        first = are.first;
        rising = are.rising;
        around = λ i positive lt. same-around ns ms ss ts same (slice_index places i) a (are.around i positive lt);
        all = λ k lt h. are.all k (omega (arith, lt, count)) (same-around ms ns ts ss (turned ns ms ss ts same) k a h);
        each = λ i lt. own-stays-at (slice_index places i) (own_at own i) (are.each i lt) (stay i lt);
        parent = λ i positive lt. (let p = are.parent i positive lt in (p.0, p.1 ∙ sym (up ns ms ss ts same (slice_index places i))));
      }

-- a context whose own nodes do keeps its boxes
pub boxes-stay : (d e : Document) (ss ts : List Style) → IsDocument d → IsDocument e → length ss ≡ length d.nodes → length ts ≡ length e.nodes
    → (same : SameBoxes d.nodes e.nodes ss ts) → (a : ℕ) → a < length d.nodes → IsContextAt d.nodes ss a
    → ((k : ℕ) → k < length d.nodes → IsAround d.nodes ss k a → Stays d.nodes e.nodes ss ts k) → Stays d.nodes e.nodes ss ts a
    → boxes_of_place e.nodes ts a ≡ boxes_of_place d.nodes ss a
boxes-stay d e ss ts doc other_doc count other_count same a here context stay own_stays =
    let tree = doc.tree in
    let places : List ℕ = own_places d.nodes ss a tree in
    let are = are-own d.nodes ss a tree here in
    let stay-at : (i : ℕ) → i < length places → Stays d.nodes e.nodes ss ts (slice_index places i) =
    λ i lt. elim (cases_lt 0 i) [
      | inl positive ↦ (let e = are.each i lt in stay (slice_index places i) (there d.nodes (slice_index places i) e.node e.there) (are.around i positive lt))
      | inr low ↦ (let z : i ≡ 0 = omega (arith, low) in
          let is : slice_index places i ≡ a = ap (slice_index places) z ∙ are.first in
          subst (Stays d.nodes e.nodes ss ts) (sym is) own_stays)
    ] in
    sym (own_nodes_decide d e ss ts a a places places (own_nodes d.nodes ss a tree) doc count context are other_doc other_count
    (same-context d.nodes e.nodes ss ts same a context) (own-stays d.nodes e.nodes ss ts same a places (own_nodes d.nodes ss a tree) are stay-at))
