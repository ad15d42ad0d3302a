-- Where the own nodes of a context and those of another one are the same nodes, the two have the same boxes.
use Rattle.std.proofs.Common.{◌≡◌, inl, inr, ℕ, ◌<◌, List, length, map, ap, sym, subst, ◌∙◌, arith, Some, slice_index}
use Rattle.std.proofs.lemmas.Bool.{cases_lt}
use Rattle.std.proofs.lemmas.List.{get_or-map}
use Rattle.std.proofs.lemmas.Option.{slice_get_within as there}
use Rattle.lay_style.specs.declared.style.Style.{Style}
use Rattle.lay_style.specs.ComputedStyle.{style_at}
use Rattle.lay_doc.specs.declared.node.Node.{Node}
use Rattle.lay_doc.specs.Document.{Document, IsDocument}
use Rattle.lay_boxgen.specs.Contexts.{IsContextAt}
use Rattle.lay_contexts.specs.ContextTree.{IsAround, boxes_of_place, parent_of}
use Rattle.lay_contexts.specs.OwnNodes.{AreOwnNodes, IsOwnNode, OwnNode, own_at}
use Rattle.lay_contexts.proofs.OwnBoxes.{own_nodes_decide}
use Rattle.lay_contexts.specs.Edited.Touched.{IsOwn, element, inside}
use Rattle.lay_contexts.proofs.EditedLemmas.OwnList.{are-own, length-map, own_nodes, own_places}
use Rattle.lay_contexts.proofs.EditedLemmas.SameTrees.{SameTree, back, one-partner, same-around, same-context, turned, zeros}

module _ (ns ms : List Node) (ss ts : List Style) (R : ℕ → ℕ → Type 0) (h : SameTree ns ms R) (styled : (k m : ℕ) → R k m → style_at ss k ≡ style_at ts m)
    (a b : ℕ) (pair : R a b) (to : ℕ → ℕ)
    (forth : (k : ℕ) → k < length ns → IsOwn ns ss a k → R k (to k))
    (from : (m : ℕ) → m < length ms → IsOwn ms ts b m → (k : ℕ) × R k m)
    (places : List ℕ) (own : List OwnNode) (are : AreOwnNodes ns ss a places own) where
  abbrev elsewhere : List ℕ
  elsewhere = map to places

  place-at : (i : ℕ) → i < length places → slice_index elsewhere i ≡ to (slice_index places i)
  place-at i lt = get_or-map to places i 0 0 lt

  own-within : (i : ℕ) → i < length places → slice_index places i < length ns
  own-within i lt = let e = are.each i lt in there ns (slice_index places i) e.node e.there

  is-own : (i : ℕ) → i < length places → IsOwn ns ss a (slice_index places i)
  is-own i lt = elim (cases_lt 0 i) [
    | inl above ↦ inside (slice_index places i) (are.around i above lt)
    | inr low ↦ (let z : i ≡ 0 = omega (arith, low) in subst (IsOwn ns ss a) (sym (ap (slice_index places) z ∙ are.first)) element)
  ]

  matched : (i : ℕ) → i < length places → R (slice_index places i) (slice_index elsewhere i)
  matched i lt = subst (R (slice_index places i)) (sym (place-at i lt)) (forth (slice_index places i) (own-within i lt) (is-own i lt))

  rising : (i j : ℕ) → i < j → j < length elsewhere → slice_index elsewhere i < slice_index elsewhere j
  rising i j less lt =
      let lj : j < length places = (let l = length-map to places in omega (arith, lt, l)) in
      h.rising (slice_index places i) (slice_index elsewhere i) (slice_index places j) (slice_index elsewhere j) (matched i (omega (arith, less, lj))) (matched j lj) (are.rising i j less lj)

  partner : (i m : ℕ) → i < length places → R (slice_index places i) m → slice_index elsewhere i ≡ m
  partner i m lt r = one-partner ns ms ss ts R h (slice_index places i) (slice_index elsewhere i) m (matched i lt) r

  around : (i : ℕ) → 0 < i → i < length places → IsAround ms ts (slice_index elsewhere i) b
  around i positive lt =
      let r = same-around ns ms ss ts R h styled (slice_index places i) a (are.around i positive lt) (slice_index elsewhere i) (matched i lt) in
      subst (IsAround ms ts (slice_index elsewhere i)) (one-partner ns ms ss ts R h a r.0 b r.1 pair) r.2

  all : (m : ℕ) → m < length ms → IsAround ms ts m b → (i : ℕ) × (i < length elsewhere) × (slice_index elsewhere i ≡ m)
  all m lt around_m =
      let f = from m lt (inside m around_m) in
      let r = same-around ms ns ts ss (back R) (turned ns ms R h) (λ n k p. sym (styled k n p)) m b around_m f.0 f.1 in
      let is : r.0 ≡ a = one-partner ms ns ts ss (back R) (turned ns ms R h) b r.0 a r.1 pair in
      let k_in : f.0 < length ns = (let s = h.node f.0 m f.1 in there ns f.0 s.one s.here) in
      let g = are.all f.0 k_in (subst (IsAround ns ss f.0) is r.2) in
      (g.0, (let l = length-map to places in let lt_g = g.1 in omega (arith, lt_g, l)), partner g.0 m g.1 (subst (λ (k : ℕ). R k m) (sym g.2) f.1))

  each : (i : ℕ) → i < length places → IsOwnNode ms ts (slice_index elsewhere i) (own_at own i)
  each i lt =
      let r = matched i lt in
      let s = h.node (slice_index places i) (slice_index elsewhere i) r in
      let o = are.each i lt in
      let e : Some o.node ≡ Some s.one = sym o.there ∙ s.here in
      let is : o.node ≡ s.one = cc in
      record {
        node = s.other;
        there = s.there;
        id = o.id ∙ (ap (λ (n : Node). n.id) is ∙ s.id);
        kind = o.kind ∙ (ap (λ (n : Node). n.kind) is ∙ s.kind);
        text = o.text ∙ (ap (λ (n : Node). n.text) is ∙ s.text);
        style = o.style ∙ styled (slice_index places i) (slice_index elsewhere i) r;
        root = o.root ∙ zeros ns ms ss ts R h (slice_index places i) (slice_index elsewhere i) r;
      }

  parent : (i : ℕ) → 0 < i → i < length places
      → ((own_at own i).parent < length elsewhere) × (slice_index elsewhere (own_at own i).parent ≡ parent_of ms (slice_index elsewhere i))
  parent i positive lt =
      let p = are.parent i positive lt in
      let up = are.rising 0 i positive lt in
      let r = (h.parent (slice_index places i) (slice_index elsewhere i) (matched i lt) (omega (arith, up))).1 in
      ((let l = length-map to places in let low = p.0 in omega (arith, low, l)), partner (own_at own i).parent (parent_of ms (slice_index elsewhere i)) p.0 (subst (λ (k : ℕ). R k (parent_of ms (slice_index elsewhere i))) (sym p.1) r))

  pub image : AreOwnNodes ms ts b elsewhere own
  image =
      let l = length-map to places in
      record {
        count = are.count ∙ sym l;
        some = (let s = are.some in omega (arith, s, l));
        first = partner 0 b are.some (subst (λ (k : ℕ). R k b) (sym are.first) pair);
        rising = rising;
        around = λ i positive lt. around i positive (omega (arith, lt, l));
        all = all;
        each = λ i lt. each i (omega (arith, lt, l));
        parent = λ i positive lt. parent i positive (omega (arith, lt, l));
      }

-- the boxes of a context are kept where its own nodes are
pub boxes-kept : (d e : Document) (ss ts : List Style) (R : ℕ → ℕ → Type 0) → IsDocument d → IsDocument e → length ss ≡ length d.nodes → length ts ≡ length e.nodes
    → (h : SameTree d.nodes e.nodes R) → ((k m : ℕ) → R k m → style_at ss k ≡ style_at ts m)
    → (a b : ℕ) → R a b → (to : ℕ → ℕ)
    → ((k : ℕ) → k < length d.nodes → IsOwn d.nodes ss a k → R k (to k))
    → ((m : ℕ) → m < length e.nodes → IsOwn e.nodes ts b m → (k : ℕ) × R k m)
    → IsContextAt d.nodes ss a
    → boxes_of_place d.nodes ss a ≡ boxes_of_place e.nodes ts b
boxes-kept d e ss ts R doc other_doc count other_count h styled a b pair to forth from context =
    let here : a < length d.nodes = (let s = h.node a b pair in there d.nodes a s.one s.here) in
    let are = are-own d.nodes ss a doc.tree here in
    own_nodes_decide d e ss ts a b (own_places d.nodes ss a doc.tree) (map to (own_places d.nodes ss a doc.tree)) (own_nodes d.nodes ss a doc.tree)
    doc count context are other_doc other_count (same-context d.nodes e.nodes ss ts R h styled a b pair context)
    (image d.nodes e.nodes ss ts R h styled a b pair to forth from (own_places d.nodes ss a doc.tree) (own_nodes d.nodes ss a doc.tree) are)
