-- A node that an edit doesn't reach is what it was.
use Rattle.std.proofs.Common.{◌≡◌, inl, inr, ℕ, ◌<◌, ◌==◌, Bool, true, false, List, [], length, ap, sym, ◌∙◌, arith, if◌then◌else◌, Some, option_map, slice_get, slice_index}
use Rattle.std.proofs.lemmas.Bool.{cases_lt, eq-eqb, ne_eqb}
use Rattle.std.proofs.lemmas.Option.{slice_get_within as there}
use Rattle.lay_style.specs.declared.style.Style.{Style}
use Rattle.lay_style.specs.ComputedStyle.{style_at}
use Rattle.lay_style.specs.Values.{Declaration}
use Rattle.lay_doc.specs.declared.node.Kind.{Kind}
use Rattle.lay_doc.specs.declared.node.Node.{Node}
use Rattle.lay_doc.specs.declared.node.NodeId.{NodeId}
use Rattle.lay_doc.specs.Document.{Document, ids_of}
use Rattle.lay_doc.specs.NodeRefs.{parent_id}
use Rattle.lay_contexts.specs.ContextTree.{parent_of}
use Rattle.lay_contexts.specs.Edited.Unreached.{IsKeptAt, content_of}
use Rattle.lay_contexts.proofs.EditedLemmas.KeptContexts.{Keeping, Styled}
use Rattle.lay_contexts.proofs.EditedLemmas.SameTrees.{or-map, same-box, same-style}

content-by : (n o : Node) → n.id ≡ o.id → n.kind ≡ o.kind → n.decls ≡ o.decls → n.text ≡ o.text → content_of n ≡ content_of o
content-by n o i k d t =
    ap (λ (x : NodeId). record (content_of n) { id = x }) i
    ∙ (ap (λ (x : Kind). record { id = o.id; kind = x; decls = n.decls; text = n.text }) k
    ∙ (ap (λ (x : List Declaration). record { id = o.id; kind = o.kind; decls = x; text = n.text }) d
    ∙ ap (λ (x : List ℕ). record { id = o.id; kind = o.kind; decls = o.decls; text = x }) t))

module _ (d e : Document) (P Q : ℕ → Type 0) (R : ℕ → ℕ → Type 0) (keep : Keeping d e P Q R) (ss ts : List Style) (here : Styled d ss) (elsewhere : Styled e ts) where
  pub styled : (k m : ℕ) → R k m → style_at ss k ≡ style_at ts m
  styled k m r = same-style d.nodes e.nodes ss ts R keep.same keep.declared here.document.tree here.has elsewhere.has k m r

  same-content : (k m : ℕ) → R k m → option_map content_of (slice_get d.nodes k) ≡ option_map content_of (slice_get e.nodes m)
  same-content k m r =
      let s = keep.same.node k m r in
      let ds : s.one.decls ≡ s.other.decls = sym (or-map (λ n. n.decls) d.nodes k s.one [] s.here) ∙ (keep.declared k m r ∙ or-map (λ n. n.decls) e.nodes m s.other [] s.there) in
      ap (option_map content_of) s.here ∙ (ap Some (content-by s.one s.other s.id s.kind ds s.text) ∙ sym (ap (option_map content_of) s.there))

  same-id : (k m : ℕ) → R k m → slice_index (ids_of d.nodes) k ≡ slice_index (ids_of e.nodes) m
  same-id k m r =
      let s = keep.same.node k m r in
      or-map (λ n. n.id.0) d.nodes k s.one 0 s.here ∙ (ap (λ (i : NodeId). i.0) s.id ∙ sym (or-map (λ n. n.id.0) e.nodes m s.other 0 s.there))

  -- the root has no parent, and each other node that of the same id
  same-parent : (k m : ℕ) → R k m → parent_id d.nodes k ≡ parent_id e.nodes m
  same-parent k m r = elim (cases_lt 0 k) [
    | inl above ↦ (let up = keep.same.parent k m r above in
        let a : (k == 0) ≡ false = ne_eqb k 0 (λ z. omega (arith, z, above)) in
        let b : (m == 0) ≡ false = ne_eqb m 0 (λ z. (let w = up.0 in omega (arith, z, w))) in
        ap (λ (x : Bool). record { 0 = if x then 0 else slice_index (ids_of d.nodes) (parent_of d.nodes k) }) a
        ∙ (ap (λ (x : ℕ). record { 0 = x }) (same-id (parent_of d.nodes k) (parent_of e.nodes m) up.1)
        ∙ sym (ap (λ (x : Bool). record { 0 = if x then 0 else slice_index (ids_of e.nodes) (parent_of e.nodes m) }) b)))
    | inr low ↦ (let a : (k == 0) ≡ true = eq-eqb k 0 (omega (arith, low)) in
        let z : m ≡ 0 = elim (cases_lt 0 m) [ inl over ↦ absurd (let w = keep.same.root k m r over in omega (arith, w, low)) | inr none ↦ omega (arith, none) ] in
        let b : (m == 0) ≡ true = eq-eqb m 0 z in
        ap (λ (x : Bool). record { 0 = if x then 0 else slice_index (ids_of d.nodes) (parent_of d.nodes k) }) a
        ∙ sym (ap (λ (x : Bool). record { 0 = if x then 0 else slice_index (ids_of e.nodes) (parent_of e.nodes m) }) b))
  ]

  pub kept-at : (k m : ℕ) → R k m → IsKeptAt d e ss ts k m
  kept-at k m r =
      let s = keep.same.node k m r in
      record {
        here = there d.nodes k s.one s.here;
        there = there e.nodes m s.other s.there;
        content = same-content k m r;
        parent = same-parent k m r;
        style = styled k m r;
        box = same-box d.nodes e.nodes ss ts R keep.same styled k m r;
      }

  pub kept-there : (k : ℕ) → k < length d.nodes → (P k → ⊥) → (m : ℕ) × IsKeptAt d e ss ts k m
  kept-there k lt apart = (keep.to k, kept-at k (keep.to k) (keep.forth k lt apart))

  pub kept-here : (m : ℕ) → m < length e.nodes → (Q m → ⊥) → (k : ℕ) × IsKeptAt d e ss ts k m
  kept-here m lt apart = (keep.from m, kept-at (keep.from m) m (keep.come m lt apart))
