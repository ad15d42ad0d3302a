-- Where an edit keeps all nodes that it doesn't reach, a context keeps its boxes, or has a node among its own that is reached.
use Rattle.std.proofs.Common.{◌≡◌, ◌⊎◌, inl, inr, ℕ, zero, suc, ◌<◌, List, length, refl, ap, sym, subst, ◌∙◌, arith, Bool, true, false, Option, Some, None, slice_index}
use Rattle.std.proofs.lemmas.Bool.{cases_eq, cases_lt}
use Rattle.std.proofs.lemmas.Option.{slice_get_within as there}
use Rattle.lay_style.specs.declared.style.Style.{Style}
use Rattle.lay_style.specs.ComputedStyle.{HasStyles, declarations_at, style_at}
use Rattle.lay_style.specs.Places.{place_of}
use Rattle.lay_contexts.proofs.Cited.{has_subtree_lem, length-ids, place_within}
use Rattle.lay_doc.specs.declared.edit.Edit.{Edit}
use Rattle.lay_doc.specs.declared.node.Node.{Node}
use Rattle.lay_doc.specs.Document.{Document, IsDocument, declarations_of, ids_of, parents_of}
use Rattle.lay_doc.specs.Tree.{IsTree, end_of}
use Rattle.lay_doc.proofs.NodeColumns.{length-parents}
use Rattle.lay_boxgen.specs.Contexts.{IsContext, IsContextAt, IsContextThere}
use Rattle.lay_boxgen.specs.Listing.{boxes_at}
use Rattle.lay_contexts.specs.ContextTree.{IsAround}
use Rattle.lay_contexts.specs.Edited.Reached.{IsReached, IsUnderThere, place_in, subject_of}
use Rattle.lay_contexts.specs.Edited.Touched.{HasOwn, IsOwn, KeepsBoxes, element, inside}
use Rattle.lay_contexts.proofs.EditedLemmas.NamedPlaces.{place-is, place-reads}
use Rattle.lay_contexts.proofs.EditedLemmas.OwnImage.{boxes-kept}
use Rattle.lay_contexts.proofs.EditedLemmas.OwnList.{around-inside, inside-around, is_inside}
use Rattle.lay_contexts.proofs.EditedLemmas.SameTrees.{SameTree, back, or-map, same-context, same-style, turned}

-- Whether it holds of one of so many numbers.
pub search-below : (n : ℕ) (P : ℕ → Type 0) → ((k : ℕ) → k < n → P k ⊎ (P k → ⊥)) → ((k : ℕ) × (k < n) × P k) ⊎ ((k : ℕ) → k < n → P k → ⊥)
search-below zero P known = inr (λ k lt p. omega (arith, lt))
search-below (suc n) P known = elim (known n (omega arith)) [
  | inl so ↦ inl (n, omega arith, so)
  | inr not_so ↦ elim (search-below n P (λ k lt. known k (omega (arith, lt)))) [
    | inl found ↦ inl (found.0, (let lt = found.1 in omega (arith, lt)), found.2)
    | inr none ↦ inr (λ k lt p. elim (cases_lt k n) [
      | inl low ↦ none k low p
      | inr high ↦ (let e : k ≡ n = omega (arith, lt, high) in not_so (subst P e p))
    ])
  ]
]

both-known : (A B : Type 0) → A ⊎ (A → ⊥) → B ⊎ (B → ⊥) → (A × B) ⊎ (A × B → ⊥)
both-known A B (inl a) (inl b) = inl (a, b)
both-known A B (inl a) (inr not_so) = inr (λ p. not_so p.1)
both-known A B (inr not_so) b = inr (λ p. not_so p.0)

-- Whether a node is an own node.
own-known : (nodes : List Node) (styles : List Style) → IsTree (parents_of nodes) → (a k : ℕ) → k < length nodes → IsOwn nodes styles a k ⊎ (IsOwn nodes styles a k → ⊥)
own-known nodes styles tree a k lt = elim (cases_eq a k) [
  | inl same ↦ inl (subst (IsOwn nodes styles a) same element)
  | inr other ↦ by (is_inside nodes styles a tree k) refl other
]
  where
    is-inside : (j : ℕ) → j ≡ k → (a ≡ j → ⊥) → IsOwn nodes styles a j → IsAround nodes styles j a
    is-inside _ e other element = absurd (other refl)
    is-inside _ e other (inside j h) = h

    by : (b : Bool) → is_inside nodes styles a tree k ≡ b → (a ≡ k → ⊥) → IsOwn nodes styles a k ⊎ (IsOwn nodes styles a k → ⊥)
    by true e other = inl (inside k (inside-around nodes styles a tree k e))
    by false e other = inr (λ own. (let h = around-inside nodes styles a tree k lt (is-inside k refl other own) in let z : true ≡ false = sym h ∙ e in cc))

-- Whether a node is reached.
under-known : (parents : List ℕ) → IsTree parents → (o : Option ℕ) → ((p : ℕ) → o ≡ Some p → p < length parents) → (k : ℕ) → k < length parents
    → IsUnderThere parents o k ⊎ (IsUnderThere parents o k → ⊥)
under-known parents tree None within k lt = inr (λ h. h)
under-known parents tree (Some p) within k lt =
    let is = has_subtree_lem parents p k tree (within p refl) lt in
    elim (cases_lt k p) [
      | inl before ↦ inr (λ u. (let low = (is.0 u).0 in omega (arith, low, before)))
      | inr from ↦ elim (cases_lt k (end_of parents p)) [
        | inl inner ↦ inl (is.1 (from, inner))
        | inr behind ↦ inr (λ u. (let high = (is.0 u).1 in omega (arith, high, behind)))
      ]
    ]

pub reached-known : (d : Document) (edit : Edit) → IsDocument d → (k : ℕ) → k < length d.nodes → IsReached d edit k ⊎ (IsReached d edit k → ⊥)
reached-known d edit doc k lt =
    under-known (parents_of d.nodes) doc.tree (place_in (ids_of d.nodes) (subject_of edit)) (there-in (subject_of edit)) k (omega (arith, lt, length-parents d.nodes))
  where
    there-in : (s : Option ℕ) (p : ℕ) → place_in (ids_of d.nodes) s ≡ Some p → p < length (parents_of d.nodes)
    there-in None p e = absurd cc
    there-in (Some id) p e = let h = place_within id (ids_of d.nodes) p e in omega (arith, h, length-ids d.nodes, length-parents d.nodes)

-- All nodes that aren't reached go together.
pub record Keeping (d e : Document) (P Q : ℕ → Type 0) (R : ℕ → ℕ → Type 0) : Type 0 where
  pub same : SameTree d.nodes e.nodes R
  pub declared : (k m : ℕ) → R k m → declarations_at (declarations_of d.nodes) k ≡ declarations_at (declarations_of e.nodes) m
  pub to : ℕ → ℕ
  pub from : ℕ → ℕ
  pub forth : (k : ℕ) → k < length d.nodes → (P k → ⊥) → R k (to k)
  pub come : (m : ℕ) → m < length e.nodes → (Q m → ⊥) → R (from m) m

pub turned-keeping : (d e : Document) (P Q : ℕ → Type 0) (R : ℕ → ℕ → Type 0) → Keeping d e P Q R → Keeping e d Q P (back R)
turned-keeping d e P Q R k = record {
  same = turned d.nodes e.nodes R k.same;
  declared = λ m j r. sym (k.declared j m r);
  to = k.from;
  from = k.to;
  forth = k.come;
  come = k.forth;
}

-- a document with its styles
pub record Styled (d : Document) (styles : List Style) : Type 0 where
  pub document : IsDocument d
  pub has : HasStyles (parents_of d.nodes) (declarations_of d.nodes) styles

module _ (d e : Document) (P Q : ℕ → Type 0) (R : ℕ → ℕ → Type 0) (keep : Keeping d e P Q R) (ss ts : List Style) (here : Styled d ss) (elsewhere : Styled e ts)
    (known : (k : ℕ) → k < length d.nodes → P k ⊎ (P k → ⊥)) (known_there : (m : ℕ) → m < length e.nodes → Q m ⊎ (Q m → ⊥)) where
  abbrev Answer : ℕ → Type 0
  Answer id = KeepsBoxes d e ss ts id ⊎ HasOwn P d ss id ⊎ HasOwn Q e ts id

  styled : (k m : ℕ) → R k m → style_at ss k ≡ style_at ts m
  styled k m r = same-style d.nodes e.nodes ss ts R keep.same keep.declared here.document.tree here.has elsewhere.has k m r

  same-id : (k m : ℕ) → R k m → slice_index (ids_of e.nodes) m ≡ slice_index (ids_of d.nodes) k
  same-id k m r =
      let s = keep.same.node k m r in
      or-map (λ n. n.id.0) e.nodes m s.other 0 s.there ∙ (ap (λ i. i.0) (sym s.id) ∙ sym (or-map (λ n. n.id.0) d.nodes k s.one 0 s.here))

  place-there : (id k m : ℕ) → R k m → place_of id (ids_of d.nodes) ≡ Some k → place_of id (ids_of e.nodes) ≡ Some m
  place-there id k m r is =
      let s = keep.same.node k m r in
      let lt : m < length (ids_of e.nodes) = (let w = there e.nodes m s.other s.there in omega (arith, w, length-ids e.nodes)) in
      place-is id (ids_of e.nodes) (λ i j less in_ids. elsewhere.document.ids i j less (omega (arith, in_ids, length-ids e.nodes))) m lt (same-id k m r ∙ place-reads id (ids_of d.nodes) k is)

  -- no own node is reached before or after
  unreached : (id a b : ℕ) → place_of id (ids_of d.nodes) ≡ Some a → IsContextAt d.nodes ss a → R a b
      → ((k : ℕ) → k < length d.nodes → IsOwn d.nodes ss a k × P k → ⊥) → ((m : ℕ) → m < length e.nodes → IsOwn e.nodes ts b m × Q m → ⊥) → KeepsBoxes d e ss ts id
  unreached id a b is context pair none none_there =
      let is_there = place-there id a b pair is in
      let context_there = same-context d.nodes e.nodes ss ts R keep.same styled a b pair context in
      let boxes = boxes-kept d e ss ts R here.document elsewhere.document (here.has.length_is ∙ length-parents d.nodes) (elsewhere.has.length_is ∙ length-parents e.nodes)
      keep.same styled a b pair keep.to
      (λ k lt own. keep.forth k lt (λ p. none k lt (own, p)))
      (λ m lt own. (keep.from m, keep.come m lt (λ q. none_there m lt (own, q))))
      context in
      record {
        before = subst (IsContextThere d.nodes ss) (sym is) context;
        after = subst (IsContextThere e.nodes ts) (sym is_there) context_there;
        boxes = ap (boxes_at d.nodes ss) is ∙ (boxes ∙ sym (ap (boxes_at e.nodes ts) is_there));
      }

  after-search : (id a : ℕ) → place_of id (ids_of d.nodes) ≡ Some a → IsContextAt d.nodes ss a → ((k : ℕ) → k < length d.nodes → IsOwn d.nodes ss a k × P k → ⊥) → Answer id
  after-search id a is context none =
      let lt : a < length d.nodes = (let w = place_within id (ids_of d.nodes) a is in omega (arith, w, length-ids d.nodes)) in
      let pair = keep.forth a lt (λ p. none a lt (element, p)) in
      let b = keep.to a in
      let own_there : (m : ℕ) → m < length e.nodes → (IsOwn e.nodes ts b m × Q m) ⊎ (IsOwn e.nodes ts b m × Q m → ⊥) =
      λ m in_nodes. both-known (IsOwn e.nodes ts b m) (Q m) (own-known e.nodes ts elsewhere.document.tree b m in_nodes) (known_there m in_nodes) in
      elim (search-below (length e.nodes) (λ m. IsOwn e.nodes ts b m × Q m) own_there) [
        | inl found ↦ inr (inr (record {
          place = b;
          named = place-there id a b pair is;
          context = same-context d.nodes e.nodes ss ts R keep.same styled a b pair context;
          node = found.0;
          within = found.1;
          own = found.2.0;
          is = found.2.1;
        }))
        | inr none_there ↦ inl (unreached id a b is context pair none none_there)
      ]

  at-place : (id a : ℕ) → place_of id (ids_of d.nodes) ≡ Some a → IsContextAt d.nodes ss a → Answer id
  at-place id a is context =
      let own_here : (k : ℕ) → k < length d.nodes → (IsOwn d.nodes ss a k × P k) ⊎ (IsOwn d.nodes ss a k × P k → ⊥) =
      λ k in_nodes. both-known (IsOwn d.nodes ss a k) (P k) (own-known d.nodes ss here.document.tree a k in_nodes) (known k in_nodes) in
      elim (search-below (length d.nodes) (λ k. IsOwn d.nodes ss a k × P k) own_here) [
        | inl found ↦ inr (inl (record { place = a; named = is; context = context; node = found.0; within = found.1; own = found.2.0; is = found.2.1 }))
        | inr none ↦ after-search id a is context none
      ]

  pub kept-or-reached : (id : ℕ) → IsContext d ss id → Answer id
  kept-or-reached id context = by (place_of id (ids_of d.nodes)) refl context
    where
      by : (o : Option ℕ) → place_of id (ids_of d.nodes) ≡ o → IsContextThere d.nodes ss o → Answer id
      by None e h = absurd h
      by (Some a) e h = at-place id a e h

-- a context of either document
pub touched : (d e : Document) (P Q : ℕ → Type 0) (R : ℕ → ℕ → Type 0) → Keeping d e P Q R → (ss ts : List Style) → Styled d ss → Styled e ts
    → ((k : ℕ) → k < length d.nodes → P k ⊎ (P k → ⊥)) → ((m : ℕ) → m < length e.nodes → Q m ⊎ (Q m → ⊥))
    → (id : ℕ) → IsContext d ss id ⊎ IsContext e ts id → KeepsBoxes d e ss ts id ⊎ HasOwn P d ss id ⊎ HasOwn Q e ts id
touched d e P Q R keep ss ts here elsewhere known known_there id (inl context) = kept-or-reached d e P Q R keep ss ts here elsewhere known known_there id context
touched d e P Q R keep ss ts here elsewhere known known_there id (inr context) = elim (kept-or-reached e d Q P (back R) (turned-keeping d e P Q R keep) ts ss elsewhere here known_there known id context) [
  | inl kept ↦ inl (record { before = kept.after; after = kept.before; boxes = sym kept.boxes })
  | inr more ↦ elim more [ inl q ↦ inr (inr q) | inr p ↦ inr (inl p) ]
]
