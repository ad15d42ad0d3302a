-- Where the elements of contexts stand among the nodes of a document.
use Rattle.std.proofs.Common.{◌≡◌, ℕ, zero, suc, ◌+◌, ◌<◌, ◌++◌, List, [], ◌∷◌, length, ap, sym, subst, ◌∙◌, arith, inl, inr, slice_index, slice_index_or}
use Rattle.std.proofs.lemmas.Bool.{cases_lt}
use Rattle.std.proofs.lemmas.Grind.{elements}
use Rattle.lay_style.specs.declared.style.Style.{Style}
use Rattle.lay_doc.specs.declared.node.Node.{Node}
use Rattle.lay_doc.specs.Document.{Document, IsDocument, ids_of}
use Rattle.lay_after_edits.proofs.Cited.{length-ids, place-is}
use Rattle.lay_boxgen.specs.Contexts.{IsContextAt}
use Rattle.lay_boxgen.specs.Listing.{boxes_at, boxes_of}
use Rattle.lay_contexts.specs.ContextList.{AreContextsOf}
use Rattle.lay_contexts.specs.Contexts.{Context, context_at}
use Rattle.lay_contexts.specs.ContextTree.{boxes_of_place}
use Rattle.lay_contexts.specs.DocumentContexts.{spot_at}
use Rattle.lay_contexts.specs.declared.context_spot.ContextSpot.{ContextSpot}
use Rattle.lay_contexts.specs.ListedContexts.{AreContextPlaces}
use Rattle.lay_after_edits.specs.Contexts.Reach.{ArePlacesOf}

module _ (d : Document) (styles : List Style) (contexts : List Context) (doc : IsDocument d) (of : AreContextsOf d.nodes styles contexts) where
  spot-place : (i : ℕ) → i < length contexts → (context_at contexts i).place ≡ (spot_at of.spots i).place
  spot-place i lt = ap (λ (s : ContextSpot). s.place) (of.numbered.each i lt).spot

  -- the places of contexts are those of all contexts, in order
  pub context-places : (places : List ℕ) → ArePlacesOf contexts places → AreContextPlaces d.nodes styles places
  context-places places are =
      let place-at : (i : ℕ) → i < length contexts → slice_index places i ≡ (spot_at of.spots i).place = λ i lt. are.each i lt ∙ spot-place i lt in
      record {
        are = λ i lt. (let l : i < length contexts = omega (arith, lt, are.count) in
            subst (IsContextAt d.nodes styles) (sym (place-at i l)) (of.are.are i (omega (arith, l, of.numbered.count))));
        rising = λ i j less lt. (let lj : j < length contexts = omega (arith, lt, are.count) in
            let r = of.are.rising i j less (omega (arith, lj, of.numbered.count)) in
            omega (arith, r, place-at i (omega (arith, less, lj)), place-at j lj));
        all = λ k context. (let a = of.are.all k context in
            let l : a.0 < length contexts = (let lt = a.1 in omega (arith, lt, of.numbered.count)) in
            record { number = a.0; within = omega (arith, l, are.count); is = place-at a.0 l ∙ a.2 });
      }

-- one more place
pub at-before : (xs : List ℕ) (x k : ℕ) → k < length xs → slice_index (xs ++ x ∷ []) k ≡ slice_index xs k
at-before xs x k lt = grind (arith, elements)

pub at-last : (xs : List ℕ) (x k : ℕ) → k ≡ length xs → slice_index (xs ++ x ∷ []) k ≡ x
at-last xs x k e = grind (arith, elements)

pub one-more-place : (contexts : List Context) (xs : List ℕ) (x n : ℕ) → (length xs ≡ n) × ((k : ℕ) → k < n → slice_index xs k ≡ (context_at contexts k).place)
    → x ≡ (context_at contexts n).place
    → (length (xs ++ x ∷ []) ≡ n + 1) × ((k : ℕ) → k < n + 1 → slice_index (xs ++ x ∷ []) k ≡ (context_at contexts k).place)
one-more-place contexts xs x n known is = (
  grind (arith, elements, known.0),
  λ k lt. elim (cases_lt k n) [
    | inl low ↦ at-before xs x k (let c = known.0 in omega (arith, low, c)) ∙ known.1 k low
    | inr high ↦ (let z : k ≡ n = omega (arith, lt, high) in
        at-last xs x k (let c = known.0 in omega (arith, z, c)) ∙ (is ∙ ap (λ (m : ℕ). (context_at contexts m).place) (sym z)))
  ],
)

-- the boxes that are made for the node at a place
read-id : (ns : List Node) (p : ℕ) (n : Node) → p < length ns → n ≡ slice_index_or ns p n → slice_index (ids_of ns) p ≡ n.id.0
read-id [] p n lt e = absurd (omega (arith, lt))
read-id (x ∷ xs) zero n lt e = ap (λ (y : Node). y.id.0) (sym e)
read-id (x ∷ xs) (suc p) n lt e = read-id xs p n (omega (arith, lt)) e

pub made-boxes : (e : Document) (styles : List Style) → IsDocument e → (p : ℕ) → p < length e.nodes → (n : Node) → n ≡ slice_index_or e.nodes p n
    → boxes_of e styles n.id.0 ≡ boxes_of_place e.nodes styles p
made-boxes e styles doc p lt n is =
    ap (boxes_at e.nodes styles)
    (place-is n.id.0 (ids_of e.nodes) (λ j k less in_ids. doc.ids j k less (omega (arith, in_ids, length-ids e.nodes))) p (omega (arith, lt, length-ids e.nodes)) (read-id e.nodes p n lt is))

pub read-at : (ns ms : List Node) → ms ≡ ns → (p : ℕ) (n : Node) → n ≡ slice_index_or ms p n → n ≡ slice_index_or ns p n
read-at ns ms same p n e = e ∙ ap (λ (xs : List Node). slice_index_or xs p n) same
