-- Contexts that were built are those of the later document.
use Rattle.std.proofs.Common.{◌≡◌, inl, inr, ℕ, ◌+◌, ◌<◌, Bool, false, List, [], ◌∷◌, ◌++◌, length, map, refl, ap, sym, ◌∙◌, arith, slice_index, slice_index_or}
use Rattle.std.proofs.lemmas.Bool.{cases_lt}
use Rattle.std.proofs.lemmas.Grind.{elements}
use Rattle.std.proofs.lemmas.List.{get_or-map, length-map}
use Rattle.lay_style.specs.declared.style.Style.{Style}
use Rattle.lay_doc.specs.declared.node.Node.{Node}
use Rattle.lay_doc.specs.Document.{Document, ids_of}
use Rattle.lay_box_tree.specs.declared.box_tree.BoxNode.{BoxNode}
use Rattle.lay_contexts.specs.ContextList.{AreContextsOf, IsNumberedTo, boxes_of_spots, spot_of}
use Rattle.lay_contexts.specs.Contexts.{Context, boxes_in, context_at}
use Rattle.lay_contexts.specs.ContextTree.{StandsIn, boxes_of_place}
use Rattle.lay_contexts.specs.DocumentContexts.{AreDocumentContexts, root_spot, spot_at}
use Rattle.lay_contexts.specs.declared.context_spot.ContextSpot.{ContextSpot}
use Rattle.lay_after_edits.proofs.Cited.{blank_before, blank_last}
use Rattle.lay_after_edits.specs.Contexts.Building.{AreBuiltTo, IsBuilt}
use Rattle.lay_after_edits.specs.Contexts.Links.{AreRestyled, HasLinks, is_made}
use Rattle.lay_after_edits.specs.Contexts.Reach.{ArePlacesOf}
use Rattle.lay_after_edits.specs.Contexts.Rebuilt.{SameBoxes}
use Rattle.lay_after_edits.specs.Contexts.Unstyled.{Unstyled, all_unstyled, unstyled}
use Rattle.lay_after_edits.proofs.ContextsLemmas.SameBoxes.{same-context, turned}

-- what a column of boxes has without their styles
through : {X : Type 0} (f : Unstyled → X) (xs : List BoxNode) → map (λ b. f (unstyled b)) xs ≡ map f (all_unstyled xs)
through f [] = refl
through f (x ∷ xs) = ap (λ ys. f (unstyled x) ∷ ys) (through f xs)

pub column : {X : Type 0} (f : Unstyled → X) (xs ys : List BoxNode) → all_unstyled xs ≡ all_unstyled ys → map (λ b. f (unstyled b)) xs ≡ map (λ b. f (unstyled b)) ys
column f xs ys e = through f xs ∙ (ap (map f) e ∙ sym (through f ys))

pub same-count : (xs ys : List BoxNode) → all_unstyled xs ≡ all_unstyled ys → length xs ≡ length ys
same-count xs ys e = sym (length-map xs unstyled) ∙ (ap length e ∙ length-map ys unstyled)

-- a context that is another one but for its boxes is that one with its own boxes
pub with_own_boxes : (was context : Context) (boxes : List BoxNode) → context ≡ record was { boxes = boxes } → context ≡ record was { boxes = context.boxes }
with_own_boxes was context boxes is = is ∙ ap (λ (bs : List BoxNode). record was { boxes = bs }) (sym (ap (λ (x : Context). x.boxes) is))

abbrev spot_by : ℕ → ℕ → ℕ → ContextSpot
spot_by place around at = record { place = place; around = around; at = at }

same-spot : (c e : Context) → HasLinks c e → spot_of e ≡ spot_of c
same-spot c e l =
    ap (λ (p : ℕ). spot_by p e.outer e.outer_box) l.place
    ∙ (ap (λ (a : ℕ). spot_by c.place a e.outer_box) l.outer ∙ ap (spot_by c.place c.outer) l.outer_box)

module _ (d e : Document) (ss ts : List Style) (contexts : List Context) (of : AreContextsOf d.nodes ss contexts) (places : List ℕ) (places_are : ArePlacesOf contexts places)
    (same : SameBoxes d.nodes e.nodes ss ts) (ids : ids_of e.nodes ≡ ids_of d.nodes) (items : List Context) (made : List Bool)
    (built : AreBuiltTo contexts e.nodes ts places items made (length contexts)) where
  abbrev spots : List ContextSpot
  spots = of.spots

  abbrev place : ℕ → ℕ
  place i = (spot_at spots i).place

  place-is : (i : ℕ) → i < length contexts → slice_index places i ≡ place i
  place-is i lt = places_are.each i lt ∙ ap (λ (s : ContextSpot). s.place) (of.numbered.each i lt).spot

  boxes-after : (i : ℕ) → i < length contexts → boxes_in items i ≡ boxes_of_place e.nodes ts (place i)
  boxes-after i lt = (built.each i lt).boxes ∙ ap (boxes_of_place e.nodes ts) (place-is i lt)

  boxes-before : (i : ℕ) → i < length contexts → boxes_in contexts i ≡ boxes_of_place d.nodes ss (place i)
  boxes-before i lt =
      (of.numbered.each i lt).boxes_are ∙ get_or-map (λ (s : ContextSpot). boxes_of_place d.nodes ss s.place) spots i root_spot [] (omega (arith, lt, of.numbered.count))

  unstyled-at : (i : ℕ) → i < length contexts → all_unstyled (boxes_of_place e.nodes ts (place i)) ≡ all_unstyled (boxes_of_place d.nodes ss (place i))
  unstyled-at i lt = ap all_unstyled (sym (boxes-after i lt)) ∙ ((built.each i lt).links.boxes ∙ ap all_unstyled (boxes-before i lt))

  stands-still : (k a i : ℕ) → all_unstyled (boxes_of_place e.nodes ts a) ≡ all_unstyled (boxes_of_place d.nodes ss a) → StandsIn d.nodes ss k a i → StandsIn e.nodes ts k a i
  stands-still k a i is s =
      let xs = boxes_of_place e.nodes ts a in
      let ys = boxes_of_place d.nodes ss a in
      record {
        within = (let c = same-count xs ys is in let w = s.within in omega (arith, c, w));
        inner = ap (λ bs. slice_index_or bs i false) (column (λ u. u.inner) xs ys is) ∙ s.inner;
        node = ap (λ ns. slice_index ns i) (column (λ u. u.node.0) xs ys is) ∙ (s.node ∙ sym (ap (λ ns. slice_index ns k) ids));
      }

  spots-stay : AreDocumentContexts e.nodes ts spots
  spots-stay = record {
    are = λ i lt. same-context d.nodes e.nodes ss ts same (place i) (of.are.are i lt);
    rising = of.are.rising;
    all = λ k context. of.are.all k (same-context e.nodes d.nodes ts ss (turned d.nodes e.nodes ss ts same) k context);
    root = of.are.root;
    within = of.are.within;
    stands = λ i positive lt. (let a : ℕ = (spot_at spots i).around in
        let w = of.are.within i positive lt in
        stands-still (place i) (place a) (spot_at spots i).at (unstyled-at a (omega (arith, w, of.numbered.count))) (of.are.stands i positive lt));
  }

  numbered-at : (i : ℕ) → i < length contexts → IsNumberedTo spots (boxes_of_spots e.nodes ts spots) (context_at items i) (length spots) i
  numbered-at i lt =
      let b = built.each i lt in
      let n = of.numbered.each i lt in
      let c : length (context_at items i).boxes ≡ length (context_at contexts i).boxes = same-count (context_at items i).boxes (context_at contexts i).boxes b.links.boxes in
      record {
        spot = same-spot (context_at contexts i) (context_at items i) b.links ∙ n.spot;
        boxes_are = boxes-after i lt
            ∙ sym (get_or-map (λ (s : ContextSpot). boxes_of_place e.nodes ts s.place) spots i root_spot [] (omega (arith, lt, of.numbered.count)));
        count = ap length b.links.inner ∙ (n.count ∙ sym c);
        inner = λ k less. ap (λ (xs : List ℕ). slice_index xs k) b.links.inner ∙ n.inner k (omega (arith, less, c));
      }

  pub later-are : AreContextsOf e.nodes ts items
  later-are = record {
    spots = spots;
    are = spots-stay;
    numbered = record { count = built.count ∙ of.numbered.count; each = λ i lt. numbered-at i (omega (arith, lt, built.count)) };
  }

pub restyled-are : (contexts : List Context) (nodes : List Node) (styles : List Style) (places : List ℕ) (items : List Context) (made : List Bool)
    → length made ≡ length contexts → AreBuiltTo contexts nodes styles places items made (length contexts) → AreRestyled contexts items made
restyled-are contexts nodes styles places items made flags built = record {
  count = built.count;
  flags = flags;
  links = λ i lt. (built.each i lt).links;
  kept = λ i lt e. (built.each i lt).kept e;
}

pub one-more : (contexts : List Context) (nodes : List Node) (styles : List Style) (places : List ℕ) (items : List Context) (made : List Bool) (c : Context) (n : ℕ)
    → AreBuiltTo contexts nodes styles places items made n → IsBuilt contexts nodes styles places c (is_made made n) n
    → AreBuiltTo contexts nodes styles places (items ++ c ∷ []) made (n + 1)
one-more contexts nodes styles places items made c n built is = record {
  count = grind (arith, elements, built.count);
  each = λ i lt. elim (cases_lt i n) [
    | inl low ↦ (let e = blank_before items c i (omega (arith, low, built.count)) in rw e (built.each i low))
    | inr high ↦ (let z : i ≡ n = omega (arith, lt, high) in
        let e = blank_last items c i (omega (arith, z, built.count)) in
        rw (e, z) is)
  ];
}
