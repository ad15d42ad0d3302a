-- A document has a list of contexts: of the nodes that establish one and generate a box, each where its box stands.
use Rattle.std.proofs.Common.{◌≡◌, ◌⊎◌, inl, inr, ℕ, zero, suc, ◌+◌, ◌<◌, ◌≤◌, Bool, true, false, IsTrue, List, [], ◌∷◌, ◌++◌, length, map, slice_index, refl, sym, ap, ◌∙◌, subst, arith}
use Rattle.std.specs.List.{range_with_len}
use Rattle.std.proofs.lemmas.Bool.{cases_Bool, cases_lt}
use Rattle.std.proofs.lemmas.List.FromFn.{get_or-map-range_with_len, length-map-range_with_len}
use Rattle.lay_style.specs.declared.style.Style.{Style}
use Rattle.lay_doc.specs.Document.{Document, IsDocument, parents_of}
use Rattle.lay_doc.specs.declared.node.Node.{Node}
use Rattle.lay_boxgen.specs.Contexts.{GeneratesBox, IsContextAt, below, box_at, has_box, is_marked, keeps, root}
use Rattle.lay_box_tree.specs.declared.box_tree.BoxNode.{BoxNode}
use Rattle.lay_contexts.specs.ContextList.{AreContextsOf, IsNumberedTo, boxes_at, boxes_of_spots, number_before}
use Rattle.lay_contexts.specs.Contexts.{Context, no_context}
use Rattle.lay_contexts.specs.ContextTree.{IsAround, StandsIn, further, parent, parent_of}
use Rattle.lay_contexts.specs.DocumentContexts.{AreDocumentContexts, root_spot, spot_at}
use Rattle.lay_contexts.specs.ListedContexts.{AreContextPlaces}
use Rattle.lay_contexts.specs.declared.context_spot.ContextSpot.{ContextSpot}
use Rattle.lay_context.proofs.Cited.{PlacesTo, all_places, contexts_stand_once, length-parents, no_more, not_true, one_more}
use Rattle.lay_context.proofs.FoundLists.{found_list}

abbrev Either : Type 0 → Type 0
Either P = P ⊎ (P → ⊥)

truth : (b : Bool) → Either (IsTrue b)
truth true = inl refl
truth false = inr (not_true false refl)

-- of what it follows that a node generates a box
made : (nodes : List Node) (styles : List Style) (k : ℕ) → GeneratesBox nodes styles k
    → (k ≡ 0 → IsTrue (has_box (box_at nodes styles 0)))
    × (0 < k → IsTrue (keeps (box_at nodes styles (slice_index (parents_of nodes) k)) (box_at nodes styles k)) × GeneratesBox nodes styles (slice_index (parents_of nodes) k))
made nodes styles k (root is) = (λ e. is, λ some. absurd (omega (arith, some)))
made nodes styles k (below j above kept up) = (λ e. absurd (omega (arith, e, above)), λ some. (kept, up))

module _ (d : Document) (styles : List Style) (is : IsDocument d) (counted : length styles ≡ length d.nodes) where
  parent_low : (k : ℕ) → 0 < k → k < length d.nodes → parent_of d.nodes k < k
  parent_low k some lt = let n = length-parents d.nodes in is.tree.before k some (omega (arith, lt, n))

  -- whether nodes generate boxes, from parents to children
  generates : (n : ℕ) → n ≤ length d.nodes → (k : ℕ) → k < n → Either (GeneratesBox d.nodes styles k)
  generates zero le k lt = absurd (omega (arith, lt))
  generates (suc n) le k lt = by k lt (generates n (omega (arith, le)))
    where
      below_by : (k : ℕ) → 0 < k → Either (IsTrue (keeps (box_at d.nodes styles (parent_of d.nodes k)) (box_at d.nodes styles k)))
          → Either (GeneratesBox d.nodes styles (parent_of d.nodes k)) → Either (GeneratesBox d.nodes styles k)
      below_by k some (inl kept) (inl up) = inl (below k some kept up)
      below_by k some (inl kept) (inr not) = inr (λ g. not ((made d.nodes styles k g).1 some).1)
      below_by k some (inr not) up = inr (λ g. not ((made d.nodes styles k g).1 some).0)

      root_by : Either (IsTrue (has_box (box_at d.nodes styles 0))) → Either (GeneratesBox d.nodes styles 0)
      root_by (inl has) = inl (root has)
      root_by (inr not) = inr (λ g. not ((made d.nodes styles 0 g).0 refl))

      by : (k : ℕ) → k < suc n → ((j : ℕ) → j < n → Either (GeneratesBox d.nodes styles j)) → Either (GeneratesBox d.nodes styles k)
      by zero lt up = root_by (truth (has_box (box_at d.nodes styles 0)))
      by (suc k) lt up =
          let low = parent_low (suc k) (omega arith) (omega (arith, lt, le)) in
          below_by (suc k) (omega arith) (truth (keeps (box_at d.nodes styles (parent_of d.nodes (suc k))) (box_at d.nodes styles (suc k))))
          (up (parent_of d.nodes (suc k)) (omega (arith, low, lt)))

  is_context : (k : ℕ) → k < length d.nodes → Either (IsContextAt d.nodes styles k)
  is_context k lt = by (truth (is_marked (box_at d.nodes styles k))) (generates (length d.nodes) (omega arith) k lt)
    where
      by : Either (IsTrue (is_marked (box_at d.nodes styles k))) → Either (GeneratesBox d.nodes styles k) → Either (IsContextAt d.nodes styles k)
      by (inl mark) (inl made) = inl (record { establishes = mark; generates = made })
      by (inl mark) (inr not) = inr (λ c. not c.generates)
      by (inr not) made = inr (λ c. not c.establishes)

  -- the places of contexts
  places_to : (n : ℕ) → n ≤ length d.nodes → (places : List ℕ) × PlacesTo d.nodes styles places n
  places_to zero le = (
    [],
    record {
      are = λ i lt. absurd (omega (arith, lt));
      below = λ i lt. absurd (omega (arith, lt));
      rising = λ i j less lt. absurd (omega (arith, lt));
      all = λ k lt. absurd (omega (arith, lt));
    },
  )
  places_to (suc n) le = by (places_to n (omega (arith, le))) (is_context n (omega (arith, le)))
    where
      next : n + 1 ≡ suc n
      next = omega arith

      by : (places : List ℕ) × PlacesTo d.nodes styles places n → Either (IsContextAt d.nodes styles n) → (places : List ℕ) × PlacesTo d.nodes styles places (suc n)
      by so_far (inl context) =
          (so_far.0 ++ n ∷ [], subst (PlacesTo d.nodes styles (so_far.0 ++ n ∷ [])) next (one_more d.nodes styles so_far.0 n so_far.1 context))
      by so_far (inr none) = (so_far.0, subst (PlacesTo d.nodes styles so_far.0) next (no_more d.nodes styles so_far.0 n so_far.1 none))

  -- what is around a context stands before it
  around_low : (k a : ℕ) → IsAround d.nodes styles k a → k < length d.nodes → a < k
  around_low k a (parent j some marked) lt = parent_low j some lt
  around_low k a (further j b some unmarked up) lt =
      let low = parent_low j some lt in
      let more = around_low (parent_of d.nodes j) b up (omega (arith, low, lt)) in
      omega (arith, low, more)

  module _ (places : List ℕ) (within_nodes : (i : ℕ) → i < length places → slice_index places i < length d.nodes) (listed : AreContextPlaces d.nodes styles places) where
    -- the box of the context with the number i stands in one of these
    record Around (i : ℕ) : Type 0 where
      number : ℕ
      within : number < length places
      earlier : slice_index places number < slice_index places i
      at : ℕ
      stands : StandsIn d.nodes styles (slice_index places i) (slice_index places number) at

    around : (i : ℕ) → i < length places → 0 < slice_index places i → Around i
    around i lt some =
        let once = contexts_stand_once d styles (slice_index places i) is counted some (listed.are i lt) in
        let found = listed.all once.around once.context in
        let low = around_low (slice_index places i) once.around once.nearest (within_nodes i lt) in
        let same = found.is in record {
          number = found.number;
          within = found.within;
          earlier = omega (arith, low, same);
          at = once.at;
          stands = subst (λ (a : ℕ). StandsIn d.nodes styles (slice_index places i) a once.at) (sym same) once.stands;
        }

    -- the first one is the root's, as nothing is around that
    first_place : 0 < length places → slice_index places 0 ≡ 0
    first_place some = elim (cases_lt 0 (slice_index places 0)) [
      | inl more ↦ (let outer = around 0 some more in elim (cases_lt 0 outer.number) [
        | inl behind ↦ (let less = listed.rising 0 outer.number behind outer.within in let low = outer.earlier in omega (arith, less, low))
        | inr here ↦ (let low = outer.earlier in let same : slice_index places outer.number ≡ slice_index places 0 = ap (slice_index places) (omega (arith, here)) in omega (arith, low, same))
      ])
      | inr none ↦ omega (arith, none)
    ]

    record IsSpotOf (i : ℕ) (s : ContextSpot) : Type 0 where
      place : s.place ≡ slice_index places i
      root : i ≡ 0 → s ≡ root_spot
      within : 0 < i → s.around < length places
      stands : 0 < i → StandsIn d.nodes styles (slice_index places i) (slice_index places s.around) s.at

    spot : (i : ℕ) → i < length places → (s : ContextSpot) × IsSpotOf i s
    spot zero lt = (
      root_spot,
      record { place = sym (first_place lt); root = λ e. refl; within = λ some. absurd (omega (arith, some)); stands = λ some. absurd (omega (arith, some)) },
    )
    spot (suc i) lt =
        let less = listed.rising 0 (suc i) (omega arith) lt in
        let outer = around (suc i) lt (omega (arith, less)) in (
          record { place = slice_index places (suc i); around = outer.number; at = outer.at },
          record { place = refl; root = λ e. absurd (omega (arith, e)); within = λ some. outer.within; stands = λ some. outer.stands },
        )

    root_of : (ss : List ContextSpot) → (0 < length ss → spot_at ss 0 ≡ root_spot) → spot_at ss 0 ≡ root_spot
    root_of [] first = refl
    root_of (s ∷ ss) first = first (omega arith)

    some_spots : (spots : List ContextSpot) × AreDocumentContexts d.nodes styles spots
    some_spots =
        let found = found_list root_spot IsSpotOf (length places) spot in
        let spots : List ContextSpot = found.0 in
        let n : length spots ≡ length places = found.1 in
        let at : (i : ℕ) → i < length spots → IsSpotOf i (spot_at spots i) = λ i lt. found.2 i (omega (arith, lt, n)) in (
          spots,
          record {
            are = λ i lt. subst (IsContextAt d.nodes styles) (sym (at i lt).place) (listed.are i (omega (arith, lt, n)));
            rising = λ i j less lt.
                (let a = (at i (omega (arith, less, lt))).place in let b = (at j lt).place in
                let r = listed.rising i j less (omega (arith, lt, n)) in omega (arith, a, b, r));
            all = λ k context.
                (let l = listed.all k context in let w = l.within in
                (l.number, omega (arith, w, n), (at l.number (omega (arith, w, n))).place ∙ l.is));
            root = root_of spots (λ some. (at 0 some).root refl);
            within = λ i some lt. (let w = (at i lt).within some in omega (arith, w, n));
            stands = λ i some lt.
                (let a = (at i lt).place in
                let w = (at i lt).within some in
                let b = (at (spot_at spots i).around (omega (arith, w, n))).place in
                rw (a, b) ((at i lt).stands some));
          },
        )

  -- each with its boxes and the numbers of those inside it
  numbered : (spots : List ContextSpot) (boxes : List (List BoxNode)) (i : ℕ) → (c : Context) × IsNumberedTo spots boxes c (length spots) i
  numbered spots boxes i =
      let s : ContextSpot = spot_at spots i in
      let bs : List BoxNode = boxes_at boxes i in
      let f : ℕ → ℕ = number_before spots (length spots) i in (
        record { place = s.place; outer = s.around; outer_box = s.at; boxes = bs; inner = map f (range_with_len 0 (length bs)) },
        record {
          spot = refl;
          boxes_are = refl;
          count = length-map-range_with_len f 0 (length bs);
          inner = λ k lt. get_or-map-range_with_len f 0 (length bs) k k 0 lt (omega arith);
        },
      )

  pub some_contexts : (contexts : List Context) × AreContextsOf d.nodes styles contexts
  some_contexts =
      let places = places_to (length d.nodes) (omega arith) in
      let listed = all_places d.nodes styles places.0 (length d.nodes) refl places.1 in
      let spots = some_spots places.0 places.1.below listed in
      let boxes = boxes_of_spots d.nodes styles spots.0 in
      let found = found_list no_context (λ (i : ℕ) (c : Context). IsNumberedTo spots.0 boxes c (length spots.0) i) (length spots.0) (λ i lt. numbered spots.0 boxes i) in
      let n = found.1 in
      (found.0, record { spots = spots.0; are = spots.1; numbered = record { count = n; each = λ i lt. found.2 i (omega (arith, lt, n)) } })
