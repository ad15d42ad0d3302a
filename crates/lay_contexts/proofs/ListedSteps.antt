-- The lists of which the contexts of a document are made, while they grow.
use Rattle.std.proofs.Common.{◌≡◌, ◌≢◌, ◌<◌, ℕ, zero, suc, ◌+◌, ◌==◌, Bool, true, false, IsTrue, List, [], ◌∷◌, ◌++◌, length, length-append, map, slice_index, slice_set, refl, ap, sym, subst, ◌∙◌, arith, inl, inr, Option, Some, None, IfSome, option_map}
use Rattle.std.proofs.lemmas.Bool.{cases_eq, cases_lt}
use Rattle.std.proofs.lemmas.Grind.{elements}
use Rattle.std.proofs.lemmas.List.{ext_get_or}
use Rattle.lay_style.specs.declared.style.Style.{Style}
use Rattle.lay_style.specs.Places.{place_of}
use Rattle.lay_doc.specs.declared.node.Node.{Node}
use Rattle.lay_boxgen.specs.Contexts.{IsContextAt, box_at, is_marked}
use Rattle.lay_box_tree.specs.declared.box_tree.BoxNode.{BoxNode}
use Rattle.lay_contexts.specs.ContextTree.{StandsIn, boxes_of_place}
use Rattle.lay_contexts.specs.DocumentContexts.{AreDocumentContexts, root_spot, spot_at}
use Rattle.lay_contexts.specs.declared.context_spot.ContextSpot.{ContextSpot}
use Rattle.lay_contexts.proofs.OneStand.{marked-true, within}
use Rattle.lay_contexts.specs.ContextList.{boxes_of_spots}
use Rattle.lay_contexts.specs.ListedContexts.{AreContextPlaces, AreSpots, AreStanding, IsContextListed, IsSpot, ContextStands, boxes_of_places, listed_standing_at}
use Rattle.lay_contexts.specs.declared.standing.Standing.{Standing}

pub not_true : (b : Bool) → b ≡ false → IsTrue b → ⊥
not_true true e t = cc
not_true false e t = cc

pub context_within : (nodes : List Node) (styles : List Style) (k : ℕ) → IsContextAt nodes styles k → k < length nodes
context_within nodes styles k is = within nodes styles k (marked-true (is_marked (box_at nodes styles k)) is.establishes)

number_before : (xs : List ℕ) (x k : ℕ) → k < length xs → slice_index (xs ++ x ∷ []) k ≡ slice_index xs k
number_before xs x k lt = grind (arith, elements)

number_last : (xs : List ℕ) (x k : ℕ) → k ≡ length xs → slice_index (xs ++ x ∷ []) k ≡ x
number_last xs x k e = grind (arith, elements)

module _ (nodes : List Node) (styles : List Style) where
  -- the contexts among the first n nodes
  pub record PlacesTo (places : List ℕ) (n : ℕ) : Type 0 where
    pub are : (i : ℕ) → i < length places → IsContextAt nodes styles (slice_index places i)
    pub below : (i : ℕ) → i < length places → slice_index places i < n
    pub rising : (i j : ℕ) → i < j → j < length places → slice_index places i < slice_index places j
    pub all : (k : ℕ) → k < n → IsContextAt nodes styles k → IsContextListed places k

  longer : (places : List ℕ) (n k : ℕ) → IsContextListed places k → IsContextListed (places ++ n ∷ []) k
  longer places n k l = record {
    number = l.number;
    within = (let c = length-append places (n ∷ []) in omega (arith, c, l.within));
    is = number_before places n l.number l.within ∙ l.is;
  }

  pub one_more : (places : List ℕ) (n : ℕ) → PlacesTo places n → IsContextAt nodes styles n → PlacesTo (places ++ n ∷ []) (n + 1)
  one_more places n so_far context =
      let counted : length (places ++ n ∷ []) ≡ length places + 1 = length-append places (n ∷ []) in
      record {
        are = λ i lt. elim (cases_lt i (length places)) [
          | inl low ↦ rw (number_before places n i low) (so_far.are i low)
          | inr high ↦ rw (number_last places n i (omega (arith, high, lt, counted))) context
        ];
        below = λ i lt. elim (cases_lt i (length places)) [
          | inl low ↦ (let b = so_far.below i low in rw (number_before places n i low) (omega (arith, b)))
          | inr high ↦ rw (number_last places n i (omega (arith, high, lt, counted))) (omega arith)
        ];
        rising = λ i j less lt. elim (cases_lt j (length places)) [
          | inl low ↦ rw (number_before places n i (omega (arith, less, low)), number_before places n j low) (so_far.rising i j less low)
          | inr high ↦ (let q : j ≡ length places = omega (arith, high, lt, counted) in
              let low : i < length places = omega (arith, less, q) in
              rw (number_before places n i low, number_last places n j q) (so_far.below i low))
        ];
        all = λ k lt is. elim (cases_lt k n) [
          | inl low ↦ longer places n k (so_far.all k low is)
          | inr high ↦ (let q : n ≡ k = omega (arith, high, lt) in record { number = length places; within = omega (arith, counted); is = number_last places n (length places) refl ∙ q })
        ];
      }

  pub no_more : (places : List ℕ) (n : ℕ) → PlacesTo places n → (IsContextAt nodes styles n → ⊥) → PlacesTo places (n + 1)
  no_more places n so_far none = record {
    are = so_far.are;
    below = λ i lt. (let b = so_far.below i lt in omega (arith, b));
    rising = so_far.rising;
    all = λ k lt is. elim (cases_lt k n) [
      | inl low ↦ so_far.all k low is
      | inr high ↦ absurd (none (let q : k ≡ n = omega (arith, high, lt) in subst (IsContextAt nodes styles) q is))
    ];
  }

  pub all_places : (places : List ℕ) (n : ℕ) → n ≡ length nodes → PlacesTo places n → AreContextPlaces nodes styles places
  all_places places n e so_far = record {
    are = so_far.are;
    rising = so_far.rising;
    all = λ k is. so_far.all k (let lt = within nodes styles k (marked-true (is_marked (box_at nodes styles k)) is.establishes) in omega (arith, lt, e)) is;
  }

standing_same : (xs : List (Option Standing)) (i j : ℕ) (x : Option Standing) → i ≢ j → listed_standing_at (slice_set xs i x) j ≡ listed_standing_at xs j
standing_same xs i j x other = grind (arith, elements, other)

standing_here : (xs : List (Option Standing)) (i : ℕ) (x : Option Standing) → i < length xs → listed_standing_at (slice_set xs i x) i ≡ x
standing_here xs i x lt = grind (arith, elements, lt)

stands_length : (xs : List (Option Standing)) (i : ℕ) (x : Option Standing) → length (slice_set xs i x) ≡ length xs
stands_length xs i x = grind (arith, elements)

-- with one more context found
pub one_found : (nodes : List Node) (styles : List Style) (places : List ℕ) (stands : List (Option Standing)) (j : ℕ) (s : Standing) → AreStanding nodes styles places stands → j < length places → ContextStands nodes styles places j s
    → AreStanding nodes styles places (slice_set stands j (Some s))
one_found nodes styles places stands j s so_far lt is = record {
  count = stands_length stands j (Some s) ∙ so_far.count;
  each = λ i low. elim (cases_eq j i) [
    | inl same ↦ rw (← same, standing_here stands j (Some s) (omega (arith, lt, so_far.count))) is
    | inr other ↦ rw (standing_same stands j i (Some s) other) (so_far.each i low)
  ];
}

pub place_is : (id : ℕ) (ids : List ℕ) (k : ℕ) → place_of id ids ≡ Some k → slice_index ids k ≡ id
place_is id [] k e = absurd cc
place_is id (x ∷ xs) k e = elim (cases_eq x id) [
  | inl same ↦ first k (sym (simp_here x id xs same) ∙ e) same
  | inr other ↦ later (place_of id xs) k refl (sym (simp_later x id xs other) ∙ e) (λ i found. place_is id xs i found)
]
  where
    simp_here : (x id : ℕ) (xs : List ℕ) → x ≡ id → place_of id (x ∷ xs) ≡ Some 0
    simp_here x id xs same = (let t : (x == id) ≡ true = grind (arith, same) in rw t refl)

    simp_later : (x id : ℕ) (xs : List ℕ) → x ≢ id → place_of id (x ∷ xs) ≡ option_map suc (place_of id xs)
    simp_later x id xs other = (let t : (x == id) ≡ false = grind (arith, other) in rw t refl)

    first : (k : ℕ) → Some 0 ≡ Some k → x ≡ id → slice_index (x ∷ xs) k ≡ id
    first k e same = (let z : 0 ≡ k = cc in rw (← z) same)

    later : (o : Option ℕ) (k : ℕ) → place_of id xs ≡ o → option_map suc o ≡ Some k → ((i : ℕ) → place_of id xs ≡ Some i → slice_index xs i ≡ id) → slice_index (x ∷ xs) k ≡ id
    later None k found e below = absurd cc
    later (Some i) k found e below = (let z : suc i ≡ k = cc in rw (← z) (below i found))

-- the spots of contexts, in order
spot_before : (ss : List ContextSpot) (s : ContextSpot) (k : ℕ) → k < length ss → spot_at (ss ++ s ∷ []) k ≡ spot_at ss k
spot_before ss s k lt = grind (arith, elements)

spot_last : (ss : List ContextSpot) (s : ContextSpot) (k : ℕ) → k ≡ length ss → spot_at (ss ++ s ∷ []) k ≡ s
spot_last ss s k e = grind (arith, elements)

pub record SpotsTo (places : List ℕ) (stands : List (Option Standing)) (spots : List ContextSpot) (n : ℕ) : Type 0 where
  pub count : length spots ≡ n
  pub each : (i : ℕ) → i < n → IsSpot i (slice_index places i) (listed_standing_at stands i) (spot_at spots i)

pub one_spot : (places : List ℕ) (stands : List (Option Standing)) (spots : List ContextSpot) (n : ℕ) (s : ContextSpot) → SpotsTo places stands spots n → IsSpot n (slice_index places n) (listed_standing_at stands n) s
    → SpotsTo places stands (spots ++ s ∷ []) (n + 1)
one_spot places stands spots n s so_far is = record {
  count = (let c = length-append spots (s ∷ []) in omega (arith, c, so_far.count));
  each = λ i lt. elim (cases_lt i n) [
    | inl low ↦ rw (spot_before spots s i (omega (arith, low, so_far.count))) (so_far.each i low)
    | inr high ↦ (let q : i ≡ n = omega (arith, high, lt) in rw (q, spot_last spots s n (sym so_far.count)) is)
  ];
}

-- the spots are those of the document's contexts
module _ (nodes : List Node) (styles : List Style) (places : List ℕ) (stands : List (Option Standing)) (spots : List ContextSpot)
    (listed : AreContextPlaces nodes styles places) (standing : AreStanding nodes styles places stands) (are : AreSpots places stands spots) where
  place_by : (i : ℕ) (place : ℕ) (o : Option Standing) (s : ContextSpot) → IsSpot i place o s → s.place ≡ place
  place_by zero place o s is = ap (λ (t : ContextSpot). t.place) is.0 ∙ sym is.1
  place_by (suc i) place o s is = is.0

  pub spot_place : (i : ℕ) → i < length places → (spot_at spots i).place ≡ slice_index places i
  spot_place i lt = place_by i (slice_index places i) (listed_standing_at stands i) (spot_at spots i) (are.each i lt)

  stands_by : (i : ℕ) (o : Option Standing) (s : ContextSpot) → 0 < i → IfSome o (ContextStands nodes styles places i) → IsSpot i (slice_index places i) o s
      → (s.around < length places) × StandsIn nodes styles (slice_index places i) (slice_index places s.around) s.at
  stands_by zero o s some known is = absurd (omega (arith, some))
  stands_by (suc i) o s some known is = rw is.1 at known

  stand : (i : ℕ) → 0 < i → i < length places → ((spot_at spots i).around < length places) × StandsIn nodes styles (slice_index places i) (slice_index places (spot_at spots i).around) (spot_at spots i).at
  stand i some lt = stands_by i (listed_standing_at stands i) (spot_at spots i) some (standing.each i lt) (are.each i lt)

  root_by : (ss : List ContextSpot) → (0 < length ss → spot_at ss 0 ≡ root_spot) → spot_at ss 0 ≡ root_spot
  root_by [] h = refl
  root_by (s ∷ ss) h = h (omega arith)

  pub document_contexts : AreDocumentContexts nodes styles spots
  document_contexts = record {
    are = λ i lt. (let l : i < length places = omega (arith, lt, are.count) in rw (spot_place i l) (listed.are i l));
    rising = λ i j less lt. (let l : j < length places = omega (arith, lt, are.count) in rw (spot_place i (omega (arith, less, l)), spot_place j l) (listed.rising i j less l));
    all = λ k context. (let l = listed.all k context in (l.number, (let w = l.within in omega (arith, w, are.count)), spot_place l.number l.within ∙ l.is));
    root = root_by spots (λ some. (are.each 0 (omega (arith, some, are.count))).0);
    within = λ i some lt. (let s = stand i some (omega (arith, lt, are.count)) in let w = s.0 in omega (arith, w, are.count));
    stands = λ i some lt. (let l : i < length places = omega (arith, lt, are.count) in let s = stand i some l in rw (spot_place i l, spot_place (spot_at spots i).around s.0) s.1);
  }

  map_length : (f : ContextSpot → ℕ) (ss : List ContextSpot) → length (map f ss) ≡ length ss
  map_length f [] = refl
  map_length f (s ∷ ss) = ap suc (map_length f ss)

  place_in : (ss : List ContextSpot) (i : ℕ) → slice_index (map (λ (s : ContextSpot). s.place) ss) i ≡ (spot_at ss i).place
  place_in [] i = refl
  place_in (s ∷ ss) zero = refl
  place_in (s ∷ ss) (suc i) = place_in ss i

  spot_boxes : (ss : List ContextSpot) → boxes_of_spots nodes styles ss ≡ boxes_of_places nodes styles (map (λ (s : ContextSpot). s.place) ss)
  spot_boxes [] = refl
  spot_boxes (s ∷ ss) = ap (λ (rest : List (List BoxNode)). boxes_of_place nodes styles s.place ∷ rest) (spot_boxes ss)

  pub same_boxes : boxes_of_places nodes styles places ≡ boxes_of_spots nodes styles spots
  same_boxes =
      let counted = map_length (λ (s : ContextSpot). s.place) spots in
      let same : map (λ (s : ContextSpot). s.place) spots ≡ places = ext_get_or 0 (map (λ (s : ContextSpot). s.place) spots) places (counted ∙ are.count)
      (λ i lt. place_in spots i ∙ spot_place i (omega (arith, lt, counted, are.count))) in
      sym (spot_boxes spots ∙ ap (boxes_of_places nodes styles) same)
