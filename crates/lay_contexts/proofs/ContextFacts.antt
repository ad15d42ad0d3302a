-- The formatting contexts of contexts stand in order, each behind the one around it, and each has boxes.
use Rattle.std.proofs.Common.{◌≡◌, ℕ, zero, suc, ◌<◌, Bool, true, false, List, length, map, slice_index, refl, ap, sym, ◌∙◌, arith}
use Rattle.std.proofs.lemmas.List.{get_or-map, length-map}
use Rattle.lay_box_tree.specs.declared.box_tree.BoxNode.{BoxNode}
use Rattle.lay_box_tree.specs.ContextBoxes.{AreContextBoxes}
use Rattle.lay_contexts.specs.Contexts.{AreContexts, Context, IsInside as IsInsideContext, boxes_in, context_at}
use Rattle.lay_contexts.specs.FormattingBoxes.{at_home_before, boxes_of_root, rank}
use Rattle.lay_contexts.specs.FormattingContexts.{AreFormattingContexts, FormattingContext, IsInside, boxes_in as boxes_of, formatting_context_at}
use Rattle.lay_contexts.specs.FormattingContextList.{AreFormattingContextsOf, AreHomesOf, first_number, formatting_context_of, homes_in, inner_number, inner_numbers, number_at, number_of, spot_of}
use Rattle.lay_contexts.specs.Homes.{is_root}
use Rattle.lay_contexts.specs.declared.spot.Spot.{Spot}
use Rattle.lay_contexts.proofs.AtHome.{home_is, is_home, place_there, stands_there}
use Rattle.lay_contexts.proofs.NearestRoots.{home_before, home_is_root, home_within}
use Rattle.lay_contexts.proofs.RootBoxes.{length_is, rank_is, root_boxes}
use Rattle.lay_contexts.proofs.RootNumbers.{Numbered, number_lt, numbered, roots_lt}

-- a box of a context
pub record IsThere (contexts : List Context) (s : Spot) : Type 0 where
  pub context : s.context < length contexts
  pub place : s.place < length (boxes_in contexts s.context)

module _ (contexts : List Context) (are : AreContexts contexts) where
  pub some_box : (i : ℕ) → i < length contexts → 0 < length (boxes_in contexts i)
  some_box i lt = (are.boxes i lt).some

  -- the box of a formatting context is a box of a context
  pub spot_there : (i r : ℕ) → i < length contexts → r < length (boxes_in contexts i) → IsThere contexts (spot_of contexts i r)
  spot_there zero zero lt inside = record { context = lt; place = inside }
  spot_there (suc i) zero lt inside = record {
    context = (let o = are.outer (suc i) (omega arith) lt in omega (arith, o, lt));
    place = are.outer_box (suc i) (omega arith) lt;
  }
  spot_there zero (suc r) lt inside = record { context = lt; place = inside }
  spot_there (suc i) (suc r) lt inside = record { context = lt; place = inside }

module _ (contexts : List Context) (homes : List (List ℕ)) (are : AreContexts contexts) (found : AreHomesOf contexts homes) where
  home_of : Spot → ℕ
  home_of s = slice_index (homes_in homes s.context) s.place

  pub home_there : (i k : ℕ) → i < length contexts → k < length (boxes_in contexts i) → slice_index (homes_in homes i) k < length (boxes_in contexts i)
  home_there i k lt inside = home_within (boxes_in contexts i) (are.boxes i lt).tree k (slice_index (homes_in homes i) k) inside ((found.each i lt).each k inside)

  pub home_root : (i k : ℕ) → i < length contexts → k < length (boxes_in contexts i) → is_root (boxes_in contexts i) (slice_index (homes_in homes i) k) ≡ true
  home_root i k lt inside = home_is_root (boxes_in contexts i) k (slice_index (homes_in homes i) k) ((found.each i lt).each k inside)

  pub home_low : (i k : ℕ) → i < length contexts → 0 < k → k < length (boxes_in contexts i) → slice_index (homes_in homes i) k < k
  home_low i k lt positive inside = home_before (boxes_in contexts i) (are.boxes i lt).tree k (slice_index (homes_in homes i) k) inside ((found.each i lt).each k inside) positive

  -- a box has a place in the list of its home
  pub rank_there : (i k : ℕ) → i < length contexts → k < length (boxes_in contexts i)
      → rank (homes_in homes i) k < length (boxes_of_root (boxes_in contexts i) (homes_in homes i) (slice_index (homes_in homes i) k))
  rank_there i zero lt inside = (let l = length_is (boxes_in contexts i) (homes_in homes i) (slice_index (homes_in homes i) 0) in omega (arith, l))
  rank_there i (suc k) lt inside =
      let boxes : List BoxNode = boxes_in contexts i in
      let hs : List ℕ = homes_in homes i in
      let h : ℕ = slice_index hs (suc k) in
      let home = is_home hs h (suc k) (omega arith) refl in
      let s = stands_there hs h (length boxes) (suc k) inside home in
      let l = length_is boxes hs h in
      let e = rank_is hs h (suc k) home in
      let within = s.inside in
      omega (arith, l, e, within)

  -- the formatting context around that of a root has a lower number
  around_before : (i r : ℕ) → i < length contexts → r < length (boxes_in contexts i) → 0 < number_of contexts i r → number_at contexts homes (spot_of contexts i r) < number_of contexts i r
  around_before zero zero lt inside some = absurd (omega (arith, some))
  around_before (suc i) zero lt inside some =
      let s = spot_there contexts are (suc i) zero lt inside in
      let o : ℕ = (context_at contexts (suc i)).outer in
      let k : ℕ = (context_at contexts (suc i)).outer_box in
      let before = are.outer (suc i) (omega arith) lt in
      let low = number_lt contexts o (suc i) (slice_index (homes_in homes o) k) before (home_there o k s.context s.place) (home_root o k s.context s.place) in
      omega (arith, low)
  around_before zero (suc r) lt inside some =
      let low = roots_lt (boxes_in contexts zero) (slice_index (homes_in homes zero) (suc r)) (suc r) (home_root zero (suc r) lt inside) (home_low zero (suc r) lt (omega arith) inside) in
      omega (arith, low)
  around_before (suc i) (suc r) lt inside some =
      let low = roots_lt (boxes_in contexts (suc i)) (slice_index (homes_in homes (suc i)) (suc r)) (suc r) (home_root (suc i) (suc r) lt inside) (home_low (suc i) (suc r) lt (omega arith) inside) in
      omega (arith, low)

  pub inner_length : (i r : ℕ) → length (inner_numbers contexts homes i r) ≡ length (boxes_of_root (boxes_in contexts i) (homes_in homes i) r)
  inner_length i r =
      let a = length-map (at_home_before (homes_in homes i) r (length (boxes_in contexts i))) (inner_number contexts i) in
      let b = length_is (boxes_in contexts i) (homes_in homes i) r in
      omega (arith, a, b)

  -- the formatting context with the number j is that of a root whose box stands at k in the context i
  pub record IsStanding (i k j : ℕ) : Type 0 where
    pub context : ℕ
    pub place : ℕ
    pub before : context < length contexts
    pub inside : place < length (boxes_in contexts context)
    pub root : is_root (boxes_in contexts context) place ≡ true
    pub number : number_of contexts context place ≡ j
    pub spot : spot_of contexts context place ≡ record { context = i; place = k }

  -- an inner formatting context stands behind, in the list of its home
  pub record IsBehind (i r j : ℕ) : Type 0 where
    pub behind : number_of contexts i r < j
    pub within : j < first_number contexts (length contexts)
    pub box : ℕ
    pub home : slice_index (homes_in homes i) box ≡ r
    pub stands : IsStanding i box j

  -- a root inside a context stands where it is
  spot_inside : (i k : ℕ) → 0 < k → spot_of contexts i k ≡ record { context = i; place = k }
  spot_inside i zero some = absurd (omega (arith, some))
  spot_inside zero (suc k) some = refl
  spot_inside (suc i) (suc k) some = refl

  number_by : (i r k j : ℕ) (b : Bool) → i < length contexts → r < k → k < length (boxes_in contexts i) → slice_index (homes_in homes i) k ≡ r → is_root (boxes_in contexts i) r ≡ true → is_root (boxes_in contexts i) k ≡ b → inner_number contexts i k ≡ j → 0 < j → IsBehind i r j
  number_by i r k j true lt less inside home root e is some =
      let q : number_of contexts i k ≡ j = (let n : inner_number contexts i k ≡ number_of contexts i k = rw e refl in sym n ∙ is) in
      let a = roots_lt (boxes_in contexts i) r k root less in
      let b = number_lt contexts i (length contexts) k lt inside e in
      record {
        behind = omega (arith, a, q);
        within = omega (arith, b, q);
        box = k;
        home = home;
        stands = record { context = i; place = k; before = lt; inside = inside; root = e; number = q; spot = spot_inside i k (omega (arith, less)) };
      }
  number_by i r k j false lt less inside home root e is some =
      let x : ℕ = slice_index (context_at contexts i).inner k in
      let q : first_number contexts x ≡ j = (let n : inner_number contexts i k ≡ first_number contexts x = rw e refl in sym n ∙ is) in
      by_context x refl q
    where
      by_context : (x : ℕ) → slice_index (context_at contexts i).inner k ≡ x → first_number contexts x ≡ j → IsBehind i r j
      by_context zero n q = absurd (omega (arith, q, some))
      by_context (suc x) n q =
          let has : IsInsideContext contexts i (suc x) = record { box = k; within = (let c = are.count i lt in omega (arith, c, inside)); number = n; some = omega arith } in
          let behind = are.behind i (suc x) lt has in
          let within = are.within i (suc x) lt has in
          let first = some_box contexts are (suc x) within in
          let a = number_lt contexts i (suc x) r behind (omega (arith, less, inside)) root in
          let b = number_lt contexts (suc x) (length contexts) 0 within first refl in
          let around = are.around i (suc x) lt has in
          let at = are.at i (suc x) lt has in
          let own : number_of contexts (suc x) 0 ≡ j = omega (arith, q) in
          record {
            behind = omega (arith, a, q);
            within = omega (arith, b, q);
            box = k;
            home = home;
            stands = record { context = suc x; place = 0; before = within; inside = first; root = refl; number = own; spot = rw (around, at) refl };
          }

  pub is_behind : (i r box j : ℕ) → i < length contexts → r < length (boxes_in contexts i) → is_root (boxes_in contexts i) r ≡ true → box < length (inner_numbers contexts homes i r)
      → slice_index (inner_numbers contexts homes i r) box ≡ j → 0 < j → IsBehind i r j
  is_behind i r zero j lt inside root within is some = absurd (omega (arith, is, some))
  is_behind i r (suc a) j lt inside root within is some =
      let boxes : List BoxNode = boxes_in contexts i in
      let hs : List ℕ = homes_in homes i in
      let ks : List ℕ = at_home_before hs r (length boxes) in
      let count = length-map ks (inner_number contexts i) in
      let s = place_there hs r (length boxes) a (omega (arith, within, count)) in
      let k : ℕ = slice_index ks a in
      let n : slice_index (map (inner_number contexts i) ks) a ≡ inner_number contexts i k = get_or-map (inner_number contexts i) ks a 0 0 s.inside in
      let h = home_is hs r k s.home in
      let low = home_low i k lt h.0 s.before in
      number_by i r k j (is_root boxes k) lt (omega (arith, low, h.1)) s.before h.1 root refl (sym n ∙ is) some

module _ (contexts : List Context) (all : List FormattingContext) (are : AreContexts contexts) (of : AreFormattingContextsOf contexts all) where
  pub root_of : (m : ℕ) → m < length all → Numbered contexts (length contexts) m
  root_of m lt = numbered contexts (length contexts) m (omega (arith, lt, of.count))

  pub value_of : (m : ℕ) → m < length all → (n : Numbered contexts (length contexts) m) → formatting_context_at all m ≡ formatting_context_of contexts of.homes n.context n.place
  value_of m lt n = ap (formatting_context_at all) (sym n.number) ∙ of.each n.context n.place n.before n.inside n.root

  -- the boxes around a box of a context
  pub boxes_around : (i k : ℕ) → i < length contexts → k < length (boxes_in contexts i)
      → boxes_of all (number_of contexts i (slice_index (homes_in of.homes i) k)) ≡ boxes_of_root (boxes_in contexts i) (homes_in of.homes i) (slice_index (homes_in of.homes i) k)
  boxes_around i k lt inside =
      let hs : List ℕ = homes_in of.homes i in
      ap (λ (f : FormattingContext). f.boxes) (of.each i (slice_index hs k) lt (home_there contexts of.homes are of.homes_are i k lt inside) (home_root contexts of.homes are of.homes_are i k lt inside))

  stand_boxes : (m : ℕ) → m < length all → AreContextBoxes (boxes_of all m)
  stand_boxes m lt =
      let n = root_of m lt in
      let e = ap (λ (f : FormattingContext). f.boxes) (value_of m lt n) in
      rw e (root_boxes (boxes_in contexts n.context) (homes_in of.homes n.context) n.place (are.boxes n.context n.before) (of.homes_are.each n.context n.before))

  stand_outer : (m : ℕ) → 0 < m → m < length all → (formatting_context_at all m).outer < m
  stand_outer m some lt =
      let n = root_of m lt in
      let e = ap (λ (f : FormattingContext). f.outer) (value_of m lt n) in
      let low = around_before contexts of.homes are of.homes_are n.context n.place n.before n.inside (omega (arith, some, n.number)) in
      omega (arith, e, low, n.number)

  stand_outer_box : (m : ℕ) → 0 < m → m < length all → (formatting_context_at all m).outer_box < length (boxes_of all (formatting_context_at all m).outer)
  stand_outer_box m some lt =
      let n = root_of m lt in
      let e = ap (λ (f : FormattingContext). f.outer) (value_of m lt n) in
      let f = ap (λ (f : FormattingContext). f.outer_box) (value_of m lt n) in
      let s : Spot = spot_of contexts n.context n.place in
      let t = spot_there contexts are n.context n.place n.before n.inside in
      let b = boxes_around s.context s.place t.context t.place in
      rw (e, f, b) (rank_there contexts of.homes are of.homes_are s.context s.place t.context t.place)

  stand_count : (m : ℕ) → m < length all → length (formatting_context_at all m).inner ≡ length (boxes_of all m)
  stand_count m lt =
      let n = root_of m lt in
      let e = ap (λ (f : FormattingContext). length f.inner) (value_of m lt n) in
      let f = ap (λ (f : FormattingContext). length f.boxes) (value_of m lt n) in
      rw (e, f) (inner_length contexts of.homes are of.homes_are n.context n.place)

  stand_behind : (m j : ℕ) → m < length all → IsInside all m j → (m < j) × (j < length all) × ((formatting_context_at all j).outer ≡ m)
  stand_behind m j lt has =
      let n = root_of m lt in
      let e = ap (λ (f : FormattingContext). f.inner) (value_of m lt n) in
      let within = rw e at has.within in
      let number = rw e at has.number in
      let b = is_behind contexts of.homes are of.homes_are n.context n.place has.box j n.before n.inside n.root within number has.some in
      let low = b.behind in
      let high = b.within in
      let s = b.stands in
      let there = ap (λ (f : FormattingContext). f.outer) (value_of j (omega (arith, high, of.count)) (record { context = s.context; place = s.place; before = s.before; inside = s.inside; root = s.root; number = s.number })) in
      let around = there ∙ ap (number_at contexts of.homes) s.spot ∙ ap (number_of contexts n.context) b.home ∙ n.number in
      (omega (arith, low, n.number), omega (arith, high, of.count), around)

  pub in_order : AreFormattingContexts all
  in_order = record {
    boxes = stand_boxes;
    outer = stand_outer;
    outer_box = stand_outer_box;
    count = stand_count;
    behind = λ i j lt has. (stand_behind i j lt has).0;
    within = λ i j lt has. (stand_behind i j lt has).1;
    around = λ i j lt has. (stand_behind i j lt has).2;
  }
