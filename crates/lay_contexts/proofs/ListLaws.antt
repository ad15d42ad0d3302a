-- The laws of the list of formatting contexts.
use Rattle.std.proofs.Common.{◌≡◌, ℕ, zero, suc, ◌+◌, ◌<◌, ◌≤◌, Bool, true, false, not, nat_lt, List, [], ◌∷◌, ◌++◌, add-one, append-nil, length, map, slice_index, take, refl, ap, sym, ◌∙◌, arith}
use Rattle.std.proofs.lemmas.List.{map-append, take_all, take_more, ext_get_or}
use Rattle.std.proofs.lemmas.List.Elements.{filter-append}
use Rattle.lay_box_tree.specs.declared.box_tree.BoxNode.{BoxNode}
use Rattle.lay_contexts.specs.Contexts.{AreContexts, Context, boxes_in, context_at, no_context}
use Rattle.lay_contexts.specs.FormattingBoxes.{boxes_of_root, rank}
use Rattle.lay_box_tree.specs.BoxColumns.{box_at}
use Rattle.lay_contexts.specs.FormattingContexts.{FormattingContext, formatting_context_at, no_formatting_context}
use Rattle.lay_contexts.specs.FormattingContextList.{AreFormattingContextsOf, AreHomesOf, first_number, formatting_context_of, homes_in, inner_numbers, number_at, number_of, rank_at, spot_of}
use Rattle.lay_contexts.specs.Homes.{AreHomes, is_root}
use Rattle.lay_contexts.specs.FormattingLaws.{BoxesStandAtHome, OneFormattingContextList, WholeContextsKeepBoxes, of_elements}
use Rattle.lay_contexts.specs.declared.spot.Spot.{Spot}
use Rattle.lay_contexts.proofs.AtHome.{is_home}
use Rattle.lay_contexts.proofs.ContextFacts.{boxes_around, home_there, home_root, rank_there, some_box, spot_there}
use Rattle.lay_contexts.proofs.NearestRoots.{one_home_lem}
use Rattle.lay_contexts.proofs.RootBoxes.{at_rank}
use Rattle.lay_contexts.proofs.RootNumbers.{number_lt, numbered, roots_no, roots_yes}
use Rattle.lay_contexts.proofs.WholeBoxes.{own_same, whole_boxes}

-- the homes of the boxes of a context are those
pub one_column : (boxes : List BoxNode) (g h : List ℕ) → AreHomes boxes g → AreHomes boxes h → g ≡ h
one_column boxes g h a b =
    ext_get_or 0 g h (a.count ∙ sym b.count) (λ k lt. one_home_lem boxes k (slice_index g k) (slice_index h k) (a.each k (omega (arith, lt, a.count))) (b.each k (omega (arith, lt, a.count))))

abbrev value : Bool → ℕ → ℕ → List BoxNode → List ℕ → FormattingContext
value anonymous outer outer_box boxes inner = record { anonymous = anonymous; outer = outer; outer_box = outer_box; boxes = boxes; inner = inner }

joined : (n : Bool) (o p k l : ℕ) (bs cs : List BoxNode) (is js : List ℕ) → o ≡ p → k ≡ l → bs ≡ cs → is ≡ js → value n o k bs is ≡ value n p l cs js
joined n o p k l bs cs is js e f g h = rw (e, f, g, h) refl

module _ (contexts : List Context) (x y : List (List ℕ)) (are : AreContexts contexts) (a : AreHomesOf contexts x) (b : AreHomesOf contexts y) where
  one_homes : (i : ℕ) → i < length contexts → homes_in x i ≡ homes_in y i
  one_homes i lt = one_column (boxes_in contexts i) (homes_in x i) (homes_in y i) (a.each i lt) (b.each i lt)

  -- so their formatting contexts are the same
  one_value : (i r : ℕ) → i < length contexts → r < length (boxes_in contexts i) → formatting_context_of contexts x i r ≡ formatting_context_of contexts y i r
  one_value i r lt inside =
      let s : Spot = spot_of contexts i r in
      let around = one_homes s.context (spot_there contexts are i r lt inside).context in
      let here = one_homes i lt in
      let outer : number_at contexts x s ≡ number_at contexts y s = ap (λ (hs : List ℕ). number_of contexts s.context (slice_index hs s.place)) around in
      let outer_box : rank_at x s ≡ rank_at y s = ap (λ (hs : List ℕ). rank hs s.place) around in
      let boxes : boxes_of_root (boxes_in contexts i) (homes_in x i) r ≡ boxes_of_root (boxes_in contexts i) (homes_in y i) r = ap (λ (hs : List ℕ). boxes_of_root (boxes_in contexts i) hs r) here in
      let inner : inner_numbers contexts x i r ≡ inner_numbers contexts y i r = rw here refl in
      joined (nat_lt 0 r) (number_at contexts x s) (number_at contexts y s) (rank_at x s) (rank_at y s) (boxes_of_root (boxes_in contexts i) (homes_in x i) r) (boxes_of_root (boxes_in contexts i) (homes_in y i) r)
      (inner_numbers contexts x i r) (inner_numbers contexts y i r) outer outer_box boxes inner

pub one_list : OneFormattingContextList
one_list contexts x y are a b =
    ext_get_or no_formatting_context x y (a.count ∙ sym b.count) (λ m lt. (let n = numbered contexts (length contexts) m (omega (arith, lt, a.count)) in
    ap (formatting_context_at x) (sym n.number) ∙ a.each n.context n.place n.before n.inside n.root
    ∙ one_value contexts a.homes b.homes are a.homes_are b.homes_are n.context n.place n.before n.inside
    ∙ sym (b.each n.context n.place n.before n.inside n.root) ∙ ap (formatting_context_at y) n.number))

-- each box stands in the list of its home
pub at_home : BoxesStandAtHome
at_home contexts all of i k are lt positive inside =
    let hs : List ℕ = homes_in of.homes i in
    let h : ℕ = slice_index hs k in
    let b = boxes_around contexts all are of i k lt inside in
    let low = number_lt contexts i (length contexts) h lt (home_there contexts of.homes are of.homes_are i k lt inside) (home_root contexts of.homes are of.homes_are i k lt inside) in
    record {
      within = omega (arith, low, of.count);
      inside = rw b (rank_there contexts of.homes are of.homes_are i k lt inside);
      box = rw b (at_rank (boxes_in contexts i) hs h k inside (is_home hs h k positive refl));
    }

-- and where there is no other root it's the same list
pub whole : WholeContextsKeepBoxes
whole contexts all i are of lt none =
    let some = some_box contexts are i lt in
    let e = ap (λ (f : FormattingContext). f.boxes) (of.each i 0 lt some refl) in
    e ∙ whole_boxes (boxes_in contexts i) (homes_in of.homes i) (are.boxes i lt) (of.homes_are.each i lt) none

-- those of elements, as the list goes on
abbrev owns : List FormattingContext → List BoxNode
owns all = map (λ (f : FormattingContext). box_at f.boxes 0) (of_elements all)

abbrev context_owns : List Context → List BoxNode
context_owns contexts = map (λ (c : Context). box_at c.boxes 0) contexts

owns_more : (fs : List FormattingContext) (f : FormattingContext) → owns (fs ++ f ∷ []) ≡ owns fs ++ owns (f ∷ [])
owns_more fs f = ap (map (λ (f : FormattingContext). box_at f.boxes 0)) (filter-append (λ (f : FormattingContext). not f.anonymous) fs (f ∷ [])) ∙ map-append (λ (f : FormattingContext). box_at f.boxes 0) (of_elements fs) (of_elements (f ∷ []))

above_zero : (r : ℕ) → nat_lt 0 (suc r) ≡ true
above_zero r = grind arith

anonymous_owns : (f : FormattingContext) → f.anonymous ≡ true → owns (f ∷ []) ≡ []
anonymous_owns f e = rw e refl

element_owns : (f : FormattingContext) → f.anonymous ≡ false → owns (f ∷ []) ≡ box_at f.boxes 0 ∷ []
element_owns f e = rw e refl

context_owns_more : (cs : List Context) (c : Context) → context_owns (cs ++ c ∷ []) ≡ context_owns cs ++ box_at c.boxes 0 ∷ []
context_owns_more cs c = map-append (λ (c : Context). box_at c.boxes 0) cs (c ∷ [])

module _ (contexts : List Context) (all : List FormattingContext) (are : AreContexts contexts) (of : AreFormattingContextsOf contexts all) where
  -- the list up to that of a root
  with_root : (i r : ℕ) → i < length contexts → r < length (boxes_in contexts i) → is_root (boxes_in contexts i) r ≡ true
      → take (number_of contexts i r + 1) all ≡ take (number_of contexts i r) all ++ formatting_context_of contexts of.homes i r ∷ []
  with_root i r lt inside root =
      let low = number_lt contexts i (length contexts) r lt inside root in
      take_more all (number_of contexts i r) no_formatting_context (omega (arith, low, of.count)) ∙ ap (λ (f : FormattingContext). take (number_of contexts i r) all ++ f ∷ []) (of.each i r lt inside root)

  -- with the context's own box
  with_own : (i : ℕ) → i < length contexts → owns (take (first_number contexts i) all) ≡ context_owns (take i contexts) → owns (take (number_of contexts i 1) all) ≡ context_owns (take (i + 1) contexts)
  with_own i lt before =
      let some = some_box contexts are i lt in
      let f : FormattingContext = formatting_context_of contexts of.homes i 0 in
      let one : number_of contexts i 1 ≡ number_of contexts i 0 + 1 = omega arith in
      let zero_is : number_of contexts i 0 ≡ first_number contexts i = omega arith in
      let same : box_at f.boxes 0 ≡ box_at (boxes_in contexts i) 0 = own_same (boxes_in contexts i) (are.boxes i lt) in
      let left = ap (λ (n : ℕ). owns (take n all)) one ∙ ap owns (with_root i 0 lt some refl) ∙ owns_more (take (number_of contexts i 0) all) f
      ∙ ap (λ (bs : List BoxNode). bs ++ owns (f ∷ [])) (ap (λ (n : ℕ). owns (take n all)) zero_is ∙ before)
      ∙ ap (λ (bs : List BoxNode). context_owns (take i contexts) ++ bs) (element_owns f refl ∙ ap (λ (b : BoxNode). b ∷ []) same) in
      let right = ap context_owns (take_more contexts i no_context lt) ∙ context_owns_more (take i contexts) (context_at contexts i) in
      left ∙ sym right

  step : (i r : ℕ) (b : Bool) → i < length contexts → suc r < length (boxes_in contexts i) → is_root (boxes_in contexts i) (suc r) ≡ b → owns (take (number_of contexts i (suc r)) all) ≡ context_owns (take (i + 1) contexts)
      → owns (take (number_of contexts i (suc (suc r))) all) ≡ context_owns (take (i + 1) contexts)
  step i r true lt inside e before =
      let f : FormattingContext = formatting_context_of contexts of.homes i (suc r) in
      let one : number_of contexts i (suc (suc r)) ≡ number_of contexts i (suc r) + 1 = (let y = roots_yes (boxes_in contexts i) (suc r) e in omega (arith, y)) in
      ap (λ (n : ℕ). owns (take n all)) one ∙ ap owns (with_root i (suc r) lt inside e) ∙ owns_more (take (number_of contexts i (suc r)) all) f
      ∙ ap (λ (bs : List BoxNode). owns (take (number_of contexts i (suc r)) all) ++ bs) (anonymous_owns f (above_zero r)) ∙ append-nil (owns (take (number_of contexts i (suc r)) all)) ∙ before
  step i r false lt inside e before =
      let none : number_of contexts i (suc (suc r)) ≡ number_of contexts i (suc r) = (let y = roots_no (boxes_in contexts i) (suc r) e in omega (arith, y)) in
      ap (λ (n : ℕ). owns (take n all)) none ∙ before

  in_context : (i r : ℕ) → i < length contexts → r < length (boxes_in contexts i) → owns (take (first_number contexts i) all) ≡ context_owns (take i contexts)
      → owns (take (number_of contexts i (suc r)) all) ≡ context_owns (take (i + 1) contexts)
  in_context i zero lt inside before = with_own i lt before
  in_context i (suc r) lt inside before = step i r (is_root (boxes_in contexts i) (suc r)) lt inside refl (in_context i r lt (omega (arith, inside)) before)

  in_all : (i n : ℕ) → i < length contexts → n ≡ length (boxes_in contexts i) → owns (take (first_number contexts i) all) ≡ context_owns (take i contexts)
      → owns (take (first_number contexts (suc i)) all) ≡ context_owns (take (suc i) contexts)
  in_all i zero lt e before = absurd (let some = some_box contexts are i lt in omega (arith, some, e))
  in_all i (suc n) lt e before =
      let here = in_context i n lt (omega (arith, e)) before in
      let q = ap (λ (m : ℕ). owns (take (number_of contexts i m) all)) e in
      let s = ap (λ (m : ℕ). context_owns (take m contexts)) (add-one i) in
      sym q ∙ here ∙ s

  up_to : (i : ℕ) → i ≤ length contexts → owns (take (first_number contexts i) all) ≡ context_owns (take i contexts)
  up_to zero le = refl
  up_to (suc i) le = in_all i (length (boxes_in contexts i)) (omega (arith, le)) refl (up_to i (omega (arith, le)))

  pub element_contexts : map (λ (f : FormattingContext). box_at f.boxes 0) (of_elements all) ≡ map (λ (c : Context). box_at c.boxes 0) contexts
  element_contexts =
      let e = up_to (length contexts) (omega arith) in
      let a = ap owns (take_all (first_number contexts (length contexts)) all (omega (arith, of.count))) in
      let b = ap context_owns (take_all (length contexts) contexts (omega arith)) in
      sym a ∙ e ∙ b
