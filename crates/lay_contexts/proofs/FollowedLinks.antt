-- The formatting contexts of contexts that keep their links.
use Rattle.std.proofs.Common.{◌≡◌, inl, inr, ℕ, zero, suc, ◌+◌, ◌<◌, ◌≤◌, nat_lt, Bool, true, false, List, [], ◌∷◌, ◌++◌, length, map, slice_index, refl, ap, sym, subst, ◌∙◌, arith, if◌then◌else◌}
use Rattle.std.proofs.lemmas.Bool.{cases_lt}
use Rattle.std.proofs.Math.Path.{fun_ext}
use Rattle.lay_box_tree.specs.Containers.{box_parent}
use Rattle.lay_box_tree.specs.declared.box_tree.BoxNode.{BoxNode}
use Rattle.lay_contexts.specs.Contexts.{AreContexts, Context, boxes_in, context_at, no_context}
use Rattle.lay_contexts.specs.FormattingBoxes.{at_home_before, boxes_of_root}
use Rattle.lay_contexts.specs.FormattingContexts.{AreFormattingContexts, FormattingContext, formatting_context_at}
use Rattle.lay_contexts.specs.FormattingContextList.{AreFormattingContextsOf, AreHomesOf, first_number, formatting_context_of, homes_in, inner_number, inner_numbers, number_at, number_of, rank_at, roots_before, spot_of}
use Rattle.lay_contexts.specs.Homes.{AreHomes, IsHome, further, is_root, own, parent}
use Rattle.lay_contexts.specs.KeptLinks.{FollowTo, HasPlace, HaveForm, KeepLinks}
use Rattle.lay_contexts.specs.Partings.{IsParting, Parting}
use Rattle.lay_contexts.specs.declared.spot.Spot.{Spot}
use Rattle.lay_contexts.proofs.ContextFacts.{in_order}
use Rattle.lay_contexts.proofs.GrowingList.{all_listed, next_listed, none_listed, one_listed, one_passed}
use Rattle.lay_contexts.proofs.ListLaws.{one_column}
use Rattle.lay_contexts.proofs.RootNumbers.{first_le, number_lt}

-- boxes that stand in each other as before, with the same roots, are at home where they were
module _ (xs ys : List BoxNode) (f : HaveForm xs ys) where
  home_stays : (k h : ℕ) → IsHome xs k h → IsHome ys k h
  home_stays k h own = own
  home_stays k h (parent j positive e) =
      let p = f.parents j in
      subst (IsHome ys j) p (parent j positive (ap (is_root ys) p ∙ (f.roots (box_parent xs j) ∙ e)))
  home_stays k h (further j d positive e up) =
      let p = f.parents j in
      further j d positive (ap (is_root ys) p ∙ (f.roots (box_parent xs j) ∙ e)) (subst (λ (q : ℕ). IsHome ys q d) (sym p) (home_stays (box_parent xs j) d up))

  pub homes_stay : (homes : List ℕ) → AreHomes xs homes → AreHomes ys homes
  homes_stay homes are = record {
    count = are.count ∙ sym f.count;
    each = λ k lt. home_stays k (slice_index homes k) (are.each k (omega (arith, lt, f.count)));
  }

  abbrev step : Bool → ℕ → ℕ
  step is before = if is then (before + 1) else before

  pub roots_stay : (n : ℕ) → roots_before ys n ≡ roots_before xs n
  roots_stay zero = refl
  roots_stay (suc n) = ap (λ (b : Bool). step b (roots_before ys n)) (f.roots n) ∙ ap (step (is_root xs n)) (roots_stay n)

same_form : (xs ys : List BoxNode) → ys ≡ xs → HaveForm xs ys
same_form xs ys e = record {
  count = ap length e;
  parents = λ k. ap (λ (bs : List BoxNode). box_parent bs k) e;
  roots = λ k. ap (λ (bs : List BoxNode). is_root bs k) e;
}

same_place : (c e : Context) → e ≡ c → HasPlace c e
same_place c e is = record {
  outer = ap (λ (x : Context). x.outer) is;
  outer_box = ap (λ (x : Context). x.outer_box) is;
  inner = ap (λ (x : Context). x.inner) is;
  form = same_form c.boxes e.boxes (ap (λ (x : Context). x.boxes) is);
}

past : (cs : List Context) (i : ℕ) → length cs ≤ i → context_at cs i ≡ no_context
past [] i le = refl
past (c ∷ cs) zero le = absurd (omega (arith, le))
past (c ∷ cs) (suc i) le = past cs i (omega (arith, le))

module _ (contexts later : List Context) (is : KeepLinks contexts later) where
  -- of each number, also where there is no context
  links_at : (i : ℕ) → HasPlace (context_at contexts i) (context_at later i)
  links_at i = elim (cases_lt i (length contexts)) [
    | inl lt ↦ is.links i lt
    | inr behind ↦ same_place (context_at contexts i) (context_at later i) (past later i (omega (arith, behind, is.count)) ∙ sym (past contexts i behind))
  ]

  before_same : (i n : ℕ) → roots_before (boxes_in later i) n ≡ roots_before (boxes_in contexts i) n
  before_same i n = roots_stay (boxes_in contexts i) (boxes_in later i) (links_at i).form n

  pub count_same : (i : ℕ) → roots_before (boxes_in later i) (length (boxes_in later i)) ≡ roots_before (boxes_in contexts i) (length (boxes_in contexts i))
  count_same i = ap (roots_before (boxes_in later i)) (links_at i).form.count ∙ before_same i (length (boxes_in contexts i))

  pub first_same : (i : ℕ) → first_number later i ≡ first_number contexts i
  first_same zero = refl
  first_same (suc i) =
      ap (λ (n : ℕ). n + roots_before (boxes_in later i) (length (boxes_in later i))) (first_same i) ∙ ap (λ (n : ℕ). first_number contexts i + n) (count_same i)

  pub number_same : (i r : ℕ) → number_of later i r ≡ number_of contexts i r
  number_same i r = ap (λ (n : ℕ). n + roots_before (boxes_in later i) r) (first_same i) ∙ ap (λ (n : ℕ). first_number contexts i + n) (before_same i r)

  abbrev spot_by : ℕ → ℕ → Spot
  spot_by context place = record { context = context; place = place }

  spot_same : (i r : ℕ) → spot_of later i r ≡ spot_of contexts i r
  spot_same zero zero = refl
  spot_same (suc i) zero =
      ap (λ (c : ℕ). spot_by c (context_at later (suc i)).outer_box) (links_at (suc i)).outer ∙ ap (spot_by (context_at contexts (suc i)).outer) (links_at (suc i)).outer_box
  spot_same zero (suc r) = refl
  spot_same (suc i) (suc r) = refl

  abbrev choose : Bool → ℕ → ℕ → ℕ
  choose is_own mine other = if is_own then mine else other

  inner_same : (i k : ℕ) → inner_number later i k ≡ inner_number contexts i k
  inner_same i k =
      ap (λ (b : Bool). choose b (number_of later i k) (first_number later (slice_index (context_at later i).inner k))) ((links_at i).form.roots k)
      ∙ (ap (λ (n : ℕ). choose (is_root (boxes_in contexts i) k) n (first_number later (slice_index (context_at later i).inner k))) (number_same i k)
      ∙ (ap (λ (ns : List ℕ). choose (is_root (boxes_in contexts i) k) (number_of contexts i k) (first_number later (slice_index ns k))) (links_at i).inner
      ∙ ap (choose (is_root (boxes_in contexts i) k) (number_of contexts i k)) (first_same (slice_index (context_at contexts i).inner k))))

  module _ (homes : List (List ℕ)) where
    around_same : (s : Spot) → number_at later homes s ≡ number_at contexts homes s
    around_same s = number_same s.context (slice_index (homes_in homes s.context) s.place)

    abbrev numbers_by : (ℕ → ℕ) → (i r n : ℕ) → List ℕ
    numbers_by number i r n = 0 ∷ map number (at_home_before (homes_in homes i) r n)

    numbers_same : (i r : ℕ) → inner_numbers later homes i r ≡ inner_numbers contexts homes i r
    numbers_same i r =
        ap (numbers_by (inner_number later i) i r) (links_at i).form.count
        ∙ ap (λ (f : ℕ → ℕ). numbers_by f i r (length (boxes_in contexts i))) (fun_ext (inner_same i))

    -- all of a formatting context but its boxes stays
    pub all_but_boxes : (i r : ℕ)
        → formatting_context_of later homes i r ≡ record (formatting_context_of contexts homes i r) { boxes = boxes_of_root (boxes_in later i) (homes_in homes i) r }
    all_but_boxes i r =
        ap (λ (s : Spot). built (number_at later homes s) (rank_at homes s) (inner_numbers later homes i r)) (spot_same i r)
        ∙ (ap (λ (o : ℕ). built o (rank_at homes (spot_of contexts i r)) (inner_numbers later homes i r)) (around_same (spot_of contexts i r))
        ∙ ap (built (number_at contexts homes (spot_of contexts i r)) (rank_at homes (spot_of contexts i r))) (numbers_same i r))
      where
        built : ℕ → ℕ → List ℕ → FormattingContext
        built outer outer_box inner = record {
          anonymous = nat_lt 0 r;
          outer = outer;
          outer_box = outer_box;
          boxes = boxes_of_root (boxes_in later i) (homes_in homes i) r;
          inner = inner;
        }

    pub later_homes : AreHomesOf contexts homes → AreHomesOf later homes
    later_homes found = record {
      count = found.count ∙ sym is.count;
      each = λ i lt. homes_stay (boxes_in contexts i) (boxes_in later i) (links_at i).form (homes_in homes i) (found.each i (omega (arith, lt, is.count)));
    }

  -- the formatting contexts of later contexts, one after another
  module _ (all : List FormattingContext) where
    pub none_follow : (of : AreFormattingContextsOf contexts all) (items : List FormattingContext) → items ≡ [] → FollowTo contexts later all items 0 0
    none_follow of items none = record { of = of; listed = rw none (none_listed later of.homes) }

    module _ (items : List FormattingContext) (i r : ℕ) (known : FollowTo contexts later all items i r) (lt : i < length later) where
      abbrev homes : List (List ℕ)
      homes = known.of.homes

      here : i < length contexts
      here = omega (arith, lt, is.count)

      -- the next one stands at its number
      pub next_number : length items ≡ number_of contexts i r
      next_number = known.listed.count ∙ number_same i r

      module _ (inside : r < length (boxes_in later i)) (root : is_root (boxes_in later i) r ≡ true) where
        inside_before : r < length (boxes_in contexts i)
        inside_before = let c = (links_at i).form.count in omega (arith, inside, c)

        root_before : is_root (boxes_in contexts i) r ≡ true
        root_before = sym ((links_at i).form.roots r) ∙ root

        pub next_there : length items < length all
        next_there =
            let low = number_lt contexts i (length contexts) r here inside_before root_before in
            omega (arith, low, next_number, known.of.count)

        next_was : formatting_context_at all (length items) ≡ formatting_context_of contexts homes i r
        next_was = ap (formatting_context_at all) next_number ∙ known.of.each i r here inside_before root_before

        -- with its boxes
        pub next_follows : (c : FormattingContext)
            → c ≡ record (formatting_context_at all (length items)) { boxes = boxes_of_root (boxes_in later i) (homes_in homes i) r }
            → FollowTo contexts later all (items ++ c ∷ []) i (r + 1)
        next_follows c e = record {
          of = known.of;
          listed = one_listed later homes items c i r known.listed inside root
              (e ∙ (ap (λ (f : FormattingContext). record f { boxes = boxes_of_root (boxes_in later i) (homes_in homes i) r }) next_was ∙ sym (all_but_boxes homes i r)));
        }

        -- those that it had
        pub kept_follows : boxes_in later i ≡ boxes_in contexts i → (c : FormattingContext) → c ≡ formatting_context_at all (length items)
            → FollowTo contexts later all (items ++ c ∷ []) i (r + 1)
        kept_follows same c e = record {
          of = known.of;
          listed = one_listed later homes items c i r known.listed inside root
              (e ∙ (next_was ∙ (ap (λ (bs : List BoxNode). record (formatting_context_of contexts homes i r) { boxes = boxes_of_root bs (homes_in homes i) r }) (sym same)
              ∙ sym (all_but_boxes homes i r))));
        }

      pub passed_follows : is_root (boxes_in later i) r ≡ false → FollowTo contexts later all items i (r + 1)
      passed_follows none = record { of = known.of; listed = one_passed later homes items i r known.listed none }

      pub context_follows : r ≡ length (boxes_in later i) → FollowTo contexts later all items (i + 1) 0
      context_follows e = record { of = known.of; listed = next_listed later homes items i r e known.listed }

      -- no more stand before a context than there are in all
      pub few_before : r ≡ 0 → length items ≤ length all
      few_before e =
          let low = first_le contexts i (length contexts) (omega (arith, here)) in
          let none = ap (roots_before (boxes_in contexts i)) e in
          omega (arith, low, none, next_number, known.of.count)

      -- the homes that are found in the later boxes
      pub homes_found : (first : ℕ) (p : Parting) → IsParting (boxes_in later i) first p → p.homes ≡ homes_in homes i
      homes_found first p parting = one_column (boxes_in later i) p.homes (homes_in homes i) parting.homes ((later_homes homes known.of.homes_are).each i lt)

    module _ (items : List FormattingContext) (n : ℕ) (known : FollowTo contexts later all items n 0) (whole : n ≡ length later) where
      pub all_follow : AreFormattingContextsOf later items
      all_follow = all_listed later known.of.homes items n whole (later_homes known.of.homes known.of.homes_are) known.listed

      pub as_many : length items ≡ length all
      as_many = all_follow.count ∙ (first_same (length later) ∙ (ap (first_number contexts) is.count ∙ sym known.of.count))

      pub all_in_order : AreContexts later → AreFormattingContexts items
      all_in_order are = in_order later items are all_follow
