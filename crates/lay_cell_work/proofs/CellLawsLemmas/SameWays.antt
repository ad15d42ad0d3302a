-- A way out by contexts is one by formatting contexts: through the anonymous roots in each context.
use Rattle.std.proofs.Common.{◌≡◌, ◌<◌, ℕ, zero, suc, Bool, true, false, List, length, slice_index, Option, None, Some, refl, ap, sym, subst, ◌∙◌, arith}
use Rattle.lay_box_tree.specs.Containers.{box_parent}
use Rattle.lay_box_tree.specs.declared.box_tree.BoxNode.{BoxNode}
use Rattle.lay_contexts.specs.Contexts.{boxes_in, context_at}
use Rattle.lay_contexts.specs.FormattingBoxes.{boxes_of_root, rank}
use Rattle.lay_contexts.specs.FormattingContexts.{FormattingContext, boxes_in as boxes_of, formatting_context_at}
use Rattle.lay_contexts.specs.FormattingContextList.{homes_in, number_at, number_of, rank_at, roots_before}
use Rattle.lay_box_tree.specs.ContextBoxes.{AreContextBoxes}
use Rattle.lay_contexts.specs.Homes.{AreHomes, OneHome, is_root, own}
use Rattle.lay_cell_work.proofs.Cited.{home_low, home_root, home_there, roots_lt}
use Rattle.lay_positioned.specs.Holders.{IsHolderFor, IsNearestHolder, further as farther, is_holder_at, parent}
use Rattle.lay_positioned.specs.Layouts.{Layout}
use Rattle.lay_context_sizes.specs.ContextSizes.{SizedContext}
use Rattle.lay_context.specs.declared.task.Phase.TheVariants as phase
use Rattle.lay_context.specs.PlacedContexts.{PlacedContext, placed_in}
use Rattle.lay_context.specs.Settings.{laid, sizes_in}
use Rattle.lay_cell_work.specs.CellValues.{CellValue, own_places, own_sizes}
use Rattle.lay_cell_work.specs.CellLaws.SameContexts.{IsLaidSame, IsSameWay, IsTable, Table, further, held, initial, workings_in}
use Rattle.lay_cell_work.proofs.CellLawsLemmas.CarriedRects.{IsSameHere, at_root, ends, goes_on}
use Rattle.lay_cell_work.proofs.CellLawsLemmas.CarriedRects as carried
use Rattle.lay_cell_work.proofs.CellLawsLemmas.HoldersAtHome.{further_there, held_there, home_other_is, home_root_is, parent_within}
use Rattle.lay_cell_work.proofs.CellLawsLemmas.InputForms.{placed_form, sizes_form, table_are, table_calm, table_keeps}
use Rattle.lay_cell_work.proofs.CellLawsLemmas.OuterBoxes.{outer_boxes_same}
use Rattle.lay_cell_work.proofs.CellLawsLemmas.RootForms.{boxes_are, own_some, root_is}
use Rattle.lay_cell_work.proofs.CellLawsLemmas.SameInputs.{spot_around}
use Rattle.lay_cell_work.proofs.CellLawsLemmas.SameRoots.{boxes_same, homes_same, inside_same, ordinals_same, outer_box_form, outer_form, root_same}

abbrev layout_of : SizedContext → PlacedContext → Layout
layout_of sized placed = record { sizes = sized.boxes; standings = placed.placement.standings; offset = placed.offset }

same_layout : (s t : SizedContext) (p q : PlacedContext) → s ≡ t → p ≡ q → layout_of s p ≡ layout_of t q
same_layout s t p q sizes places = rw (sizes, places) refl

-- all on a way are laid out the same
pub way_laid : (is_fixed : Bool) (a b : Table) (c e k : ℕ) → IsSameWay is_fixed a b c e k → IsLaidSame a b c e
way_laid is_fixed a b c e k (held c-1 e-1 k-1 holder l is) = l
way_laid is_fixed a b c e k (further c-1 e-1 k-1 some l rest) = l
way_laid is_fixed a b c e k (initial k-1 l) = l

positive_holder : (boxes : List BoxNode) (k holder : ℕ) → IsNearestHolder boxes k (Some holder) → 0 < k
positive_holder boxes k holder (parent k-1 some hold) = some
positive_holder boxes k holder (farther k-1 holder-1 some empty rest) = some

pub positive_other : (e : ℕ) → (e ≡ 0 → ⊥) → 0 < e
positive_other zero never = absurd (never refl)
positive_other (suc e) never = omega arith

module _ (one_home : OneHome) (is_fixed : Bool) (a b : Table) (is_a : IsTable a) (is_b : IsTable b) where
  abbrev V : ℕ → Layout
  V = laid (workings_in a)

  abbrev W : ℕ → Layout
  W = laid (workings_in b)

  abbrev Way : (i j k : ℕ) → Type 0
  Way i j k = carried.IsSameWay is_fixed a.formatting_contexts b.formatting_contexts V W i j k

  pub moved : (i j k x y z : ℕ) → i ≡ x → j ≡ y → k ≡ z → Way x y z → Way i j k
  moved i j k x y z p q r way =
      subst (λ (n : ℕ). Way n j k) (sym p) (subst (λ (n : ℕ). Way x n k) (sym q) (subst (λ (n : ℕ). Way x y n) (sym r) way))

  -- the same from another box, if what holds from the one holds from the other
  elsewhere : (i j x y : ℕ) → Way i j x → ((holder : ℕ) → IsHolderFor is_fixed (boxes_of a.formatting_contexts i) x (Some holder) → IsHolderFor is_fixed (boxes_of a.formatting_contexts i) y (Some holder)) → Way i j y
  elsewhere i j x y (ends i-1 j-1 x-1 holder is s) holds = ends i j y holder (holds holder is) s
  elsewhere i j x y (goes_on i-1 j-1 x-1 gi gj s box rest) holds = goes_on i j y gi gj s box rest
  elsewhere i j x y (at_root x-1 s) holds = at_root y s

  module _ (c e : ℕ) (l : IsLaidSame a b c e) where
    abbrev BA : List BoxNode
    BA = boxes_in a.contexts c

    abbrev HA : List ℕ
    HA = homes_in is_a.are_formatting_contexts.homes c

    abbrev HB : List ℕ
    HB = homes_in is_b.are_formatting_contexts.homes e

    -- the way from the box at k
    abbrev From : ℕ → Type 0
    From k = Way (number_of a.contexts c (slice_index HA k)) (number_of b.contexts e (slice_index HA k)) (rank HA k)

    abbrev FromRoot : ℕ → Type 0
    FromRoot r = (x : ℕ) → Way (number_of a.contexts c r) (number_of b.contexts e r) x

    here_same : (r : ℕ) → r < length BA → is_root BA r ≡ true → IsSameHere a.formatting_contexts b.formatting_contexts V W (number_of a.contexts c r) (number_of b.contexts e r)
    here_same r inside root =
        let same = l.own in
        let inside_b = inside_same one_home a b is_a is_b c e same r inside in
        let root_b = root_same one_home a b is_a is_b c e same r root in
        let ordinals = ordinals_same one_home a b is_a is_b c e same r in
        let sizes : sizes_in (workings_in a).sizes (number_of a.contexts c r) ≡ sizes_in (workings_in b).sizes (number_of b.contexts e r) =
        sizes_form a is_a c same.within r inside root ∙ ap (λ (v : CellValue). sizes_in (own_sizes v) (roots_before BA r)) l.sizes
        ∙ ap (sizes_in (own_sizes (b.kept e phase.Size))) ordinals ∙ sym (sizes_form b is_b e same.there r inside_b root_b) in
        let places : placed_in (workings_in a).places (number_of a.contexts c r) ≡ placed_in (workings_in b).places (number_of b.contexts e r) =
        placed_form a is_a c same.within r inside root ∙ ap (λ (v : CellValue). placed_in (own_places v) (roots_before BA r)) l.places
        ∙ ap (placed_in (own_places (b.kept e phase.Place))) ordinals ∙ sym (placed_form b is_b e same.there r inside_b root_b) in
        record {
          boxes = boxes_same one_home a b is_a is_b c e same r inside root;
          laid = same_layout (sizes_in (workings_in a).sizes (number_of a.contexts c r)) (sizes_in (workings_in b).sizes (number_of b.contexts e r))
              (placed_in (workings_in a).places (number_of a.contexts c r)) (placed_in (workings_in b).places (number_of b.contexts e r)) sizes places;
        }

    -- out of an anonymous root
    on_root : (r : ℕ) → suc r < length BA → is_root BA (suc r) ≡ true → From (suc r) → FromRoot (suc r)
    on_root r inside root from x =
        let same = l.own in
        let inside_b = inside_same one_home a b is_a is_b c e same (suc r) inside in
        let root_b = root_same one_home a b is_a is_b c e same (suc r) root in
        let homes = homes_same one_home a b is_a is_b c e same in
        let i : ℕ = number_of a.contexts c (suc r) in
        let j : ℕ = number_of b.contexts e (suc r) in
        let low_a = roots_lt BA 0 (suc r) refl (omega arith) in
        let low_b = roots_lt (boxes_in b.contexts e) 0 (suc r) refl (omega arith) in
        let outer_a = outer_form a is_a c same.within r inside root in
        let outer_b = outer_form b is_b e same.there r inside_b root_b ∙ ap (λ (hs : List ℕ). number_of b.contexts e (slice_index hs (suc r))) (sym homes) in
        let box_a = outer_box_form a is_a c same.within r inside root in
        let box_b = outer_box_form b is_b e same.there r inside_b root_b in
        goes_on i j x (omega (arith, low_a)) (omega (arith, low_b)) (here_same (suc r) inside root)
        (box_a ∙ ap (λ (hs : List ℕ). rank hs (suc r)) homes ∙ sym box_b)
        (moved (formatting_context_at a.formatting_contexts i).outer (formatting_context_at b.formatting_contexts j).outer (formatting_context_at a.formatting_contexts i).outer_box
        (number_of a.contexts c (slice_index HA (suc r))) (number_of b.contexts e (slice_index HA (suc r))) (rank HA (suc r)) outer_a outer_b box_a from)

    at_home_in : (k h : ℕ) → slice_index HA k ≡ h → FromRoot h → From k
    at_home_in k h is from =
        moved (number_of a.contexts c (slice_index HA k)) (number_of b.contexts e (slice_index HA k)) (rank HA k) (number_of a.contexts c h) (number_of b.contexts e h) (rank HA k)
        (ap (number_of a.contexts c) is) (ap (number_of b.contexts e) is) refl (from (rank HA k))

    -- out to the own box of the context, and on from there
    chain : (n k : ℕ) → k < n → k < length BA → FromRoot 0 → From k
    chain zero k lt inside from = absurd (omega (arith, lt))
    chain (suc n) zero lt inside from =
        let home = one_home BA 0 (slice_index HA 0) 0 ((is_a.are_formatting_contexts.homes_are.each c l.own.within).each 0 inside) own in
        at_home_in 0 0 home from
    chain (suc n) (suc k) lt inside from = by (slice_index HA (suc k)) refl (λ h low there. chain n h (omega (arith, lt, low)) there from)
      where
        by : (h : ℕ) → slice_index HA (suc k) ≡ h → ((h : ℕ) → h < suc k → h < length BA → From h) → From (suc k)
        by zero is rest = at_home_in (suc k) 0 is from
        by (suc r) is rest =
            let within = l.own.within in
            let low = home_low a.contexts is_a.are_formatting_contexts.homes (table_are a is_a) is_a.are_formatting_contexts.homes_are c (suc k) within (omega arith) inside in
            let there = home_there a.contexts is_a.are_formatting_contexts.homes (table_are a is_a) is_a.are_formatting_contexts.homes_are c (suc k) within inside in
            let root = home_root a.contexts is_a.are_formatting_contexts.homes (table_are a is_a) is_a.are_formatting_contexts.homes_are c (suc k) within inside in
            let root_r : is_root BA (suc r) ≡ true = ap (is_root BA) (sym is) ∙ root in
            at_home_in (suc k) (suc r) is (on_root r (omega (arith, there, is)) root_r (rest (suc r) (omega (arith, low, is)) (omega (arith, there, is))))

    -- a box of a root of the context is a box of its formatting context
    as_context : (r : ℕ) → r < length BA → is_root BA r ≡ true → (k : ℕ) (holder : Option ℕ) → IsNearestHolder (boxes_of_root BA HA r) k holder → IsNearestHolder (boxes_of a.formatting_contexts (number_of a.contexts c r)) k holder
    as_context r inside root k holder is =
        subst (λ (boxes : List BoxNode). IsNearestHolder boxes k holder)
        (sym (boxes_are a.contexts a.formatting_contexts (table_are a is_a) is_a.are_formatting_contexts (table_calm a is_a) (table_keeps a is_a) c r l.own.within inside root)) is

    as_root : (r : ℕ) → r < length BA → is_root BA r ≡ true → (k : ℕ) (holder : Option ℕ) → IsNearestHolder (boxes_of a.formatting_contexts (number_of a.contexts c r)) k holder → IsNearestHolder (boxes_of_root BA HA r) k holder
    as_root r inside root k holder is =
        subst (λ (boxes : List BoxNode). IsNearestHolder boxes k holder)
        (boxes_are a.contexts a.formatting_contexts (table_are a is_a) is_a.are_formatting_contexts (table_calm a is_a) (table_keeps a is_a) c r l.own.within inside root) is

  -- where the holder is in the context
  module _ (c e : ℕ) (l : IsLaidSame a b c e) (unfixed : is_fixed ≡ false) where
    as_for : (boxes : List BoxNode) (k : ℕ) (holder : Option ℕ) → IsNearestHolder boxes k holder → IsHolderFor is_fixed boxes k holder
    as_for boxes k holder is = rw unfixed is

    of_for : (boxes : List BoxNode) (k : ℕ) (holder : Option ℕ) → IsHolderFor is_fixed boxes k holder → IsNearestHolder boxes k holder
    of_for boxes k holder is = rw unfixed at is

    abbrev B : List BoxNode
    B = boxes_in a.contexts c

    abbrev H : List ℕ
    H = homes_in is_a.are_formatting_contexts.homes c

    are_boxes : AreContextBoxes B
    are_boxes = (table_are a is_a).boxes c l.own.within

    are_homes : AreHomes B H
    are_homes = is_a.are_formatting_contexts.homes_are.each c l.own.within

    there : (k : ℕ) → k < length B → slice_index H k < length B
    there k inside = home_there a.contexts is_a.are_formatting_contexts.homes (table_are a is_a) is_a.are_formatting_contexts.homes_are c k l.own.within inside

    rooted : (k : ℕ) → k < length B → is_root B (slice_index H k) ≡ true
    rooted k inside = home_root a.contexts is_a.are_formatting_contexts.homes (table_are a is_a) is_a.are_formatting_contexts.homes_are c k l.own.within inside

    on_root_at : (p : ℕ) → 0 < p → p < length B → is_root B p ≡ true → From c e l p → FromRoot c e l p
    on_root_at zero some inside root from = absurd (omega (arith, some))
    on_root_at (suc r) some inside root from = on_root c e l r inside root from

    -- from a box whose parent is no holder, where it is known from the parent
    further_by : (k : ℕ) (b : Bool) → 0 < k → k < length B → is_holder_at B (box_parent B k) ≡ false → is_root B (box_parent B k) ≡ b → 0 < box_parent B k → From c e l (box_parent B k) → From c e l k
    further_by k true some inside empty root positive from =
        let p : ℕ = box_parent B k in
        let within = parent_within B H are_boxes are_homes k some inside in
        at_home_in c e l k p (home_root_is B H are_boxes are_homes k some inside root) (on_root_at p positive within root from)
    further_by k false some inside empty plain positive from =
        let p : ℕ = box_parent B k in
        let g : ℕ = slice_index H p in
        let within = parent_within B H are_boxes are_homes k some inside in
        let home : slice_index H k ≡ g = home_other_is B H are_boxes are_homes k some inside plain in
        let way = elsewhere (number_of a.contexts c g) (number_of b.contexts e g) (rank H p) (rank H k) from (λ holder is.
        (let old = as_root c e l g (there p within) (rooted p within) (rank H p) (Some holder) (of_for (boxes_of a.formatting_contexts (number_of a.contexts c g)) (rank H p) (Some holder) is) in
        let new = further_there B H are_boxes are_homes k some inside plain empty (Some holder) old in
        let same = subst (λ (h : ℕ). IsNearestHolder (boxes_of_root B H h) (rank H k) (Some holder)) home new in
        as_for (boxes_of a.formatting_contexts (number_of a.contexts c g)) (rank H k) (Some holder) (as_context c e l g (there p within) (rooted p within) (rank H k) (Some holder) same))) in
        moved (number_of a.contexts c (slice_index H k)) (number_of b.contexts e (slice_index H k)) (rank H k) (number_of a.contexts c g) (number_of b.contexts e g) (rank H k)
        (ap (number_of a.contexts c) home) (ap (number_of b.contexts e) home) refl way

    nearest : (k holder : ℕ) → k < length B → IsNearestHolder B k (Some holder) → From c e l k
    nearest k holder inside (parent k-1 some hold) =
        let h : ℕ = slice_index H k in
        let q : ℕ = box_parent (boxes_of_root B H h) (rank H k) in
        let is = held_there B H are_boxes are_homes k some inside hold in
        ends (number_of a.contexts c h) (number_of b.contexts e h) (rank H k) q
        (as_for (boxes_of a.formatting_contexts (number_of a.contexts c h)) (rank H k) (Some q) (as_context c e l h (there k inside) (rooted k inside) (rank H k) (Some q) is))
        (here_same c e l h (there k inside) (rooted k inside))
    nearest k holder inside (farther k-1 holder-1 some empty rest) =
        let within = parent_within B H are_boxes are_homes k some inside in
        further_by k (is_root B (box_parent B k)) some inside empty refl (positive_holder B (box_parent B k) holder rest) (nearest (box_parent B k) holder within rest)

  held_by : (f : Bool) → is_fixed ≡ f → (c e : ℕ) (l : IsLaidSame a b c e) (k holder : ℕ) → k < length (boxes_in a.contexts c) → IsHolderFor is_fixed (boxes_in a.contexts c) k (Some holder) → From c e l k
  held_by true fixed c e l k holder inside is = absurd (let never : Some holder ≡ None = rw fixed at is in cc)
  held_by false unfixed c e l k holder inside is = nearest c e l unfixed k holder inside (of_for c e l unfixed (boxes_in a.contexts c) k (Some holder) is)

  -- out of a context
  outside : (c e : ℕ) (l : IsLaidSame a b c e) → 0 < c
      → (r : IsLaidSame a b (context_at a.contexts c).outer (context_at b.contexts e).outer) → From (context_at a.contexts c).outer (context_at b.contexts e).outer r (context_at a.contexts c).outer_box → FromRoot c e l 0
  outside c e l some r from x =
      let p : ℕ = (context_at a.contexts c).outer in
      let q : ℕ = (context_at b.contexts e).outer in
      let k : ℕ = (context_at a.contexts c).outer_box in
      let HP : List ℕ = homes_in is_a.are_formatting_contexts.homes p in
      let homes = homes_same one_home a b is_a is_b p q r.own in
      let some_b : 0 < e = positive_other e (λ z. (let y = l.own.root.1 z in omega (arith, some, y))) in
      let box = outer_boxes_same a b is_a is_b c e some some_b l.own r.own in
      let inside = ((table_are a is_a).boxes c l.own.within).some in
      let i : ℕ = number_of a.contexts c 0 in
      let j : ℕ = number_of b.contexts e 0 in
      let low_a = own_some a.contexts a.formatting_contexts (table_are a is_a) is_a.are_formatting_contexts (table_calm a is_a) (table_keeps a is_a) c some l.own.within in
      let low_b = own_some b.contexts b.formatting_contexts (table_are b is_b) is_b.are_formatting_contexts (table_calm b is_b) (table_keeps b is_b) e some_b l.own.there in
      let own_a = root_is a.contexts a.formatting_contexts (table_are a is_a) is_a.are_formatting_contexts (table_calm a is_a) (table_keeps a is_a) c 0 l.own.within inside refl in
      let own_b = root_is b.contexts b.formatting_contexts (table_are b is_b) is_b.are_formatting_contexts (table_calm b is_b) (table_keeps b is_b) e 0 l.own.there ((table_are b is_b).boxes e l.own.there).some refl in
      let outer_a : (formatting_context_at a.formatting_contexts i).outer ≡ number_of a.contexts p (slice_index HP k) =
      ap (λ (f : FormattingContext). f.outer) own_a ∙ ap (number_at a.contexts is_a.are_formatting_contexts.homes) (spot_around a c some) in
      let outer_b : (formatting_context_at b.formatting_contexts j).outer ≡ number_of b.contexts q (slice_index HP k) =
      ap (λ (f : FormattingContext). f.outer) own_b ∙ ap (number_at b.contexts is_b.are_formatting_contexts.homes) (spot_around b e some_b)
      ∙ ap (λ (m : ℕ). number_of b.contexts q (slice_index (homes_in is_b.are_formatting_contexts.homes q) m)) (sym box)
      ∙ ap (λ (hs : List ℕ). number_of b.contexts q (slice_index hs k)) (sym homes) in
      let box_a : (formatting_context_at a.formatting_contexts i).outer_box ≡ rank HP k =
      ap (λ (f : FormattingContext). f.outer_box) own_a ∙ ap (rank_at is_a.are_formatting_contexts.homes) (spot_around a c some) in
      let box_b : (formatting_context_at b.formatting_contexts j).outer_box ≡ rank HP k =
      ap (λ (f : FormattingContext). f.outer_box) own_b ∙ ap (rank_at is_b.are_formatting_contexts.homes) (spot_around b e some_b)
      ∙ ap (rank (homes_in is_b.are_formatting_contexts.homes q)) (sym box) ∙ ap (λ (hs : List ℕ). rank hs k) (sym homes) in
      goes_on i j x (omega (arith, low_a)) (omega (arith, low_b)) (here_same c e l 0 inside refl) (box_a ∙ sym box_b)
      (moved (formatting_context_at a.formatting_contexts i).outer (formatting_context_at b.formatting_contexts j).outer (formatting_context_at a.formatting_contexts i).outer_box
      (number_of a.contexts p (slice_index HP k)) (number_of b.contexts q (slice_index HP k)) (rank HP k) outer_a outer_b box_a from)

  -- at the document's first context
  at_first : (l : IsLaidSame a b 0 0) → FromRoot 0 0 l 0
  at_first l x =
      let inside = ((table_are a is_a).boxes 0 l.own.within).some in
      let zero_a : number_of a.contexts 0 0 ≡ 0 = omega arith in
      let zero_b : number_of b.contexts 0 0 ≡ 0 = omega arith in
      let here = here_same 0 0 l 0 inside refl in
      let at : IsSameHere a.formatting_contexts b.formatting_contexts V W 0 0 =
      subst (λ (n : ℕ). IsSameHere a.formatting_contexts b.formatting_contexts V W n 0) zero_a (subst (λ (n : ℕ). IsSameHere a.formatting_contexts b.formatting_contexts V W (number_of a.contexts 0 0) n) zero_b here) in
      moved (number_of a.contexts 0 0) (number_of b.contexts 0 0) x 0 0 x zero_a zero_b refl (at_root x at)

  pub way_from : (c e k : ℕ) (way : IsSameWay is_fixed a b c e k) → k < length (boxes_in a.contexts c) → From c e (way_laid is_fixed a b c e k way) k
  way_from c e k (held c-1 e-1 k-1 holder l is) inside = held_by is_fixed refl c e l k holder inside is
  way_from c e k (further c-1 e-1 k-1 some l rest) inside =
      let within = (table_are a is_a).outer_box c some l.own.within in
      let r = way_laid is_fixed a b (context_at a.contexts c).outer (context_at b.contexts e).outer (context_at a.contexts c).outer_box rest in
      chain c e l (suc k) k (omega arith) inside
      (outside c e l some r (way_from (context_at a.contexts c).outer (context_at b.contexts e).outer (context_at a.contexts c).outer_box rest within))
  way_from c e k (initial k-1 l) inside = chain 0 0 l (suc k) k (omega arith) inside (at_first l)
