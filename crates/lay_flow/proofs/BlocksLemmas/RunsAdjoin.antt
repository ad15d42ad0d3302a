-- The runs of a layout are the longest chains of margins of which each adjoins the next.
use Rattle.std.proofs.Common.{◌≡◌, ℕ, zero, suc, ◌+◌, ◌<◌, ◌&&◌, ◌||◌, not, Bool, true, false, List, [], ◌∷◌, ◌++◌, length, refl, sym, ap, ◌∙◌, arith, Option, Some, None, subst}
use Rattle.lay_doc.specs.Tree.{IsTree}
use Rattle.lay_flow.specs.declared.blocks.flow_box.FlowBox.{FlowBox}
use Rattle.lay_flow.specs.Blocks.Adjoining.{Margin, top, bottom, IsMargin, run_to, run_of, Adjoins, first_child, next_sibling, last_margin, own_margins, collapsed_through, entries_of_margin, clearance_of}
use Rattle.lay_flow.specs.Blocks.Boxes.{parent_at, parents_of}
use Rattle.lay_flow.specs.Blocks.Children.{is_child, last_child, next_child, flag_at}
use Rattle.lay_flow.specs.Blocks.Laws.{AdjoiningRuns}
use Rattle.lay_flow.specs.Blocks.MarginRuns.{Entry, margin, mark, Runs, HasRuns, block_at, is_barred, joins_bottom, may_collapse_through, may_join_bottoms, parts_tops, run_across, run_at, run_before, to_top}
use Rattle.lay_flow.proofs.BlocksLemmas.BlockKinds.{joined_passes}
use Rattle.lay_flow.proofs.BlocksLemmas.BoxTrees.{parent_before}
use Rattle.lay_flow.proofs.BlocksLemmas.ChildPlaces.{child_is, last_none}
use Rattle.lay_flow.proofs.BlocksLemmas.RunEntries.{top_here}
use Rattle.lay_flow.proofs.BlocksLemmas.RunFacts.{first_comes, next_comes, goes_in, ends_above, goes_out, ends_inside, joins_is, lead_goes_on, lead_begins, top_run_is, to_bottom_is, bottom_run_is, passes_is}
use Rattle.lay_flow.proofs.BlocksLemmas.Siblings.{child_parent, first_next, last_is, last_next, leaf_next, next_first, next_is, next_last, next_leaf, next_sibling_is, sibling_next}
use Rattle.lay_flow.proofs.BlocksLemmas.Truths.{true_false}

module _ (boxes : List FlowBox) (tree : IsTree (parents_of boxes)) (r : Runs) (is : HasRuns boxes r) where
  -- no border and no padding is above the content of a box that may be collapsed through
  pub open_above : (p : ℕ) → 0 < p → may_collapse_through (block_at boxes p) ≡ true → parts_tops boxes p ≡ false
  open_above zero low may = absurd (omega (arith, low))
  open_above (suc p) low may = grind (arith, may)

  inner : (p : ℕ) → parts_tops boxes p ≡ false → 0 < p
  inner zero plain = absurd (true_false true refl plain)
  inner (suc p) plain = omega arith

  child_of : (c : ℕ) → 0 < c → c < length boxes → is_child boxes (parent_at boxes c) c ≡ true
  child_of c low within = child_is boxes (parent_at boxes c) c (parent_before boxes tree c low within) refl

  -- the run that comes to the first margin in a box
  pub first_open : (p m : ℕ) → last_child boxes p m ≡ None → parts_tops boxes p ≡ false → run_before boxes r p m ≡ to_top boxes r p
  first_open p m none plain = first_comes boxes r p m none ∙ rw plain refl

  first_parted : (p m : ℕ) → last_child boxes p m ≡ None → parts_tops boxes p ≡ true → run_before boxes r p m ≡ []
  first_parted p m none parted = first_comes boxes r p m none ∙ rw parted refl

  leaf_passes : (p : ℕ) → 0 < p → p < length boxes → last_child boxes p (length boxes) ≡ None → may_collapse_through (block_at boxes p) ≡ true → flag_at r.through p ≡ true
  leaf_passes p low within none may =
      let come = first_open p (length boxes) none (open_above p low may) in
      let here = top_here p (block_at boxes p).margin_top.0 (run_at r.before_tops p) in
      passes_is boxes r is p low within ∙ rw (may, come) here

  -- the bottom margin goes on with the run before it
  pub joins_through : (p : ℕ) → 0 < p → flag_at r.through p ≡ true → joins_bottom boxes r p ≡ true
  joins_through p low through = joins_is boxes r p low ∙ rw through refl

  joins_open : (p c : ℕ) → 0 < p → last_child boxes p (length boxes) ≡ Some c → may_join_bottoms (block_at boxes p) ≡ true → is_barred boxes p (run_at r.to_bottoms c) ≡ false → joins_bottom boxes r p ≡ true
  joins_open p c low last may free = let come = next_comes boxes r p (length boxes) c last in joins_is boxes r p low ∙ either (flag_at r.through p) (is_barred boxes p (run_before boxes r p (length boxes))) may (ap (is_barred boxes p) come ∙ free)
    where
      either : (a b : Bool) → may_join_bottoms (block_at boxes p) ≡ true → b ≡ false → (a || (may_join_bottoms (block_at boxes p) && not b)) ≡ true
      either true b t f = refl
      either false b t f = rw (t, f) refl

  pub bottom_goes_on : (p : ℕ) → 0 < p → p < length boxes → joins_bottom boxes r p ≡ true → run_at r.to_bottoms p ≡ run_before boxes r p (length boxes) ++ margin (block_at boxes p).margin_bottom.0 ∷ []
  bottom_goes_on p low within joins = to_bottom_is boxes r is p low within ∙ rw joins refl

  -- which margin is before a bottom margin that adjoins one
  joined : (p : ℕ) → 0 < p → p < length boxes → joins_bottom boxes r p ≡ true → parts_tops boxes p ≡ false → last_child boxes p (length boxes) ≡ None → Adjoins boxes r (top p) (bottom p)
  joined p low within joins plain none = own_margins p low within none (go (flag_at r.through p) refl)
    where
      taken : (a b : Bool) → (a && b) ≡ true → a ≡ true
      taken a b t = grind (arith, t)

      go : (b : Bool) → flag_at r.through p ≡ b → may_collapse_through (block_at boxes p) ≡ true
      go true t = taken (may_collapse_through (block_at boxes p)) _ (sym (passes_is boxes r is p low within) ∙ t)
      go false f =
          let both : (may_join_bottoms (block_at boxes p) && not (is_barred boxes p (run_before boxes r p (length boxes)))) ≡ true = sym (joins_is boxes r p low ∙ rw f refl) ∙ joins in
          joined_passes boxes p plain (taken (may_join_bottoms (block_at boxes p)) _ both)

  joined_child : (p c : ℕ) → 0 < p → p < length boxes → joins_bottom boxes r p ≡ true → last_child boxes p (length boxes) ≡ Some c → Adjoins boxes r (bottom c) (bottom p)
  joined_child p c low within joins last = go (flag_at r.through p) refl
    where
      taken : (a b : Bool) → (a && b) ≡ true → a ≡ true
      taken a b t = grind (arith, t)

      left : (a b : Bool) → (a && not b) ≡ true → b ≡ false
      left a b t = grind (arith, t)

      go : (b : Bool) → flag_at r.through p ≡ b → Adjoins boxes r (bottom c) (bottom p)
      go true t = collapsed_through p c low within last t
      go false f =
          let both : (may_join_bottoms (block_at boxes p) && not (is_barred boxes p (run_before boxes r p (length boxes)))) ≡ true = sym (joins_is boxes r p low ∙ rw f refl) ∙ joins in
          let come = next_comes boxes r p (length boxes) c last in
          last_margin p c low within last (taken (may_join_bottoms (block_at boxes p)) _ both) (ap (is_barred boxes p) (sym come) ∙ left (may_join_bottoms (block_at boxes p)) _ both)

  continues : (x y : Margin) → Adjoins boxes r x y → run_to boxes r y ≡ run_to boxes r x ++ entries_of_margin boxes y
  continues x y (first_child c low within none plain flows) =
      let come = lead_goes_on boxes r is c low within flows ∙ first_open (parent_at boxes c) c none plain in
      ap (λ (run : List Entry). run ++ mark c ∷ margin (block_at boxes c).margin_top.0 ∷ []) come
  continues x y (next_sibling s c low within last flows) =
      let come = lead_goes_on boxes r is c low within flows ∙ next_comes boxes r (parent_at boxes c) c s last in
      ap (λ (run : List Entry). run ++ mark c ∷ margin (block_at boxes c).margin_top.0 ∷ []) come
  continues x y (last_margin p c low within last may free) =
      bottom_goes_on p low within (joins_open p c low last may free)
      ∙ ap (λ (run : List Entry). run ++ margin (block_at boxes p).margin_bottom.0 ∷ []) (next_comes boxes r p (length boxes) c last)
  continues x y (own_margins p low within none may) =
      bottom_goes_on p low within (joins_through p low (leaf_passes p low within none may))
      ∙ ap (λ (run : List Entry). run ++ margin (block_at boxes p).margin_bottom.0 ∷ []) (first_open p (length boxes) none (open_above p low may))
  continues x y (collapsed_through p c low within last through) =
      bottom_goes_on p low within (joins_through p low through)
      ∙ ap (λ (run : List Entry). run ++ margin (block_at boxes p).margin_bottom.0 ∷ []) (next_comes boxes r p (length boxes) c last)

  begins_top : (c : ℕ) → 0 < c → c < length boxes → ((x : Margin) → Adjoins boxes r x (top c) → ⊥) → run_to boxes r (top c) ≡ clearance_of r (top c) ++ entries_of_margin boxes (top c)
  begins_top c low within alone = by_clearance (flag_at r.clears c) refl
    where
      entry : List Entry
      entry = mark c ∷ margin (block_at boxes c).margin_top.0 ∷ []

      nothing : (b : Bool) → parts_tops boxes (parent_at boxes c) ≡ b → flag_at r.clears c ≡ false → last_child boxes (parent_at boxes c) c ≡ None → run_before boxes r (parent_at boxes c) c ≡ []
      nothing true parted flows none = first_parted (parent_at boxes c) c none parted
      nothing false plain flows none = absurd (alone (top (parent_at boxes c)) (first_child c low within none plain flows))

      by_child : (o : Option ℕ) → last_child boxes (parent_at boxes c) c ≡ o → flag_at r.clears c ≡ false → run_before boxes r (parent_at boxes c) c ≡ []
      by_child None none flows = nothing (parts_tops boxes (parent_at boxes c)) refl flows none
      by_child (Some s) last flows = absurd (alone (bottom s) (next_sibling s c low within last flows))

      by_clearance : (b : Bool) → flag_at r.clears c ≡ b → run_to boxes r (top c) ≡ clearance_of r (top c) ++ entries_of_margin boxes (top c)
      by_clearance true cleared = let come = lead_begins boxes r is c low within cleared in rw (come, cleared) refl
      by_clearance false flows = let come = lead_goes_on boxes r is c low within flows ∙ by_child (last_child boxes (parent_at boxes c) c) refl flows in rw (come, flows) refl

  begins_bottom : (p : ℕ) → 0 < p → p < length boxes → ((x : Margin) → Adjoins boxes r x (bottom p) → ⊥) → run_to boxes r (bottom p) ≡ entries_of_margin boxes (bottom p)
  begins_bottom p low within alone = by_joins (joins_bottom boxes r p) refl
    where
      no_run : joins_bottom boxes r p ≡ true → (o : Option ℕ) → last_child boxes p (length boxes) ≡ o → (b : Bool) → parts_tops boxes p ≡ b → run_before boxes r p (length boxes) ≡ []
      no_run joins (Some c) last b e = absurd (alone (bottom c) (joined_child p c low within joins last))
      no_run joins None none true parted = first_parted p (length boxes) none parted
      no_run joins None none false plain = absurd (alone (top p) (joined p low within joins plain none))

      by_joins : (b : Bool) → joins_bottom boxes r p ≡ b → run_at r.to_bottoms p ≡ margin (block_at boxes p).margin_bottom.0 ∷ []
      by_joins true joins = bottom_goes_on p low within joins
          ∙ ap (λ (run : List Entry). run ++ margin (block_at boxes p).margin_bottom.0 ∷ []) (no_run joins (last_child boxes p (length boxes)) refl (parts_tops boxes p) refl)
      by_joins false parted = to_bottom_is boxes r is p low within ∙ rw parted refl

  begins_lem : (y : Margin) → IsMargin boxes y → ((x : Margin) → Adjoins boxes r x y → ⊥) → run_to boxes r y ≡ clearance_of r y ++ entries_of_margin boxes y
  begins_lem (top c) at alone = begins_top c at.0 at.1 alone
  begins_lem (bottom p) at alone = begins_bottom p at.0 at.1 alone

  -- the whole runs
  top_across : (p : ℕ) → p < length boxes → parts_tops boxes p ≡ false → run_at r.top_runs p ≡ run_across boxes r p (p + 1)
  top_across p within plain = top_run_is boxes r is p (inner p plain) within ∙ rw plain refl

  bottom_across : (p c : ℕ) → 0 < c → c < length boxes → parent_at boxes c ≡ p → run_at r.bottom_runs c ≡ run_across boxes r p (c + 1)
  bottom_across p c low within e = bottom_run_is boxes r is c low within ∙ ap (λ (q : ℕ). run_across boxes r q (c + 1)) e

  one_run_lem : (x y : Margin) → Adjoins boxes r x y → run_of r x ≡ run_of r y
  one_run_lem x y (first_child c low within none plain flows) =
      let p : ℕ = parent_at boxes c in
      let up = parent_before boxes tree c low within in
      top_across p (omega (arith, up, within)) plain ∙ goes_in boxes r p (p + 1) c (first_next boxes p c within (child_of c low within) none) flows
  one_run_lem x y (next_sibling s c low within last flows) =
      let p : ℕ = parent_at boxes c in
      let l = last_is boxes p c s last in
      let lt = l.before in
      let s_is = child_parent boxes p s l.child in
      let above = s_is.0 in
      bottom_across p s (omega (arith, above)) (omega (arith, lt, within)) s_is.1 ∙ goes_in boxes r p (s + 1) c (sibling_next boxes p s c within (child_of c low within) last) flows
  one_run_lem x y (last_margin p c low within last may free) = through_last p c last (joins_open p c low last may free)
    where
      through_last : (p c : ℕ) → last_child boxes p (length boxes) ≡ Some c → joins_bottom boxes r p ≡ true → run_at r.bottom_runs c ≡ run_at r.bottom_runs p
      through_last p c last joins =
          let l = last_is boxes p (length boxes) c last in
          let lt = l.before in
          let c_is = child_parent boxes p c l.child in
          let above = c_is.0 in
          bottom_across p c (omega (arith, above)) lt c_is.1 ∙ goes_out boxes r p (c + 1) (last_next boxes p c last) joins
  one_run_lem x y (own_margins p low within none may) =
      top_across p within (open_above p low may) ∙ goes_out boxes r p (p + 1) (leaf_next boxes p none) (joins_through p low (leaf_passes p low within none may))
  one_run_lem x y (collapsed_through p c low within last through) =
      let l = last_is boxes p (length boxes) c last in
      let lt = l.before in
      let c_is = child_parent boxes p c l.child in
      let above = c_is.0 in
      bottom_across p c (omega (arith, above)) lt c_is.1 ∙ goes_out boxes r p (c + 1) (last_next boxes p c last) (joins_through p low through)

  ends_top : (p : ℕ) → 0 < p → p < length boxes → ((y : Margin) → Adjoins boxes r (top p) y → ⊥) → run_at r.top_runs p ≡ to_top boxes r p
  ends_top p low within alone = by_edge (parts_tops boxes p) refl
    where
      comes : parts_tops boxes p ≡ false → run_before boxes r p (p + 1) ≡ to_top boxes r p
      comes plain = first_open p (p + 1) (last_none boxes p (p + 1) (λ j lt. not_below j lt)) plain
        where
          not_below : (j : ℕ) → j < p + 1 → is_child boxes p j ≡ false
          not_below j lt = grind (arith, lt)

      by_next : parts_tops boxes p ≡ false → (o : Option ℕ) → next_child boxes p (p + 1) (length boxes) ≡ o → run_across boxes r p (p + 1) ≡ to_top boxes r p
      by_next plain None next = by_joins (joins_bottom boxes r p) refl
        where
          by_joins : (b : Bool) → joins_bottom boxes r p ≡ b → run_across boxes r p (p + 1) ≡ to_top boxes r p
          by_joins true joins = absurd (alone (bottom p) (joined p low within joins plain (next_leaf boxes p next)))
          by_joins false parted = ends_inside boxes r p (p + 1) next parted ∙ comes plain
      by_next plain (Some c) next = by_clearance (flag_at r.clears c) refl
        where
          by_clearance : (b : Bool) → flag_at r.clears c ≡ b → run_across boxes r p (p + 1) ≡ to_top boxes r p
          by_clearance true cleared = ends_above boxes r p (p + 1) c next cleared ∙ comes plain
          by_clearance false flows =
              let found = next_is boxes p (p + 1) (length boxes) c next in
              let c_is = child_parent boxes p c found.child in
              let above = c_is.0 in
              let e = sym c_is.1 in
              let first : last_child boxes (parent_at boxes c) c ≡ None = subst (λ (q : ℕ). last_child boxes q c ≡ None) e (next_first boxes p c next) in
              let edge : parts_tops boxes (parent_at boxes c) ≡ false = subst (λ (q : ℕ). parts_tops boxes q ≡ false) e plain in
              absurd (alone (top c) (subst (λ (q : ℕ). Adjoins boxes r (top q) (top c)) c_is.1 (first_child c (omega (arith, above)) found.within first edge flows)))

      by_edge : (b : Bool) → parts_tops boxes p ≡ b → run_at r.top_runs p ≡ to_top boxes r p
      by_edge true parted = top_run_is boxes r is p low within ∙ rw parted refl
      by_edge false plain = top_across p within plain ∙ by_next plain (next_child boxes p (p + 1) (length boxes)) refl

  ends_bottom : (k : ℕ) → 0 < k → k < length boxes → ((y : Margin) → Adjoins boxes r (bottom k) y → ⊥) → run_at r.bottom_runs k ≡ run_at r.to_bottoms k
  ends_bottom k low within alone = bottom_run_is boxes r is k low within ∙ by_next (next_child boxes (parent_at boxes k) (k + 1) (length boxes)) refl
    where
      is_one : is_child boxes (parent_at boxes k) k ≡ true
      is_one = child_of k low within

      comes : run_before boxes r (parent_at boxes k) (k + 1) ≡ run_at r.to_bottoms k
      comes = next_comes boxes r (parent_at boxes k) (k + 1) k (last_here (parent_at boxes k) is_one)
        where
          last_here : (p : ℕ) → is_child boxes p k ≡ true → last_child boxes p (k + 1) ≡ Some k
          last_here p t = let one : k + 1 ≡ suc k = omega arith in rw (one, t) refl

      by_next : (o : Option ℕ) → next_child boxes (parent_at boxes k) (k + 1) (length boxes) ≡ o → run_across boxes r (parent_at boxes k) (k + 1) ≡ run_at r.to_bottoms k
      by_next None next = by_joins (joins_bottom boxes r (parent_at boxes k)) refl
        where
          positive : (p : ℕ) → joins_bottom boxes r p ≡ true → 0 < p
          positive zero t = absurd (true_false false t refl)
          positive (suc p) t = omega arith

          by_joins : (b : Bool) → joins_bottom boxes r (parent_at boxes k) ≡ b → run_across boxes r (parent_at boxes k) (k + 1) ≡ run_at r.to_bottoms k
          by_joins true joins =
              let up = parent_before boxes tree k low within in
              absurd (alone (bottom (parent_at boxes k)) (joined_child (parent_at boxes k) k (positive (parent_at boxes k) joins) (omega (arith, up, within)) joins (next_last boxes (parent_at boxes k) k within is_one next)))
          by_joins false parted = ends_inside boxes r (parent_at boxes k) (k + 1) next parted ∙ comes
      by_next (Some c) next = by_clearance (flag_at r.clears c) refl
        where
          by_clearance : (b : Bool) → flag_at r.clears c ≡ b → run_across boxes r (parent_at boxes k) (k + 1) ≡ run_at r.to_bottoms k
          by_clearance true cleared = ends_above boxes r (parent_at boxes k) (k + 1) c next cleared ∙ comes
          by_clearance false flows =
              let found = next_is boxes (parent_at boxes k) (k + 1) (length boxes) c next in
              let c_is = child_parent boxes (parent_at boxes k) c found.child in
              let above = c_is.0 in
              let last : last_child boxes (parent_at boxes c) c ≡ Some k = subst (λ (q : ℕ). last_child boxes q c ≡ Some k) (sym c_is.1) (next_sibling_is boxes (parent_at boxes k) k c is_one next) in
              absurd (alone (top c) (next_sibling k c (omega (arith, above)) found.within last flows))

  ends_lem : (x : Margin) → IsMargin boxes x → ((y : Margin) → Adjoins boxes r x y → ⊥) → run_of r x ≡ run_to boxes r x
  ends_lem (top p) at alone = ends_top p at.0 at.1 alone
  ends_lem (bottom k) at alone = ends_bottom k at.0 at.1 alone

pub adjoining_runs_lem : AdjoiningRuns
adjoining_runs_lem boxes r tree is = record { goes_on = continues boxes tree r is; begins = begins_lem boxes tree r is; one_run = one_run_lem boxes tree r is; ends = ends_lem boxes tree r is }
