-- Where a context has no root but its own box, all its boxes are at home there, and stay what they are.
use Rattle.std.proofs.Common.{◌≡◌, ℕ, zero, suc, ◌+◌, ◌<◌, ◌||◌, Bool, true, false, List, add-one, length, slice_index, refl, ap, sym, ◌∙◌, arith, inl, inr}
use Rattle.std.proofs.lemmas.Bool.{cases_lt}
use Rattle.std.proofs.lemmas.List.{ext_get_or}
use Rattle.lay_box_tree.specs.declared.box_tree.BoxNode.{BoxNode}
use Rattle.lay_box_tree.specs.ContextBoxes.{AreContextBoxes}
use Rattle.lay_contexts.specs.FormattingBoxes.{as_member, as_own, at_home_before, boxes_of_root, is_at_home, place_inside, placed_box, rank}
use Rattle.lay_box_tree.specs.BoxColumns.{box_at, no_box}
use Rattle.lay_contexts.specs.Homes.{AreHomes, is_root}
use Rattle.lay_contexts.proofs.AtHome.{count_yes, is_home, more_no, place_there}
use Rattle.lay_contexts.proofs.NearestRoots.{home_before, home_is_root}
use Rattle.lay_contexts.proofs.RootBoxes.{inner_of, length_is, member_at, parent_of, parent_within, place_other, rank_is}

same_placed : (b : BoxNode) → placed_box b b.parent b.inner ≡ b
same_placed b = refl

placed_as : (b : BoxNode) (p : ℕ) (inner : Bool) → p ≡ b.parent → inner ≡ b.inner → placed_box b p inner ≡ b
placed_as b p inner e f = rw (e, f) (same_placed b)

or_none : (a b : Bool) → b ≡ false → (a || b) ≡ a
or_none true b e = refl
or_none false b e = rw e refl

-- the own box is the same
pub own_same : (boxes : List BoxNode) → AreContextBoxes boxes → as_own (box_at boxes 0) ≡ box_at boxes 0
own_same boxes are = placed_as (box_at boxes 0) 0 false (sym (parent_of boxes 0 ∙ are.tree.root)) (sym (inner_of boxes 0 ∙ are.own))

module _ (boxes : List BoxNode) (homes : List ℕ) (are : AreContextBoxes boxes) (found : AreHomes boxes homes)
    (whole : (k : ℕ) → 0 < k → k < length boxes → is_root boxes k ≡ true → ⊥) where
  not_root : (k : ℕ) (b : Bool) → 0 < k → k < length boxes → is_root boxes k ≡ b → is_root boxes k ≡ false
  not_root k true positive lt e = absurd (whole k positive lt e)
  not_root k false positive lt e = e

  home_zero : (k : ℕ) → 0 < k → k < length boxes → is_at_home homes 0 k ≡ true
  home_zero k positive lt =
      let h : ℕ = slice_index homes k in
      let is = found.each k lt in
      let low = home_before boxes are.tree k h lt is positive in
      elim (cases_lt 0 h) [
        | inl some ↦ absurd (whole h some (omega (arith, low, lt)) (home_is_root boxes k h is))
        | inr none ↦ is_home homes 0 k positive (omega (arith, none))
      ]

  count_zero : (k : ℕ) → k < length boxes → length (at_home_before homes 0 (k + 1)) ≡ k
  count_zero zero lt = ap length (more_no homes 0 0 refl)
  count_zero (suc k) lt =
      let below = count_zero k (omega (arith, lt)) in
      let step = count_yes homes 0 (suc k) (home_zero (suc k) (omega arith) lt) in
      let q = ap (λ (n : ℕ). length (at_home_before homes 0 n)) (add-one k) in
      omega (arith, below, step, q)

  pub rank_same : (k : ℕ) → 0 < k → k < length boxes → rank homes k ≡ k
  rank_same zero positive lt = refl
  rank_same (suc k) positive lt =
      let e = rank_is homes 0 (suc k) (home_zero (suc k) positive lt) in
      let c = count_zero k (omega (arith, lt)) in
      let q = ap (λ (n : ℕ). length (at_home_before homes 0 n)) (add-one k) in
      omega (arith, e, c, q)

  place_same : (p : ℕ) → p < length boxes → place_inside boxes homes p ≡ p
  place_same zero lt = refl
  place_same (suc p) lt = place_other boxes homes (suc p) (not_root (suc p) (is_root boxes (suc p)) (omega arith) lt refl) ∙ rank_same (suc p) (omega arith) lt

  member_same : (k : ℕ) → 0 < k → k < length boxes → as_member boxes homes k ≡ box_at boxes k
  member_same k positive lt =
      let b : BoxNode = box_at boxes k in
      let within = parent_within boxes are k lt in
      placed_as b (place_inside boxes homes b.parent) (b.inner || is_root boxes k) (place_same b.parent within) (or_none b.inner (is_root boxes k) (not_root k (is_root boxes k) positive lt refl))

  length_same : length (boxes_of_root boxes homes 0) ≡ length boxes
  length_same = by_length (length boxes) refl
    where
      by_length : (n : ℕ) → n ≡ length boxes → length (boxes_of_root boxes homes 0) ≡ length boxes
      by_length zero e = absurd (omega (arith, e, are.some))
      by_length (suc n) e =
          let c = count_zero n (omega (arith, e)) in
          let q = ap (λ (m : ℕ). length (at_home_before homes 0 m)) (add-one n ∙ e) in
          let l = length_is boxes homes 0 in
          omega (arith, c, q, l, e)

  place_is : (k a : ℕ) → k < length boxes → is_at_home homes 0 k ≡ true → length (at_home_before homes 0 k) ≡ a → k ≡ suc a
  place_is zero a lt home e = absurd cc
  place_is (suc k) a lt home e =
      let c = count_zero k (omega (arith, lt)) in
      let q = ap (λ (m : ℕ). length (at_home_before homes 0 m)) (add-one k) in
      omega (arith, c, q, e)

  each_same : (k : ℕ) → k < length (boxes_of_root boxes homes 0) → box_at (boxes_of_root boxes homes 0) k ≡ box_at boxes k
  each_same zero lt = own_same boxes are
  each_same (suc a) lt =
      let s = place_there homes 0 (length boxes) a (omega (arith, lt, length_is boxes homes 0)) in
      let q = place_is (slice_index (at_home_before homes 0 (length boxes)) a) a s.before s.home s.place in
      member_at boxes homes 0 a s.inside ∙ ap (as_member boxes homes) q ∙ member_same (suc a) (omega arith) (omega (arith, lt, length_same))

  pub whole_boxes : boxes_of_root boxes homes 0 ≡ boxes
  whole_boxes = ext_get_or no_box (boxes_of_root boxes homes 0) boxes length_same each_same

  pub whole_root : (r : ℕ) → r < length boxes → is_root boxes r ≡ true → boxes_of_root boxes homes r ≡ boxes
  whole_root zero lt root = whole_boxes
  whole_root (suc r) lt root = absurd (whole (suc r) (omega arith) lt root)
