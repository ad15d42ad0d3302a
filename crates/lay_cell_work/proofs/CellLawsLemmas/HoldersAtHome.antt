-- The nearest holder of a box among the boxes of its context, and among those of the root that it is at home in.
use Rattle.std.proofs.Common.{◌≡◌, ◌<◌, ℕ, Bool, true, false, List, length, slice_index, Option, Some, refl, ap, sym, subst, ◌∙◌, arith}
use Rattle.lay_cell_work.proofs.Cited.{at_rank, holder_of, is_home, not_own, parent_low, parent_of, place_other, place_root, rank_some, root_home, same_home}
use Rattle.lay_box_tree.specs.BoxColumns.{box_at}
use Rattle.lay_box_tree.specs.ContextBoxes.{AreContextBoxes}
use Rattle.lay_box_tree.specs.Containers.{box_parent}
use Rattle.lay_box_tree.specs.declared.box_tree.BoxNode.{BoxNode}
use Rattle.lay_contexts.specs.FormattingBoxes.{boxes_of_root, place_inside, rank}
use Rattle.lay_contexts.specs.Homes.{AreHomes, is_root}
use Rattle.lay_positioned.specs.Holders.{IsNearestHolder, further, is_holder, is_holder_at, parent}

module _ (boxes : List BoxNode) (homes : List ℕ) (are : AreContextBoxes boxes) (found : AreHomes boxes homes) where
  abbrev Root : ℕ → List BoxNode
  Root h = boxes_of_root boxes homes h

  module _ (k : ℕ) (some : 0 < k) (inside : k < length boxes) where
    abbrev H : ℕ
    H = slice_index homes k

    abbrev P : ℕ
    P = box_parent boxes k

    pub parent_within : P < length boxes
    parent_within = (let low = parent_low boxes are.tree k some inside in omega (arith, low, inside))

    parent_rank : box_parent (Root H) (rank homes k) ≡ place_inside boxes homes P
    parent_rank =
        sym (parent_of (Root H) (rank homes k)) ∙ ap (λ (b : BoxNode). b.parent) (at_rank boxes homes H k inside (is_home homes H k some refl)) ∙ ap (place_inside boxes homes) (parent_of boxes k)

    -- the home of a box whose parent is a root
    pub home_root_is : is_root boxes P ≡ true → H ≡ P
    home_root_is root = root_home boxes k H some root (found.each k inside)

    -- and of another one
    pub home_other_is : is_root boxes P ≡ false → H ≡ slice_index homes P
    home_other_is plain = same_home boxes k H (slice_index homes P) some plain (found.each k inside) (found.each P parent_within)

    holder_by : (b : Bool) → is_root boxes P ≡ b → is_holder_at (Root H) (place_inside boxes homes P) ≡ is_holder_at boxes P
    holder_by true root =
        ap (is_holder_at (Root H)) (place_root boxes homes P root) ∙ ap (λ (h : ℕ). is_holder (box_at boxes h)) (home_root_is root) ∙ sym (holder_of boxes P)
    holder_by false plain =
        let home = home_other_is plain in
        let stands = at_rank boxes homes (slice_index homes P) P parent_within (is_home homes (slice_index homes P) P (not_own boxes P plain) refl) in
        ap (is_holder_at (Root H)) (place_other boxes homes P plain) ∙ ap (λ (h : ℕ). is_holder_at (Root h) (rank homes P)) home
        ∙ holder_of (Root (slice_index homes P)) (rank homes P) ∙ ap is_holder stands ∙ sym (holder_of boxes P)

    holder_there : is_holder_at (Root H) (box_parent (Root H) (rank homes k)) ≡ is_holder_at boxes P
    holder_there = ap (is_holder_at (Root H)) parent_rank ∙ holder_by (is_root boxes P) refl

    -- the parent is the nearest one there too
    pub held_there : is_holder_at boxes P ≡ true → IsNearestHolder (Root H) (rank homes k) (Some (box_parent (Root H) (rank homes k)))
    held_there hold = parent (rank homes k) (rank_some homes k some) (holder_there ∙ hold)

    -- and where it is none, and no root, those further out are
    pub further_there : is_root boxes P ≡ false → is_holder_at boxes P ≡ false → (holder : Option ℕ) → IsNearestHolder (Root (slice_index homes P)) (rank homes P) holder → IsNearestHolder (Root H) (rank homes k) holder
    further_there plain empty holder rest =
        let there : IsNearestHolder (Root H) (rank homes P) holder = subst (λ (h : ℕ). IsNearestHolder (Root h) (rank homes P) holder) (sym (home_other_is plain)) rest in
        further (rank homes k) holder (rank_some homes k some) (holder_there ∙ empty)
        (subst (λ (p : ℕ). IsNearestHolder (Root H) p holder) (sym (parent_rank ∙ place_other boxes homes P plain)) there)
