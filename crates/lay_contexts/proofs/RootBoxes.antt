-- The boxes of the formatting context of a root are a tree, as those of a context are.
use Rattle.std.proofs.Common.{◌≡◌, ℕ, zero, suc, ◌+◌, ◌<◌, ◌≤◌, Bool, true, false, List, [], ◌∷◌, add-one, length, slice_index, refl, ap, sym, subst, ◌∙◌, arith, inl, inr}
use Rattle.std.proofs.lemmas.Bool.{cases_lt, or_from}
use Rattle.std.proofs.lemmas.List.{get_or-map, length-map}
use Rattle.lay_box_tree.specs.BoxColumns.{box_parents}
use Rattle.lay_box_tree.specs.Containers.{box_parent}
use Rattle.lay_box_tree.specs.declared.box_tree.BoxNode.{BoxNode}
use Rattle.lay_box_tree.proofs.BoxForests.{length-parents}
use Rattle.lay_box_tree.specs.ContextBoxes.{AreContextBoxes, is_inner}
use Rattle.lay_contexts.specs.FormattingBoxes.{as_member, at_home_before, boxes_of_root, is_at_home, place_inside, rank}
use Rattle.lay_box_tree.specs.BoxColumns.{box_at, no_box}
use Rattle.lay_contexts.specs.Homes.{AreHomes, IsHome, is_root}
use Rattle.lay_contexts.proofs.AtHome.{Stands, count_few, count_le, count_lt, home_is, is_home, place_there, stands_there}
use Rattle.lay_contexts.proofs.NearestRoots.{home_before, not_own, parent_low, root_home, same_home}

pub parent_of : (boxes : List BoxNode) (k : ℕ) → (box_at boxes k).parent ≡ box_parent boxes k
parent_of [] k = refl
parent_of (b ∷ bs) zero = refl
parent_of (b ∷ bs) (suc k) = parent_of bs k

pub inner_of : (boxes : List BoxNode) (k : ℕ) → (box_at boxes k).inner ≡ is_inner boxes k
inner_of [] k = refl
inner_of (b ∷ bs) zero = refl
inner_of (b ∷ bs) (suc k) = inner_of bs k

pub parent_within : (boxes : List BoxNode) → AreContextBoxes boxes → (k : ℕ) → k < length boxes → (box_at boxes k).parent < length boxes
parent_within boxes are zero lt = (let e = parent_of boxes 0 ∙ are.tree.root in omega (arith, e, lt))
parent_within boxes are (suc k) lt = (let e = parent_of boxes (suc k) in let low = parent_low boxes are.tree (suc k) (omega arith) lt in omega (arith, e, low, lt))

-- the rank of what is at home in r
pub rank_is : (homes : List ℕ) (r k : ℕ) → is_at_home homes r k ≡ true → rank homes k ≡ 1 + length (at_home_before homes r k)
rank_is homes r zero home = absurd cc
rank_is homes r (suc k) home = ap (λ (h : ℕ). 1 + length (at_home_before homes h (suc k))) (home_is homes r (suc k) home).1

pub rank_some : (homes : List ℕ) (k : ℕ) → 0 < k → 0 < rank homes k
rank_some homes zero some = absurd (omega (arith, some))
rank_some homes (suc k) some = omega arith

pub rank_low : (homes : List ℕ) (k : ℕ) → rank homes k ≤ k
rank_low homes zero = omega arith
rank_low homes (suc k) =
    let h : ℕ = slice_index homes (suc k) in
    let le = count_few homes h k in
    let q = ap (λ (m : ℕ). length (at_home_before homes h m)) (add-one k) in
    omega (arith, le, q)

pub rank_next : (homes : List ℕ) (r k : ℕ) → is_at_home homes r k ≡ true → rank homes k ≡ suc (length (at_home_before homes r k))
rank_next homes r k home = (let e = rank_is homes r k home in omega (arith, e))

pub place_root : (boxes : List BoxNode) (homes : List ℕ) (p : ℕ) → is_root boxes p ≡ true → place_inside boxes homes p ≡ 0
place_root boxes homes p e = rw e refl

pub place_other : (boxes : List BoxNode) (homes : List ℕ) (p : ℕ) → is_root boxes p ≡ false → place_inside boxes homes p ≡ rank homes p
place_other boxes homes p e = rw e refl

module _ (boxes : List BoxNode) (homes : List ℕ) (r : ℕ) where
  pub length_is : length (boxes_of_root boxes homes r) ≡ length (at_home_before homes r (length boxes)) + 1
  length_is = (let e = length-map (at_home_before homes r (length boxes)) (as_member boxes homes) in omega (arith, e))

  -- the box at the place a behind the root's
  pub member_at : (a : ℕ) → a < length (at_home_before homes r (length boxes)) → box_at (boxes_of_root boxes homes r) (suc a) ≡ as_member boxes homes (slice_index (at_home_before homes r (length boxes)) a)
  member_at a lt = get_or-map (as_member boxes homes) (at_home_before homes r (length boxes)) a 0 no_box lt

  pub parent_at : (a : ℕ) → a < length (at_home_before homes r (length boxes))
      → box_parent (boxes_of_root boxes homes r) (suc a) ≡ place_inside boxes homes (box_parent boxes (slice_index (at_home_before homes r (length boxes)) a))
  parent_at a lt =
      let k : ℕ = slice_index (at_home_before homes r (length boxes)) a in
      sym (parent_of (boxes_of_root boxes homes r) (suc a)) ∙ ap (λ (b : BoxNode). b.parent) (member_at a lt) ∙ ap (place_inside boxes homes) (parent_of boxes k)

  -- a box stands there at its rank
  pub at_rank : (k : ℕ) → k < length boxes → is_at_home homes r k ≡ true → box_at (boxes_of_root boxes homes r) (rank homes k) ≡ as_member boxes homes k
  at_rank k lt home =
      let s = stands_there homes r (length boxes) k lt home in
      ap (box_at (boxes_of_root boxes homes r)) (rank_next homes r k home) ∙ member_at (length (at_home_before homes r k)) s.inside ∙ ap (as_member boxes homes) s.is

module _ (boxes : List BoxNode) (homes : List ℕ) (r : ℕ) (are : AreContextBoxes boxes) (found : AreHomes boxes homes) where
  home_here : (k : ℕ) → k < length boxes → is_at_home homes r k ≡ true → IsHome boxes k r
  home_here k lt home = subst (IsHome boxes k) (home_is homes r k home).1 (found.each k lt)

  -- the parent of a box is at home in r too, where it isn't r
  parent_home : (k : ℕ) → k < length boxes → is_at_home homes r k ≡ true → is_root boxes (box_parent boxes k) ≡ false → is_at_home homes r (box_parent boxes k) ≡ true
  parent_home k lt home e =
      let positive = (home_is homes r k home).0 in
      let low = parent_low boxes are.tree k positive lt in
      let p : ℕ = box_parent boxes k in
      is_home homes r p (not_own boxes p e) (sym (same_home boxes k r (slice_index homes p) positive e (home_here k lt home) (found.each p (omega (arith, low, lt)))))

  parent_place : (k : ℕ) → k < length boxes → is_at_home homes r k ≡ true → is_root boxes (box_parent boxes k) ≡ false
      → place_inside boxes homes (box_parent boxes k) ≡ 1 + length (at_home_before homes r (box_parent boxes k))
  parent_place k lt home e = place_other boxes homes (box_parent boxes k) e ∙ rank_is homes r (box_parent boxes k) (parent_home k lt home e)

  -- it stands before the box
  parent_before : (k : ℕ) (b : Bool) → k < length boxes → is_at_home homes r k ≡ true → is_root boxes (box_parent boxes k) ≡ b → place_inside boxes homes (box_parent boxes k) < 1 + length (at_home_before homes r k)
  parent_before k true lt home e = (let q = place_root boxes homes (box_parent boxes k) e in omega (arith, q))
  parent_before k false lt home e =
      let q = parent_place k lt home e in
      let low = parent_low boxes are.tree k (home_is homes r k home).0 lt in
      let c = count_lt homes r (box_parent boxes k) k (parent_home k lt home e) low in
      omega (arith, q, c)

  -- and a box between the two has its parent between them
  parent_between : (j k : ℕ) (b : Bool) → j < k → k < length boxes → is_at_home homes r j ≡ true → is_at_home homes r k ≡ true → is_root boxes (box_parent boxes k) ≡ false
      → box_parent boxes k < j → is_root boxes (box_parent boxes j) ≡ b → place_inside boxes homes (box_parent boxes k) ≤ place_inside boxes homes (box_parent boxes j)
  parent_between j k true less lt here there e low root =
      let up = are.tree.together j k less (omega (arith, lt, length-parents boxes)) low in
      let q = root_home boxes j r (home_is homes r j here).0 root (home_here j (omega (arith, less, lt)) here) in
      let p : ℕ = box_parent boxes k in
      let under = parent_low boxes are.tree k (home_is homes r k there).0 lt in
      let behind = home_before boxes are.tree p r (omega (arith, under, lt)) (home_here p (omega (arith, under, lt)) (parent_home k lt there e)) (not_own boxes p e) in
      absurd (omega (arith, up, q, behind))
  parent_between j k false less lt here there e low other =
      let up = are.tree.together j k less (omega (arith, lt, length-parents boxes)) low in
      let c = count_le homes r (box_parent boxes k) (box_parent boxes j) up in
      let q = parent_place k lt there e in
      let z = parent_place j (omega (arith, less, lt)) here other in
      omega (arith, c, q, z)

  together_by : (j k : ℕ) (b : Bool) → k < length boxes → is_at_home homes r j ≡ true → is_at_home homes r k ≡ true → is_root boxes (box_parent boxes k) ≡ b
      → length (at_home_before homes r j) < length (at_home_before homes r k) → place_inside boxes homes (box_parent boxes k) < 1 + length (at_home_before homes r j)
      → place_inside boxes homes (box_parent boxes k) ≤ place_inside boxes homes (box_parent boxes j)
  together_by j k true lt here there e less under = (let q = place_root boxes homes (box_parent boxes k) e in omega (arith, q))
  together_by j k false lt here there e less under =
      let q = parent_place k lt there e in
      let before : j < k = elim (cases_lt j k) [
        | inl low ↦ low
        | inr high ↦ absurd (let c = count_le homes r k j high in omega (arith, c, less))
      ] in
      let low : box_parent boxes k < j = elim (cases_lt (box_parent boxes k) j) [
        | inl low ↦ low
        | inr high ↦ absurd (let c = count_le homes r j (box_parent boxes k) high in omega (arith, c, q, under))
      ] in
      parent_between j k (is_root boxes (box_parent boxes j)) before lt here there e low refl

  there : (a : ℕ) → suc a < length (box_parents (boxes_of_root boxes homes r)) → Stands homes r (length boxes) a (slice_index (at_home_before homes r (length boxes)) a)
  there a lt =
      let one = length_is boxes homes r in
      let two = length-parents (boxes_of_root boxes homes r) in
      place_there homes r (length boxes) a (omega (arith, lt, one, two))

  before_in : (k : ℕ) → 0 < k → k < length (box_parents (boxes_of_root boxes homes r)) → box_parent (boxes_of_root boxes homes r) k < k
  before_in zero positive lt = absurd (omega (arith, positive))
  before_in (suc a) positive lt =
      let s = there a lt in
      let k : ℕ = slice_index (at_home_before homes r (length boxes)) a in
      let b = parent_before k (is_root boxes (box_parent boxes k)) s.before s.home refl in
      let e = parent_at boxes homes r a s.inside in
      omega (arith, b, e, s.place)

  together_in : (j k : ℕ) → j < k → k < length (box_parents (boxes_of_root boxes homes r)) → box_parent (boxes_of_root boxes homes r) k < j
      → box_parent (boxes_of_root boxes homes r) k ≤ box_parent (boxes_of_root boxes homes r) j
  together_in zero k less lt low = absurd (omega (arith, low))
  together_in (suc a) zero less lt low = absurd (omega (arith, less))
  together_in (suc a) (suc b) less lt low =
      let s = there a (omega (arith, less, lt)) in
      let t = there b lt in
      let j : ℕ = slice_index (at_home_before homes r (length boxes)) a in
      let k : ℕ = slice_index (at_home_before homes r (length boxes)) b in
      let e = parent_at boxes homes r a s.inside in
      let f = parent_at boxes homes r b t.inside in
      let g = together_by j k (is_root boxes (box_parent boxes k)) t.before s.home t.home refl (omega (arith, s.place, t.place, less)) (omega (arith, f, low, s.place)) in
      omega (arith, e, f, g)

  inner_by : (k : ℕ) (b : Bool) → k < length boxes → is_at_home homes r k ≡ true → is_root boxes (box_parent boxes k) ≡ b → is_inner (boxes_of_root boxes homes r) (place_inside boxes homes (box_parent boxes k)) ≡ false
  inner_by k true lt home e = (let q = place_root boxes homes (box_parent boxes k) e in rw q refl)
  inner_by k false lt home e =
      let p : ℕ = box_parent boxes k in
      let positive = (home_is homes r k home).0 in
      let low = parent_low boxes are.tree k positive lt in
      let here = at_rank boxes homes r p (omega (arith, low, lt)) (parent_home k lt home e) in
      let none : (box_at boxes p).inner ≡ false = inner_of boxes p ∙ are.parents k positive lt in
      let q = place_other boxes homes p e in
      rw q (sym (inner_of (boxes_of_root boxes homes r) (rank homes p)) ∙ ap (λ (b : BoxNode). b.inner) here ∙ or_from (box_at boxes p).inner (is_root boxes p) none e)

  leaves_in : (k : ℕ) → 0 < k → k < length (boxes_of_root boxes homes r) → is_inner (boxes_of_root boxes homes r) (box_parent (boxes_of_root boxes homes r) k) ≡ false
  leaves_in zero positive lt = absurd (omega (arith, positive))
  leaves_in (suc a) positive lt =
      let s = there a (omega (arith, lt, length-parents (boxes_of_root boxes homes r))) in
      let k : ℕ = slice_index (at_home_before homes r (length boxes)) a in
      let e = parent_at boxes homes r a s.inside in
      rw e (inner_by k (is_root boxes (box_parent boxes k)) s.before s.home refl)

  pub root_boxes : AreContextBoxes (boxes_of_root boxes homes r)
  root_boxes = record {
    some = (let e = length_is boxes homes r in omega (arith, e));
    tree = record { root = refl; before = before_in; together = together_in };
    own = refl;
    parents = leaves_in;
  }
