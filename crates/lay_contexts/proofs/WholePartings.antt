-- Where a context has no root but its own box, what its columns would say is known at once.
use Rattle.std.proofs.Common.{◌≡◌, ℕ, zero, suc, ◌+◌, ◌<◌, ◌≤◌, ◌≢◌, ◌++◌, ◌∷◌, [], Bool, true, false, List, add-one, length, slice_index, slice_index_or, refl, ap, sym, subst, ◌∙◌, arith, inl, inr}
use Rattle.std.specs.Prelude.{replicate}
use Rattle.std.specs.List.{range_with_len}
use Rattle.std.proofs.lemmas.Bool.{cases_lt}
use Rattle.std.proofs.lemmas.List.FromFn.{length-range_with_len, get_or-range_with_len}
use Rattle.std.proofs.lemmas.List.{length-replicate}
use Rattle.lay_box_tree.specs.Containers.{box_parent}
use Rattle.lay_box_tree.specs.declared.box_tree.BoxNode.{BoxNode}
use Rattle.lay_box_tree.specs.ContextBoxes.{AreContextBoxes}
use Rattle.lay_contexts.specs.FormattingBoxes.{at_home_before}
use Rattle.lay_contexts.specs.FormattingContextList.{roots_before}
use Rattle.lay_contexts.specs.Homes.{AreHomes, IsHome, further, is_root, own, parent}
use Rattle.lay_contexts.specs.Partings.{IsParting, most_formatting_contexts}
use Rattle.lay_contexts.specs.WholePartings.{HasOneRoot, whole_parting}
use Rattle.lay_contexts.proofs.AtHome.{is_home, more_no, more_yes}
use Rattle.lay_contexts.proofs.GrowingColumns.{not_home}
use Rattle.lay_contexts.proofs.NearestRoots.{parent_low}
use Rattle.lay_contexts.proofs.RootNumbers.{roots_no, roots_yes}
use Rattle.lay_contexts.proofs.WholeBoxes.{rank_same}

copy_at : (n k v : ℕ) → k < n → slice_index (replicate n v) k ≡ v
copy_at zero k v lt = absurd (omega (arith, lt))
copy_at (suc n) zero v lt = refl
copy_at (suc n) (suc k) v lt = copy_at n k v (omega (arith, lt))

pub none_at : (n k : ℕ) → slice_index (replicate n 0) k ≡ 0
none_at zero k = refl
none_at (suc n) zero = refl
none_at (suc n) (suc k) = none_at n k

no_list_at : (n k : ℕ) → slice_index_or {A = List ℕ} (replicate n []) k [] ≡ []
no_list_at zero k = refl
no_list_at (suc n) zero = refl
no_list_at (suc n) (suc k) = no_list_at n k

range_more : (a n : ℕ) → range_with_len a n ++ (a + n) ∷ [] ≡ range_with_len a (suc n)
range_more a zero = (let q : a + 0 ≡ a = omega arith in ap (λ (m : ℕ). m ∷ []) q)
range_more a (suc n) = (let q : a + suc n ≡ (a + 1) + n = omega arith in
    ap (λ (xs : List ℕ). a ∷ xs) (ap (λ (m : ℕ). range_with_len (a + 1) n ++ m ∷ []) q ∙ range_more (a + 1) n))

pub rank_at : (inside k : ℕ) → k < suc inside → slice_index (range_with_len 0 (suc inside)) k ≡ k
rank_at inside k lt = (let e = get_or-range_with_len 0 (suc inside) k 0 lt in omega (arith, e))

module _ (homes : List ℕ) (none : (k : ℕ) → slice_index homes k ≡ 0) where
  -- all boxes but the own one are at home there
  pub all_at_own : (n : ℕ) → at_home_before homes 0 (suc n) ≡ range_with_len 1 n
  all_at_own zero = more_no homes 0 0 refl
  all_at_own (suc n) = (let q : suc (suc n) ≡ suc n + 1 = omega arith in
      ap (at_home_before homes 0) q ∙ more_yes homes 0 (suc n) (is_home homes 0 (suc n) (omega arith) (none (suc n)))
      ∙ ap (λ (ks : List ℕ). ks ++ suc n ∷ []) (all_at_own n) ∙ ap (λ (m : ℕ). range_with_len 1 n ++ m ∷ []) (let s : suc n ≡ 1 + n = omega arith in s) ∙ range_more 1 n)

  pub none_at_other : (r n : ℕ) → 0 < r → at_home_before homes r n ≡ []
  none_at_other r zero some = refl
  none_at_other r (suc n) some =
      let other : slice_index homes n ≢ r = (λ e. (let z = none n in omega (arith, e, z, some))) in
      ap (at_home_before homes r) (sym (add-one n)) ∙ more_no homes r n (not_home homes r n other) ∙ none_at_other r n some

module _ (boxes : List BoxNode) (are : AreContextBoxes boxes) (one : HasOneRoot boxes) where
  own_by : (k p : ℕ) (b : Bool) → 0 < k → k < length boxes → box_parent boxes k ≡ p → is_root boxes (box_parent boxes k) ≡ b → (is_root boxes (box_parent boxes k) ≡ false → IsHome boxes p 0) → IsHome boxes k 0
  own_by k zero true some lt is e up = subst (IsHome boxes k) is (parent k some e)
  own_by k (suc p) true some lt is e up =
      let low = parent_low boxes are.tree k some lt in
      absurd (one (box_parent boxes k) (omega (arith, is)) (omega (arith, low, lt)) e)
  own_by k p false some lt is e up = further k 0 some e (subst (λ (q : ℕ). IsHome boxes q 0) (sym is) (up e))

  own_to : (n k : ℕ) → k < n → k < length boxes → IsHome boxes k 0
  own_to zero k below lt = absurd (omega (arith, below))
  own_to (suc n) zero below lt = own
  own_to (suc n) (suc k) below lt =
      let low = parent_low boxes are.tree (suc k) (omega arith) lt in
      own_by (suc k) (box_parent boxes (suc k)) (is_root boxes (box_parent boxes (suc k))) (omega arith) lt refl refl (λ e. own_to n (box_parent boxes (suc k)) (omega (arith, low, below)) (omega (arith, low, lt)))

  whole_homes : (inside : ℕ) → length boxes ≡ suc inside → AreHomes boxes (replicate (suc inside) 0)
  whole_homes inside count = record {
    count = length-replicate (suc inside) 0 ∙ sym count;
    each = λ k lt. (let z = none_at (suc inside) k in subst (IsHome boxes k) (sym z) (own_to (suc k) k (omega arith) lt));
  }

  not_other : (k : ℕ) (b : Bool) → 0 < k → k < length boxes → is_root boxes k ≡ b → is_root boxes k ≡ false
  not_other k true some lt e = absurd (one k some lt e)
  not_other k false some lt e = e

  one_before : (k : ℕ) → k < length boxes → roots_before boxes (suc k) ≡ 1
  one_before zero lt = roots_yes boxes 0 refl
  one_before (suc k) lt = roots_no boxes (suc k) (not_other (suc k) (is_root boxes (suc k)) (omega arith) lt refl) ∙ one_before k (omega (arith, lt))

  number_to : (first next inside k : ℕ) → length boxes ≡ suc inside → next ≡ first + 1 → k < suc (suc inside) → slice_index (first ∷ replicate (suc inside) next) k ≡ first + roots_before boxes k
  number_to first next inside zero count is lt = omega arith
  number_to first next inside (suc k) count is lt =
      let c = copy_at (suc inside) k next (omega (arith, lt)) in
      let r = one_before k (omega (arith, lt, count)) in
      omega (arith, c, r, is)

  number_low : (first next inside k : ℕ) → next ≡ first + 1 → next ≤ most_formatting_contexts → k < suc (suc inside) → slice_index (first ∷ replicate (suc inside) next) k ≤ most_formatting_contexts
  number_low first next inside zero is few lt = omega (arith, is, few)
  number_low first next inside (suc k) is few lt = (let c = copy_at (suc inside) k next (omega (arith, lt)) in omega (arith, c, few))

  lists_are : (inside r : ℕ) → length boxes ≡ suc inside → slice_index_or (range_with_len 1 inside ∷ replicate inside []) r [] ≡ at_home_before (replicate (suc inside) 0) r (length boxes)
  lists_are inside zero count = rw count (sym (all_at_own (replicate (suc inside) 0) (none_at (suc inside)) inside))
  lists_are inside (suc r) count = no_list_at inside r ∙ sym (none_at_other (replicate (suc inside) 0) (none_at (suc inside)) (suc r) (length boxes) (omega arith))

  pub whole_is : (first next inside : ℕ) → length boxes ≡ suc inside → next ≡ first + 1 → next ≤ most_formatting_contexts → IsParting boxes first (whole_parting first next inside)
  whole_is first next inside count is few =
      let homes = whole_homes inside count in
      record {
        homes = homes;
        ranks = record {
          count = length-range_with_len 0 (suc inside) ∙ sym count;
          each = λ k lt. elim (cases_lt 0 k) [
            | inl some ↦ rank_at inside k (omega (arith, lt, count)) ∙ sym (rank_same boxes (replicate (suc inside) 0) are homes one k some lt)
            | inr high ↦ (let z : k ≡ 0 = omega (arith, high) in rw z refl)
          ];
          lists = ap suc (length-replicate inside []) ∙ sym (length-replicate (suc inside) 0);
          list = λ r lt. lists_are inside r count;
        };
        numbers = record {
          count = (let c = length-replicate (suc inside) next in omega (arith, c, count));
          each = λ k lt. number_to first next inside k count is (omega (arith, lt, count));
          few = λ k lt. number_low first next inside k is few (omega (arith, lt, count));
        };
      }

-- what is read of the columns
pub length_ranks : (inside : ℕ) → length (range_with_len 0 (suc inside)) ≡ suc inside
length_ranks inside = length-range_with_len 0 (suc inside)

pub count_own : (inside r : ℕ) → r ≡ 0 → length (slice_index_or (range_with_len 1 inside ∷ replicate inside []) r []) ≡ inside
count_own inside r first = rw first (length-range_with_len 1 inside)

pub count_other : (inside r : ℕ) → 0 < r → length (slice_index_or (range_with_len 1 inside ∷ replicate inside []) r []) ≡ 0
count_other inside zero some = absurd (omega (arith, some))
count_other inside (suc r) some = ap length (no_list_at inside r)

pub member_low : (inside r a : ℕ) → a < length (slice_index_or (range_with_len 1 inside ∷ replicate inside []) r []) → a < inside
member_low inside zero a lt = (let c = count_own inside 0 refl in omega (arith, lt, c))
member_low inside (suc r) a lt = (let c = count_other inside (suc r) (omega arith) in absurd (omega (arith, lt, c)))

pub member_is : (inside r a : ℕ) → a < length (slice_index_or (range_with_len 1 inside ∷ replicate inside []) r []) → slice_index (slice_index_or (range_with_len 1 inside ∷ replicate inside []) r []) a ≡ a + 1
member_is inside zero a lt = (let e = get_or-range_with_len 1 inside a 0 (member_low inside 0 a lt) in omega (arith, e))
member_is inside (suc r) a lt = (let c = count_other inside (suc r) (omega arith) in absurd (omega (arith, lt, c)))
