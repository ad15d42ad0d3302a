-- The columns that say where boxes go, while they grow.
use Rattle.std.proofs.Common.{◌≡◌, ◌≢◌, ℕ, zero, suc, ◌+◌, ◌<◌, ◌≤◌, ◌==◌, Bool, true, false, List, [], ◌∷◌, ◌++◌, add-one, length, length-append, slice_index, slice_index_or, slice_set, refl, ap, sym, subst, ◌∙◌, arith, inl, inr, if◌then◌else◌}
use Rattle.std.proofs.lemmas.Bool.{cases_eq, cases_lt}
use Rattle.std.proofs.lemmas.Grind.{elements}
use Rattle.std.proofs.lemmas.List.{length-map}
use Rattle.lay_box_tree.specs.declared.box_tree.BoxNode.{BoxNode}
use Rattle.lay_contexts.specs.Contexts.{Context, boxes_in}
use Rattle.lay_contexts.specs.FormattingBoxes.{at_home_before, is_at_home, rank}
use Rattle.lay_contexts.specs.FormattingContextList.{AreHomesOf, first_number, homes_in, roots_before}
use Rattle.lay_contexts.specs.Homes.{is_root}
use Rattle.lay_contexts.specs.Partings.{AreNumbersTo, ArePartings, ArePartingsTo, IsParting, Parting, homes_of, most_formatting_contexts, parting_at}
use Rattle.lay_contexts.proofs.AtHome.{is_home, more_no, more_yes}
use Rattle.lay_contexts.proofs.RootBoxes.{rank_is}
use Rattle.lay_contexts.proofs.RootNumbers.{roots_no, roots_yes}

-- the numbers of roots
number_kept : (ns : List ℕ) (n k : ℕ) → k < length ns → slice_index (ns ++ n ∷ []) k ≡ slice_index ns k
number_kept ns n k lt = grind (arith, elements)

number_added : (ns : List ℕ) (n k : ℕ) → k ≡ length ns → slice_index (ns ++ n ∷ []) k ≡ n
number_added ns n k e = grind (arith, elements)

number_by : (boxes : List BoxNode) (first k number n : ℕ) (b : Bool) → is_root boxes k ≡ b → number ≡ first + roots_before boxes k → n ≡ (if is_root boxes k then (number + 1) else number) → n ≡ first + roots_before boxes (k + 1)
number_by boxes first k number n true e before is =
    let one : (if is_root boxes k then (number + 1) else number) ≡ number + 1 = rw e refl in
    let more = roots_yes boxes k e in
    let q = ap (roots_before boxes) (add-one k) in
    omega (arith, one, more, q, before, is)
number_by boxes first k number n false e before is =
    let one : (if is_root boxes k then (number + 1) else number) ≡ number = rw e refl in
    let more = roots_no boxes k e in
    let q = ap (roots_before boxes) (add-one k) in
    omega (arith, one, more, q, before, is)

pub number_behind : (boxes : List BoxNode) (first k number n : ℕ) → number ≡ first + roots_before boxes k → n ≡ (if is_root boxes k then (number + 1) else number) → n ≡ first + roots_before boxes (k + 1)
number_behind boxes first k number n before is = number_by boxes first k number n (is_root boxes k) refl before is

pub one_number : (boxes : List BoxNode) (first : ℕ) (ns : List ℕ) (m n : ℕ) → AreNumbersTo boxes first ns m → n ≡ first + roots_before boxes m → n ≤ most_formatting_contexts → AreNumbersTo boxes first (ns ++ n ∷ []) (m + 1)
one_number boxes first ns m n so_far is few = record {
  count = (let c = length-append ns (n ∷ []) in omega (arith, c, so_far.count));
  each = λ k lt. elim (cases_lt k m) [
    | inl low ↦ number_kept ns n k (omega (arith, low, so_far.count)) ∙ so_far.each k low
    | inr high ↦ (let q : k ≡ m = omega (arith, lt, high) in number_added ns n k (omega (arith, q, so_far.count)) ∙ is ∙ ap (λ (j : ℕ). first + roots_before boxes j) (sym q))
  ];
  few = λ k lt. elim (cases_lt k m) [
    | inl low ↦ (let e = number_kept ns n k (omega (arith, low, so_far.count)) in let f = so_far.few k low in omega (arith, e, f))
    | inr high ↦ (let e = number_added ns n k (omega (arith, lt, high, so_far.count)) in omega (arith, e, few))
  ];
}

-- the places of those at home in each box
list_kept : (lists : List (List ℕ)) (h r : ℕ) (ks : List ℕ) → h ≢ r → slice_index_or (slice_set lists h ks) r [] ≡ slice_index_or lists r []
list_kept lists h r ks other = grind (arith, elements, other)

list_changed : (lists : List (List ℕ)) (h : ℕ) (ks : List ℕ) → h < length lists → slice_index_or (slice_set lists h ks) h [] ≡ ks
list_changed lists h ks lt = grind (arith, elements, lt)

pub not_home : (homes : List ℕ) (r k : ℕ) → slice_index homes k ≢ r → is_at_home homes r k ≡ false
not_home homes r zero other = refl
not_home homes r (suc k) other = differs (slice_index homes (suc k)) r other
  where
    differs : (a b : ℕ) → a ≢ b → (a == b) ≡ false
    differs a b n = grind (arith, n)

pub rank_next : (homes : List ℕ) (k : ℕ) → 0 < k → rank homes k ≡ length (at_home_before homes (slice_index homes k) k) + 1
rank_next homes k positive = (let e = rank_is homes (slice_index homes k) k (is_home homes (slice_index homes k) k positive refl) in omega (arith, e))

pub lists_next : (homes : List ℕ) (lists : List (List ℕ)) (k h : ℕ) (ks : List ℕ) → 0 < k → h ≡ slice_index homes k → h < length lists → length lists ≡ length homes
    → ((r : ℕ) → r < length homes → slice_index_or lists r [] ≡ at_home_before homes r k) → ks ≡ slice_index_or lists h [] ++ k ∷ []
    → (r : ℕ) → r < length homes → slice_index_or (slice_set lists h ks) r [] ≡ at_home_before homes r (k + 1)
lists_next homes lists k h ks positive home there count before is r lt = elim (cases_eq h r) [
  | inl same ↦ (let a : slice_index_or (slice_set lists h ks) r [] ≡ ks = subst (λ (p : ℕ). slice_index_or (slice_set lists h ks) p [] ≡ ks) same (list_changed lists h ks there) in
      let b : slice_index_or lists h [] ≡ at_home_before homes r k = ap (λ (p : ℕ). slice_index_or lists p []) same ∙ before r lt in
      a ∙ is ∙ ap (λ (js : List ℕ). js ++ k ∷ []) b ∙ sym (more_yes homes r k (is_home homes r k positive (sym home ∙ same))))
  | inr other ↦ (let n : slice_index homes k ≢ r = (λ e. other (home ∙ e)) in
      list_kept lists h r ks other ∙ before r lt ∙ sym (more_no homes r k (not_home homes r k n)))
]

pub lists_own : (homes : List ℕ) (r : ℕ) → at_home_before homes r (0 + 1) ≡ at_home_before homes r 0
lists_own homes r = more_no homes r 0 refl

-- all columns of a context
parting_kept : (ps : List Parting) (p : Parting) (i : ℕ) → i < length ps → parting_at (ps ++ p ∷ []) i ≡ parting_at ps i
parting_kept ps p i lt = grind (arith, elements)

parting_added : (ps : List Parting) (p : Parting) (i : ℕ) → i ≡ length ps → parting_at (ps ++ p ∷ []) i ≡ p
parting_added ps p i e = grind (arith, elements)

pub one_parting : (contexts : List Context) (ps : List Parting) (p : Parting) (n : ℕ) → ArePartingsTo contexts ps n → IsParting (boxes_in contexts n) (first_number contexts n) p → ArePartingsTo contexts (ps ++ p ∷ []) (n + 1)
one_parting contexts ps p n so_far is = record {
  count = (let c = length-append ps (p ∷ []) in omega (arith, c, so_far.count));
  each = λ i lt. elim (cases_lt i n) [
    | inl low ↦ (let e = parting_kept ps p i (omega (arith, low, so_far.count)) in rw e (so_far.each i low))
    | inr high ↦ (let q : i ≡ n = omega (arith, lt, high) in let e = parting_added ps p n (sym so_far.count) in rw (q, e) is)
  ];
}

-- and the number of the next context
pub next_number : (contexts : List Context) (i : ℕ) (p : Parting) → IsParting (boxes_in contexts i) (first_number contexts i) p → (slice_index p.numbers (length (boxes_in contexts i)) ≡ first_number contexts (i + 1)) × (slice_index p.numbers (length (boxes_in contexts i)) ≤ most_formatting_contexts)
next_number contexts i p is =
    let e = is.numbers.each (length (boxes_in contexts i)) (omega arith) in
    let q = ap (first_number contexts) (add-one i) in
    (omega (arith, e, q), is.numbers.few (length (boxes_in contexts i)) (omega arith))

-- the homes of all contexts
pub homes_there : (ps : List Parting) (i : ℕ) → homes_in (homes_of ps) i ≡ (parting_at ps i).homes
homes_there [] i = refl
homes_there (p ∷ ps) zero = refl
homes_there (p ∷ ps) (suc i) = homes_there ps i

pub homes_found : (contexts : List Context) (ps : List Parting) → ArePartings contexts ps → AreHomesOf contexts (homes_of ps)
homes_found contexts ps are = record {
  count = length-map ps (λ (p : Parting). p.homes) ∙ are.count;
  each = λ i lt. (let e = homes_there ps i in rw e (are.each i lt).homes);
}

pub few_numbers : (contexts : List Context) (ps : List Parting) → ArePartings contexts ps → first_number contexts (length contexts) ≤ most_formatting_contexts
few_numbers contexts ps are = by_count (length contexts) refl
  where
    by_count : (n : ℕ) → n ≡ length contexts → first_number contexts n ≤ most_formatting_contexts
    by_count zero e = omega arith
    by_count (suc n) e =
        let is = are.each n (omega (arith, e)) in
        let a = is.numbers.each (length (boxes_in contexts n)) (omega arith) in
        let b = is.numbers.few (length (boxes_in contexts n)) (omega arith) in
        omega (arith, a, b)
