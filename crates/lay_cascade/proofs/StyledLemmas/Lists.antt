-- The lists in which the classes of a node are looked up.
use Rattle.std.proofs.Common.{◌≡◌, ◌∙◌, ℕ, zero, suc, ◌+◌, ◌<◌, ◌≤◌, ◌⊎◌, inl, inr, List, [], ◌∷◌, ◌++◌, length, map, take, refl, sym, ap, subst, arith}
use Rattle.std.specs.Prelude.{slice_index_or, Option, Some, None}
use Rattle.std.specs.List.{Contains, flat_map, dedup}
use Rattle.std.specs.List.Sorted.{IsPermutation}
use Rattle.std.proofs.lemmas.List.{take_more, flat_map_more, map-append}
use Rattle.std.proofs.Math.Dec.{eqb}
use Rattle.std.proofs.lemmas.List.Elements.{Contains-append_left, Contains-append_right, Contains-append_cases}
use Rattle.std.proofs.lemmas.List.Folds.{flat_map-map}
use Rattle.std.proofs.lemmas.List.Kept.{Contains-dedup_nat, Contains-from_dedup}
use Rattle.std.proofs.lemmas.List.Sorted.{Contains-permutation, IsPermutation-sym}
use Rattle.lay_style.specs.PropertyNumbers.{number_of}
use Rattle.lay_doc.specs.declared.node.Node.{Node}
use Rattle.lay_cascade.specs.declared.node_names.names.Names.{Names}
use Rattle.lay_sheet.specs.Sheets.{RuleValue}
use Rattle.lay_cascade.specs.declared.styled.entry.Entry.{Entry}
use Rattle.lay_cascade.specs.declared.styled.candidates.Candidate.{Candidate}
use Rattle.lay_cascade.specs.Styled.Index.{list_of, of_lists, of_classes, AreListsOf}
use Rattle.lay_cascade.specs.Styled.Seen.{IsBySome, AreWinnersOf}
use Rattle.lay_cascade.proofs.StyledLemmas.Taking.{greatest_same}
use Rattle.lay_cascade.proofs.StyledLemmas.Looking.{list_below}

pub element_at : (xs : List ℕ) (i n : ℕ) → i < length xs → n ≡ slice_index_or xs i n → Contains xs n
element_at xs i n here is = (i, here, sym is)

-- an element of a list of numbers or of texts is that at its front, or one behind it
in_tail : {X : Type 0} (y : X) (ys : List X) (x : X) → Contains (y ∷ ys) x → (y ≡ x) ⊎ Contains ys x
in_tail y ys x (zero, h, e) = inl e
in_tail y ys x (suc k, h, e) = inr (k, omega (arith, h), e)

nothing : {X : Type 0} (x : X) → Contains [] x → ⊥
nothing x (k, h, e) = absurd (omega (arith, h))

-- what each element of a list leads to
module _ {X A : Type 0} (f : X → List A) (e : A) where
  led_to : (xs : List X) (x : X) → Contains xs x → Contains (f x) e → Contains (flat_map f xs) e
  led_to [] x w v = absurd (nothing x w)
  led_to (y ∷ ys) x w v = of_cases (λ q. led_to ys x q v) (in_tail y ys x w)
    where
      of_cases : (Contains ys x → Contains (flat_map f ys) e) → (y ≡ x) ⊎ Contains ys x → Contains (f y ++ flat_map f ys) e
      of_cases on (inl q) = Contains-append_left (f y) (flat_map f ys) e (subst (λ z. Contains (f z) e) (sym q) v)
      of_cases on (inr q) = Contains-append_right (f y) (flat_map f ys) e (on q)

  led_from : (xs : List X) → Contains (flat_map f xs) e → (x : X) × Contains xs x × Contains (f x) e
  led_from [] w = absurd (nothing e w)
  led_from (y ∷ ys) w = of_cases (λ q. led_from ys q) (Contains-append_cases (f y) (flat_map f ys) e w)
    where
      behind : ((x : X) × Contains ys x × Contains (f x) e) → (x : X) × Contains (y ∷ ys) x × Contains (f x) e
      behind (x, (k, h, q), v) = (x, (suc k, omega (arith, h), q), v)

      of_cases : (Contains (flat_map f ys) e → (x : X) × Contains ys x × Contains (f x) e) → Contains (f y) e ⊎ Contains (flat_map f ys) e →
          (x : X) × Contains (y ∷ ys) x × Contains (f x) e
      of_cases on (inl v) = (y, (0, omega arith, refl), v)
      of_cases on (inr v) = behind (on v)

-- the number of a name is below 4,096
in_map : (classes : List (List ℕ)) (n : ℕ) → Contains (map list_of classes) n → (class : List ℕ) × (list_of class ≡ n)
in_map [] n w = absurd (nothing n w)
in_map (c ∷ cs) n w = of_cases (λ q. in_map cs n q) (in_tail (list_of c) (map list_of cs) n w)
  where
    of_cases : (Contains (map list_of cs) n → (class : List ℕ) × (list_of class ≡ n)) → (list_of c ≡ n) ⊎ Contains (map list_of cs) n → (class : List ℕ) × (list_of class ≡ n)
    of_cases on (inl q) = (c, q)
    of_cases on (inr q) = on q

pub lists_below : (classes : List (List ℕ)) (numbers : List ℕ) → AreListsOf classes numbers → (n : ℕ) → Contains numbers n → n < 4096
lists_below classes numbers are n w = let c = in_map classes n (are.sound n w) in subst (λ z. z < 4096) c.1 (list_below c.0)

-- one number more
pub more_numbers : (classes : List (List ℕ)) (i : ℕ) (class : List ℕ) (numbers : List ℕ) → i < length classes → class ≡ slice_index_or classes i class → numbers ≡ map list_of (take i classes) →
    numbers ++ list_of class ∷ [] ≡ map list_of (take (i + 1) classes)
more_numbers classes i class numbers here is was =
    ap (λ z. z ++ list_of class ∷ []) was ∙ sym (map-append list_of (take i classes) (class ∷ [])) ∙ ap (map list_of) (ap (λ z. take i classes ++ z ∷ []) is ∙ sym (take_more classes i class here))

-- what sorting and leaving out repetitions keeps
pub lists_kept : (classes : List (List ℕ)) (all sorted numbers : List ℕ) → all ≡ map list_of classes → IsPermutation all sorted → numbers ≡ dedup eqb sorted → AreListsOf classes numbers
lists_kept classes all sorted numbers is moved left = record {
  sound = λ n w. subst (λ z. Contains z n) is (Contains-permutation sorted all n (IsPermutation-sym all sorted moved) (Contains-from_dedup eqb sorted n (subst (λ z. Contains z n) left w)));
  complete = λ n w. subst (λ z. Contains z n) (sym left) (Contains-dedup_nat sorted n (Contains-permutation all sorted n moved (subst (λ z. Contains z n) (sym is) w)));
}

-- what is greatest doesn't depend on the order of the selectors, nor on how often each is seen
module _ (rules : List RuleValue) (nodes : List Node) (names : List Names) (k : ℕ) (seen : List Entry) where
  moved_entry : (a b : List Entry) → ((e : Entry) → Contains a e → Contains b e) → (e : Entry) → Contains (seen ++ a) e → Contains (seen ++ b) e
  moved_entry a b to e w = of_cases (Contains-append_cases seen a e w)
    where
      of_cases : Contains seen e ⊎ Contains a e → Contains (seen ++ b) e
      of_cases (inl q) = Contains-append_left seen b e q
      of_cases (inr q) = Contains-append_right seen b e (to e q)

  winners_same : (a b : List Entry) (winners : List (Option Candidate)) → ((e : Entry) → Contains a e → Contains b e) → ((e : Entry) → Contains b e → Contains a e) →
      AreWinnersOf rules nodes names k (seen ++ a) winners → AreWinnersOf rules nodes names k (seen ++ b) winners
  winners_same a b winners to from was = record {
    count = was.count;
    each = λ p. greatest_same (IsBySome rules nodes names k (seen ++ a) p) (IsBySome rules nodes names k (seen ++ b) p) (slice_index_or winners (number_of p) None)
        (λ c w. (w.0, moved_entry a b to w.0 w.1, w.2)) (λ c w. (w.0, moved_entry b a from w.0 w.1, w.2)) (was.each p);
  }

  module _ (by_name : List (List Entry)) (rest : List Entry) where
    pub more_lists : (numbers : List ℕ) (i n : ℕ) (winners : List (Option Candidate)) → i < length numbers → n ≡ slice_index_or numbers i n →
        AreWinnersOf rules nodes names k ((seen ++ of_lists by_name (take i numbers)) ++ slice_index_or by_name n []) winners → AreWinnersOf rules nodes names k (seen ++ of_lists by_name (take (i + 1) numbers)) winners
    more_lists numbers i n winners h is was =
        subst (λ z. AreWinnersOf rules nodes names k z winners)
        (flat_map_more (λ m. slice_index_or by_name m []) seen (take i numbers) n
        ∙ ap (λ z. seen ++ of_lists by_name z) (ap (λ z. take i numbers ++ z ∷ []) is ∙ sym (take_more numbers i n h))) was

    of_all : (classes : List (List ℕ)) → of_lists by_name (map list_of classes) ≡ of_classes by_name rest classes
    of_all classes = flat_map-map (λ m. slice_index_or by_name m []) list_of classes

    -- the lists of the numbers have what the lists of the classes have
    pub winners_of_lists : (classes : List (List ℕ)) (numbers : List ℕ) (winners : List (Option Candidate)) → AreListsOf classes numbers →
        AreWinnersOf rules nodes names k (seen ++ of_lists by_name numbers) winners → AreWinnersOf rules nodes names k (seen ++ of_classes by_name rest classes) winners
    winners_of_lists classes numbers winners are was =
        winners_same (of_lists by_name numbers) (of_classes by_name rest classes) winners
        (λ e w. subst (λ z. Contains z e) (of_all classes) (through numbers (map list_of classes) are.sound e w))
        (λ e w. through (map list_of classes) numbers are.complete e (subst (λ z. Contains z e) (sym (of_all classes)) w)) was
      where
        through : (ms ns : List ℕ) → ((n : ℕ) → Contains ms n → Contains ns n) → (e : Entry) → Contains (of_lists by_name ms) e → Contains (of_lists by_name ns) e
        through ms ns to e w =
            let from = led_from (λ m. slice_index_or by_name m []) e ms w in
            led_to (λ m. slice_index_or by_name m []) e ns from.0 (to from.0 from.1) from.2
