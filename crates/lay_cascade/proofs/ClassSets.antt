-- The sets of classes.
use Rattle.std.proofs.Common.{◌≡◌, ◌∙◌, ℕ, ◌+◌, ◌<◌, ◌≤◌, ◌⊎◌, inl, inr, List, [], ◌∷◌, ◌++◌, true, false, length, take, refl, sym, ap, subst, arith}
use Rattle.std.specs.Prelude.{slice_index_or, Option, Some, None, is_some, ◌||◌}
use Rattle.std.specs.List.{list_any}
use Rattle.std.specs.Map.{update}
use Rattle.std.specs.Str.{bytes_eq}
use Rattle.std.specs.Cmp.Lexicographic.{nat_list_eq_equiv}
use Rattle.std.proofs.lemmas.Bool.{cases_Bool, cases_lt, or_right}
use Rattle.std.proofs.lemmas.Grind.{common_steps}
use Rattle.std.proofs.lemmas.List.{take_more, length-append, get_or_append_left, get_or_push, get_or_default}
use Rattle.std.proofs.lemmas.List.Folds.{list_any-append}
use Rattle.std.proofs.Math.Bool.{or-false}
use Rattle.lay_cascade.specs.declared.node_names.names.Names.{Names}
use Rattle.lay_cascade.specs.declared.class_sets.ClassSet.{ClassSet}
use Rattle.lay_cascade.specs.ClassSets.{MaySetOf, AreSetsTo}

-- names are compared in either order
pub compared : (name : List ℕ) (classes : List (List ℕ)) → list_any (λ class. bytes_eq name class) classes ≡ list_any (λ class. bytes_eq class name) classes
compared name [] = refl
compared name (c ∷ cs) = ap (λ z. z || list_any (λ class. bytes_eq name class) cs) (nat_list_eq_equiv.symm name c) ∙ ap (λ z. bytes_eq c name || z) (compared name cs)

-- a set with one more class
pub one_more : (q class : List ℕ) (before : List (List ℕ)) (old new : Option ℕ) (place : ℕ) → new ≡ update bytes_eq (λ ds. old) class (Some place) q → is_some old ≡ list_any (λ c. bytes_eq q c) before →
    is_some new ≡ list_any (λ c. bytes_eq q c) (before ++ class ∷ [])
one_more q class before old new place is was = of_cases (cases_Bool (bytes_eq class q)) ∙ sym (list_any-append (λ c. bytes_eq q c) before (class ∷ []))
  where
    same : bytes_eq q class ≡ bytes_eq class q
    same = nat_list_eq_equiv.symm q class

    of_cases : (bytes_eq class q ≡ true) ⊎ (bytes_eq class q ≡ false) → is_some new ≡ (list_any (λ c. bytes_eq q c) before || list_any (λ c. bytes_eq q c) (class ∷ []))
    of_cases (inl t) =
        let n : new ≡ Some place = rw t at is in
        let e : list_any (λ c. bytes_eq q c) (class ∷ []) ≡ true = ap (λ z. z || false) (same ∙ t) in
        ap is_some n ∙ sym (ap (λ z. list_any (λ c. bytes_eq q c) before || z) e ∙ or_right (list_any (λ c. bytes_eq q c) before) true refl)
    of_cases (inr f) =
        let n : new ≡ old = rw f at is in
        let e : list_any (λ c. bytes_eq q c) (class ∷ []) ≡ false = ap (λ z. z || false) (same ∙ f) in
        ap is_some n ∙ was ∙ sym (ap (λ z. list_any (λ c. bytes_eq q c) before || z) e ∙ or-false (list_any (λ c. bytes_eq q c) before))

pub more_classes : (classes : List (List ℕ)) (i : ℕ) (class : List ℕ) → i < length classes → class ≡ slice_index_or classes i class → take i classes ++ class ∷ [] ≡ take (i + 1) classes
more_classes classes i class here is = ap (λ z. take i classes ++ z ∷ []) is ∙ sym (take_more classes i class here)

same_there : (names : List Names) (n : ℕ) (a b : Names) → n < length names → slice_index_or names n a ≡ slice_index_or names n b
same_there names n a b here = get_or_default names n a b here

-- the sets of one node more
pub sets_none : (names : List Names) → AreSetsTo 0 names []
sets_none names = record { count = refl; each = λ k node set h. absurd (omega (arith, h)) }

pub sets_more : (names : List Names) (n : ℕ) (sets : List ClassSet) (node : Names) (set : ClassSet) → n < length names → node ≡ slice_index_or names n node → AreSetsTo n names sets → MaySetOf node.classes set →
    AreSetsTo (n + 1) names (sets ++ set ∷ [])
sets_more names n sets node set here is was of = record {
  count = length-append sets (set ∷ []) ∙ ap (λ z. z + 1) was.count;
  each = λ k other one h e f. of_place k other one h e f (cases_lt k n);
}
  where
    of_place : (k : ℕ) (other : Names) (one : ClassSet) → k < n + 1 → other ≡ slice_index_or names k other → one ≡ slice_index_or (sets ++ set ∷ []) k one → (k < n) ⊎ (n ≤ k) → MaySetOf other.classes one
    of_place k other one h e f (inl l) =
        let c = was.count in
        let i : k < length sets = omega (arith, l, c) in
        was.each k other one l e (f ∙ get_or_append_left sets (set ∷ []) one k i)
    of_place k other one h e f (inr g) =
        let q : k ≡ n = omega (arith, h, g) in
        let s : one ≡ set = f ∙ ap (λ z. slice_index_or (sets ++ set ∷ []) z one) q ∙ get_or_push sets set one n was.count in
        let o : other ≡ node = e ∙ ap (λ z. slice_index_or names z other) q ∙ same_there names n other node here ∙ sym is in
        subst (λ z. MaySetOf other.classes z) (sym s) (subst (λ (z : Names). MaySetOf z.classes set) (sym o) of)
