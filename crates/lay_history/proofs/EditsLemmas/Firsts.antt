-- The first fault of a list is the one at the least place that has one.
use Rattle.std.proofs.Common.{◌≡◌, ℕ, zero, suc, ◌<◌, List, [], ◌∷◌, length, Option, Some, None, refl, sym, ap, ◌∙◌, subst, arith, rules, inl, inr}
use Rattle.std.proofs.lemmas.Bool.{cases_lt}
use Rattle.lay_doc.specs.declared.edit.Edit.{Edit}
use Rattle.lay_doc.specs.declared.edit.EditFault.{EditFault}
use Rattle.lay_doc.specs.Document.{Document}
use Rattle.lay_doc.specs.Edits.{fault, after}
use Rattle.lay_history.specs.Edits.EditLists.{IsFirst, fault_at, first, first_or}
use Rattle.lay_history.specs.Edits.Laws.{FirstIsWithin, OneFirst}

-- `first` is at the least place
is_first_or : (d : Document) (e : Edit) (es : List Edit) (o : Option EditFault) (rest : Option (ℕ × EditFault)) → fault d e ≡ o
    → IsFirst (after d e) es rest → IsFirst d (e ∷ es) (first_or o rest)
is_first_or d e es (Some f) rest was is = (was, λ before lt. absurd (omega (arith, lt)))
is_first_or d e es None None was is = at
  where
    at : (place : ℕ) → fault_at d (e ∷ es) place ≡ None
    at zero = was
    at (suc place) = is place
is_first_or d e es None (Some (p, f)) was is = (is.0, at)
  where
    at : (before : ℕ) → before < suc p → fault_at d (e ∷ es) before ≡ None
    at zero lt = was
    at (suc before) lt = is.1 before (omega (arith, lt))

pub first_is : (d : Document) (es : List Edit) → IsFirst d es (first d es)
first_is d [] = λ place. refl
first_is d (e ∷ es) = is_first_or d e es (fault d e) (first (after d e) es) refl (first_is (after d e) es)

no_fault : (o : Option EditFault) (f : EditFault) → o ≡ Some f → o ≡ None → ⊥
no_fault o f some none = search (rules, some, none)

same_fault : (o : Option EditFault) (f g : EditFault) → o ≡ Some f → o ≡ Some g → f ≡ g
same_fault o f g a b = cc

-- and nothing else is
pub one_value : (d : Document) (es : List Edit) (a b : Option (ℕ × EditFault)) → IsFirst d es a → IsFirst d es b → a ≡ b
one_value d es None None a b = refl
one_value d es None (Some (q, g)) a b = absurd (no_fault (fault_at d es q) g b.0 (a q))
one_value d es (Some (p, f)) None a b = absurd (no_fault (fault_at d es p) f a.0 (b p))
one_value d es (Some (p, f)) (Some (q, g)) a b = elim (cases_lt p q) [
  | inl low ↦ absurd (no_fault (fault_at d es p) f a.0 (b.1 p low))
  | inr high ↦ elim (cases_lt q p) [
    | inl low ↦ absurd (no_fault (fault_at d es q) g b.0 (a.1 q low))
    | inr same ↦ (let e : p ≡ q = omega (arith, high, same) in
        let f_is : fault_at d es q ≡ Some f = subst (λ n. fault_at d es n ≡ Some f) e a.0 in
        ap (λ n. Some (n, f)) e ∙ ap (λ x. Some (q, x)) (same_fault (fault_at d es q) f g f_is b.0))
  ]
]

pub one_first : OneFirst
one_first d es o = (λ is. one_value d es o (first d es) is (first_is d es), λ e. subst (IsFirst d es) (sym e) (first_is d es))

-- its place is one of the list
abbrev place_or : Option (ℕ × EditFault) → ℕ
place_or None = 0
place_or (Some p) = p.0

within_or : (o : Option EditFault) (rest : Option (ℕ × EditFault)) (count p : ℕ) (f : EditFault)
    → ((q : ℕ) (g : EditFault) → rest ≡ Some (q, g) → q < count) → first_or o rest ≡ Some (p, f) → p < suc count
within_or (Some g) rest count p f lt e = let z : 0 ≡ p = ap place_or e in omega (arith, z)
within_or None None count p f lt e = absurd cc
within_or None (Some (q, g)) count p f lt e = let z : suc q ≡ p = ap place_or e in let below = lt q g refl in omega (arith, z, below)

pub first_within : FirstIsWithin
first_within d [] p f e = absurd cc
first_within d (e ∷ es) p f is = within_or (fault d e) (first (after d e) es) (length es) p f (first_within (after d e) es) is
