-- Declarations read and put by the place of their property.
use Rattle.std.proofs.Common.{◌≡◌, ℕ, suc, ◌+◌, ◌<◌, List, [], ◌∷◌, ◌++◌, length, get_or, set, refl, sym, ap, ◌∙◌, arith, Option, Some, None, inl, inr, subst}
use Rattle.std.proofs.lemmas.Bool.{cases_eq, cases_lt, eq-eqb, ne_eqb}
use Rattle.std.proofs.lemmas.Grind.{elements}
use Rattle.std.proofs.lemmas.List.{map-append, length-append}
use Rattle.lay_style.specs.Values.{Declaration}
use Rattle.lay_style.specs.PropertyNumbers.{number_of}
use Rattle.lay_style.specs.declared.property.Property.{Property}
use Rattle.lay_style.specs.Declarations.{properties_of, declared_value, with_declaration, AreDistinct}
use Rattle.lay_style.specs.Places.{place_of}
use Rattle.lay_style.proofs.Places.{map_none, map_some, place_here, place_later, place_none}

pub declared_none : (p : Property) (ds : List Declaration) → place_of (number_of p) (properties_of ds) ≡ None → declared_value p ds ≡ None
declared_none p [] e = refl
declared_none p (d ∷ ds) e = elim (cases_eq (number_of d.property) (number_of p)) [
  | inl same ↦ (let h = sym (place_here (number_of p) (number_of d.property) (properties_of ds) same) ∙ e in absurd cc)
  | inr other ↦ (let t = ne_eqb (number_of p) (number_of d.property) (λ s. other (sym s)) in
      rw t (declared_none p ds (map_none _ (sym (place_later (number_of p) (number_of d.property) (properties_of ds) other) ∙ e))))
]

pub declared_some : (p : Property) (ds : List Declaration) (k : ℕ) (x : Declaration) → place_of (number_of p) (properties_of ds) ≡ Some k → declared_value p ds ≡ Some (get_or ds k x).value
declared_some p [] k x e = absurd cc
declared_some p (d ∷ ds) k x e = elim (cases_eq (number_of d.property) (number_of p)) [
  | inl same ↦ (let h = sym (place_here (number_of p) (number_of d.property) (properties_of ds) same) ∙ e in
      let z : 0 ≡ k = cc in
      let t = eq-eqb (number_of p) (number_of d.property) (sym same) in
      rw (t, ← z) refl)
  | inr other ↦ (let h = map_some _ k (sym (place_later (number_of p) (number_of d.property) (properties_of ds) other) ∙ e) in
      let t = ne_eqb (number_of p) (number_of d.property) (λ s. other (sym s)) in
      rw (t, h.next) (declared_some p ds h.before x h.is))
]

pub with_none : (d : Declaration) (ds : List Declaration) → place_of (number_of d.property) (properties_of ds) ≡ None → with_declaration d ds ≡ ds ++ d ∷ []
with_none d [] e = refl
with_none d (x ∷ ds) e = elim (cases_eq (number_of x.property) (number_of d.property)) [
  | inl same ↦ (let h = sym (place_here (number_of d.property) (number_of x.property) (properties_of ds) same) ∙ e in absurd cc)
  | inr other ↦ (let t = ne_eqb (number_of d.property) (number_of x.property) (λ s. other (sym s)) in
      rw t (ap (λ (r : List Declaration). x ∷ r) (with_none d ds (map_none _ (sym (place_later (number_of d.property) (number_of x.property) (properties_of ds) other) ∙ e)))))
]

pub with_some : (d : Declaration) (ds : List Declaration) (k : ℕ) → place_of (number_of d.property) (properties_of ds) ≡ Some k → with_declaration d ds ≡ set ds k d
with_some d [] k e = absurd cc
with_some d (x ∷ ds) k e = elim (cases_eq (number_of x.property) (number_of d.property)) [
  | inl same ↦ (let h = sym (place_here (number_of d.property) (number_of x.property) (properties_of ds) same) ∙ e in
      let z : 0 ≡ k = cc in
      let t = eq-eqb (number_of d.property) (number_of x.property) (sym same) in
      rw (t, ← z) refl)
  | inr other ↦ (let h = map_some _ k (sym (place_later (number_of d.property) (number_of x.property) (properties_of ds) other) ∙ e) in
      let t = ne_eqb (number_of d.property) (number_of x.property) (λ s. other (sym s)) in
      rw (t, h.next) (ap (λ (r : List Declaration). x ∷ r) (with_some d ds h.before h.is)))
]

same_properties : (d : Declaration) (ds : List Declaration) (k : ℕ) → place_of (number_of d.property) (properties_of ds) ≡ Some k → properties_of (with_declaration d ds) ≡ properties_of ds
same_properties d [] k e = absurd cc
same_properties d (x ∷ ds) k e = elim (cases_eq (number_of x.property) (number_of d.property)) [
  | inl same ↦ (let t = eq-eqb (number_of d.property) (number_of x.property) (sym same) in
      rw (t, same) refl)
  | inr other ↦ (let h = map_some _ k (sym (place_later (number_of d.property) (number_of x.property) (properties_of ds) other) ∙ e) in
      let t = ne_eqb (number_of d.property) (number_of x.property) (λ s. other (sym s)) in
      rw t (ap (λ (r : List ℕ). number_of x.property ∷ r) (same_properties d ds h.before h.is)))
]

pub length-properties : (ds : List Declaration) → length (properties_of ds) ≡ length ds
length-properties [] = refl
length-properties (d ∷ ds) = ap suc (length-properties ds)

distinct_same : (ds es : List Declaration) → properties_of es ≡ properties_of ds → AreDistinct ds → AreDistinct es
distinct_same ds es same apart j k less lt e =
    let n : length es ≡ length ds = sym (length-properties es) ∙ ap length same ∙ length-properties ds in
    apart j k less (omega arith) (subst (λ (ps : List ℕ). get_or ps j 0 ≡ get_or ps k 0) same e)

distinct_push : (ds : List Declaration) (d : Declaration) → ((k : ℕ) → k < length (properties_of ds) → get_or (properties_of ds) k 0 ≡ number_of d.property → ⊥) → AreDistinct ds → AreDistinct (ds ++ d ∷ [])
distinct_push ds d fresh apart j k less lt e =
    let len = length-properties ds in
    let n : length (ds ++ d ∷ []) ≡ length ds + 1 = length-append ds (d ∷ []) in
    let split : properties_of (ds ++ d ∷ []) ≡ properties_of ds ++ number_of d.property ∷ [] = map-append (λ (x : Declaration). number_of x.property) ds (d ∷ []) in
    let e' = subst (λ (ps : List ℕ). get_or ps j 0 ≡ get_or ps k 0) split e in
    let old : get_or (properties_of ds ++ number_of d.property ∷ []) j 0 ≡ get_or (properties_of ds) j 0 = grind (arith, elements) in
    elim (cases_lt k (length ds)) [
      | inl low ↦ (let here : get_or (properties_of ds ++ number_of d.property ∷ []) k 0 ≡ get_or (properties_of ds) k 0 = grind (arith, elements) in
          apart j k less low (sym old ∙ e' ∙ here))
      | inr high ↦ (let q : k ≡ length (properties_of ds) = omega arith in
          let here : get_or (properties_of ds ++ number_of d.property ∷ []) k 0 ≡ number_of d.property = grind (arith, elements) in
          fresh j (omega arith) (sym old ∙ e' ∙ here))
    ]

pub distinct_with : (d : Declaration) (ds : List Declaration) → AreDistinct ds → AreDistinct (with_declaration d ds)
distinct_with d ds apart = by_place (place_of (number_of d.property) (properties_of ds)) refl
  where
    by_place : (o : Option ℕ) → place_of (number_of d.property) (properties_of ds) ≡ o → AreDistinct (with_declaration d ds)
    by_place None e = rw (with_none d ds e) (distinct_push ds d (place_none (number_of d.property) (properties_of ds) e) apart)
    by_place (Some k) e = distinct_same ds (with_declaration d ds) (same_properties d ds k e) apart
