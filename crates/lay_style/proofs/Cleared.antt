-- Declarations without that of a property, and what is declared after one was set or taken away.
use Rattle.std.proofs.Common.{◌≡◌, ℕ, suc, ◌+◌, ◌<◌, List, [], ◌∷◌, length, get_or, refl, sym, ap, ◌∙◌, arith, Option, Some, None, inl, inr, subst, take, drop}
use Rattle.std.specs.List.{remove}
use Rattle.std.proofs.lemmas.Bool.{cases_eq, cases_lt, eq-eqb, ne_eqb}
use Rattle.std.proofs.lemmas.List.{map-append, take-map, drop-map}
use Rattle.std.proofs.lemmas.List.Edits.{length-remove, get_or-remove_below, get_or-remove_above}
use Rattle.lay_style.specs.Values.{Declaration}
use Rattle.lay_style.specs.PropertyNumbers.{number_of}
use Rattle.lay_style.specs.declared.property.Property.{Property}
use Rattle.lay_style.specs.Declarations.{properties_of, declared_value, without_declaration, AreDistinct, SetsOne, ClearsOne}
use Rattle.lay_style.specs.Places.{place_of}
use Rattle.lay_style.proofs.Places.{map_none, map_some, place_here, place_later, place_fresh}
use Rattle.lay_style.proofs.Declared.{declared_none, length-properties}

pub without_none : (p : Property) (ds : List Declaration) → place_of (number_of p) (properties_of ds) ≡ None → without_declaration p ds ≡ ds
without_none p [] e = refl
without_none p (x ∷ ds) e = elim (cases_eq (number_of x.property) (number_of p)) [
  | inl same ↦ (let h = sym (place_here (number_of p) (number_of x.property) (properties_of ds) same) ∙ e in absurd cc)
  | inr other ↦ (let t = ne_eqb (number_of p) (number_of x.property) (λ s. other (sym s)) in
      rw t (ap (λ (r : List Declaration). x ∷ r) (without_none p ds (map_none _ (sym (place_later (number_of p) (number_of x.property) (properties_of ds) other) ∙ e)))))
]

pub without_some : (p : Property) (ds : List Declaration) (k : ℕ) → place_of (number_of p) (properties_of ds) ≡ Some k → without_declaration p ds ≡ remove ds k
without_some p [] k e = absurd cc
without_some p (x ∷ ds) k e = elim (cases_eq (number_of x.property) (number_of p)) [
  | inl same ↦ (let h = sym (place_here (number_of p) (number_of x.property) (properties_of ds) same) ∙ e in
      let z : 0 ≡ k = cc in
      let t = eq-eqb (number_of p) (number_of x.property) (sym same) in
      rw (t, ← z) refl)
  | inr other ↦ (let h = map_some _ k (sym (place_later (number_of p) (number_of x.property) (properties_of ds) other) ∙ e) in
      let t = ne_eqb (number_of p) (number_of x.property) (λ s. other (sym s)) in
      rw (t, h.next) (ap (λ (r : List Declaration). x ∷ r) (without_some p ds h.before h.is)))
]

some_within : (n : ℕ) (xs : List ℕ) (k : ℕ) → place_of n xs ≡ Some k → k < length xs
some_within n [] k e = absurd cc
some_within n (x ∷ xs) k e = elim (cases_eq x n) [
  | inl same ↦ (let h = sym (place_here n x xs same) ∙ e in let z : 0 ≡ k = cc in omega arith)
  | inr other ↦ (let h = map_some _ k (sym (place_later n x xs other) ∙ e) in let r = some_within n xs h.before h.is in omega (arith, h.next))
]

properties_remove : (ds : List Declaration) (i : ℕ) → properties_of (remove ds i) ≡ remove (properties_of ds) i
properties_remove ds i = map-append (λ (d : Declaration). number_of d.property) (take i ds) (drop (suc i) ds)
    ∙ rw (take-map (λ (d : Declaration). number_of d.property) i ds, drop-map (λ (d : Declaration). number_of d.property) (suc i) ds) refl

distinct_remove : (ds : List Declaration) (i : ℕ) → i < length ds → AreDistinct ds → AreDistinct (remove ds i)
distinct_remove ds i within apart j k less lt e =
    let len = length-properties ds in
    let one = length-remove ds i within in
    let inside : i < length (properties_of ds) = omega arith in
    let same = subst (λ (ps : List ℕ). get_or ps j 0 ≡ get_or ps k 0) (properties_remove ds i) e in
    elim (cases_lt j i) [
      | inl low ↦ (let a = get_or-remove_below (properties_of ds) i 0 j low inside in elim (cases_lt k i) [
        | inl under ↦ (let b = get_or-remove_below (properties_of ds) i 0 k under inside in apart j k less (omega arith) (sym a ∙ same ∙ b))
        | inr over ↦ (let b = get_or-remove_above (properties_of ds) i 0 k over inside in apart j (k + 1) (omega arith) (omega arith) (sym a ∙ same ∙ b))
      ])
      | inr high ↦ (let a = get_or-remove_above (properties_of ds) i 0 j high inside in
          let b = get_or-remove_above (properties_of ds) i 0 k (omega arith) inside in
          apart (j + 1) (k + 1) (omega arith) (omega arith) (sym a ∙ same ∙ b))
    ]

pub distinct_without : (p : Property) (ds : List Declaration) → AreDistinct ds → AreDistinct (without_declaration p ds)
distinct_without p ds apart = by_place (place_of (number_of p) (properties_of ds)) refl
  where
    by_place : (o : Option ℕ) → place_of (number_of p) (properties_of ds) ≡ o → AreDistinct (without_declaration p ds)
    by_place None e = rw (without_none p ds e) apart
    by_place (Some k) e =
        let len = length-properties ds in
        let w = some_within (number_of p) (properties_of ds) k e in
        rw (without_some p ds k e) (distinct_remove ds k (omega arith) apart)

distinct_rest : (d : Declaration) (ds : List Declaration) → AreDistinct (d ∷ ds) → AreDistinct ds
distinct_rest d ds apart j k less lt e = apart (suc j) (suc k) (omega arith) (omega arith) e

first_gone : (p : Property) (d : Declaration) (ds : List Declaration) → AreDistinct (d ∷ ds) → number_of d.property ≡ number_of p → declared_value p ds ≡ None
first_gone p d ds apart same =
    let len = length-properties ds in
    declared_none p ds (place_fresh (number_of p) (properties_of ds) (λ k lt is. apart 0 (suc k) (omega arith) (omega arith) (same ∙ sym is)))

pub sets_one_lem : SetsOne
sets_one_lem p d [] = refl
sets_one_lem p d (x ∷ ds) = elim (cases_eq (number_of d.property) (number_of x.property)) [
  | inl same ↦ (let t = eq-eqb (number_of d.property) (number_of x.property) same in
      elim (cases_eq (number_of p) (number_of d.property)) [
        | inl is ↦ (let u = eq-eqb (number_of p) (number_of d.property) is in rw (t, u) refl)
        | inr isnt ↦ (let u = ne_eqb (number_of p) (number_of d.property) isnt in
            let v = ne_eqb (number_of p) (number_of x.property) (λ s. isnt (s ∙ sym same)) in rw (t, u, v) refl)
      ])
  | inr other ↦ (let t = ne_eqb (number_of d.property) (number_of x.property) other in
      let rest = sets_one_lem p d ds in
      elim (cases_eq (number_of p) (number_of x.property)) [
        | inl is ↦ (let u = eq-eqb (number_of p) (number_of x.property) is in
            let v = ne_eqb (number_of p) (number_of d.property) (λ s. other (sym s ∙ is)) in rw (t, u, v) refl)
        | inr isnt ↦ (let u = ne_eqb (number_of p) (number_of x.property) isnt in rw (t, u) rest)
      ])
]

pub clears_one_lem : ClearsOne
clears_one_lem p q [] apart = elim (cases_eq (number_of p) (number_of q)) [
  | inl is ↦ (let u = eq-eqb (number_of p) (number_of q) is in rw u refl)
  | inr isnt ↦ (let u = ne_eqb (number_of p) (number_of q) isnt in rw u refl)
]
clears_one_lem p q (x ∷ ds) apart = elim (cases_eq (number_of q) (number_of x.property)) [
  | inl same ↦ (let t = eq-eqb (number_of q) (number_of x.property) same in
      elim (cases_eq (number_of p) (number_of q)) [
        | inl is ↦ (let u = eq-eqb (number_of p) (number_of q) is in rw (t, u) (first_gone p x ds apart (sym same ∙ sym is)))
        | inr isnt ↦ (let u = ne_eqb (number_of p) (number_of q) isnt in
            let v = ne_eqb (number_of p) (number_of x.property) (λ s. isnt (s ∙ sym same)) in rw (t, u, v) refl)
      ])
  | inr other ↦ (let t = ne_eqb (number_of q) (number_of x.property) other in
      let rest = clears_one_lem p q ds (distinct_rest x ds apart) in
      elim (cases_eq (number_of p) (number_of x.property)) [
        | inl is ↦ (let u = eq-eqb (number_of p) (number_of x.property) is in
            let v = ne_eqb (number_of p) (number_of q) (λ s. other (sym s ∙ is)) in rw (t, u, v) refl)
        | inr isnt ↦ (let u = ne_eqb (number_of p) (number_of x.property) isnt in rw (t, u) rest)
      ])
]
