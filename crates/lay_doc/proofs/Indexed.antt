-- The index after an id was added, and the places of ids after one was put among them.
use Rattle.std.proofs.Common.{◌≡◌, ℕ, zero, suc, ◌+◌, ◌<◌, ◌≤◌, List, [], ◌∷◌, ◌++◌, length, get_or, refl, sym, ap, ◌∙◌, arith, Option, Some, None, false, option_map, map, inl, inr, eqb, cond, IfSome}
use Rattle.std.specs.List.{insert}
use Rattle.std.proofs.lemmas.Bool.{cases_eq, cases_lt, eq-eqb, ne_eqb}
use Rattle.std.proofs.lemmas.Bool.Decides.{nat_tests}
use Rattle.std.proofs.lemmas.Grind.{elements}
use Rattle.std.proofs.lemmas.List.{get_or-map, length-append, length-map}
use Rattle.std.proofs.lemmas.List.Edits.{length-insert}
use Rattle.lay_style.specs.Places.{place_of}
use Rattle.lay_doc.proofs.Cited.{map_none, place_here, place_later}
use Rattle.lay_doc.specs.declared.index.IdIndex.{IdIndex}
use Rattle.lay_doc.specs.Tree.{shifted}
use Rattle.lay_doc.specs.Index.{is_up_to, number_in, IsIndexOf}
use Rattle.lay_doc.proofs.PutTrees.{shifted_low, shifted_high}

shifted_suc : (at k : ℕ) → suc (shifted at k) ≡ shifted (suc at) (suc k)
shifted_suc at k = elim (cases_lt k at) [
  | inl low ↦ ap suc (shifted_low at k low) ∙ sym (shifted_low (suc at) (suc k) (omega arith))
  | inr high ↦ ap suc (shifted_high at k high) ∙ (let q : suc (k + 1) ≡ suc k + 1 = omega arith in q) ∙ sym (shifted_high (suc at) (suc k) (omega arith))
]

first_shifted : (o : Option ℕ) → option_map suc o ≡ option_map (shifted 0) o
first_shifted None = refl
first_shifted (Some k) = ap (λ m. Some m) ((let q : suc k ≡ k + 1 = omega arith in q) ∙ sym (shifted_high 0 k (omega arith)))

later_shifted : (at : ℕ) (o : Option ℕ) → option_map suc (option_map (shifted at) o) ≡ option_map (shifted (suc at)) (option_map suc o)
later_shifted at None = refl
later_shifted at (Some k) = ap (λ m. Some m) (shifted_suc at k)

pub place_insert_other : (ids : List ℕ) (at new x : ℕ) → at ≤ length ids → (new ≡ x → ⊥) → place_of x (insert ids at new) ≡ option_map (shifted at) (place_of x ids)
place_insert_other ids zero new x within apart = place_later x new ids apart ∙ first_shifted (place_of x ids)
place_insert_other [] (suc at) new x within apart = absurd (omega arith)
place_insert_other (y ∷ ys) (suc at) new x within apart = elim (cases_eq y x) [
  | inl same ↦ place_here x y (insert ys at new) same ∙ ap (λ m. Some m) (sym (shifted_low (suc at) 0 (omega arith))) ∙ sym (ap (option_map (shifted (suc at))) (place_here x y ys same))
  | inr other ↦ place_later x y (insert ys at new) other ∙ ap (option_map suc) (place_insert_other ys at new x (omega arith) apart)
      ∙ later_shifted at (place_of x ys) ∙ sym (ap (option_map (shifted (suc at))) (place_later x y ys other))
]

pub place_insert_here : (ids : List ℕ) (at new : ℕ) → at ≤ length ids → place_of new ids ≡ None → place_of new (insert ids at new) ≡ Some at
place_insert_here ids zero new within fresh = place_here new new ids refl
place_insert_here [] (suc at) new within fresh = absurd (omega arith)
place_insert_here (y ∷ ys) (suc at) new within fresh = elim (cases_eq y new) [
  | inl same ↦ (let h = sym (place_here new y ys same) ∙ fresh in absurd cc)
  | inr other ↦ place_later new y (insert ys at new) other ∙ ap (option_map suc) (place_insert_here ys at new (omega arith) (map_none _ (sym (place_later new y ys other) ∙ fresh)))
]

-- the same numbers and places are the same index
pub same_index : (a b : IdIndex) (ids : List ℕ) → b.in_order ≡ a.in_order → b.numbers.entries ≡ a.numbers.entries → b.places.items ≡ a.places.items → IsIndexOf a ids → IsIndexOf b ids
same_index a b ids in_order numbers places is = record {
  places = λ id. rw (in_order, numbers, places) (is.places id);
  found = λ id. rw (in_order, numbers, places) (is.found id);
  count = ap length places ∙ is.count;
  within = λ n. rw places (is.within n);
}

-- an index after an id was added
pub record Adds (a b : IdIndex) (id at : ℕ) : Type 0 where
  pub numbers_are : (x : ℕ) → number_in b x ≡ cond (eqb x id) (Some (length a.places.items)) (number_in a x)
  pub places_are : b.places.items ≡ map (shifted at) a.places.items ++ at ∷ []

number_new : (a b : IdIndex) (id at : ℕ) → Adds a b id at → number_in b id ≡ Some (length a.places.items)
number_new a b id at adds = let t = eq-eqb id id refl in adds.numbers_are id ∙ rw t refl

number_old : (a b : IdIndex) (id at x : ℕ) → Adds a b id at → (x ≡ id → ⊥) → number_in b x ≡ number_in a x
number_old a b id at x adds other = let t = ne_eqb x id other in adds.numbers_are x ∙ rw t refl

length_places : (a b : IdIndex) (id at : ℕ) → Adds a b id at → length b.places.items ≡ length a.places.items + 1
length_places a b id at adds = ap length adds.places_are ∙ length-append (map (shifted at) a.places.items) (at ∷ []) ∙ ap (λ (m : ℕ). m + 1) (length-map a.places.items (shifted at))

read_old : (a b : IdIndex) (id at n : ℕ) → Adds a b id at → n < length a.places.items → get_or b.places.items n 0 ≡ shifted at (get_or a.places.items n 0)
read_old a b id at n adds lt =
    let len = length-map a.places.items (shifted at) in
    let front : get_or (map (shifted at) a.places.items ++ at ∷ []) n 0 ≡ get_or (map (shifted at) a.places.items) n 0 = grind (arith, elements) in
    ap (λ (xs : List ℕ). get_or xs n 0) adds.places_are ∙ front ∙ get_or-map (shifted at) a.places.items n 0 0 lt

read_new : (a b : IdIndex) (id at n : ℕ) → Adds a b id at → n ≡ length a.places.items → get_or b.places.items n 0 ≡ at
read_new a b id at n adds is =
    let len = length-map a.places.items (shifted at) in
    let last : get_or (map (shifted at) a.places.items ++ at ∷ []) n 0 ≡ at = grind (arith, elements) in
    ap (λ (xs : List ℕ). get_or xs n 0) adds.places_are ∙ last

found_old : (a b : IdIndex) (id at : ℕ) → Adds a b id at → (o : Option ℕ) → IfSome o (λ n. n < length a.places.items)
    → option_map (λ n. get_or b.places.items n 0) o ≡ option_map (shifted at) (option_map (λ n. get_or a.places.items n 0) o)
found_old a b id at adds None known = refl
found_old a b id at adds (Some n) known = ap (λ m. Some m) (read_old a b id at n adds known)

known_more : (o : Option ℕ) (m k : ℕ) → m ≤ k → IfSome o (λ n. n < m) → IfSome o (λ n. n < k)
known_more None m k le h = tt
known_more (Some n) m k le h = omega arith

pub index_added : (a b : IdIndex) (ids : List ℕ) (id at : ℕ) → IsIndexOf a ids → at ≤ length ids → place_of id ids ≡ None → Adds a b id at → IsIndexOf b (insert ids at id)
index_added a b ids id at is within fresh adds =
    let len = length_places a b id at adds in
    let count = length-insert ids at id within in
    record {
      places = λ x. elim (cases_eq x id) [
        | inl same ↦ rw (same, number_new a b id at adds) (omega arith)
        | inr other ↦ rw (number_old a b id at x adds other) (known_more (number_in a x) (length a.places.items) (length b.places.items) (omega arith) (is.places x))
      ];
      found = λ x. elim (cases_eq x id) [
        | inl same ↦ rw same (ap (option_map (λ n. get_or b.places.items n 0)) (number_new a b id at adds)
            ∙ ap (λ m. Some m) (read_new a b id at (length a.places.items) adds refl) ∙ sym (place_insert_here ids at id within fresh))
        | inr other ↦ ap (option_map (λ n. get_or b.places.items n 0)) (number_old a b id at x adds other)
            ∙ found_old a b id at adds (number_in a x) (is.places x)
            ∙ ap (option_map (shifted at)) (is.found x) ∙ sym (place_insert_other ids at id x within (λ s. other (sym s)))
      ];
      count = omega (arith, is.count);
      within = λ n lt. elim (cases_lt n (length a.places.items)) [
        | inl low ↦ (let r = read_old a b id at n adds low in
            let w = is.within n low in
            elim (cases_lt (get_or a.places.items n 0) at) [
              | inl under ↦ (let s = shifted_low at (get_or a.places.items n 0) under in omega arith)
              | inr over ↦ (let s = shifted_high at (get_or a.places.items n 0) over in omega arith)
            ])
        | inr high ↦ (let r = read_new a b id at n adds (omega arith) in omega arith)
      ];
    }

up_to_none : (id : ℕ) → is_up_to id 0 ≡ false
up_to_none id = grind (arith, nat_tests)

number_none : (a : IdIndex) (id : ℕ) → a.in_order ≡ 0 → a.numbers.entries ≡ [] → number_in a id ≡ None
number_none a id in_order numbers = rw (in_order, up_to_none id, numbers) refl

none_indexed : (a : IdIndex) → a.in_order ≡ 0 → a.numbers.entries ≡ [] → a.places.items ≡ [] → IsIndexOf a []
none_indexed a in_order numbers places = record {
  places = λ x. rw (number_none a x in_order numbers) tt;
  found = λ x. rw (number_none a x in_order numbers) refl;
  count = ap length places;
  within = λ n lt. (let none = ap length places in absurd (omega arith));
}

-- the index of the first id
pub first_added : (a b : IdIndex) (id : ℕ) → a.in_order ≡ 0 → a.numbers.entries ≡ [] → a.places.items ≡ [] → Adds a b id 0 → IsIndexOf b (id ∷ [])
first_added a b id in_order numbers places adds = index_added a b [] id 0 (none_indexed a in_order numbers places) (omega arith) refl adds
