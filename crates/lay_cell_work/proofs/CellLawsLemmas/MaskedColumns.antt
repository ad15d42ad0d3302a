-- A masked column is that of the masked values.
use Rattle.std.proofs.Common.{◌≡◌, ◌<◌, ℕ, suc, Bool, true, false, if◌then◌else◌, List, [], ◌∷◌, length, map, slice_index, Option, None, Some, refl, ap, ◌∙◌, arith}
use Rattle.std.specs.List.{list_any}
use Rattle.std.proofs.lemmas.Bool.{or_parts}
use Rattle.lay_cell_work.specs.CellColumns.{is_link, links_or_none, masked}

-- nothing where another root stands
abbrev pub masked_value : {X : Type 0} → X → Option ℕ → X → X
masked_value nothing None x = x
masked_value nothing (Some r) x = nothing

module _ {X : Type 0} (nothing : X) (link : ℕ → Option ℕ) (value : ℕ → X) where
  abbrev pub entry : ℕ → X
  entry j = masked_value nothing (link j) (value j)

  one_masked : (x : X) (l : Option ℕ) (links : List (Option ℕ)) (values rest : List X) → masked nothing links values ≡ rest → masked nothing (l ∷ links) (x ∷ values) ≡ masked_value nothing l x ∷ rest
  one_masked x None links values rest e = ap (λ (ys : List X). x ∷ ys) e
  one_masked x (Some r) links values rest e = ap (λ (ys : List X). nothing ∷ ys) e

  each_masked : (numbers : List ℕ) → masked nothing (map link numbers) (map value numbers) ≡ map entry numbers
  each_masked [] = refl
  each_masked (j ∷ numbers) = one_masked (value j) (link j) (map link numbers) (map value numbers) (map entry numbers) (each_masked numbers)

  no_link : (l : Option ℕ) (x : X) → is_link l ≡ false → x ≡ masked_value nothing l x
  no_link None x e = refl
  no_link (Some r) x e = absurd cc

  none_masked : (numbers : List ℕ) → list_any is_link (map link numbers) ≡ false → map value numbers ≡ map entry numbers
  none_masked [] e = refl
  none_masked (j ∷ numbers) e =
      let here : value j ≡ entry j = no_link (link j) (value j) (or_parts (is_link (link j)) (list_any is_link (map link numbers)) e).0 in
      let rest : map value numbers ≡ map entry numbers = none_masked numbers (or_parts (is_link (link j)) (list_any is_link (map link numbers)) e).1 in
      ap (λ (x : X). x ∷ map value numbers) here ∙ ap (λ (ys : List X). entry j ∷ ys) rest

  by_any : (b : Bool) (numbers : List ℕ) → list_any is_link (map link numbers) ≡ b → masked nothing (if b then map link numbers else []) (map value numbers) ≡ map entry numbers
  by_any true numbers e = each_masked numbers
  by_any false numbers e = none_masked numbers e

  pub masked_is : (numbers : List ℕ) → masked nothing (links_or_none (map link numbers)) (map value numbers) ≡ map entry numbers
  masked_is numbers = by_any (list_any is_link (map link numbers)) numbers refl

-- a column over places of boxes
pub column_is : {X : Type 0} (f : ℕ → X) (g h : ℕ → ℕ) (form : ℕ → X) (places : List ℕ) → ((a : ℕ) → a < length places → f (g (h (slice_index places a))) ≡ form (slice_index places a))
    → map f (map g (map h places)) ≡ map form places
column_is f g h form [] same = refl
column_is {X} f g h form (k ∷ places) same =
    let here : f (g (h k)) ≡ form k = same 0 (omega arith) in
    let rest : map f (map g (map h places)) ≡ map form places = column_is f g h form places (λ a lt. same (suc a) (omega (arith, lt))) in
    ap (λ (x : X). x ∷ map f (map g (map h places))) here ∙ ap (λ (ys : List X). form k ∷ ys) rest

-- two columns over the same places
pub columns_same : {X : Type 0} (f g : ℕ → X) (places : List ℕ) → ((a : ℕ) → a < length places → f (slice_index places a) ≡ g (slice_index places a)) → map f places ≡ map g places
columns_same f g [] same = refl
columns_same {X} f g (k ∷ places) same =
    let here : f k ≡ g k = same 0 (omega arith) in
    let rest : map f places ≡ map g places = columns_same f g places (λ a lt. same (suc a) (omega (arith, lt))) in
    ap (λ (x : X). x ∷ map f places) here ∙ ap (λ (ys : List X). g k ∷ ys) rest
