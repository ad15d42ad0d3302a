-- The elements of lists that are put together of others.
use Rattle.std.proofs.Common.{◌≡◌, ◌⊎◌, inl, inr, ⊎_elim, ℕ, zero, suc, ◌+◌, ◌<◌, ◌≤◌, Bool, true, false, cond, List, [], ◌∷◌, ◌++◌, map, filter, flat_map, reverse, slice_get, Some, refl, arith, ap, sym, subst, ◌∙◌}
use Rattle.std.proofs.lemmas.List.{reverse-append}
use Rattle.std.proofs.lemmas.Option.{same_Some, slice_get-map, none-some}
use Rattle.std.specs.Option.{option_map}
use Rattle.std.specs.List.{range_with_len}
use Rattle.lay_cells.specs.Shapes.{IsIn}

module _ {X : Type 0} where
  pub in_none : (x : X) → IsIn [] x → ⊥
  in_none x has = none-some x has.1

  pub in_here : (x : X) (xs : List X) → IsIn (x ∷ xs) x
  in_here x xs = (0, refl)

  pub in_there : (y x : X) (xs : List X) → IsIn xs x → IsIn (y ∷ xs) x
  in_there y x xs has = (suc has.0, has.1)

  first_or_rest : (y x : X) (xs : List X) (i : ℕ) → slice_get (y ∷ xs) i ≡ Some x → (x ≡ y) ⊎ IsIn xs x
  first_or_rest y x xs zero e = inl (sym (same_Some y x e))
  first_or_rest y x xs (suc i) e = inr (i, e)

  pub in_cases : (y x : X) (xs : List X) → IsIn (y ∷ xs) x → (x ≡ y) ⊎ IsIn xs x
  in_cases y x xs has = first_or_rest y x xs has.0 has.1

  pub in_left : (xs ys : List X) (x : X) → IsIn xs x → IsIn (xs ++ ys) x
  in_left [] ys x has = absurd (in_none x has)
  in_left (y ∷ xs) ys x has =
      ⊎_elim (λ e. subst (λ z. IsIn (y ∷ (xs ++ ys)) z) (sym e) (in_here y (xs ++ ys))) (λ rest. in_there y x (xs ++ ys) (in_left xs ys x rest)) (in_cases y x xs has)

  pub in_right : (xs ys : List X) (x : X) → IsIn ys x → IsIn (xs ++ ys) x
  in_right [] ys x has = has
  in_right (y ∷ xs) ys x has = in_there y x (xs ++ ys) (in_right xs ys x has)

  pub in_either : (xs ys : List X) (x : X) → IsIn (xs ++ ys) x → IsIn xs x ⊎ IsIn ys x
  in_either [] ys x has = inr has
  in_either (y ∷ xs) ys x has =
      ⊎_elim
      (λ e. inl (subst (λ z. IsIn (y ∷ xs) z) (sym e) (in_here y xs)))
      (λ rest. ⊎_elim (λ l. inl (in_there y x xs l)) (λ r. inr r) (in_either xs ys x rest))
      (in_cases y x (xs ++ ys) has)

  pub reverse_first : (x : X) (xs : List X) → reverse (x ∷ xs) ≡ reverse xs ++ x ∷ []
  reverse_first x xs = reverse-append (x ∷ []) xs

  pub in_reverse : (xs : List X) (x : X) → IsIn xs x → IsIn (reverse xs) x
  in_reverse [] x has = absurd (in_none x has)
  in_reverse (y ∷ xs) x has =
      subst (λ l. IsIn l x) (sym (reverse_first y xs))
      (⊎_elim
      (λ e. in_right (reverse xs) (y ∷ []) x (subst (λ z. IsIn (y ∷ []) z) (sym e) (in_here y [])))
      (λ rest. in_left (reverse xs) (y ∷ []) x (in_reverse xs x rest))
      (in_cases y x xs has))

  pub in_filter : (p : X → Bool) (xs : List X) (x : X) → IsIn xs x → p x ≡ true → IsIn (filter p xs) x
  in_filter p [] x has passes = absurd (in_none x has)
  in_filter p (y ∷ xs) x has passes =
      ⊎_elim
      (λ e. subst (λ b. IsIn (cond b (y ∷ filter p xs) (filter p xs)) x) (sym passes ∙ ap p e) (subst (λ z. IsIn (y ∷ filter p xs) z) (sym e) (in_here y (filter p xs))))
      (λ rest. later (p y) (in_filter p xs x rest passes))
      (in_cases y x xs has)
    where
      later : (b : Bool) → IsIn (filter p xs) x → IsIn (cond b (y ∷ filter p xs) (filter p xs)) x
      later true h = in_there y x (filter p xs) h
      later false h = h

  pub from_filter : (p : X → Bool) (xs : List X) (x : X) → IsIn (filter p xs) x → IsIn xs x × (p x ≡ true)
  from_filter p [] x has = absurd (in_none x has)
  from_filter p (y ∷ xs) x has = by (from_filter p xs x) (p y) refl has
    where
      by : (IsIn (filter p xs) x → IsIn xs x × (p x ≡ true)) → (b : Bool) → p y ≡ b → IsIn (cond b (y ∷ filter p xs) (filter p xs)) x → IsIn (y ∷ xs) x × (p x ≡ true)
      by behind true e h =
          ⊎_elim
          (λ same. (subst (λ z. IsIn (y ∷ xs) z) (sym same) (in_here y xs), ap p same ∙ e))
          (λ rest. let r = behind rest in (in_there y x xs r.0, r.1))
          (in_cases y x (filter p xs) h)
      by behind false e h = let r = behind h in (in_there y x xs r.0, r.1)

module _ {X Y : Type 0} where
  pub in_map : (f : X → Y) (xs : List X) (x : X) → IsIn xs x → IsIn (map f xs) (f x)
  in_map f [] x has = absurd (in_none x has)
  in_map f (y ∷ xs) x has =
      ⊎_elim (λ e. subst (λ z. IsIn (f y ∷ map f xs) (f z)) (sym e) (in_here (f y) (map f xs))) (λ rest. in_there (f y) (f x) (map f xs) (in_map f xs x rest)) (in_cases y x xs has)

  pub mapped_at : (f : X → Y) (xs : List X) (i : ℕ) (x : X) → slice_get xs i ≡ Some x → slice_get (map f xs) i ≡ Some (f x)
  mapped_at f xs i x e = slice_get-map f xs i ∙ ap (option_map f) e

  pub map_at : (f : X → Y) (xs : List X) (i : ℕ) (y : Y) → slice_get (map f xs) i ≡ Some y → (x : X) × (slice_get xs i ≡ Some x) × (y ≡ f x)
  map_at f [] i y e = absurd (none-some y e)
  map_at f (x ∷ xs) zero y e = (x, refl, sym (same_Some (f x) y e))
  map_at f (x ∷ xs) (suc i) y e = map_at f xs i y e

  -- an element of a map is of an element
  pub record IsOfIn (f : X → Y) (xs : List X) (y : Y) : Type 0 where
    pub x : X
    pub there : IsIn xs x
    pub is : y ≡ f x

  pub from_map : (f : X → Y) (xs : List X) (y : Y) → IsIn (map f xs) y → IsOfIn f xs y
  from_map f [] y has = absurd (in_none y has)
  from_map f (x ∷ xs) y has =
      ⊎_elim
      (λ e. record { x = x; there = in_here x xs; is = e })
      (λ rest. let r = from_map f xs y rest in record { x = r.x; there = in_there x r.x xs r.there; is = r.is })
      (in_cases (f x) y (map f xs) has)

  pub in_flat_map : (f : X → List Y) (xs : List X) (x : X) (y : Y) → IsIn xs x → IsIn (f x) y → IsIn (flat_map f xs) y
  in_flat_map f [] x y has here = absurd (in_none x has)
  in_flat_map f (z ∷ xs) x y has here =
      ⊎_elim
      (λ e. in_left (f z) (flat_map f xs) y (subst (λ w. IsIn (f w) y) e here))
      (λ rest. in_right (f z) (flat_map f xs) y (in_flat_map f xs x y rest here))
      (in_cases z x xs has)

  pub record IsInPart (f : X → List Y) (xs : List X) (y : Y) : Type 0 where
    pub x : X
    pub there : IsIn xs x
    pub inside : IsIn (f x) y

  pub from_flat_map : (f : X → List Y) (xs : List X) (y : Y) → IsIn (flat_map f xs) y → IsInPart f xs y
  from_flat_map f [] y has = absurd (in_none y has)
  from_flat_map f (x ∷ xs) y has =
      ⊎_elim
      (λ l. record { x = x; there = in_here x xs; inside = l })
      (λ rest. let r = from_flat_map f xs y rest in record { x = r.x; there = in_there x r.x xs r.there; inside = r.inside })
      (in_either (f x) (flat_map f xs) y has)

here_or_more : (b j : ℕ) → b ≤ j → (b ≡ j) ⊎ (b + 1 ≤ j)
here_or_more zero zero le = inl refl
here_or_more zero (suc j) le = inr (omega arith)
here_or_more (suc b) zero le = absurd (omega (arith, le))
here_or_more (suc b) (suc j) le = ⊎_elim (λ e. inl (ap suc e)) (λ m. inr (omega (arith, m))) (here_or_more b j (omega (arith, le)))

-- numbers from a on
pub in_range : (a n i : ℕ) → a ≤ i → i < a + n → IsIn (range_with_len a n) i
in_range a zero i low high = absurd (omega (arith, low, high))
in_range a (suc n) i low high =
    ⊎_elim
    (λ e. subst (λ z. IsIn (a ∷ range_with_len (a + 1) n) z) e (in_here a (range_with_len (a + 1) n)))
    (λ more. in_there a i (range_with_len (a + 1) n) (in_range (a + 1) n i more (omega (arith, high))))
    (here_or_more a i low)

pub from_range : (a n i : ℕ) → IsIn (range_with_len a n) i → (a ≤ i) × (i < a + n)
from_range a zero i has = absurd (in_none i has)
from_range a (suc n) i has =
    ⊎_elim
    (λ e. (omega (arith, e), omega (arith, e)))
    (λ rest. let r = from_range (a + 1) n i rest in (omega (arith, r.0), omega (arith, r.1)))
    (in_cases a i (range_with_len (a + 1) n) has)
