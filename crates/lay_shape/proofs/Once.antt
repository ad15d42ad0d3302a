-- Lists in which no element stands twice.
use Rattle.std.proofs.Common.{◌≡◌, ◌⊎◌, ⊎_elim, ℕ, zero, suc, ◌+◌, Bool, true, false, cond, List, [], ◌∷◌, ◌++◌, map, filter, flat_map, slice_get, Some, refl, arith, ap, sym, subst, ◌∙◌}
use Rattle.std.proofs.lemmas.Option.{none-some}
use Rattle.lay_cells.specs.Shapes.{IsIn, IsEachOnce}
use Rattle.lay_shape.proofs.Members.{from_filter, from_flat_map, from_map, in_either, in_here, in_there}

module _ {X : Type 0} where
  pub once_none : IsEachOnce {X = X} []
  once_none i j x a b = absurd (none-some x a)

  pub once_more : (y : X) (xs : List X) → (IsIn xs y → ⊥) → IsEachOnce xs → IsEachOnce (y ∷ xs)
  once_more y xs apart once zero zero x a b = refl
  once_more y xs apart once zero (suc j) x a b = absurd (apart (j, b ∙ sym a))
  once_more y xs apart once (suc i) zero x a b = absurd (apart (i, a ∙ sym b))
  once_more y xs apart once (suc i) (suc j) x a b = ap suc (once i j x a b)

  pub once_rest : (y : X) (xs : List X) → IsEachOnce (y ∷ xs) → IsEachOnce xs
  once_rest y xs once i j x a b = let e = once (suc i) (suc j) x a b in omega (arith, e)

  pub once_first : (y : X) (xs : List X) → IsEachOnce (y ∷ xs) → IsIn xs y → ⊥
  once_first y xs once has = let e = once 0 (suc has.0) y refl has.1 in absurd (omega (arith, e))

  pub once_append : (xs ys : List X) → IsEachOnce xs → IsEachOnce ys → ((x : X) → IsIn xs x → IsIn ys x → ⊥) → IsEachOnce (xs ++ ys)
  once_append [] ys a b apart = b
  once_append (x ∷ xs) ys a b apart =
      once_more x (xs ++ ys)
      (λ has. ⊎_elim (λ l. once_first x xs a l) (λ r. apart x (in_here x xs) r) (in_either xs ys x has))
      (once_append xs ys (once_rest x xs a) b (λ y l r. apart y (in_there x y xs l) r))

  -- where what passes stands at one place
  pub once_filter : (p : X → Bool) (xs : List X) → ((i j : ℕ) (x : X) → p x ≡ true → slice_get xs i ≡ Some x → slice_get xs j ≡ Some x → i ≡ j) → IsEachOnce (filter p xs)
  once_filter p [] one = once_none
  once_filter p (y ∷ xs) one = by (once_filter p xs (λ i j x yes a b. let e = one (suc i) (suc j) x yes a b in omega (arith, e))) (p y) refl
    where
      by : IsEachOnce (filter p xs) → (b : Bool) → p y ≡ b → IsEachOnce (cond b (y ∷ filter p xs) (filter p xs))
      by rest true e =
          once_more y (filter p xs)
          (λ has. let r = from_filter p xs y has in let at = r.0 in let z = one 0 (suc at.0) y e refl at.1 in absurd (omega (arith, z)))
          rest
      by rest false e = rest

module _ {X Y : Type 0} where
  -- f tells these apart
  pub once_map : (f : X → Y) (xs : List X) → ((x y : X) → IsIn xs x → IsIn xs y → f x ≡ f y → x ≡ y) → IsEachOnce xs → IsEachOnce (map f xs)
  once_map f [] apart once = once_none
  once_map f (x ∷ xs) apart once =
      once_more (f x) (map f xs)
      (λ has. let r = from_map f xs (f x) has in
      let e : x ≡ r.x = apart x r.x (in_here x xs) (in_there x r.x xs r.there) r.is in
      once_first x xs once (subst (λ z. IsIn xs z) (sym e) r.there))
      (once_map f xs (λ y z a b e. apart y z (in_there x y xs a) (in_there x z xs b) e) (once_rest x xs once))

  -- what is in the part of one is in that of no other
  pub once_flat_map : (f : X → List Y) (xs : List X) → IsEachOnce xs → ((x : X) → IsEachOnce (f x)) → ((x z : X) (y : Y) → IsIn (f x) y → IsIn (f z) y → x ≡ z) → IsEachOnce (flat_map f xs)
  once_flat_map f [] once each one = once_none
  once_flat_map f (x ∷ xs) once each one =
      once_append (f x) (flat_map f xs) (each x) (once_flat_map f xs (once_rest x xs once) each one)
      (λ y l r. let p = from_flat_map f xs y r in
      once_first x xs once (subst (λ z. IsIn xs z) (sym (one x p.x y l p.inside)) p.there))
