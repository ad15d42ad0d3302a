-- Lists whose elements have turns that rise.
use Rattle.std.proofs.Common.{◌≡◌, ℕ, zero, suc, ◌+◌, ◌-◌, ◌<◌, ◌≤◌, Bool, true, false, cond, List, [], ◌∷◌, ◌++◌, map, filter, flat_map, reverse, slice_get, Some, refl, arith, ap, sym, subst, ◌∙◌}
use Rattle.std.proofs.lemmas.List.{map-append}
use Rattle.std.proofs.lemmas.Option.{same_Some, none-some}
use Rattle.std.specs.List.{range_with_len}
use Rattle.lay_shape.proofs.Members.{reverse_first}

module _ {X : Type 0} (turn : X → ℕ) where
  -- they rise, from lo on and below hi
  abbrev pub Rises : ℕ → List X → ℕ → Type 0
  Rises lo [] hi = lo ≤ hi
  Rises lo (x ∷ xs) hi = (lo ≤ turn x) × Rises (turn x + 1) xs hi

  pub lowered : (lo mid hi : ℕ) (xs : List X) → lo ≤ mid → Rises mid xs hi → Rises lo xs hi
  lowered lo mid hi [] le r = omega (arith, le, r)
  lowered lo mid hi (x ∷ xs) le r = (let a = r.0 in omega (arith, le, a), r.1)

  pub joined : (lo mid hi : ℕ) (xs ys : List X) → Rises lo xs mid → Rises mid ys hi → Rises lo (xs ++ ys) hi
  joined lo mid hi [] ys a b = lowered lo mid hi ys a b
  joined lo mid hi (x ∷ xs) ys a b = (a.0, joined (turn x + 1) mid hi xs ys a.1 b)

  ends : (lo hi : ℕ) (xs : List X) → Rises lo xs hi → lo ≤ hi
  ends lo hi [] r = r
  ends lo hi (x ∷ xs) r = let a = r.0 in let b = ends (turn x + 1) hi xs r.1 in omega (arith, a, b)

  from : (lo hi : ℕ) (xs : List X) → Rises lo xs hi → (i : ℕ) (x : X) → slice_get xs i ≡ Some x → lo ≤ turn x
  from lo hi [] r i x e = absurd (none-some x e)
  from lo hi (y ∷ xs) r zero x e = let a = r.0 in let same = ap turn (same_Some y x e) in omega (arith, a, same)
  from lo hi (y ∷ xs) r (suc i) x e = let a = r.0 in let b = from (turn y + 1) hi xs r.1 i x e in omega (arith, a, b)

  -- what has the lower turn stands before
  pub in_order : (lo hi : ℕ) (xs : List X) → Rises lo xs hi → (i j : ℕ) (x y : X) → slice_get xs i ≡ Some x → slice_get xs j ≡ Some y → turn x < turn y → i < j
  in_order lo hi [] r i j x y a b lt = absurd (none-some x a)
  in_order lo hi (z ∷ xs) r zero zero x y a b lt =
      let p = ap turn (same_Some z x a) in let q = ap turn (same_Some z y b) in absurd (omega (arith, p, q, lt))
  in_order lo hi (z ∷ xs) r zero (suc j) x y a b lt = omega arith
  in_order lo hi (z ∷ xs) r (suc i) zero x y a b lt =
      let p = from (turn z + 1) hi xs r.1 i x a in let q = ap turn (same_Some z y b) in absurd (omega (arith, p, q, lt))
  in_order lo hi (z ∷ xs) r (suc i) (suc j) x y a b lt = let h = in_order (turn z + 1) hi xs r.1 i j x y a b lt in omega (arith, h)

  -- no two have one turn
  pub one_place : (lo hi : ℕ) (xs : List X) → Rises lo xs hi → (i j : ℕ) (x y : X) → slice_get xs i ≡ Some x → slice_get xs j ≡ Some y → turn x ≡ turn y → i ≡ j
  one_place lo hi [] r i j x y a b e = absurd (none-some x a)
  one_place lo hi (z ∷ xs) r zero zero x y a b e = refl
  one_place lo hi (z ∷ xs) r zero (suc j) x y a b e =
      let p = ap turn (same_Some z x a) in let q = from (turn z + 1) hi xs r.1 j y b in absurd (omega (arith, p, q, e))
  one_place lo hi (z ∷ xs) r (suc i) zero x y a b e =
      let p = from (turn z + 1) hi xs r.1 i x a in let q = ap turn (same_Some z y b) in absurd (omega (arith, p, q, e))
  one_place lo hi (z ∷ xs) r (suc i) (suc j) x y a b e = ap suc (one_place (turn z + 1) hi xs r.1 i j x y a b e)

  -- numbers of which each has the turn of its place behind the base
  pub rising : (f : ℕ → X) (p : ℕ → Bool) (base a n : ℕ) → ((i : ℕ) → p i ≡ true → i < a + n → turn (f i) ≡ base + i) → Rises (base + a) (map f (filter p (range_with_len a n))) (base + (a + n))
  rising f p base a zero h = omega arith
  rising f p base a (suc n) h =
      by
      (subst (λ k. Rises (base + (a + 1)) (map f (filter p (range_with_len (a + 1) n))) k) (omega arith)
      (rising f p base (a + 1) n (λ i yes lt. h i yes (omega (arith, lt)))))
      (p a) refl
    where
      by : Rises (base + (a + 1)) (map f (filter p (range_with_len (a + 1) n))) (base + (a + suc n)) → (b : Bool) → p a ≡ b
          → Rises (base + a) (map f (cond b (a ∷ filter p (range_with_len (a + 1) n)) (filter p (range_with_len (a + 1) n)))) (base + (a + suc n))
      by rest true e =
          let t = h a e (omega arith) in
          (omega (arith, t), lowered (turn (f a) + 1) (base + (a + 1)) (base + (a + suc n)) (map f (filter p (range_with_len (a + 1) n))) (omega (arith, t)) rest)
      by rest false e = lowered (base + a) (base + (a + 1)) (base + (a + suc n)) (map f (filter p (range_with_len (a + 1) n))) (omega arith) rest

  raised : (lo mid hi : ℕ) (xs : List X) → mid ≤ hi → Rises lo xs mid → Rises lo xs hi
  raised lo mid hi [] up r = omega (arith, up, r)
  raised lo mid hi (x ∷ xs) up r = (r.0, raised (turn x + 1) mid hi xs up r.1)

  -- and those of which each has that of its place before the top, the other way round
  pub falling : (f : ℕ → X) (p : ℕ → Bool) (top a n : ℕ) → a + n ≤ top → ((i : ℕ) → p i ≡ true → i < a + n → turn (f i) + (i + 1) ≡ top)
      → Rises (top - (a + n)) (map f (reverse (filter p (range_with_len a n)))) (top - a)
  falling f p top a zero le h = omega (arith, le)
  falling f p top a (suc n) le h =
      by
      (subst (λ k. Rises k (map f (reverse (filter p (range_with_len (a + 1) n)))) (top - (a + 1))) (omega (arith, le))
      (falling f p top (a + 1) n (omega (arith, le)) (λ i yes lt. h i yes (omega (arith, lt)))))
      (p a) refl
    where
      by : Rises (top - (a + suc n)) (map f (reverse (filter p (range_with_len (a + 1) n)))) (top - (a + 1)) → (b : Bool) → p a ≡ b
          → Rises (top - (a + suc n)) (map f (reverse (cond b (a ∷ filter p (range_with_len (a + 1) n)) (filter p (range_with_len (a + 1) n))))) (top - a)
      by rest true e =
          let xs : List ℕ = filter p (range_with_len (a + 1) n) in
          let t = h a e (omega arith) in
          let back : map f (reverse (a ∷ xs)) ≡ map f (reverse xs) ++ f a ∷ [] = ap (map f) (reverse_first a xs) ∙ map-append f (reverse xs) (a ∷ []) in
          let last : Rises (top - (a + 1)) (f a ∷ []) (top - a) = (omega (arith, t, le), omega (arith, t, le)) in
          subst (λ l. Rises (top - (a + suc n)) l (top - a)) (sym back) (joined (top - (a + suc n)) (top - (a + 1)) (top - a) (map f (reverse xs)) (f a ∷ []) rest last)
      by rest false e = raised (top - (a + suc n)) (top - (a + 1)) (top - a) (map f (reverse (filter p (range_with_len (a + 1) n)))) (omega (arith, le)) rest

  -- one round of turns after the other
  pub rounds : (f : ℕ → List X) (start : ℕ → ℕ) (a n : ℕ) → ((i : ℕ) → Rises (start i) (f i) (start (i + 1))) → Rises (start a) (flat_map f (range_with_len a n)) (start (a + n))
  rounds f start a zero h = let e : start a ≡ start (a + 0) = ap start (omega arith) in omega (arith, e)
  rounds f start a (suc n) h =
      joined (start a) (start (a + 1)) (start (a + suc n)) (f a) (flat_map f (range_with_len (a + 1) n)) (h a)
      (subst (λ k. Rises (start (a + 1)) (flat_map f (range_with_len (a + 1) n)) k) (ap start (omega arith)) (rounds f start (a + 1) n h))
