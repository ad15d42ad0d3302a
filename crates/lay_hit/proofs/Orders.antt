-- The last of a list in order of those that count, found element by element.
use Rattle.std.proofs.Common.{◌≡◌, Bool, true, false, cond, List, [], ◌∷◌, ◌++◌, refl, sym, ap, ◌∙◌, subst, Option, Some, None}
use Rattle.std.specs.List.{filter, flat_map, last_or}
use Rattle.std.specs.Option.{is_some, option_or, option_and_then}
use Rattle.lay_hit.specs.Fronts.{if_counts}

-- the last that counts
abbrev pub lastly : {X : Type 0} → (X → Bool) → List X → Option X
lastly p [] = None
lastly p (x ∷ xs) = option_or (lastly p xs) (if_counts p x)

module _ {X : Type 0} where
  last_or_is : (o : Option X) (xs : List X) → last_or o xs ≡ option_or (last_or None xs) o
  last_or_is o [] = refl
  last_or_is o (x ∷ xs) = last_or_is (Some x) xs ∙ kept (last_or None xs) ∙ ap (λ (r : Option X). option_or r o) (sym (last_or_is (Some x) xs))
    where
      kept : (r : Option X) → option_or r (Some x) ≡ option_or (option_or r (Some x)) o
      kept None = refl
      kept (Some y) = refl

  pub last-lastly : (p : X → Bool) (xs : List X) → last_or None (filter p xs) ≡ lastly p xs
  last-lastly p [] = refl
  last-lastly p (x ∷ xs) = by_test (last-lastly p xs) (p x)
    where
      none : (r : Option X) → r ≡ option_or r None
      none None = refl
      none (Some y) = refl

      by_test : last_or None (filter p xs) ≡ lastly p xs → (b : Bool) → last_or None (cond b (x ∷ filter p xs) (filter p xs)) ≡ option_or (lastly p xs) (cond b (Some x) None)
      by_test rest true = last_or_is (Some x) (filter p xs) ∙ ap (λ (r : Option X). option_or r (Some x)) rest
      by_test rest false = rest ∙ none (lastly p xs)

  option_or-assoc : (a b c : Option X) → option_or (option_or a b) c ≡ option_or a (option_or b c)
  option_or-assoc None b c = refl
  option_or-assoc (Some x) b c = refl

  option_or-none : (a : Option X) → option_or a None ≡ a
  option_or-none None = refl
  option_or-none (Some x) = refl

  pub lastly-append : (p : X → Bool) (xs ys : List X) → lastly p (xs ++ ys) ≡ option_or (lastly p ys) (lastly p xs)
  lastly-append p [] ys = sym (option_or-none (lastly p ys))
  lastly-append p (x ∷ xs) ys = ap (λ (r : Option X). option_or r (if_counts p x)) (lastly-append p xs ys) ∙ option_or-assoc (lastly p ys) (lastly p xs) (if_counts p x)

  -- what is last counts
  pub lastly-counts : (p : X → Bool) (xs : List X) (m : X) → lastly p xs ≡ Some m → p m ≡ true
  lastly-counts p [] m e = absurd cc
  lastly-counts p (x ∷ xs) m e = later (lastly-counts p xs m) (lastly p xs) refl e
    where
      own : (b : Bool) → p x ≡ b → cond b (Some x) None ≡ Some m → p m ≡ true
      own true is h = let q : x ≡ m = cc in subst (λ (y : X). p y ≡ true) q is
      own false is h = absurd cc

      later : (lastly p xs ≡ Some m → p m ≡ true) → (r : Option X) → lastly p xs ≡ r → option_or r (if_counts p x) ≡ Some m → p m ≡ true
      later rest None is h = own (p x) refl h
      later rest (Some y) is h = rest (is ∙ h)

-- the last of lists in a row
pub lastly-flat_map : {X Y : Type 0} (p : Y → Bool) (f : X → List Y) (xs : List X) → lastly p (flat_map f xs) ≡ option_and_then (λ k. lastly p (f k)) (lastly (λ k. is_some (lastly p (f k))) xs)
lastly-flat_map p f [] = refl
lastly-flat_map {X} {Y} p f (x ∷ xs) =
    lastly-append p (f x) (flat_map f xs) ∙ ap (λ (r : Option Y). option_or r (lastly p (f x))) (lastly-flat_map p f xs) ∙ joined (lastly (λ k. is_some (lastly p (f k))) xs) refl
  where
    own : (r : Option Y) → lastly p (f x) ≡ r → r ≡ option_and_then (λ k. lastly p (f k)) (cond (is_some r) (Some x) None)
    own None is = refl
    own (Some y) is = sym is

    some : (r : Option Y) → is_some r ≡ true → option_or r (lastly p (f x)) ≡ r
    some None e = absurd cc
    some (Some y) e = refl

    joined : (m : Option X) → lastly (λ k. is_some (lastly p (f k))) xs ≡ m
        → option_or (option_and_then (λ k. lastly p (f k)) m) (lastly p (f x)) ≡ option_and_then (λ k. lastly p (f k)) (option_or m (if_counts (λ k. is_some (lastly p (f k))) x))
    joined None is = own (lastly p (f x)) refl
    joined (Some k) is = some (lastly p (f k)) (lastly-counts (λ j. is_some (lastly p (f j))) xs k is)
