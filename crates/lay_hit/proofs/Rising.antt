-- The last that counts of a list in order is the greatest that counts, and how one element more changes it.
use Rattle.std.proofs.Common.{◌≡◌, Bool, true, false, cond, List, [], ◌∷◌, ◌++◌, refl, sym, ap, ◌∙◌, subst, Option, Some, None}
use Rattle.std.specs.List.{AllByRecursion}
use Rattle.std.specs.Option.{option_or}
use Rattle.lay_hit.specs.Sorting.{put_in_order, in_order}
use Rattle.lay_hit.specs.Fronts.{later_of, if_counts, last_in_order}
use Rattle.lay_hit.proofs.Orders.{lastly}

-- of two one stands before the other, and so do those between
pub record IsOrder {X : Type 0} (le : X → X → Bool) : Type 0 where
  pub either : (x y : X) → le x y ≡ false → le y x ≡ true
  pub chain : (x y z : X) → le x y ≡ true → le y z ≡ true → le x z ≡ true

abbrev pub Rises : {X : Type 0} → (X → X → Bool) → List X → Type 0
Rises le [] = Unit {0}
Rises le (x ∷ xs) = AllByRecursion (λ y. le x y ≡ true) xs × Rises le xs

module _ {X : Type 0} (le : X → X → Bool) where
  pub all-put : (P : X → Type 0) (x : X) (ys : List X) → P x → AllByRecursion P ys → AllByRecursion P (put_in_order le x ys)
  all-put P x [] px all = (px, tt)
  all-put P x (y ∷ ys) px all = by_test (all-put P x ys px all.1) (le x y)
    where
      by_test : AllByRecursion P (put_in_order le x ys) → (b : Bool) → AllByRecursion P (cond b (x ∷ y ∷ ys) (y ∷ put_in_order le x ys))
      by_test rest true = (px, all)
      by_test rest false = (all.0, rest)

  pub all-in_order : (P : X → Type 0) (xs : List X) → AllByRecursion P xs → AllByRecursion P (in_order le xs)
  all-in_order P [] all = tt
  all-in_order P (x ∷ xs) all = all-put P x (in_order le xs) all.0 (all-in_order P xs all.1)

  all-more : (P Q : X → Type 0) → ((x : X) → P x → Q x) → (xs : List X) → AllByRecursion P xs → AllByRecursion Q xs
  all-more P Q more [] all = tt
  all-more P Q more (x ∷ xs) all = (more x all.0, all-more P Q more xs all.1)

  pub all-lastly : (P : X → Type 0) (p : X → Bool) (xs : List X) (m : X) → AllByRecursion P xs → lastly p xs ≡ Some m → P m
  all-lastly P p [] m all is = absurd cc
  all-lastly P p (x ∷ xs) m all is = later (all-lastly P p xs m all.1) (lastly p xs) refl is
    where
      own : (b : Bool) → cond b (Some x) None ≡ Some m → P m
      own true h = let q : x ≡ m = cc in subst P q all.0
      own false h = absurd cc

      later : (lastly p xs ≡ Some m → P m) → (r : Option X) → lastly p xs ≡ r → option_or r (if_counts p x) ≡ Some m → P m
      later rest None e h = own (p x) h
      later rest (Some y) e h = rest (e ∙ h)

  module _ (o : IsOrder le) where
    rises-put : (x : X) (ys : List X) → Rises le ys → Rises le (put_in_order le x ys)
    rises-put x [] rises = (tt, tt)
    rises-put x (y ∷ ys) rises = by_test (rises-put x ys rises.1) (le x y) refl
      where
        by_test : Rises le (put_in_order le x ys) → (b : Bool) → le x y ≡ b → Rises le (cond b (x ∷ y ∷ ys) (y ∷ put_in_order le x ys))
        by_test rest true is = ((is, all-more (λ z. le y z ≡ true) (λ z. le x z ≡ true) (λ z h. o.chain x y z is h) ys rises.0), rises)
        by_test rest false is = (all-put (λ z. le y z ≡ true) x ys (o.either x y is) rises.0, rest)

    pub rises-in_order : (xs : List X) → Rises le (in_order le xs)
    rises-in_order [] = tt
    rises-in_order (x ∷ xs) = rises-put x (in_order le xs) (rises-in_order xs)

    later-none : (a : Option X) → later_of le a None ≡ a
    later-none None = refl
    later-none (Some x) = refl

    -- x is put before what is no less
    lastly-put : (p : X → Bool) (x : X) (ys : List X) → Rises le ys → lastly p (put_in_order le x ys) ≡ later_of le (if_counts p x) (lastly p ys)
    lastly-put p x [] rises = sym (later-none (if_counts p x))
    lastly-put p x (y ∷ ys) rises = by_test (lastly-put p x ys rises.1) (le x y) refl
      where
        -- before y
        over : (c : Bool) (m : X) → le x m ≡ true → Some m ≡ later_of le (cond c (Some x) None) (Some m)
        over true m is = ap (λ (b : Bool). cond b (Some m) (Some x)) (sym is)
        over false m is = refl

        first : le x y ≡ true → (r : Option X) → lastly p (y ∷ ys) ≡ r → option_or r (if_counts p x) ≡ later_of le (if_counts p x) r
        first is None e = sym (later-none (if_counts p x))
        first is (Some m) e = over (p x) m (all-lastly (λ z. le x z ≡ true) p (y ∷ ys) m (is, all-more (λ z. le y z ≡ true) (λ z. le x z ≡ true) (λ z h. o.chain x y z is h) ys rises.0) e)

        -- behind y
        own : le x y ≡ false → (b c : Bool) → option_or (later_of le (cond b (Some x) None) None) (cond c (Some y) None) ≡ later_of le (cond b (Some x) None) (cond c (Some y) None)
        own is true true = ap (λ (d : Bool). cond d (Some y) (Some x)) (sym is)
        own is true false = refl
        own is false true = refl
        own is false false = refl

        kept : (a : Option X) (m : X) (d : Option X) → option_or (later_of le a (Some m)) d ≡ later_of le a (Some m)
        kept None m d = refl
        kept (Some z) m d = either (le z m)
          where
            either : (b : Bool) → option_or (cond b (Some m) (Some z)) d ≡ cond b (Some m) (Some z)
            either true = refl
            either false = refl

        second : le x y ≡ false → (r : Option X) → option_or (later_of le (if_counts p x) r) (if_counts p y) ≡ later_of le (if_counts p x) (option_or r (if_counts p y))
        second is None = own is (p x) (p y)
        second is (Some m) = kept (if_counts p x) m (if_counts p y)

        by_test : lastly p (put_in_order le x ys) ≡ later_of le (if_counts p x) (lastly p ys) → (b : Bool) → le x y ≡ b → lastly p (cond b (x ∷ y ∷ ys) (y ∷ put_in_order le x ys)) ≡ later_of le (if_counts p x) (lastly p (y ∷ ys))
        by_test rest true is = first is (lastly p (y ∷ ys)) refl
        by_test rest false is = ap (λ (r : Option X). option_or r (if_counts p y)) rest ∙ second is (lastly p ys)

    pub lastly-in_order : (p : X → Bool) (xs : List X) → lastly p (in_order le xs) ≡ last_in_order le p xs
    lastly-in_order p [] = refl
    lastly-in_order p (x ∷ xs) = lastly-put p x (in_order le xs) (rises-in_order xs) ∙ ap (later_of le (if_counts p x)) (lastly-in_order p xs)

    later-chain : (a b c : Option X) → later_of le (later_of le a b) c ≡ later_of le a (later_of le b c)
    later-chain None b c = refl
    later-chain (Some x) None c = refl
    later-chain (Some x) (Some y) None = later-none (later_of le (Some x) (Some y))
    later-chain (Some x) (Some y) (Some z) = by_tests (le x y) (le y z) (le x z) refl refl refl
      where
        never : {A : Type 0} (b : Bool) → b ≡ true → b ≡ false → A
        never true h e = absurd cc
        never false h e = absurd cc

        by_tests : (b c d : Bool) → le x y ≡ b → le y z ≡ c → le x z ≡ d
            → later_of le (cond b (Some y) (Some x)) (Some z) ≡ later_of le (Some x) (cond c (Some z) (Some y))
        by_tests true true d xy yz xz = rw (yz, o.chain x y z xy yz) refl
        by_tests true false d xy yz xz = rw (yz, xy) refl
        by_tests false true d xy yz xz = refl
        by_tests false false true xy yz xz = never (le y z) (o.chain y x z (o.either x y xy) xz) yz
        by_tests false false false xy yz xz = rw (xy, xz) refl

    pub greatest-push : (p : X → Bool) (xs : List X) (x : X) → last_in_order le p (xs ++ x ∷ []) ≡ later_of le (last_in_order le p xs) (if_counts p x)
    greatest-push p [] x = later-none (if_counts p x)
    greatest-push p (y ∷ ys) x = ap (later_of le (if_counts p y)) (greatest-push p ys x) ∙ sym (later-chain (if_counts p y) (last_in_order le p ys) (if_counts p x))
