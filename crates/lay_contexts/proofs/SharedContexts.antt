-- Contexts that are shared: a list of what is shared has one value for each.
use Rattle.std.proofs.Common.{◌≡◌, ℕ, zero, suc, ◌<◌, List, [], ◌∷◌, ◌++◌, length, map, slice_index_or, refl, ap, sym, ◌∙◌, arith}

pub nothing_left : {X : Type 0} (xs : List X) → length xs ≡ 0 → xs ≡ []
nothing_left [] e = refl
nothing_left (x ∷ xs) e = absurd (omega (arith, e))

-- one more is shared
pub shared_more : {X Y : Type 0} (f : X → Y) (xs : List X) (x : X) (y : Y) (left rest all : List Y) → f x ≡ y → left ≡ y ∷ rest → map f xs ++ left ≡ all
    → map f (xs ++ x ∷ []) ++ rest ≡ all
shared_more f [] x y left rest all e first known = ap (λ z. z ∷ rest) e ∙ (sym first ∙ known)
shared_more f (z ∷ zs) x y left rest all e first known = ap (λ ys. f z ∷ ys) (shared_more f zs x y left rest (map f zs ++ left) e first refl) ∙ known

-- and none is left
pub all_shared : {Y : Type 0} (xs left all : List Y) → left ≡ [] → xs ++ left ≡ all → xs ≡ all
all_shared [] left all none known = sym none ∙ known
all_shared (x ∷ xs) left all none known = ap (λ ys. x ∷ ys) (all_shared xs left (xs ++ left) none refl) ∙ known

-- the value at a place
pub value_at : {X Y : Type 0} (f : X → Y) (d : Y) (xs : List X) (k : ℕ) (x : X) → k < length xs → x ≡ slice_index_or xs k x → f x ≡ slice_index_or (map f xs) k d
value_at f d [] k x lt e = absurd (omega (arith, lt))
value_at f d (y ∷ ys) zero x lt e = ap f e
value_at f d (y ∷ ys) (suc k) x lt e = value_at f d ys k x (omega (arith, lt)) e
