-- A fact of each member of a list.
use Rattle.std.proofs.Common.{◌≡◌, ℕ, zero, suc, ◌<◌, Bool, true, false, if◌then◌else◌, List, [], ◌∷◌, ◌++◌, length, take, drop, map, slice_get, slice_index_or, IfSome, refl, arith}
use Rattle.std.specs.List.{flat_map, filter}

abbrev pub Each : {X : Type 0} → (X → Type 0) → List X → Type 0
Each P [] = Unit {0}
Each P (x ∷ xs) = P x × Each P xs

pub each-append : {X : Type 0} (P : X → Type 0) (xs ys : List X) → Each P xs → Each P ys → Each P (xs ++ ys)
each-append P [] ys h g = g
each-append P (x ∷ xs) ys h g = (h.0, each-append P xs ys h.1 g)

pub each-if : {X : Type 0} (P : X → Type 0) (b : Bool) (xs ys : List X) → Each P xs → Each P ys → Each P (if b then xs else ys)
each-if P true xs ys h g = h
each-if P false xs ys h g = g

pub each-take : {X : Type 0} (P : X → Type 0) (n : ℕ) (xs : List X) → Each P xs → Each P (take n xs)
each-take P zero [] h = tt
each-take P zero (x ∷ xs) h = tt
each-take P (suc n) [] h = tt
each-take P (suc n) (x ∷ xs) h = (h.0, each-take P n xs h.1)

pub each-drop : {X : Type 0} (P : X → Type 0) (n : ℕ) (xs : List X) → Each P xs → Each P (drop n xs)
each-drop P zero [] h = tt
each-drop P zero (x ∷ xs) h = h
each-drop P (suc n) [] h = tt
each-drop P (suc n) (x ∷ xs) h = each-drop P n xs h.1

pub each-map : {X Y : Type 0} (P : Y → Type 0) (f : X → Y) (xs : List X) → Each (λ x. P (f x)) xs → Each P (map f xs)
each-map P f [] h = tt
each-map P f (x ∷ xs) h = (h.0, each-map P f xs h.1)

pub each-flat_map : {X Y : Type 0} (P : Y → Type 0) (f : X → List Y) (xs : List X) → Each (λ x. Each P (f x)) xs → Each P (flat_map f xs)
each-flat_map P f [] h = tt
each-flat_map P f (x ∷ xs) h = each-append P (f x) (flat_map f xs) h.0 (each-flat_map P f xs h.1)

pub each-weaker : {X : Type 0} (P Q : X → Type 0) → ((x : X) → P x → Q x) → (xs : List X) → Each P xs → Each Q xs
each-weaker P Q to [] h = tt
each-weaker P Q to (x ∷ xs) h = (to x h.0, each-weaker P Q to xs h.1)

-- of the members that pass a test, and of those that don't
pub each-filter : {X : Type 0} (P : X → Type 0) (p : X → Bool) (xs : List X) → Each P xs → Each P (filter p xs)
each-filter P p [] h = tt
each-filter P p (x ∷ xs) h = each-if P (p x) (x ∷ filter p xs) (filter p xs) (h.0, each-filter P p xs h.1) (each-filter P p xs h.1)

passed : {X : Type 0} (P : X → Type 0) (p : X → Bool) (x : X) (xs : List X) (b : Bool) → p x ≡ b → (p x ≡ false → P x) → Each P (if b then x ∷ filter p xs else filter p xs) → P x × Each P (filter p xs)
passed P p x xs true e other h = h
passed P p x xs false e other h = (other e, h)

pub each-unfilter : {X : Type 0} (P : X → Type 0) (p : X → Bool) (other : (x : X) → p x ≡ false → P x) (xs : List X) → Each P (filter p xs) → Each P xs
each-unfilter P p other [] h = tt
each-unfilter P p other (x ∷ xs) h =
    let g = passed P p x xs (p x) refl (other x) h in (g.0, each-unfilter P p other xs g.1)

-- of the member at a place
pub each-get : {X : Type 0} (P : X → Type 0) (xs : List X) → Each P xs → (k : ℕ) → k < length xs → IfSome (slice_get xs k) P
each-get P [] h k lt = absurd (omega arith)
each-get P (x ∷ xs) h zero lt = h.0
each-get P (x ∷ xs) h (suc k) lt = each-get P xs h.1 k (omega arith)

pub each-at : {X : Type 0} (P : X → Type 0) (xs : List X) → Each P xs → (k : ℕ) (d : X) → k < length xs → P (slice_index_or xs k d)
each-at P [] h k d lt = absurd (omega arith)
each-at P (x ∷ xs) h zero d lt = h.0
each-at P (x ∷ xs) h (suc k) d lt = each-at P xs h.1 k d (omega arith)

-- of the member at a place, or of what stands for it past the end
pub each-or : {X : Type 0} (P : X → Type 0) (xs : List X) → Each P xs → (k : ℕ) (d : X) → P d → P (slice_index_or xs k d)
each-or P [] h zero d g = g
each-or P [] h (suc k) d g = g
each-or P (x ∷ xs) h zero d g = h.0
each-or P (x ∷ xs) h (suc k) d g = each-or P xs h.1 k d g

-- what holds of all holds of each
pub each-all : {X : Type 0} (P : X → Type 0) → ((x : X) → P x) → (xs : List X) → Each P xs
each-all P all [] = tt
each-all P all (x ∷ xs) = (all x, each-all P all xs)
