-- Rising lists of numbers.
use Rattle.std.proofs.Common.{◌≡◌, inl, inr, ⊎_elim, ℕ, zero, suc, ◌+◌, ◌<◌, List, [], ◌∷◌, ◌++◌, length, get_or, slice_get, slice_index, Some, refl, arith, sym}
use Rattle.std.proofs.lemmas.Bool.{cases_lt}
use Rattle.std.proofs.lemmas.Grind.{elements}
use Rattle.std.proofs.lemmas.Option.{none-some, same_Some}
use Rattle.lay_cells.specs.Shapes.{IsEachOnce, IsIn}
use Rattle.lay_shape.proofs.Members.{in_cases, in_here, in_none, in_there}
use Rattle.lay_shape.proofs.Once.{once_more, once_none}

abbrev pub Rises : List ℕ → Type 0
Rises xs = (i j : ℕ) → i < j → j < length xs → slice_index xs i < slice_index xs j

pub read_in : {X : Type 0} (d : X) (xs : List X) (i : ℕ) (z : X) → slice_get xs i ≡ Some z → (i < length xs) × (get_or xs i d ≡ z)
read_in d [] i z e = absurd (none-some z e)
read_in d (x ∷ xs) zero z e = (omega arith, same_Some x z e)
read_in d (x ∷ xs) (suc i) z e = let r = read_in d xs i z e in (let a = r.0 in omega (arith, a), r.1)

pub in_read : {X : Type 0} (d : X) (xs : List X) (i : ℕ) → i < length xs → IsIn xs (get_or xs i d)
in_read d [] i lt = absurd (omega (arith, lt))
in_read d (x ∷ xs) zero lt = in_here x xs
in_read d (x ∷ xs) (suc i) lt = in_there x (get_or xs i d) xs (in_read d xs i (omega (arith, lt)))

rises_rest : (x : ℕ) (xs : List ℕ) → Rises (x ∷ xs) → Rises xs
rises_rest x xs up i j less lt = up (suc i) (suc j) (omega (arith, less)) (omega (arith, lt))

first_least : (x : ℕ) (xs : List ℕ) → Rises (x ∷ xs) → (z : ℕ) → IsIn xs z → x < z
first_least x xs up z has =
    let r = read_in 0 xs has.0 z has.1 in
    let a = r.0 in
    let b = r.1 in
    let u = up 0 (suc has.0) (omega arith) (omega (arith, a)) in
    omega (arith, u, b)

-- a greater number behind them
pub rises_more : (xs : List ℕ) (n : ℕ) → Rises xs → ((z : ℕ) → IsIn xs z → z < n) → Rises (xs ++ n ∷ [])
rises_more xs n up below i j less lt = elim (cases_lt j (length xs)) [
  | inl low ↦ (let a = up i j less low in
      let p = read_left xs n i (omega (arith, less, low)) in
      let q = read_left xs n j low in
      omega (arith, a, p, q))
  | inr high ↦ (let l = length_more xs n in
      let e : j ≡ length xs = omega (arith, high, lt, l) in
      let p = read_left xs n i (omega (arith, less, e)) in
      let q = read_last xs n j e in
      let b = below (get_or xs i 0) (in_read 0 xs i (omega (arith, less, e))) in
      omega (arith, b, p, q))
]
  where
    read_left : (xs : List ℕ) (n k : ℕ) → k < length xs → slice_index (xs ++ n ∷ []) k ≡ slice_index xs k
    read_left xs n k lt = grind (arith, elements)

    read_last : (xs : List ℕ) (n k : ℕ) → k ≡ length xs → slice_index (xs ++ n ∷ []) k ≡ n
    read_last xs n k e = grind (arith, elements)

    length_more : (xs : List ℕ) (n : ℕ) → length (xs ++ n ∷ []) ≡ length xs + 1
    length_more xs n = grind (arith, elements)

-- those with the same elements are equal
pub one_rising : (xs ys : List ℕ) → Rises xs → Rises ys → ((z : ℕ) → IsIn xs z → IsIn ys z) → ((z : ℕ) → IsIn ys z → IsIn xs z) → xs ≡ ys
one_rising [] [] a b forth back = refl
one_rising [] (y ∷ ys) a b forth back = absurd (in_none y (back y (in_here y ys)))
one_rising (x ∷ xs) [] a b forth back = absurd (in_none x (forth x (in_here x xs)))
one_rising (x ∷ xs) (y ∷ ys) a b forth back =
    let head : x ≡ y = ⊎_elim (λ e. e) (λ rest. ⊎_elim (λ f. sym f)
    (λ more. (let p = first_least y ys b x rest in let q = first_least x xs a y more in absurd (omega (arith, p, q)))) (in_cases x y xs (back y (in_here y ys))))
    (in_cases y x ys (forth x (in_here x xs))) in
    let tail : xs ≡ ys = one_rising xs ys (rises_rest x xs a) (rises_rest y ys b)
    (λ z has. ⊎_elim (λ e. (let p = first_least x xs a z has in absurd (omega (arith, p, e, head)))) (λ rest. rest) (in_cases y z ys (forth z (in_there x z xs has))))
    (λ z has. ⊎_elim (λ e. (let p = first_least y ys b z has in absurd (omega (arith, p, e, head)))) (λ rest. rest) (in_cases x z xs (back z (in_there y z ys has)))) in
    rw (head, tail) refl

pub rising_once : (xs : List ℕ) → Rises xs → IsEachOnce xs
rising_once [] up = once_none
rising_once (x ∷ xs) up = once_more x xs (λ has. (let p = first_least x xs up x has in absurd (omega (arith, p)))) (rising_once xs (rises_rest x xs up))
