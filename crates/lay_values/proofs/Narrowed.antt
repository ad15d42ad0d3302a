-- What is found among all names is found among those of the right length, and among those of the right first letter.
use Rattle.std.proofs.Common.{◌≡◌, ℕ, refl, ap, Bool, true, ◌==◌, List, [], ◌∷◌, length, map, find, filter, arith}
use Rattle.std.proofs.lemmas.List.{length-map}
use Rattle.std.specs.Str.{bytes_eq, str_eq_ignore_ascii_case}
use Rattle.std.specs.Char.{to_ascii_lowercase}
use Rattle.std.proofs.lemmas.Slice.Eq.{bytes_eq-Decides}
use Rattle.std.proofs.lemmas.Grind.{common_steps}
use Rattle.lay_values.specs.Words.{first_letter}

-- a test that passes only what is kept finds the same among what is kept
find-kept : {X : Type 0} (test kept : X → Bool) → ((x : X) → test x ≡ true → kept x ≡ true) → (xs : List X) → find test (filter kept xs) ≡ find test xs
find-kept test kept sure [] = refl
find-kept test kept sure (x ∷ xs) = grind (arith, common_steps, sure x, find-kept test kept sure xs)

same-length : (xs ys : List ℕ) → bytes_eq xs ys ≡ true → (length xs == length ys) ≡ true
same-length xs ys same = grind (arith, common_steps, ap length ((bytes_eq-Decides xs ys).0 same))

same-length_in_any_case : (xs ys : List ℕ) → str_eq_ignore_ascii_case xs ys ≡ true → (length xs == length ys) ≡ true
same-length_in_any_case xs ys same =
    let e = ap length ((bytes_eq-Decides (map to_ascii_lowercase xs) (map to_ascii_lowercase ys)).0 same) in
    grind (arith, common_steps, e, length-map xs to_ascii_lowercase, length-map ys to_ascii_lowercase)

pub find-named : {X : Type 0} (name : X → List ℕ) (text : List ℕ) (xs : List X) →
    find (λ x. bytes_eq (name x) text) (filter (λ x. length (name x) == length text) xs) ≡ find (λ x. bytes_eq (name x) text) xs
find-named name text xs = find-kept (λ x. bytes_eq (name x) text) (λ x. length (name x) == length text) (λ x. same-length (name x) text) xs

pub find-spelled : {X : Type 0} (name : X → List ℕ) (text : List ℕ) (xs : List X) →
    find (λ x. str_eq_ignore_ascii_case (name x) text) (filter (λ x. length (name x) == length text) xs) ≡ find (λ x. str_eq_ignore_ascii_case (name x) text) xs
find-spelled name text xs =
    find-kept (λ x. str_eq_ignore_ascii_case (name x) text) (λ x. length (name x) == length text) (λ x. same-length_in_any_case (name x) text) xs

-- two spellings begin with the same letter
same-letter : (xs ys : List ℕ) → str_eq_ignore_ascii_case xs ys ≡ true → (first_letter xs == first_letter ys) ≡ true
same-letter [] [] same = refl
same-letter [] (y ∷ ys) same = grind (arith, common_steps)
same-letter (x ∷ xs) [] same = grind (arith, common_steps)
same-letter (x ∷ xs) (y ∷ ys) same = grind (arith, common_steps)

pub find-begun : {X : Type 0} (name : X → List ℕ) (text : List ℕ) (xs : List X) →
    find (λ x. str_eq_ignore_ascii_case (name x) text) (filter (λ x. first_letter (name x) == first_letter text) xs) ≡ find (λ x. str_eq_ignore_ascii_case (name x) text) xs
find-begun name text xs =
    find-kept (λ x. str_eq_ignore_ascii_case (name x) text) (λ x. first_letter (name x) == first_letter text) (λ x. same-letter (name x) text) xs

-- what is spelled as it is written is so in any case too
pub same_spelled : (xs ys : List ℕ) → bytes_eq xs ys ≡ true → str_eq_ignore_ascii_case xs ys ≡ true
same_spelled xs ys same =
    (bytes_eq-Decides (map to_ascii_lowercase xs) (map to_ascii_lowercase ys)).1 (ap (map to_ascii_lowercase) ((bytes_eq-Decides xs ys).0 same))
