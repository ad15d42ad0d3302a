-- What decides among the declarations that a node may have for a property (CSS 2.2, 6.4.1 and 6.4.3), as one list of numbers:
-- whether it is important, whether it is the node's own, labels, classes, tags, and the place in the sheet. The first number
-- that differs decides.
use Rattle.std.specs.Prelude.{ℕ, ◌==◌, Bool, false, nat_lt, List, [], ◌∷◌, if◌then◌else◌}
use Rattle.lay_cascade.specs.declared.styled.weight.Weight.{Weight}

abbrev pub bit : Bool → ℕ
bit b = if b then 1 else 0

-- that of a declaration of a sheet, which is no node's own, and that of a node's own
abbrev pub key_of : Weight → List ℕ
key_of w = bit w.important ∷ 0 ∷ w.specificity.labels ∷ w.specificity.classes ∷ w.specificity.tags ∷ w.rule ∷ w.place ∷ []

abbrev pub own_key : List ℕ
own_key = 0 ∷ 1 ∷ 0 ∷ 0 ∷ 0 ∷ 0 ∷ 0 ∷ []

abbrev pub is_less_key : List ℕ → List ℕ → Bool
is_less_key [] ys = false
is_less_key (x ∷ xs) [] = false
is_less_key (x ∷ xs) (y ∷ ys) = if x == y then is_less_key xs ys else nat_lt x y

-- whether the second one is greater
abbrev pub is_lighter : Weight → Weight → Bool
is_lighter a b = is_less_key (key_of a) (key_of b)
