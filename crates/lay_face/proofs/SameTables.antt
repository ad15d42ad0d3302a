-- Tables are equal exactly where they are equal entry by entry.
use Rattle.std.proofs.Common.{◌≡◌, ℕ, List, Bool, true, ◌&&◌, nat_eq}
use Rattle.std.specs.Cmp.{first_so, second_so, unsigned_Decides}
use Rattle.std.specs.Cmp.Lexicographic.{pointwise, pointwise_decides}

abbrev same_entry : ℕ × ℕ → ℕ × ℕ → Bool
same_entry p q = nat_eq p.0 q.0 && nat_eq p.1 q.1

entries_decide : (p q : ℕ × ℕ) → (same_entry p q ≡ true → p ≡ q) × (p ≡ q → same_entry p q ≡ true)
entries_decide p q = (
  λ t. (
      let a : p.0 ≡ q.0 = (unsigned_Decides p.0 q.0).0 (first_so (nat_eq p.0 q.0) (nat_eq p.1 q.1) t) in
      let b : p.1 ≡ q.1 = (unsigned_Decides p.1 q.1).0 (second_so (nat_eq p.0 q.0) (nat_eq p.1 q.1) t) in
      λ i. (a i, b i)),
  λ e. (
      let a : nat_eq p.0 q.0 ≡ true = (unsigned_Decides p.0 q.0).1 (λ i. (e i).0) in
      let b : nat_eq p.1 q.1 ≡ true = (unsigned_Decides p.1 q.1).1 (λ i. (e i).1) in
      λ i. a i && b i),
)

pub tables_decide : (xs ys : List (ℕ × ℕ)) → (pointwise same_entry xs ys ≡ true → xs ≡ ys) × (xs ≡ ys → pointwise same_entry xs ys ≡ true)
tables_decide = pointwise_decides entries_decide
