-- Mapped columns.
use Rattle.std.proofs.Common.{◌≡◌, ℕ, zero, suc, ◌+◌, ◌<◌, List, [], ◌∷◌, ◌++◌, length, map, take, slice_index, refl, arith}

-- one more entry of a mapped column
pub mapped_more : {Y : Type 0} (f : ℕ → Y) (xs : List ℕ) (n : ℕ) → n < length xs → map f (take (n + 1) xs) ≡ map f (take n xs) ++ f (slice_index xs n) ∷ []
mapped_more f [] n less = absurd (omega (arith, less))
mapped_more f (x ∷ xs) zero less = refl
mapped_more f (x ∷ xs) (suc n) less =
    let e : suc n + 1 ≡ suc (n + 1) = omega arith in
    let more = mapped_more f xs n (omega (arith, less)) in
    rw (e, more) refl
