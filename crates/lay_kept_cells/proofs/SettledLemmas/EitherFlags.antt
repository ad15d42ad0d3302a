-- Flags that are taken over one after another.
use Rattle.std.proofs.Common.{◌≡◌, ℕ, zero, suc, ◌||◌, Bool, true, false, List, [], ◌∷◌, take, length, slice_get, slice_set, Some, refl, arith, ap, sym, ◌∙◌}
use Rattle.std.proofs.lemmas.Option.{same_Some}
use Rattle.lay_kept_cells.specs.Settled.Since.{either}

pub either_none : (xs : List Bool) → xs ≡ either xs []
either_none [] = refl
either_none (x ∷ xs) = refl

or_true : (x : Bool) → true ≡ (x || true)
or_true true = refl
or_true false = refl

or_false : (x : Bool) → x ≡ (x || false)
or_false true = refl
or_false false = refl

pub either_set : (xs ys : List Bool) (i : ℕ) → length ys ≡ length xs → slice_get ys i ≡ Some true → slice_set (either xs (take i ys)) i true ≡ either xs (take (suc i) ys)
either_set [] [] i e at = absurd cc
either_set [] (y ∷ ys) i e at = absurd (omega (arith, e))
either_set (x ∷ xs) [] i e at = absurd cc
either_set (x ∷ xs) (y ∷ ys) zero e at =
    ap (λ (b : Bool). b ∷ xs) (or_true x ∙ ap (λ (b : Bool). x || b) (sym (same_Some y true at))) ∙ ap (λ (bs : List Bool). (x || y) ∷ bs) (either_none xs)
either_set (x ∷ xs) (y ∷ ys) (suc i) e at = ap (λ (bs : List Bool). (x || y) ∷ bs) (either_set xs ys i (omega (arith, e)) at)

pub either_skip : (xs ys : List Bool) (i : ℕ) → length ys ≡ length xs → slice_get ys i ≡ Some false → either xs (take i ys) ≡ either xs (take (suc i) ys)
either_skip [] [] i e at = absurd cc
either_skip [] (y ∷ ys) i e at = absurd (omega (arith, e))
either_skip (x ∷ xs) [] i e at = absurd cc
either_skip (x ∷ xs) (y ∷ ys) zero e at =
    ap (λ (b : Bool). b ∷ xs) (or_false x ∙ ap (λ (b : Bool). x || b) (sym (same_Some y false at))) ∙ ap (λ (bs : List Bool). (x || y) ∷ bs) (either_none xs)
either_skip (x ∷ xs) (y ∷ ys) (suc i) e at = ap (λ (bs : List Bool). (x || y) ∷ bs) (either_skip xs ys i (omega (arith, e)) at)
