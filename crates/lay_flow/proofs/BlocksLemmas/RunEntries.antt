-- Runs that grow.
use Rattle.std.proofs.Common.{◌≡◌, ℕ, ◌==◌, ◌||◌, Bool, true, false, ℤ, List, [], ◌∷◌, ◌++◌, refl, ap, ◌∙◌, arith, ◌≢◌}
use Rattle.std.proofs.lemmas.Bool.{eq-eqb, ne_eqb}
use Rattle.lay_flow.specs.Blocks.MarginRuns.{Entry, margin, mark, clear, margins, has_top}

pub margins-append : (xs ys : List Entry) → margins (xs ++ ys) ≡ margins xs ++ margins ys
margins-append [] ys = refl
margins-append (margin m ∷ xs) ys = ap (λ (zs : List ℤ). m ∷ zs) (margins-append xs ys)
margins-append (mark k ∷ xs) ys = margins-append xs ys
margins-append (clear k ∷ xs) ys = margins-append xs ys

pub has_top-append : (j : ℕ) (xs ys : List Entry) → has_top j (xs ++ ys) ≡ (has_top j xs || has_top j ys)
has_top-append j [] ys = refl
has_top-append j (margin m ∷ xs) ys = has_top-append j xs ys
has_top-append j (mark k ∷ xs) ys = let h = has_top-append j xs ys in grind (arith, h)
has_top-append j (clear k ∷ xs) ys = has_top-append j xs ys

-- the top margin of the box at k was added
pub top_there : (j k : ℕ) (t : ℤ) (xs : List Entry) → has_top j xs ≡ true → has_top j (xs ++ mark k ∷ margin t ∷ []) ≡ true
top_there j k t xs h = has_top-append j xs (mark k ∷ margin t ∷ []) ∙ rw h refl

pub top_here : (k : ℕ) (t : ℤ) (xs : List Entry) → has_top k (xs ++ mark k ∷ margin t ∷ []) ≡ true
top_here k t xs = has_top-append k xs (mark k ∷ margin t ∷ []) ∙ (let e : (k == k) ≡ true = eq-eqb k k refl in grind (arith, e))

pub top_none : (j k : ℕ) (t : ℤ) (xs : List Entry) → has_top j xs ≡ false → k ≢ j → has_top j (xs ++ mark k ∷ margin t ∷ []) ≡ false
top_none j k t xs h ne = has_top-append j xs (mark k ∷ margin t ∷ []) ∙ (let e : (k == j) ≡ false = ne_eqb k j ne in rw (h, e) refl)

-- a bottom margin was added
pub bottom_same : (j : ℕ) (t : ℤ) (xs : List Entry) → has_top j (xs ++ margin t ∷ []) ≡ has_top j xs
bottom_same j t xs = has_top-append j xs (margin t ∷ []) ∙ or_false (has_top j xs)
  where
    or_false : (b : Bool) → (b || false) ≡ b
    or_false true = refl
    or_false false = refl
