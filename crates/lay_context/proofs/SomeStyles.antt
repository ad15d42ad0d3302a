-- The nodes of a document have computed styles, from parents to children.
use Rattle.std.proofs.Common.{◌≡◌, ℕ, zero, suc, ◌<◌, ◌≤◌, List, [], ◌∷◌, ◌++◌, length, slice_index, refl, sym, ap, ◌∙◌, arith, inl, inr}
use Rattle.std.proofs.lemmas.Bool.{cases_lt}
use Rattle.std.proofs.lemmas.Grind.{elements}
use Rattle.std.proofs.lemmas.List.{length_push}
use Rattle.lay_style.specs.ComputedStyle.{HasStyles, computed_style, declarations_at, parent_style, style_at}
use Rattle.lay_style.specs.Values.{Declaration}
use Rattle.lay_style.specs.declared.style.Style.{Style}
use Rattle.lay_doc.specs.Tree.{IsTree}

read_before : (xs : List Style) (x : Style) (k : ℕ) → k < length xs → style_at (xs ++ x ∷ []) k ≡ style_at xs k
read_before xs x k lt = grind (arith, elements)

read_last : (xs : List Style) (x : Style) (k : ℕ) → k ≡ length xs → style_at (xs ++ x ∷ []) k ≡ x
read_last xs x k e = grind (arith, elements)

module _ (parents : List ℕ) (decls : List (List Declaration)) (tree : IsTree parents) where
  -- a style rests on those before it alone
  parent_before : (xs : List Style) (x : Style) (k : ℕ) → k < length parents → k ≤ length xs → parent_style parents (xs ++ x ∷ []) k ≡ parent_style parents xs k
  parent_before xs x zero within le = refl
  parent_before xs x (suc k) within le =
      let before = tree.before (suc k) (omega arith) within in
      read_before xs x (slice_index parents (suc k)) (omega (arith, before, le))

  abbrev style_of : List Style → ℕ → Style
  style_of xs k = computed_style (parent_style parents xs k) (declarations_at decls k)

  style_before : (xs : List Style) (x : Style) (k : ℕ) → k < length parents → k ≤ length xs → style_of (xs ++ x ∷ []) k ≡ style_of xs k
  style_before xs x k within le = ap (λ (s : Style). computed_style s (declarations_at decls k)) (parent_before xs x k within le)

  -- those of the first n nodes
  record FirstStyles (n : ℕ) : Type 0 where
    styles : List Style
    count : length styles ≡ n
    each : (k : ℕ) → k < n → style_at styles k ≡ style_of styles k

  first_styles : (n : ℕ) → n ≤ length parents → FirstStyles n
  first_styles zero le = record { styles = []; count = refl; each = λ k lt. absurd (omega (arith, lt)) }
  first_styles (suc n) le =
      let so_far = first_styles n (omega (arith, le)) in
      let xs = so_far.styles in
      let counted = so_far.count in
      let next = style_of xs n in
      let longer = length_push xs next in
      record {
        styles = xs ++ next ∷ [];
        count = omega (arith, counted, longer);
        each = λ k lt. elim (cases_lt k n) [
          | inl low ↦ read_before xs next k (omega (arith, counted, low)) ∙ so_far.each k low
              ∙ sym (style_before xs next k (omega (arith, low, le)) (omega (arith, counted, low)))
          | inr high ↦ (let q : k ≡ n = omega (arith, lt, high) in
              rw q (read_last xs next n (sym counted) ∙ sym (style_before xs next n (omega (arith, le)) (omega (arith, counted)))))
        ];
      }

  pub some_styles : (styles : List Style) × HasStyles parents decls styles
  some_styles = let all = first_styles (length parents) (omega arith) in (all.styles, record { length_is = all.count; each = all.each })
