-- Two lists of computed styles of one document are equal: each style rests on its parent's.
use Rattle.std.proofs.Common.{◌≡◌, ℕ, zero, suc, ◌<◌, ◌≤◌, List, length, refl, sym, ap, ◌∙◌, arith, inl, inr}
use Rattle.std.proofs.lemmas.Bool.{cases_lt}
use Rattle.std.proofs.lemmas.List.{ext_get_or}
use Rattle.lay_style.specs.declared.style.Style.{Style}
use Rattle.lay_style.specs.Values.{Declaration}
use Rattle.lay_style.specs.InitialStyle.{initial_style}
use Rattle.lay_style.specs.ComputedStyle.{HasStyles, style_at, parent_style, computed_style, declarations_at}
use Rattle.lay_doc.specs.Tree.{IsTree}
use Rattle.lay_doc.specs.Laws.{OneStyleColumn}

parent_same : (parents : List ℕ) (ss ts : List Style) → IsTree parents → (k : ℕ) → k < length parents → ((j : ℕ) → j < k → style_at ss j ≡ style_at ts j) → parent_style parents ss k ≡ parent_style parents ts k
parent_same parents ss ts tree zero within same = refl
parent_same parents ss ts tree (suc k) within same = same _ (tree.before (suc k) (omega arith) within)

styles_to : (parents : List ℕ) (decls : List (List Declaration)) (ss ts : List Style) → IsTree parents → HasStyles parents decls ss → HasStyles parents decls ts → (n : ℕ) → n ≤ length parents → (k : ℕ) → k < n → style_at ss k ≡ style_at ts k
styles_to parents decls ss ts tree a b zero le k lt = absurd (omega arith)
styles_to parents decls ss ts tree a b (suc n) le k lt = elim (cases_lt k n) [
  | inl low ↦ styles_to parents decls ss ts tree a b n (omega arith) k low
  | inr high ↦ a.each k (omega arith) ∙ ap (λ (s : Style). computed_style s (declarations_at decls k)) (parent_same parents ss ts tree k (omega arith) (λ j jl. styles_to parents decls ss ts tree a b n (omega arith) j (omega arith))) ∙ sym (b.each k (omega arith))
]

pub one_style_column_lem : OneStyleColumn
one_style_column_lem parents decls ss ts tree a b = ext_get_or initial_style ss ts (a.length_is ∙ sym b.length_is) (λ k lt. styles_to parents decls ss ts tree a b (length parents) (omega arith) k (omega (arith, a.length_is)))
