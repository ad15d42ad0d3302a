-- Styles that are known up to a place.
use Rattle.std.proofs.Common.{◌≡◌, ℕ, zero, suc, ◌+◌, ◌<◌, ◌≤◌, List, [], ◌∷◌, ◌++◌, length, get_or, refl, sym, ap, ◌∙◌, arith, inl, inr}
use Rattle.std.proofs.lemmas.Bool.{cases_lt}
use Rattle.std.proofs.lemmas.Grind.{elements}
use Rattle.lay_style.specs.Values.{Declaration}
use Rattle.lay_style.specs.declared.style.Style.{Style}
use Rattle.lay_style.specs.ComputedStyle.{HasStyles, style_at, computed_style, parent_style, declarations_at}
use Rattle.lay_doc.specs.Tree.{IsTree}
use Rattle.lay_inherit.specs.StylesTo.{StylesTo}

read_before : {X : Type 0} (d : X) (xs : List X) (x : X) (k : ℕ) → k < length xs → get_or (xs ++ x ∷ []) k d ≡ get_or xs k d
read_before d xs x k lt = grind (arith, elements)

read_last : {X : Type 0} (d : X) (xs : List X) (x : X) (k : ℕ) → k ≡ length xs → get_or (xs ++ x ∷ []) k d ≡ x
read_last d xs x k e = grind (arith, elements)

-- the parent of a node whose turn has come has its style already
parent_before : (parents : List ℕ) → IsTree parents → (styles : List Style) (s : Style) (k : ℕ) → k < length parents → k ≤ length styles → parent_style parents (styles ++ s ∷ []) k ≡ parent_style parents styles k
parent_before parents tree styles s zero within le = refl
parent_before parents tree styles s (suc k) within le =
    let h = tree.before (suc k) (omega arith) within in
    read_before _ styles s (get_or parents (suc k) 0) (omega arith)

pub inner : (parents : List ℕ) (styles : List Style) (k : ℕ) → 0 < k → parent_style parents styles k ≡ style_at styles (get_or parents k 0)
inner parents styles zero positive = absurd (omega arith)
inner parents styles (suc k) positive = refl

pub outer : (parents : List ℕ) (styles : List Style) (k : ℕ) → k ≡ 0 → parent_style parents styles k ≡ parent_style parents styles 0
outer parents styles k e = ap (parent_style parents styles) e

pub one_more : (parents : List ℕ) (decls : List (List Declaration)) (styles : List Style) (k : ℕ) (s : Style) → IsTree parents → k < length parents → StylesTo parents decls styles k
    → s ≡ computed_style (parent_style parents styles k) (declarations_at decls k) → StylesTo parents decls (styles ++ s ∷ []) (k + 1)
one_more parents decls styles k s tree within to is = record {
  length_is = grind (arith, elements, to.length_is);
  each = λ j lt. elim (cases_lt j k) [
    | inl low ↦ read_before _ styles s j (omega (arith, to.length_is)) ∙ to.each j low ∙ ap (λ (p : Style). computed_style p (declarations_at decls j)) (sym (parent_before parents tree styles s j (omega arith) (omega (arith, to.length_is))))
    | inr high ↦ (let q : j ≡ k = omega arith in ap (style_at (styles ++ s ∷ [])) q ∙ read_last _ styles s k (sym to.length_is) ∙ is
        ∙ ap (λ (p : Style). computed_style p (declarations_at decls k)) (sym (parent_before parents tree styles s k within (omega (arith, to.length_is))))
        ∙ ap (λ (m : ℕ). computed_style (parent_style parents (styles ++ s ∷ []) m) (declarations_at decls m)) (sym q))
  ];
}

pub same_style : (p q : Style) (ds es : List Declaration) (s : Style) → s ≡ computed_style p ds → p ≡ q → ds ≡ es → s ≡ computed_style q es
same_style p q ds es s is parent decls = is ∙ ap (λ (r : Style). computed_style r ds) parent ∙ ap (λ (fs : List Declaration). computed_style q fs) decls

pub all_known : (parents : List ℕ) (decls : List (List Declaration)) (styles : List Style) (n : ℕ) → n ≡ length parents → StylesTo parents decls styles n → HasStyles parents decls styles
all_known parents decls styles n e to = record { length_is = to.length_is ∙ e; each = λ k lt. to.each k (omega arith) }
