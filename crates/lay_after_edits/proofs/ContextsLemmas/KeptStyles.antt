-- Styles that are taken over from before, and made anew below nodes that changed.
use Rattle.std.proofs.Common.{◌≡◌, inl, inr, ℕ, zero, suc, ◌+◌, ◌<◌, Bool, false, List, [], ◌∷◌, ◌++◌, length, refl, ap, sym, ◌∙◌, arith, slice_index}
use Rattle.std.proofs.lemmas.Bool.{cases_lt}
use Rattle.std.proofs.lemmas.Grind.{elements}
use Rattle.lay_style.specs.declared.style.Style.{Style}
use Rattle.lay_style.specs.Values.{Declaration}
use Rattle.lay_style.specs.ComputedStyle.{HasStyles, computed_style, declarations_at, parent_style, style_at}
use Rattle.lay_doc.specs.declared.node.Node.{Node}
use Rattle.lay_doc.specs.Document.{declarations_of, parents_of}
use Rattle.lay_doc.specs.Tree.{IsTree}
use Rattle.lay_after_edits.proofs.Cited.{got, length-parents, same-declarations}
use Rattle.lay_inherit.specs.StylesTo.{StylesTo}
use Rattle.lay_after_edits.specs.Contexts.Changed.{AreMadeAnew, AreStaying, IsStyleOf, KeepsUnmade, StylesStay}
use Rattle.lay_after_edits.specs.Contexts.Links.{is_made}
use Rattle.lay_after_edits.proofs.ContextsLemmas.Flags.{flag-before, flag-last}

-- nodes that stay would have their styles
pub styles-stay : (ns ms : List Node) (styles : List Style) (changed : List Bool) → AreStaying ns ms changed → HasStyles (parents_of ns) (declarations_of ns) styles
    → StylesStay (parents_of ms) (declarations_of ms) styles changed
styles-stay ns ms styles changed stay has =
    let count : length (parents_of ms) ≡ length (parents_of ns) = ap length stay.parents in
    record {
      count = has.length_is ∙ sym count;
      flags = stay.count ∙ (sym (length-parents ns) ∙ sym count);
      each = λ k lt is_not.
          let here : k < length (parents_of ns) = omega (arith, lt, count) in
          let g = got ns k (omega (arith, here, length-parents ns)) in
          let same = stay.same k (omega (arith, here, length-parents ns)) is_not in
          has.each k here
          ∙ (ap (λ (ps : List ℕ). computed_style (parent_style ps styles k) (declarations_at (declarations_of ns) k)) (sym stay.parents)
          ∙ ap (λ (ds : List Declaration). computed_style (parent_style (parents_of ms) styles k) ds) (same-declarations ns ms k k g.0 g.0 g.1 (same ∙ g.1) refl));
    }

module _ (parents : List ℕ) (decls : List (List Declaration)) (tree : IsTree parents) (was : List Style) (changed : List Bool) (stay : StylesStay parents decls was changed) where
  -- lists with the same style for the parent
  same-parent : (xs ys : List Style) (k : ℕ) → (0 < k → style_at xs (slice_index parents k) ≡ style_at ys (slice_index parents k)) → parent_style parents xs k ≡ parent_style parents ys k
  same-parent xs ys zero same = refl
  same-parent xs ys (suc k) same = same (omega arith)

  -- a style that is taken over
  pub kept-style : (styles : List Style) (made : List Bool) (k : ℕ) → k < length parents → KeepsUnmade was styles changed made k
      → is_made changed k ≡ false → (0 < k → is_made made (slice_index parents k) ≡ false)
      → IsStyleOf parents decls styles (style_at was k) k
  kept-style styles made k lt keeps is_not up =
      stay.each k lt is_not
      ∙ ap (λ (s : Style). computed_style s (declarations_at decls k))
      (same-parent was styles k (λ positive. sym (keeps.style (slice_index parents k) (tree.before k positive lt) (up positive))))

  -- lists of styles of the first nodes agree
  agree : (xs ys : List Style) (n m b k : ℕ) → StylesTo parents decls xs n → StylesTo parents decls ys m → k < b → k < n → k < m → k < length parents → style_at xs k ≡ style_at ys k
  agree xs ys n m zero k to up less lx ly lt = absurd (omega (arith, less))
  agree xs ys n m (suc b) k to up less lx ly lt =
      to.each k lx
      ∙ (ap (λ (s : Style). computed_style s (declarations_at decls k))
      (same-parent xs ys k (λ positive. (let h = tree.before k positive lt in
      agree xs ys n m b (slice_index parents k) to up (omega (arith, h, less)) (omega (arith, h, lx)) (omega (arith, h, ly)) (omega (arith, h, lt)))))
      ∙ sym (up.each k ly))

  pub one-kept : (styles later : List Style) (made : List Bool) (k : ℕ) (b : Bool) → k < length parents → StylesTo parents decls styles k → StylesTo parents decls later (k + 1)
      → KeepsUnmade was styles changed made k → (b ≡ false → is_made changed k ≡ false) → (b ≡ false → style_at later k ≡ style_at was k)
      → KeepsUnmade was later changed (made ++ b ∷ []) (k + 1)
  one-kept styles later made k b within to up keeps unchanged style = record {
    count = grind (arith, elements, keeps.count);
    unchanged = λ j lt is_not. elim (cases_lt j k) [
      | inl low ↦ keeps.unchanged j low (sym (flag-before made b j (omega (arith, low, keeps.count))) ∙ is_not)
      | inr high ↦ (let z : j ≡ k = omega (arith, lt, high) in
          ap (is_made changed) z ∙ unchanged (sym (flag-last made b j (omega (arith, z, keeps.count))) ∙ is_not))
    ];
    style = λ j lt is_not. elim (cases_lt j k) [
      | inl low ↦ agree later styles (k + 1) k (suc j) j up to (omega arith) lt low (omega (arith, low, within))
          ∙ keeps.style j low (sym (flag-before made b j (omega (arith, low, keeps.count))) ∙ is_not)
      | inr high ↦ (let z : j ≡ k = omega (arith, lt, high) in
          ap (style_at later) z ∙ (style (sym (flag-last made b j (omega (arith, z, keeps.count))) ∙ is_not) ∙ ap (style_at was) (sym z)))
    ];
  }

-- nodes that stay, with their styles
pub made-anew : (ns ms : List Node) (ss ts : List Style) (changed made : List Bool) (n : ℕ) → n ≡ length ms → AreStaying ns ms changed → KeepsUnmade ss ts changed made n
    → AreMadeAnew ns ms ss ts made
made-anew ns ms ss ts changed made n is-n stay keeps =
    let count : length ms ≡ length ns = sym (length-parents ms) ∙ (ap length stay.parents ∙ length-parents ns) in
    record {
      nodes = record {
        count = keeps.count ∙ (is-n ∙ count);
        parents = stay.parents;
        ids = stay.ids;
        form = stay.form;
        same = λ k lt is_not. stay.same k lt (keeps.unchanged k (omega (arith, lt, is-n, count)) is_not);
      };
      styles = λ k lt is_not. keeps.style k (omega (arith, lt, is-n, count)) is_not;
    }
