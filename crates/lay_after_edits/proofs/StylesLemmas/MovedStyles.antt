-- Styles are kept where nodes keep their parents and their declarations.
use Rattle.std.proofs.Common.{◌≡◌, ℕ, zero, suc, ◌+◌, ◌<◌, ◌≤◌, List, length, get_or, refl, sym, ap, ◌∙◌, arith}
use Rattle.lay_style.specs.declared.style.Style.{Style}
use Rattle.lay_style.specs.Values.{Declaration}
use Rattle.lay_style.specs.ComputedStyle.{HasStyles, computed_style, declarations_at, parent_style, style_at}
use Rattle.lay_after_edits.proofs.Cited.{inner}
use Rattle.lay_after_edits.specs.declared.styles.stretch.Stretch.{Stretch}
use Rattle.lay_after_edits.specs.Styles.KeptStyles.{KeepsStyles}
use Rattle.lay_after_edits.specs.Styles.Stretches.{earlier}
use Rattle.lay_after_edits.proofs.StylesLemmas.StyleLists.{earlier_high}

-- the nodes with these parents and declarations are moved round a stretch
pub record IsMoved (parents news : List ℕ) (decls later : List (List Declaration)) (s : Stretch) : Type 0 where
  pub starts : s.from ≤ s.until
  pub positive : 0 < s.until
  pub some : 0 < s.to
  pub ends : s.from ≤ s.to
  pub within : s.to ≤ length news
  pub count : length news + s.until ≡ length parents + s.to
  pub parent_before : (k : ℕ) → k < s.from → get_or news k 0 ≡ get_or parents k 0
  pub declared_before : (k : ℕ) → k < s.from → declarations_at later k ≡ declarations_at decls k
  pub outside : (k : ℕ) → s.to ≤ k → k < length news → s.from ≤ get_or news k 0 → s.to ≤ get_or news k 0
  pub parent_behind : (k : ℕ) → s.to ≤ k → k < length news → earlier s (get_or news k 0) ≡ get_or parents (earlier s k) 0
  pub declared_behind : (k : ℕ) → s.to ≤ k → k < length news → declarations_at later k ≡ declarations_at decls (earlier s k)

same_computed : (p q : Style) (ds es : List Declaration) → p ≡ q → ds ≡ es → computed_style p ds ≡ computed_style q es
same_computed p q ds es parent declared = ap (λ (r : Style). computed_style r ds) parent ∙ ap (λ (fs : List Declaration). computed_style q fs) declared

module _ (parents news : List ℕ) (decls later : List (List Declaration)) (s : Stretch) (moved : IsMoved parents news decls later s) (styles : List Style) where
  parent_stays : (k : ℕ) → k < s.from → parent_style parents styles k ≡ parent_style news styles k
  parent_stays zero low = refl
  parent_stays (suc k) low = ap (style_at styles) (sym (moved.parent_before (suc k) low))

  pub moved_keeps : HasStyles parents decls styles → KeepsStyles news later styles s
  moved_keeps has =
      let a = moved.starts in
      let b = moved.ends in
      let w = moved.within in
      let c = moved.count in
      let o = moved.positive in
      record {
        starts = a;
        some = moved.some;
        ends = b;
        within = w;
        count = omega (arith, c, has.length_is);
        before = λ k low. has.each k (omega (arith, low, a, w, c))
            ∙ same_computed (parent_style parents styles k) (parent_style news styles k) (declarations_at decls k) (declarations_at later k)
            (parent_stays k low) (sym (moved.declared_before k low));
        outside = moved.outside;
        behind = λ k high lt.
            let e = earlier_high s k (omega (arith, b, high)) in
            let here = inner parents styles (earlier s k) (omega (arith, e, o)) in
            has.each (earlier s k) (omega (arith, e, high, lt, c))
            ∙ same_computed (parent_style parents styles (earlier s k)) (style_at styles (earlier s (get_or news k 0)))
            (declarations_at decls (earlier s k)) (declarations_at later k)
            (here ∙ ap (style_at styles) (sym (moved.parent_behind k high lt))) (sym (moved.declared_behind k high lt));
      }
