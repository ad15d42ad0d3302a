-- Styles that are kept and styles that are made anew, put together.
use Rattle.std.proofs.Common.{◌≡◌, ℕ, zero, suc, ◌+◌, ◌-◌, ◌<◌, ◌≤◌, List, ◌++◌, length, get_or, take, drop, refl, sym, ap, ◌∙◌, arith, inl, inr}
use Rattle.std.proofs.lemmas.Bool.{cases_lt, le-ltb, lt-ltb}
use Rattle.std.proofs.lemmas.List.{get_or_append_left, get_or-append_right, get_or-drop, get_or-take, length-append, length-drop, length-take-le}
use Rattle.lay_style.specs.declared.style.Style.{Style}
use Rattle.lay_style.specs.Values.{Declaration}
use Rattle.lay_style.specs.InitialStyle.{initial_style}
use Rattle.lay_style.specs.ComputedStyle.{HasStyles, computed_style, declarations_at, parent_style, style_at}
use Rattle.lay_doc.specs.Tree.{IsTree}
use Rattle.lay_inherit.specs.StylesTo.{StylesTo}
use Rattle.lay_after_edits.proofs.Cited.{inner}
use Rattle.lay_after_edits.specs.declared.styles.stretch.Stretch.{Stretch}
use Rattle.lay_after_edits.specs.Styles.KeptStyles.{KeepsStyles}
use Rattle.lay_after_edits.specs.Styles.Stretches.{earlier}

pub earlier_low : (s : Stretch) (k : ℕ) → k < s.from → earlier s k ≡ k
earlier_low s k low = let t = lt-ltb k s.from low in rw t refl

pub earlier_high : (s : Stretch) (k : ℕ) → s.from ≤ k → earlier s k ≡ (k - s.to) + s.until
earlier_high s k high = let t = le-ltb k s.from high in rw t refl

module _ (parents : List ℕ) (decls : List (List Declaration)) (styles : List Style) (s : Stretch) (tree : IsTree parents) (kept : KeepsStyles parents decls styles s) where
  until_within : s.until ≤ length styles
  until_within = let c = kept.count in let w = kept.within in omega (arith, c, w)

  -- lists that agree before a node agree in its parent's style
  parent_same : (xs ys : List Style) (k : ℕ) → k < length parents → ((j : ℕ) → j < k → style_at xs j ≡ style_at ys j) → parent_style parents xs k ≡ parent_style parents ys k
  parent_same xs ys zero lt same = refl
  parent_same xs ys (suc k) lt same = same (get_or parents (suc k) 0) (tree.before (suc k) (omega arith) lt)

  -- the styles before the stretch
  pub front_known : StylesTo parents decls (take s.from styles) s.from
  front_known =
      let u = until_within in
      let a = kept.starts in
      let b = kept.ends in
      let c = kept.within in
      record {
        length_is = length-take-le s.from styles (omega (arith, u, a));
        each = λ k lt. get_or-take s.from styles k initial_style lt ∙ (kept.before k lt
            ∙ ap (λ (p : Style). computed_style p (declarations_at decls k))
            (sym (parent_same (take s.from styles) styles k (omega (arith, lt, b, c)) (λ j jl. get_or-take s.from styles j initial_style (omega (arith, jl, lt))))));
      }

  module _ (made : List Style) (to : StylesTo parents decls made s.to) where
    -- those that were made before the stretch are the same
    front_same : (n k : ℕ) → k < n → k < s.from → style_at made k ≡ style_at styles k
    front_same zero k lt low = absurd (omega (arith, lt))
    front_same (suc n) k lt low =
        let b = kept.ends in
        let c = kept.within in
        to.each k (omega (arith, low, b))
        ∙ (ap (λ (p : Style). computed_style p (declarations_at decls k))
        (parent_same made styles k (omega (arith, low, b, c)) (λ j jl. front_same n j (omega (arith, lt, jl)) (omega (arith, low, jl))))
        ∙ sym (kept.before k low))

    abbrev pub joined : List Style
    joined = made ++ drop s.until styles

    read_low : (k : ℕ) → k < s.to → style_at joined k ≡ style_at made k
    read_low k low = get_or_append_left made (drop s.until styles) initial_style k (omega (arith, low, to.length_is))

    read_behind : (k : ℕ) → s.to ≤ k → style_at joined k ≡ style_at styles (earlier s k)
    read_behind k high =
        let b = kept.ends in
        let q : s.until + (k - s.to) ≡ (k - s.to) + s.until = omega arith in
        get_or-append_right made (drop s.until styles) s.to k initial_style to.length_is high
        ∙ (get_or-drop s.until styles (k - s.to) initial_style ∙ ap (style_at styles) (q ∙ sym (earlier_high s k (omega (arith, b, high)))))

    -- what is read outside of the stretch
    read_kept : (k : ℕ) → (s.from ≤ k → s.to ≤ k) → style_at joined k ≡ style_at styles (earlier s k)
    read_kept k outside = elim (cases_lt k s.from) [
      | inl low ↦ (let b = kept.ends in read_low k (omega (arith, low, b)) ∙ (front_same (suc k) k (omega arith) low ∙ ap (style_at styles) (sym (earlier_low s k low))))
      | inr high ↦ read_behind k (outside high)
    ]

    pub joined_styles : HasStyles parents decls joined
    joined_styles = record {
      length_is = (let a = length-append made (drop s.until styles) in let b = length-drop s.until styles in let c = kept.count in let u = until_within in
          omega (arith, a, b, c, u, to.length_is));
      each = λ k lt. elim (cases_lt k s.to) [
        | inl low ↦ read_low k low ∙ (to.each k low
            ∙ ap (λ (p : Style). computed_style p (declarations_at decls k)) (parent_same made joined k lt (λ j jl. sym (read_low j (omega (arith, jl, low))))))
        | inr high ↦ (let some = kept.some in
            let here : parent_style parents joined k ≡ style_at joined (get_or parents k 0) = inner parents joined k (omega (arith, some, high)) in
            read_behind k high ∙ (kept.behind k high lt
            ∙ ap (λ (p : Style). computed_style p (declarations_at decls k)) (sym (here ∙ read_kept (get_or parents k 0) (kept.outside k high lt)))))
      ];
    }
