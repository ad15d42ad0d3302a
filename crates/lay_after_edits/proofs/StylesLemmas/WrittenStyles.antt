-- Styles that are written over, one after another.
use Rattle.std.proofs.Common.{◌≡◌, ◌≢◌, inl, inr, ℕ, zero, suc, ◌+◌, ◌<◌, ◌≤◌, List, length, get_or, refl, ap, sym, ◌∙◌, arith, slice_set, subst, Option, None, Some, option_map}
use Rattle.std.proofs.lemmas.Bool.{cases_lt}
use Rattle.std.proofs.lemmas.Grind.{elements}
use Rattle.std.proofs.lemmas.List.{ext_get_or}
use Rattle.std.proofs.lemmas.Option.{same_Some}
use Rattle.lay_style.specs.declared.style.Style.{Style}
use Rattle.lay_style.specs.InitialStyle.{initial_style}
use Rattle.lay_style.specs.Values.{Declaration}
use Rattle.lay_style.specs.ComputedStyle.{HasStyles, computed_style, declarations_at, parent_style, style_at}
use Rattle.lay_style.specs.Places.{place_of}
use Rattle.lay_after_edits.proofs.Cited.{inner}
use Rattle.lay_doc.specs.declared.edit.Edit.{Edit}
use Rattle.lay_doc.specs.declared.edit.Edit.TheVariants.{SetStyle, ClearStyle, SetText, Insert, Remove, Bad}
use Rattle.lay_doc.specs.Document.{Document, ids_of, parents_of}
use Rattle.lay_doc.specs.Tree.{IsTree}
use Rattle.lay_after_edits.specs.Contexts.Anchored.{IsStyleEdit}
use Rattle.lay_after_edits.specs.declared.styles.stretch.Stretch.{Stretch}
use Rattle.lay_after_edits.specs.Styles.KeptStyles.{KeepsStyles}
use Rattle.lay_after_edits.specs.Styles.Stretches.{earlier, edit_stretch, subtree_at}
use Rattle.lay_after_edits.specs.Styles.WrittenOver.{AreSameOutside}
use Rattle.lay_after_edits.proofs.StylesLemmas.StyleLists.{earlier_high, earlier_low}

set_other : (xs : List Style) (k j : ℕ) (x : Style) → j ≢ k → style_at (slice_set xs k x) j ≡ style_at xs j
set_other xs k j x other = grind (arith, elements, other)

set_here : (xs : List Style) (k : ℕ) (x : Style) → k < length xs → style_at (slice_set xs k x) k ≡ x
set_here xs k x lt = grind (arith, elements, lt)

set_count : (xs : List Style) (k : ℕ) (x : Style) → length (slice_set xs k x) ≡ length xs
set_count xs k x = grind (arith, elements)

-- of the styles from a place on those before k are made anew, and all others are what they were
pub record WrittenTo (parents : List ℕ) (decls : List (List Declaration)) (was : List Style) (from : ℕ) (styles : List Style) (k : ℕ) : Type 0 where
  pub count : length styles ≡ length was
  pub low : (j : ℕ) → j < from → style_at styles j ≡ style_at was j
  pub made : (j : ℕ) → from ≤ j → j < k → style_at styles j ≡ computed_style (parent_style parents styles j) (declarations_at decls j)
  pub high : (j : ℕ) → k ≤ j → style_at styles j ≡ style_at was j

module _ (parents : List ℕ) (decls : List (List Declaration)) (was : List Style) (tree : IsTree parents) where
  pub none_written : (from : ℕ) → WrittenTo parents decls was from was from
  none_written from = record {
    count = refl;
    low = λ j lt. refl;
    made = λ j high low. absurd (omega (arith, high, low));
    high = λ j le. refl;
  }

  -- the parent of a node stands before it
  parent_kept : (styles : List Style) (k j : ℕ) (x : Style) → j ≤ k → j < length parents → parent_style parents (slice_set styles k x) j ≡ parent_style parents styles j
  parent_kept styles k zero x le lt = refl
  parent_kept styles k (suc j) x le lt =
      let before = tree.before (suc j) (omega arith) lt in
      set_other styles k (get_or parents (suc j) 0) x (λ e. absurd (omega (arith, before, le, e)))

  pub one_written : (from k : ℕ) (styles : List Style) (x : Style) → WrittenTo parents decls was from styles k → from ≤ k → k < length parents → length parents ≡ length was
      → x ≡ computed_style (parent_style parents styles k) (declarations_at decls k) → WrittenTo parents decls was from (slice_set styles k x) (k + 1)
  one_written from k styles x known le lt same is = record {
    count = set_count styles k x ∙ known.count;
    low = λ j less. set_other styles k j x (λ e. absurd (omega (arith, less, le, e))) ∙ known.low j less;
    made = λ j high less. elim (cases_lt j k) [
      | inl before ↦ set_other styles k j x (λ e. absurd (omega (arith, before, e)))
          ∙ (known.made j high before
          ∙ ap (λ (p : Style). computed_style p (declarations_at decls j)) (sym (parent_kept styles k j x (omega (arith, before)) (omega (arith, before, lt)))))
      | inr behind ↦ (let here : j ≡ k = omega (arith, less, behind) in
          ap (style_at (slice_set styles k x)) here
          ∙ (set_here styles k x (omega (arith, lt, same, known.count))
          ∙ (is
          ∙ (ap (λ (p : Style). computed_style p (declarations_at decls k)) (sym (parent_kept styles k k x (omega arith) lt))
          ∙ ap (λ (m : ℕ). computed_style (parent_style parents (slice_set styles k x) m) (declarations_at decls m)) (sym here)))))
    ];
    high = λ j above. set_other styles k j x (λ e. absurd (omega (arith, above, e))) ∙ known.high j (omega (arith, above));
  }

  module _ (s : Stretch) (kept : KeepsStyles parents decls was s) (stays : s.to ≡ s.until) (styles : List Style) (known : WrittenTo parents decls was s.from styles s.until) where
    as_many : length parents ≡ length was
    as_many = let c = kept.count in omega (arith, c, stays)

    -- a node outside of the stretch stands where it stood
    same_place : (k : ℕ) → (s.from ≤ k → s.to ≤ k) → earlier s k ≡ k
    same_place k outside = elim (cases_lt k s.from) [
      | inl low ↦ earlier_low s k low
      | inr high ↦ (let behind = outside high in earlier_high s k high ∙ omega (arith, behind, stays))
    ]

    kept_at : (k : ℕ) → (s.from ≤ k → s.to ≤ k) → style_at styles k ≡ style_at was k
    kept_at k outside = elim (cases_lt k s.from) [
      | inl low ↦ known.low k low
      | inr high ↦ (let behind = outside high in known.high k (omega (arith, behind, stays)))
    ]

    parent_same : (k : ℕ) → k < length parents → k < s.from → parent_style parents styles k ≡ parent_style parents was k
    parent_same zero lt low = refl
    parent_same (suc k) lt low = let before = tree.before (suc k) (omega arith) lt in known.low (get_or parents (suc k) 0) (omega (arith, before, low))

    behind_known : (k : ℕ) → s.to ≤ k → k < length parents → style_at styles k ≡ computed_style (parent_style parents styles k) (declarations_at decls k)
    behind_known k high lt =
        let some = kept.some in
        let p : ℕ = get_or parents k 0 in
        let outside = kept.outside k high lt in
        kept_at k (λ from. high)
        ∙ (ap (style_at was) (sym (same_place k (λ from. high)))
        ∙ (kept.behind k high lt
        ∙ ap (λ (x : Style). computed_style x (declarations_at decls k))
        (ap (style_at was) (same_place p outside) ∙ (sym (kept_at p outside) ∙ sym (inner parents styles k (omega (arith, some, high)))))))

    pub all_written : HasStyles parents decls styles
    all_written = record {
      length_is = known.count ∙ sym as_many;
      each = λ k lt. elim (cases_lt k s.from) [
        | inl low ↦ known.low k low ∙ (kept.before k low ∙ ap (λ (p : Style). computed_style p (declarations_at decls k)) (sym (parent_same k lt low)))
        | inr high ↦ elim (cases_lt k s.until) [
          | inl inside ↦ known.made k high inside
          | inr behind ↦ behind_known k (omega (arith, behind, stays)) lt
        ]
      ];
    }

    pub same_outside : AreSameOutside was styles (record { from = s.from; until = s.until })
    same_outside = record {
      count = known.count;
      within = (let w = kept.within in omega (arith, w, as_many, stays));
      same = λ k outside. elim outside [
        | inl low ↦ known.low k low
        | inr behind ↦ known.high k behind
      ];
    }

subtree_stays : (parents : List ℕ) (o : Option ℕ) (s : Stretch) → option_map (subtree_at parents) o ≡ Some s → s.to ≡ s.until
subtree_stays parents None s e = absurd cc
subtree_stays parents (Some p) s e = subst (λ (t : Stretch). t.to ≡ t.until) (same_Some (subtree_at parents p) s e) refl

-- an edit of declarations puts no node in, and takes none out
pub stretch_stays : (d : Document) (edit : Edit) (s : Stretch) → IsStyleEdit edit → edit_stretch d edit ≡ Some s → s.to ≡ s.until
stretch_stays d (SetStyle node decl) s is e = subtree_stays (parents_of d.nodes) (place_of node.0 (ids_of d.nodes)) s e
stretch_stays d (ClearStyle node property) s is e = subtree_stays (parents_of d.nodes) (place_of node.0 (ids_of d.nodes)) s e
stretch_stays d (SetText node text) s is e = absurd is
stretch_stays d (Insert parent index new) s is e = absurd is
stretch_stays d (Remove node) s is e = absurd is
stretch_stays d (Bad bad) s is e = absurd is

-- one more style follows a later one
pub one_follows : (styles later : List Style) (k until : ℕ) (x : Style) → AreSameOutside styles later (record { from = k; until = until }) → k < until → x ≡ style_at later k
    → AreSameOutside (slice_set styles k x) later (record { from = k + 1; until = until })
one_follows styles later k until x known lt is = record {
  count = known.count ∙ sym (set_count styles k x);
  within = (let w = known.within in let c = set_count styles k x in omega (arith, w, c));
  same = λ j outside. elim (cases_lt j k) [
    | inl low ↦ known.same j (inl low) ∙ sym (set_other styles k j x (λ e. absurd (omega (arith, low, e))))
    | inr high ↦ elim (cases_lt k j) [
      | inl above ↦ known.same j (inr (elim outside [
        | inl below ↦ omega (arith, below, above)
        | inr behind ↦ behind
      ])) ∙ sym (set_other styles k j x (λ e. absurd (omega (arith, above, e))))
      | inr under ↦ (let here : j ≡ k = omega (arith, high, under) in
          ap (style_at later) here ∙ (sym is ∙ (sym (set_here styles k x (let w = known.within in omega (arith, lt, w))) ∙ ap (style_at (slice_set styles k x)) (sym here))))
    ]
  ];
}

-- all do
pub all_follow : (styles later : List Style) (k until : ℕ) → AreSameOutside styles later (record { from = k; until = until }) → until ≤ k → styles ≡ later
all_follow styles later k until known le =
    ext_get_or initial_style styles later (sym known.count) (λ j lt. sym (known.same j (elim (cases_lt j k) [
      | inl low ↦ inl low
      | inr high ↦ inr (omega (arith, high, le))
    ])))
