-- From a box to the nearest root above it: whether it stands in an anonymous table is said there too.
use Rattle.std.proofs.Common.{◌≡◌, inl, inr, ℕ, zero, suc, ◌<◌, Bool, true, false, ◌&&◌, ◌||◌, not, List, length, get_or, refl, ap, sym, ◌∙◌, arith}
use Rattle.std.proofs.lemmas.List.{get_or-map}
use Rattle.std.proofs.lemmas.Bool.{false_from_ne_true, both_ways}
use Rattle.lay_style.specs.declared.style.Style.{Style}
use Rattle.lay_style.specs.declared.style_words.TableLayout.TheVariants.{Auto}
use Rattle.lay_doc.specs.declared.node.Node.{Node}
use Rattle.lay_box_tree.specs.BoxColumns.{box_at, no_box}
use Rattle.lay_box_tree.specs.Containers.{box_parent}
use Rattle.lay_box_tree.specs.declared.box_tree.BoxKind.{BoxKind}
use Rattle.lay_box_tree.specs.declared.box_tree.BoxKind.TheVariants as kind
use Rattle.lay_box_tree.specs.declared.box_tree.BoxNode.{BoxNode}
use Rattle.lay_box_tree.specs.declared.box_tree.Flow.{Flow}
use Rattle.lay_box_tree.specs.declared.box_tree.Flow.TheVariants.{InFlow}
use Rattle.lay_box_tree.specs.Kinds.{is_wrapper}
use Rattle.lay_contexts.specs.Homes.{IsHome, further, is_anonymous_root, is_root, is_wrapper_or_cell, own, parent}
use Rattle.lay_contexts.proofs.NearestRoots.{not_own}
use Rattle.lay_contexts.specs.Edited.Shrinking.{TakesAnonymousTables}
use Rattle.lay_contexts.proofs.EditedLemmas.StrayForms.{or-false}
use Rattle.lay_contexts.proofs.EditedLemmas.TableMarks.{Marked, is_table_box}

-- Kinds of boxes.
table-root : (a i : Bool) (x : BoxKind) → (a && is_wrapper x) ≡ true → (i ≡ true → a ≡ false) → (a && not i && is_wrapper_or_cell x) ≡ true
table-root true true x e h = absurd (let z = h refl in cc)
table-root true false kind.Wrapper e h = refl
table-root true false kind.InlineWrapper e h = refl
table-root _ _ x e h = absurd cc

module _ (S : Flow → BoxKind → Style → Bool) (takes : TakesAnonymousTables S) where
  abbrev pub Is : BoxNode → Bool
  Is b = S b.flow b.kind b.style

  -- the only anonymous roots that are such ones
  pub root-kinds : (a i : Bool) (x : BoxKind) (s : Style) → (a && not i && is_wrapper_or_cell x) ≡ true → S InFlow x s ≡ true → (a && is_wrapper x) ≡ true
  root-kinds true false kind.Wrapper s e h = refl
  root-kinds true false kind.InlineWrapper s e h = refl
  root-kinds true false (kind.Cell m n) s e h = absurd (both_ways (S InFlow (kind.Cell m n) s) (takes.cell m n s) h)
  root-kinds _ _ x s e h = absurd cc

  pub table-kind : (a : Bool) (x : BoxKind) (s : Style) → (a && is_wrapper x) ≡ true → s.table.layout ≡ Auto → S InFlow x s ≡ true
  table-kind true kind.Wrapper s e h = takes.wrapper s h
  table-kind true kind.InlineWrapper s e h = takes.inline_wrapper s h
  table-kind _ x s e h = absurd cc

pub root-flag : (boxes : List BoxNode) (k : ℕ) → 0 < k → k < length boxes → is_root boxes k ≡ is_anonymous_root (box_at boxes k)
root-flag boxes zero positive lt = absurd (omega (arith, positive))
root-flag boxes (suc k) positive lt = get_or-map is_anonymous_root boxes (suc k) no_box false lt

pub anonymous-by : (a i w : Bool) → (a && i && w) ≡ true → a ≡ true
anonymous-by true i w e = refl
anonymous-by false i w e = absurd cc

module _ (nodes_of : List Node) (ss : List Style) (boxes : List BoxNode) (marks : List Bool) (known : Marked nodes_of ss boxes marks)
    (some : 0 < length boxes) (element : (box_at boxes 0).anonymous ≡ false) (low : (k : ℕ) → 0 < k → k < length boxes → box_parent boxes k < k) where
  abbrev pub mark : ℕ → Bool
  mark k = get_or marks k false

  own-no-table : is_table_box (box_at boxes 0) ≡ false
  own-no-table = ap (λ (a : Bool). a && is_wrapper (box_at boxes 0).kind) element

  pub none-at-own : (k : ℕ) → k ≡ 0 → (mark k || is_table_box (box_at boxes k)) ≡ false
  none-at-own k z =
      ap (λ (j : ℕ). mark j || is_table_box (box_at boxes j)) z
      ∙ (or-false (mark 0) (is_table_box (box_at boxes 0)) own-no-table ∙ known.own)

  step : (k : ℕ) → 0 < k → k < length boxes → mark k ≡ (mark (box_parent boxes k) || is_table_box (box_at boxes (box_parent boxes k)))
  step k positive lt = elim (known.above k positive lt) [
    | inl here ↦ here.1 ∙ sym (none-at-own (box_parent boxes k) here.0)
    | inr there ↦ there
  ]

  pub table-is-root : (k : ℕ) → 0 < k → k < length boxes → is_table_box (box_at boxes k) ≡ true → is_root boxes k ≡ true
  table-is-root k positive lt e =
      root-flag boxes k positive lt
      ∙ table-root (box_at boxes k).anonymous (box_at boxes k).inner (box_at boxes k).kind e (λ inner. (known.known k lt inner).0)

  -- from a box to its home
  pub chain : (k h : ℕ) → IsHome boxes k h → 0 < k → k < length boxes → mark k ≡ (mark h || is_table_box (box_at boxes h))
  chain _ _ own positive lt = absurd (omega (arith, positive))
  chain _ _ (parent k above e) positive lt = step k positive lt
  chain _ _ (further k h above e up) positive lt =
      let p : ℕ = box_parent boxes k in
      let before = low k positive lt in
      let p_in : p < length boxes = omega (arith, before, lt) in
      let p_some : 0 < p = not_own boxes p e in
      let no_table : is_table_box (box_at boxes p) ≡ false = false_from_ne_true (is_table_box (box_at boxes p)) (λ t. both_ways (is_root boxes p) e (table-is-root p p_some p_in t)) in
      step k positive lt ∙ (or-false (mark p) (is_table_box (box_at boxes p)) no_table ∙ chain p h up p_some p_in)
