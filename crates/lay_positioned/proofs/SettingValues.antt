-- What is found outward in so many turns is what an absolutely positioned box is given.
use Rattle.std.proofs.Common.{◌≡◌, ℕ, zero, suc, ◌<◌, ◌≤◌, Bool, true, false, List, length, refl, sym, subst, arith}
use Rattle.std.specs.Prelude.{Option, Some, None, if◌then◌else◌}
use Rattle.lay_units.specs.declared.records.Rect.{Rect}
use Rattle.lay_doc.specs.Tree.{IsTree}
use Rattle.lay_box_tree.specs.declared.box_tree.BoxNode.{BoxNode}
use Rattle.lay_box_tree.specs.BoxColumns.{box_parents}
use Rattle.lay_box_tree.specs.Containers.{box_parent}
use Rattle.lay_sizes.specs.declared.sizing.ContainingBlock.{ContainingBlock}
use Rattle.lay_contexts.specs.FormattingContexts.{AreFormattingContexts, FormattingContext, boxes_in, formatting_context_at}
use Rattle.lay_abspos.specs.declared.setting.AbsoluteSetting.{AbsoluteSetting}
use Rattle.lay_positioned.specs.Absolute.{is_fixed}
use Rattle.lay_positioned.specs.ContainingRects.{IsContainingRect, containing_in, found_or, held, initial, seen_from, viewport_rect, further as around}
use Rattle.lay_positioned.specs.Holders.{IsHolderFor, IsNearestHolder, further, holder_for, is_holder_at, nearest_in, none, parent}
use Rattle.lay_positioned.specs.Laws.{SettingsAreValues}
use Rattle.lay_positioned.specs.Layouts.{Layout, step}
use Rattle.lay_positioned.specs.Settings.{IsSetting, absolute_setting}
use Rattle.lay_positioned.specs.Ways.{AreAlikeAt, IsOnWay}
use Rattle.lay_positioned.proofs.OneSetting.{alike, settings_come_of_ways_lem}
use Rattle.lay_positioned.proofs.ParentSteps.{parent_before}

module _ (boxes : List BoxNode) (tree : IsTree (box_parents boxes)) where
  -- by what the parent is
  next : (turns k : ℕ) → 0 < k → (is_holder_at boxes (box_parent boxes k) ≡ false → IsNearestHolder boxes (box_parent boxes k) (nearest_in turns boxes (box_parent boxes k)))
      → (b : Bool) → is_holder_at boxes (box_parent boxes k) ≡ b → IsNearestHolder boxes k (if b then Some (box_parent boxes k) else nearest_in turns boxes (box_parent boxes k))
  next turns k some rest true e = parent k some e
  next turns k some rest false e = further k (nearest_in turns boxes (box_parent boxes k)) some e (rest e)

  nearest : (turns k : ℕ) → k ≤ turns → k < length boxes → (k ≡ 0 → is_holder_at boxes 0 ≡ false) → IsNearestHolder boxes k (nearest_in turns boxes k)
  nearest zero k le within first = let z : k ≡ 0 = omega arith in subst (λ j. IsNearestHolder boxes j None) (sym z) none
  nearest (suc turns) zero le within first =
      let root : box_parent boxes 0 ≡ 0 = tree.root in
      let no : is_holder_at boxes (box_parent boxes 0) ≡ false = subst (λ p. is_holder_at boxes p ≡ false) (sym root) (first refl) in
      subst (λ b. IsNearestHolder boxes 0 (if b then Some (box_parent boxes 0) else nearest_in turns boxes (box_parent boxes 0))) (sym no)
      (subst (λ p. IsNearestHolder boxes 0 (nearest_in turns boxes p)) (sym root) (nearest turns zero (omega arith) within first))
  nearest (suc turns) (suc k) le within first =
      let before = parent_before boxes tree (suc k) (omega arith) within in
      next turns (suc k) (omega arith)
      (λ e. nearest turns (box_parent boxes (suc k)) (omega arith) (omega arith) (λ z. subst (λ p. is_holder_at boxes p ≡ false) z e))
      (is_holder_at boxes (box_parent boxes (suc k))) refl

  pub holder_is : (fixed : Bool) (k : ℕ) → k < length boxes → IsHolderFor fixed boxes k (holder_for fixed boxes k)
  holder_is true k within = refl
  holder_is false zero within = none
  holder_is false (suc k) within = nearest (suc k) (suc k) (omega arith) within (λ z. absurd (omega (arith, z)))

module _ (viewport : ContainingBlock) (fixed : Bool) (contexts : List FormattingContext) (laid : ℕ → Layout) (are : AreFormattingContexts contexts) where
  found : (i k : ℕ) (r : Rect) (holder : Option ℕ) → IsHolderFor fixed (boxes_in contexts i) k holder
      → (IsHolderFor fixed (boxes_in contexts i) k None → IsContainingRect viewport fixed contexts laid i k r)
      → IsContainingRect viewport fixed contexts laid i k (found_or (boxes_in contexts i) (laid i) holder r)
  found i k r None is rest = rest is
  found i k r (Some holder) is rest = held i k holder is

  own : (i k : ℕ) → i < length contexts → k < length (boxes_in contexts i) → IsHolderFor fixed (boxes_in contexts i) k (holder_for fixed (boxes_in contexts i) k)
  own i k within place = holder_is (boxes_in contexts i) (are.boxes i within).tree fixed k place

  pub containing : (turns i k : ℕ) → i ≤ turns → i < length contexts → k < length (boxes_in contexts i)
      → IsContainingRect viewport fixed contexts laid i k (containing_in turns viewport fixed contexts laid i k)
  containing zero i k le within place =
      let z : i ≡ 0 = omega arith in
      found i k (seen_from (laid 0).offset (viewport_rect viewport)) (holder_for fixed (boxes_in contexts i) k) (own i k within place)
      (λ none. subst (λ n. IsContainingRect viewport fixed contexts laid n k (seen_from (laid 0).offset (viewport_rect viewport))) (sym z)
      (initial k (subst (λ n. IsHolderFor fixed (boxes_in contexts n) k None) z none)))
  containing (suc turns) zero k le within place =
      found 0 k (seen_from (laid 0).offset (viewport_rect viewport)) (holder_for fixed (boxes_in contexts 0) k) (own 0 k within place) (λ none. initial k none)
  containing (suc turns) (suc i) k le within place =
      let c = formatting_context_at contexts (suc i) in
      let before = are.outer (suc i) (omega arith) within in
      let outside = containing_in turns viewport fixed contexts laid c.outer c.outer_box in
      found (suc i) k (seen_from (step contexts laid (suc i)) outside) (holder_for fixed (boxes_in contexts (suc i)) k) (own (suc i) k within place)
      (λ none. around (suc i) k outside (omega arith) none
      (containing turns c.outer c.outer_box (omega arith) (omega arith) (are.outer_box (suc i) (omega arith) within)))

pub settings_are_values_lem : SettingsAreValues
settings_are_values_lem viewport contexts laid zero are within = refl
settings_are_values_lem viewport contexts laid (suc i) are within =
    let c = formatting_context_at contexts (suc i) in
    let before = are.outer (suc i) (omega arith) within in
    record {
      rect = containing_in (suc i) viewport (is_fixed contexts (suc i)) contexts laid c.outer c.outer_box;
      containing = containing viewport (is_fixed contexts (suc i)) contexts laid are (suc i) c.outer c.outer_box (omega arith) (omega arith) (are.outer_box (suc i) (omega arith) within);
      setting_is = refl;
    }

-- what is given is that value
pub setting_value : (viewport : ContainingBlock) (contexts : List FormattingContext) (laid : ℕ → Layout) (i : ℕ) (s : AbsoluteSetting) → AreFormattingContexts contexts
    → i < length contexts → IsSetting viewport contexts laid i s → s ≡ absolute_setting viewport contexts laid i
setting_value viewport contexts laid i s are within is =
    settings_come_of_ways_lem viewport contexts contexts laid laid i s (absolute_setting viewport contexts laid i) (alike contexts i) (λ j on. (alike contexts j, refl)) is (settings_are_values_lem viewport contexts laid i are within)

-- and it is the same wherever those on the way are alike and answer the same
pub same_setting : (viewport : ContainingBlock) (a b : List FormattingContext) (v w : ℕ → Layout) (i : ℕ) → AreFormattingContexts a → AreFormattingContexts b → i < length a → i < length b
    → AreAlikeAt a b i → ((j : ℕ) → IsOnWay a i j → AreAlikeAt a b j × (v j ≡ w j)) → absolute_setting viewport a v i ≡ absolute_setting viewport b w i
same_setting viewport a b v w i are_a are_b within_a within_b own same =
    settings_come_of_ways_lem viewport a b v w i (absolute_setting viewport a v i) (absolute_setting viewport b w i) own same
    (settings_are_values_lem viewport a v i are_a within_a) (settings_are_values_lem viewport b w i are_b within_b)
