-- How a containing block is found, step by step from the anchor outward.
use Rattle.std.proofs.Common.{◌≡◌, ℕ, ◌<◌, Bool, List, subst, sym, ap, ◌∙◌}
use Rattle.std.specs.Prelude.{Some, None}
use Rattle.lay_units.specs.declared.records.Rect.{Rect}
use Rattle.lay_box_tree.specs.declared.box_tree.BoxNode.{BoxNode}
use Rattle.lay_sizes.specs.declared.sizing.ContainingBlock.{ContainingBlock}
use Rattle.lay_contexts.specs.FormattingContexts.{FormattingContext, boxes_in, formatting_context_at}
use Rattle.lay_placements.specs.declared.corner.Corner.{Corner}
use Rattle.lay_positioned.specs.Holders.{IsHolderFor}
use Rattle.lay_positioned.specs.Layouts.{Layout, step}
use Rattle.lay_positioned.specs.PaddingBoxes.{padding_box}
use Rattle.lay_positioned.specs.ContainingRects.{IsContainingRect, further, held, initial, seen_from, viewport_rect}

module _ (viewport : ContainingBlock) (is_fixed : Bool) (contexts : List FormattingContext) (laid : ℕ → Layout) (k : ℕ) where
  pub held_by : (i holder : ℕ) (boxes : List BoxNode) (r : Rect) → boxes ≡ boxes_in contexts i → IsHolderFor is_fixed boxes k (Some holder)
      → r ≡ padding_box boxes (laid i) holder → IsContainingRect viewport is_fixed contexts laid i k r
  held_by i holder boxes r same h is =
      subst (λ x. IsContainingRect viewport is_fixed contexts laid i k x) (sym (is ∙ ap (λ bs. padding_box bs (laid i) holder) same))
      (held i k holder (subst (λ bs. IsHolderFor is_fixed bs k (Some holder)) same h))

  pub at_root : (i : ℕ) (boxes : List BoxNode) (r v : Rect) (c : Corner) → i ≡ 0 → boxes ≡ boxes_in contexts i → IsHolderFor is_fixed boxes k None
      → c ≡ (laid 0).offset → v ≡ viewport_rect viewport → r ≡ seen_from c v → IsContainingRect viewport is_fixed contexts laid i k r
  at_root i boxes r v c root same h corner view is =
      let none : IsHolderFor is_fixed (boxes_in contexts 0) k None = subst (λ bs. IsHolderFor is_fixed bs k None) (same ∙ ap (λ n. boxes_in contexts n) root) h in
      let e : r ≡ seen_from (laid 0).offset (viewport_rect viewport) = is ∙ ap (λ x. seen_from x v) corner ∙ ap (λ x. seen_from (laid 0).offset x) view in
      subst (λ n. IsContainingRect viewport is_fixed contexts laid n k r) (sym root)
      (subst (λ x. IsContainingRect viewport is_fixed contexts laid 0 k x) (sym e) (initial k none))

  pub around : (i : ℕ) (boxes : List BoxNode) (r outside : Rect) (c : Corner) → 0 < i → boxes ≡ boxes_in contexts i → IsHolderFor is_fixed boxes k None
      → IsContainingRect viewport is_fixed contexts laid (formatting_context_at contexts i).outer (formatting_context_at contexts i).outer_box outside
      → c ≡ step contexts laid i → r ≡ seen_from c outside → IsContainingRect viewport is_fixed contexts laid i k r
  around i boxes r outside c some same h found stepped is =
      subst (λ x. IsContainingRect viewport is_fixed contexts laid i k x) (sym (is ∙ ap (λ x. seen_from x outside) stepped))
      (further i k outside some (subst (λ bs. IsHolderFor is_fixed bs k None) same h) found)
