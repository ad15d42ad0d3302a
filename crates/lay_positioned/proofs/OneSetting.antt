-- An absolutely positioned box has one containing block, which comes of what is on the way to it.
use Rattle.std.proofs.Common.{◌≡◌, ◌<◌, ℕ, zero, suc, Bool, true, false, List, refl, sym, ap, ◌∙◌, subst, arith}
use Rattle.std.specs.Prelude.{Option, Some, None, if◌then◌else◌}
use Rattle.std.proofs.lemmas.Bool.{both_ways}
use Rattle.lay_units.specs.declared.records.Rect.{Rect}
use Rattle.lay_box_tree.specs.declared.box_tree.BoxNode.{BoxNode}
use Rattle.lay_box_tree.specs.Containers.{box_parent}
use Rattle.lay_sizes.specs.declared.sizing.ContainingBlock.{ContainingBlock}
use Rattle.lay_contexts.specs.FormattingContexts.{FormattingContext, boxes_in, formatting_context_at}
use Rattle.lay_placements.specs.declared.corner.Corner.{Corner}
use Rattle.lay_placements.specs.Standings.{standing_at}
use Rattle.lay_abspos.specs.declared.setting.AbsoluteSetting.{AbsoluteSetting}
use Rattle.lay_positioned.specs.Absolute.{is_absolute, is_fixed, is_own_absolute, is_own_fixed}
use Rattle.lay_positioned.specs.ContainingRects.{IsContainingRect, held, initial, seen_from, viewport_rect, further as around}
use Rattle.lay_positioned.specs.Holders.{IsHolderFor, IsNearestHolder, further, is_holder_at, none, parent}
use Rattle.lay_positioned.specs.Laws.{OneContainingRect, OneNearestHolder, SettingsComeOfWays}
use Rattle.lay_positioned.specs.Layouts.{Layout, content_corner, step}
use Rattle.lay_positioned.specs.PaddingBoxes.{padding_box}
use Rattle.lay_positioned.specs.Settings.{setting_beside}
use Rattle.lay_positioned.specs.Ways.{AreAlikeAt, IsOnWayFrom, here, further as outward}

one_nearest : (boxes : List BoxNode) (k : ℕ) (b c : Option ℕ) → IsNearestHolder boxes k b → IsNearestHolder boxes k c → b ≡ c
one_nearest boxes k b c none none = refl
one_nearest boxes k b c none (parent j positive e) = absurd (omega (arith, positive))
one_nearest boxes k b c none (further j d positive e up) = absurd (omega (arith, positive))
one_nearest boxes k b c (parent j positive e) none = absurd (omega (arith, positive))
one_nearest boxes k b c (parent j positive e) (parent i positive-2 e-2) = refl
one_nearest boxes k b c (parent j positive e) (further i d positive-2 e-2 up) = absurd (both_ways (is_holder_at boxes (box_parent boxes j)) e-2 e)
one_nearest boxes k b c (further j d positive e up) none = absurd (omega (arith, positive))
one_nearest boxes k b c (further j d positive e up) (parent i positive-2 e-2) = absurd (both_ways (is_holder_at boxes (box_parent boxes j)) e e-2)
one_nearest boxes k b c (further j d positive e up) (further i d-2 positive-2 e-2 up-2) = one_nearest boxes (box_parent boxes j) d d-2 up up-2

pub one_holder_for : (fixed : Bool) (boxes : List BoxNode) (k : ℕ) (b c : Option ℕ) → IsHolderFor fixed boxes k b → IsHolderFor fixed boxes k c → b ≡ c
one_holder_for true boxes k b c x y = x ∙ sym y
one_holder_for false boxes k b c x y = one_nearest boxes k b c x y

pub some_or_none : (fixed : Bool) (boxes : List BoxNode) (k b : ℕ) → IsHolderFor fixed boxes k (Some b) → IsHolderFor fixed boxes k None → ⊥
some_or_none fixed boxes k b x y = let e = one_holder_for fixed boxes k (Some b) None x y in cc

abbrev step_by : Bool → (own outer : Layout) → ℕ → Corner
step_by absolute own outer box = if absolute then own.offset else content_corner (standing_at outer.standings box)

step_same : (a b : Bool) (v w x y : Layout) (k l : ℕ) → a ≡ b → v ≡ w → x ≡ y → k ≡ l → step_by a v x k ≡ step_by b w y l
step_same a b v w x y k l p q r s = rw (p, q, r, s) refl

-- formatting contexts of one list are alike
pub alike : (a : List FormattingContext) (j : ℕ) → AreAlikeAt a a j
alike a j = record { boxes = refl; outer = λ some. refl; outer_box = λ some. refl }

module _ (viewport : ContainingBlock) (fixed : Bool) (a b : List FormattingContext) (v w : ℕ → Layout) where
  -- they are alike there and answer the same
  abbrev IsSame : ℕ → Type 0
  IsSame j = AreAlikeAt a b j × (v j ≡ w j)

  same_step : (i : ℕ) → 0 < i → IsSame i → IsSame (formatting_context_at a i).outer → step a v i ≡ step b w i
  same_step i some own outer =
      let c = formatting_context_at a i in
      let d = formatting_context_at b i in
      let laid : v c.outer ≡ w d.outer = outer.1 ∙ ap w (own.0.outer some) in
      step_same (is_absolute a i) (is_absolute b i) (v i) (w i) (v c.outer) (w d.outer) c.outer_box d.outer_box (ap is_own_absolute own.0.boxes) own.1 laid (own.0.outer_box some)

  -- what counts for a box is the same one
  moved_holder : (i k : ℕ) (h : Option ℕ) → AreAlikeAt a b i → IsHolderFor fixed (boxes_in b i) k h → IsHolderFor fixed (boxes_in a i) k h
  moved_holder i k h same x = subst (λ (bs : List BoxNode). IsHolderFor fixed bs k h) (sym same.boxes) x

  padding_same : (i g h : ℕ) → IsSame i → g ≡ h → padding_box (boxes_in a i) (v i) g ≡ padding_box (boxes_in b i) (w i) h
  padding_same i g h same q =
      ap (λ n. padding_box (boxes_in a i) (v i) n) q ∙ ap (λ (bs : List BoxNode). padding_box bs (v i) h) same.0.boxes ∙ ap (λ (l : Layout). padding_box (boxes_in b i) l h) same.1

  -- where they are the same on the way
  pub same_rect : (i k : ℕ) (r s : Rect) → ((j : ℕ) → IsOnWayFrom fixed a j i k → IsSame j)
      → IsContainingRect viewport fixed a v i k r → IsContainingRect viewport fixed b w i k s → r ≡ s
  same_rect i k r s same (held i-1 k-1 h x) (held i-2 k-2 h-2 x-2) =
      let own = same i (here k) in
      let e : Some h ≡ Some h-2 = one_holder_for fixed (boxes_in a i) k (Some h) (Some h-2) x (moved_holder i k (Some h-2) own.0 x-2) in
      let q : h ≡ h-2 = cc in
      padding_same i h h-2 own q
  same_rect i k r s same (held i-1 k-1 h x) (around i-2 k-2 r-2 some y rest) = absurd (some_or_none fixed (boxes_in a i) k h x (moved_holder i k None (same i (here k)).0 y))
  same_rect i k r s same (held i-1 k-1 h x) (initial k-2 y) = absurd (some_or_none fixed (boxes_in a 0) k h x (moved_holder 0 k None (same 0 (here k)).0 y))
  same_rect i k r s same (around i-1 k-1 r-2 some y rest) (held i-2 k-2 h x) = absurd (some_or_none fixed (boxes_in a i) k h (moved_holder i k (Some h) (same i (here k)).0 x) y)
  same_rect i k r s same (around i-1 k-1 r-2 some y rest) (around i-2 k-2 s-2 some-2 y-2 rest-2) =
      let c = formatting_context_at a i in
      let d = formatting_context_at b i in
      let own = same i (here k) in
      let outer : c.outer ≡ d.outer = own.0.outer some in
      let box : c.outer_box ≡ d.outer_box = own.0.outer_box some in
      let there : IsContainingRect viewport fixed b w c.outer c.outer_box s-2 =
      subst (λ (n : ℕ). IsContainingRect viewport fixed b w n c.outer_box s-2) (sym outer) (subst (λ (n : ℕ). IsContainingRect viewport fixed b w d.outer n s-2) (sym box) rest-2) in
      let e = same_rect c.outer c.outer_box r-2 s-2 (λ j on. same j (outward i k some y on)) rest there in
      let stepped = same_step i some own (same c.outer (outward i k some y (here c.outer_box))) in
      ap (λ x. seen_from (step a v i) x) e ∙ ap (λ x. seen_from x s-2) stepped
  same_rect i k r s same (around i-1 k-1 r-2 some y rest) (initial k-2 z) = absurd (omega (arith, some))
  same_rect i k r s same (initial k-1 y) (held i-2 k-2 h x) = absurd (some_or_none fixed (boxes_in a 0) k h (moved_holder 0 k (Some h) (same 0 (here k)).0 x) y)
  same_rect i k r s same (initial k-1 y) (around i-2 k-2 s-2 some z rest) = absurd (omega (arith, some))
  same_rect i k r s same (initial k-1 y) (initial k-2 z) = ap (λ (l : Layout). seen_from l.offset (viewport_rect viewport)) (same 0 (here k)).1

abbrev setting_by : Rect → Layout → ℕ → AbsoluteSetting
setting_by r outer box = setting_beside r (standing_at outer.standings box).corner

setting_same : (r s : Rect) (x y : Layout) (k l : ℕ) → r ≡ s → x ≡ y → k ≡ l → setting_by r x k ≡ setting_by s y l
setting_same r s x y k l p q e = rw (p, q, e) refl

pub settings_come_of_ways_lem : SettingsComeOfWays
settings_come_of_ways_lem viewport a b v w zero s t own same x y = x ∙ sym y
settings_come_of_ways_lem viewport a b v w (suc i) s t own same x y =
    let c = formatting_context_at a (suc i) in
    let d = formatting_context_at b (suc i) in
    let outer : c.outer ≡ d.outer = own.outer (omega arith) in
    let box : c.outer_box ≡ d.outer_box = own.outer_box (omega arith) in
    let fixed : is_fixed a (suc i) ≡ is_fixed b (suc i) = ap is_own_fixed own.boxes in
    let on = λ (j : ℕ) (o : IsOnWayFrom (is_fixed a (suc i)) a j c.outer c.outer_box). same j (record { some = omega arith; from = o }) in
    let there : IsContainingRect viewport (is_fixed a (suc i)) b w c.outer c.outer_box y.rect =
    subst (λ (f : Bool). IsContainingRect viewport f b w c.outer c.outer_box y.rect) (sym fixed)
    (subst (λ (n : ℕ). IsContainingRect viewport (is_fixed b (suc i)) b w n c.outer_box y.rect) (sym outer)
    (subst (λ (n : ℕ). IsContainingRect viewport (is_fixed b (suc i)) b w d.outer n y.rect) (sym box) y.containing)) in
    let e : x.rect ≡ y.rect = same_rect viewport (is_fixed a (suc i)) a b v w c.outer c.outer_box x.rect y.rect on x.containing there in
    let laid : v c.outer ≡ w d.outer = (on c.outer (here c.outer_box)).1 ∙ ap w outer in
    x.setting_is ∙ setting_same x.rect y.rect (v c.outer) (w d.outer) c.outer_box d.outer_box e laid box ∙ sym y.setting_is

pub one_nearest_holder_lem : OneNearestHolder
one_nearest_holder_lem boxes k x y a b = one_nearest boxes k x y a b

pub one_containing_rect_lem : OneContainingRect
one_containing_rect_lem viewport fixed contexts laid i k x y a b = same_rect viewport fixed contexts contexts laid laid i k x y (λ j on. (alike contexts j, refl)) a b
