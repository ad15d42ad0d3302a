-- A box is an anchor by its kind alone.
use Rattle.std.proofs.Common.{◌≡◌, ℕ, zero, suc, ◌<◌, ◌==◌, Bool, true, false, List, [], ◌∷◌, length, map, slice_index_or, refl, arith, if◌then◌else◌}
use Rattle.lay_style.specs.declared.style_words.Float.{Float}
use Rattle.lay_style.specs.declared.style_words.Float.TheVariants as float
use Rattle.lay_box_tree.specs.declared.box_role.Role.{Role}
use Rattle.lay_box_tree.specs.declared.box_role.Role.TheVariants as role
use Rattle.lay_box_tree.specs.declared.box_tree.BoxKind.{BoxKind}
use Rattle.lay_box_tree.specs.declared.box_tree.BoxKind.TheVariants as kind
use Rattle.lay_box_tree.specs.declared.box_tree.BoxNode.{BoxNode}
use Rattle.lay_box_tree.specs.declared.box_tree.Flow.{Flow}
use Rattle.lay_box_tree.specs.declared.box_tree.Flow.TheVariants.{InFlow, Floating, Absolute}
use Rattle.lay_box_tree.specs.Roles.{role_at, role_in, role_of, role_of_kind}
use Rattle.lay_flow_boxes.specs.ContextBlocks.{is_anchor}
use Rattle.lay_placement.specs.AnchorLines.{is_anchor_kind}

of_kind : (inner : Bool) (k : BoxKind) → is_anchor_kind k ≡ false → is_anchor (role_of_kind inner k) ≡ false
of_kind true kind.Block none = refl
of_kind false kind.Block none = refl
of_kind inner kind.Wrapper none = refl
of_kind inner (kind.Replaced w h true) none = refl
of_kind inner (kind.Replaced w h false) none = refl
of_kind inner kind.InlineBlock none = refl
of_kind inner kind.InlineWrapper none = refl
of_kind inner kind.Inline none = refl
of_kind inner (kind.Text text) none = refl
of_kind inner kind.Anchor none = absurd cc
of_kind inner kind.Table none = refl
of_kind inner kind.Caption none = refl
of_kind inner kind.RowGroup none = refl
of_kind inner kind.HeaderGroup none = refl
of_kind inner kind.FooterGroup none = refl
of_kind inner kind.Row none = refl
of_kind inner (kind.ColumnGroup span) none = refl
of_kind inner (kind.Column span) none = refl
of_kind inner (kind.Cell colspan rowspan) none = refl

in_flow : (flow : Flow) (side : Float) (r : Role) → is_anchor r ≡ false → is_anchor (role_in flow side r) ≡ false
in_flow InFlow side r none = none
in_flow Floating float.None r none = none
in_flow Floating float.Left r none = refl
in_flow Floating float.Right r none = refl
in_flow Absolute side r none = none

among : (boxes : List BoxNode) (k : ℕ) (d : BoxNode) → k < length boxes → is_anchor_kind (slice_index_or boxes k d).kind ≡ false → is_anchor (slice_index_or (map role_of boxes) k role.Own) ≡ false
among [] k d lt none = absurd (omega (arith, lt))
among (b ∷ bs) zero d lt none = in_flow b.flow b.style.float (role_of_kind b.inner b.kind) (of_kind b.inner b.kind none)
among (b ∷ bs) (suc k) d lt none = among bs k d (omega (arith, lt)) none

or_own : (first : Bool) (r : Role) → is_anchor r ≡ false → is_anchor (if first then role.Own else r) ≡ false
or_own true r none = refl
or_own false r none = none

pub no_anchor : (boxes : List BoxNode) (k : ℕ) (d : BoxNode) → k < length boxes → is_anchor_kind (slice_index_or boxes k d).kind ≡ false → is_anchor (role_at boxes k) ≡ false
no_anchor boxes k d lt none = or_own (k == 0) (slice_index_or (map role_of boxes) k role.Own) (among boxes k d lt none)
