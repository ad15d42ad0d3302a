-- The boxes of one context are as block flow takes them.
use Rattle.std.proofs.Common.{◌≡◌, ℕ, zero, suc, ◌<◌, ◌≤◌, ◌==◌, ◌&&◌, not, nat_lt, pos, Bool, true, false, List, length, slice_index, refl, sym, ap, ◌∙◌, arith, subst, inl, inr, Option, Some, None, if◌then◌else◌}
use Rattle.std.proofs.lemmas.Bool.{cases_lt, eq-eqb, not-true, and_right, and_parts, or_parts}
use Rattle.std.proofs.lemmas.Bool.Decides.{nat_tests}
use Rattle.std.proofs.lemmas.Int.{ints}
use Rattle.lay_units.specs.Units.{IsUsedSize, IsBoxSize}
use Rattle.lay_units.specs.declared.length.Unit.{Unit as Length}
use Rattle.lay_units.specs.declared.records.Len.{Len}
use Rattle.lay_units.specs.declared.records.Len.TheVariants as len
use Rattle.lay_box_tree.specs.declared.box_role.Role.{Role}
use Rattle.lay_box_tree.specs.declared.box_role.Role.TheVariants as role
use Rattle.lay_box_tree.specs.declared.box_tree.BoxNode.{BoxNode}
use Rattle.lay_box_tree.specs.Containers.{AreContainers, IsContainer, box_parent, counts, further as at_further, own as at_own, parent as at_parent}
use Rattle.lay_box_tree.specs.Roles.{is_inline_level, role_at}
use Rattle.lay_flow_boxes.proofs.Cited.{container_before, container_within, containers_are_a_tree, containers_are_nearest_lem, length-parents, parent_is, parents_length}
use Rattle.lay_floats.specs.declared.requests.Side.{Side}
use Rattle.lay_floats.specs.declared.requests.Clear.{Clear as Cleared}
use Rattle.lay_flow.specs.declared.blocks.flow_box.FlowBox.{FlowBox}
use Rattle.lay_flow.specs.declared.blocks.flow_box.FlowKind.{FlowKind}
use Rattle.lay_flow.specs.declared.blocks.flow_box.BlockBox.{BlockBox}
use Rattle.lay_flow.specs.declared.blocks.flow_box.HeightRule.{HeightRule}
use Rattle.lay_flow.specs.declared.blocks.flow_box.FlowKind.TheVariants.{Block as block, Lines as lines}
use Rattle.lay_flow.specs.Blocks.BlockPositions.{given_or_auto}
use Rattle.lay_flow.specs.Blocks.Boxes.{box_at, empty_block, parent_at, parents_of}
use Rattle.lay_flow.specs.Blocks.FlowBoxes.{AreFlowBoxes, BlockBoxFits, FloatBoxFits, IsFlowTree, KindFits, is_flow_block, is_in_lines as is_line_kind, may_hold}
use Rattle.lay_flow.specs.Blocks.FlowPlaces.{AreNearPlaces, FlowPlacesValue, IsFlowOf, box_place_at}
use Rattle.lay_flow.specs.Blocks.Lengths.{length_at}
use Rattle.lay_flow.specs.Blocks.Weights.{weight}
use Rattle.lay_lines.specs.Content.LineContents.{LineContentValue}
use Rattle.lay_line_measures.specs.BoxMeasuresValue.{BoxMeasuresValue}
use Rattle.lay_sizes.specs.declared.sizing.BoxSizes.{BoxSizes}
use Rattle.lay_sizes.specs.declared.own_boxes.OwnBox.{OwnBox}
use Rattle.lay_sizes.specs.OwnBoxes.{OwnBoxFits, OwnBoxesFit, own_box_at}
use Rattle.lay_sizes.specs.SizeBounds.{SizeFits, IsUsedSizeOrAuto}
use Rattle.lay_sizes.specs.SizeColumns.{HaveSizeBounds, sizes_at}
use Rattle.lay_flow_boxes.specs.declared.inline_containers.Level.TheVariants.{Block as block_level}
use Rattle.lay_box_tree.specs.Containing.{container_of}
use Rattle.lay_box_tree.specs.ContextBoxes.{AreContextBoxes, is_inner}
use Rattle.lay_flow_boxes.specs.ContextBlocks.{AreFlowBoxesOf, block_box, cleared_by, content_of_box, flow_box_of, float_box, float_side, has_lines, height_rule, holds_lines, inner_box, is_anchor, is_inside_lines, kind_alone, kind_by, kind_in_lines, lines_in, own_block}
use Rattle.lay_flow_boxes.specs.InlineContainers.{holds, is_beside_lines, is_block_box, is_inline_container, is_of, is_own_container, stands_in}
use Rattle.lay_flow_boxes.specs.NearLefts.{AreNearLefts, IsNearLeft}
use Rattle.lay_flow_boxes.specs.PlaceInputs.{HeightRuleFits}

-- a height that is given is a used size
pub given_fits : (height : Len) → IsUsedSizeOrAuto height → IsUsedSize (given_or_auto height (pos 0))
given_fits len.Auto fits = (omega (arith, ints), omega (arith, ints))
given_fits (len.Of v) fits = fits

float_fits : (side : Side) (clear : Cleared) (o : OwnBox) → OwnBoxFits o → FloatBoxFits (float_box side clear o)
float_fits side clear o own = record {
  margin_top = own.margin_top;
  margin_right = own.margin_right;
  margin_bottom = own.margin_bottom;
  margin_left = own.margin_left;
  width = own.width;
  height = own.height;
}

inner_fits : (side : Option Side) (clear : Cleared) (o : OwnBox) (left : Length) → OwnBoxFits o → IsNearLeft left.0 → KindFits (inner_box side clear o left)
inner_fits None clear o left own near = record {
  x = near;
  margin = record { top = own.margin_top; bottom = own.margin_bottom };
  width = own.width;
  height = own.height;
}
inner_fits (Some side) clear o left own near = float_fits side clear o own

-- what is given of the height of a box is within its bounds
rule_fits : (sizes : List BoxSizes) (own_height : HeightRule) (k : ℕ) → HeightRuleFits own_height → SizeFits (sizes_at sizes k) → HeightRuleFits (height_rule sizes own_height k)
rule_fits sizes own_height zero own fits = own
rule_fits sizes own_height (suc k) own fits = record { given = fits.height; min = fits.min_height }

block_fits : (clear : Cleared) (z : BoxSizes) (height : HeightRule) (left : Length) → SizeFits z → HeightRuleFits height → IsNearLeft left.0 → BlockBoxFits (block_box clear z height left)
block_fits clear z height left fits rule near = record {
  x = near;
  margin = record { top = fits.margin_top; bottom = fits.margin_bottom };
  inset_top = fits.top;
  inset_bottom = fits.bottom;
  left = (omega (arith, ints, near.0, fits.left.0), omega (arith, ints, near.1, fits.left.1));
  right = (omega (arith, ints, near.0, fits.left.0, fits.width.0), omega (arith, ints, near.1, fits.left.1, fits.width.1));
  height = given_fits height.given rule.given;
  min_height = rule.min;
}

empty_fits : BlockBoxFits empty_block
empty_fits = record {
  x = (omega (arith, ints), omega (arith, ints));
  margin = record { top = (omega (arith, ints), omega (arith, ints)); bottom = (omega (arith, ints), omega (arith, ints)) };
  inset_top = (omega (arith, ints), omega (arith, ints));
  inset_bottom = (omega (arith, ints), omega (arith, ints));
  left = (omega (arith, ints), omega (arith, ints));
  right = (omega (arith, ints), omega (arith, ints));
  height = (omega (arith, ints), omega (arith, ints));
  min_height = (omega (arith, ints), omega (arith, ints));
}

line_fits : (side : Option Side) (clear : Cleared) (o : OwnBox) → OwnBoxFits o → KindFits (kind_in_lines side clear o)
line_fits None clear o own = tt
line_fits (Some side) clear o own = float_fits side clear o own

alone_fits : (anchor inner inline : Bool) (side : Option Side) (clear : Cleared) (o : OwnBox) (b : BlockBox) (left : Length) → OwnBoxFits o → BlockBoxFits b → IsNearLeft left.0
    → KindFits (if anchor then block empty_block else (if inner then inner_box side clear o left else (if inline then block empty_block else block b)))
alone_fits true inner inline side clear o b left own fits near = empty_fits
alone_fits false true inline side clear o b left own fits near = inner_fits side clear o left own near
alone_fits false false true side clear o b left own fits near = empty_fits
alone_fits false false false side clear o b left own fits near = fits

none_fits : (in_lines : Bool) (k : FlowKind) (side : Option Side) (clear : Cleared) (o : OwnBox) → OwnBoxFits o → KindFits k → KindFits (if in_lines then kind_in_lines side clear o else k)
none_fits true k side clear o own fits = line_fits side clear o own
none_fits false k side clear o own fits = fits

own_block_fits : (boxes : List BoxNode) (sizes : List BoxSizes) (own_height : HeightRule) (lefts : List Length) (k : ℕ) → HeightRuleFits own_height → SizeFits (sizes_at sizes k) → IsNearLeft (length_at lefts k)
    → BlockBoxFits (own_block boxes sizes own_height lefts k)
own_block_fits boxes sizes own_height lefts k rule fits near =
    block_fits (cleared_by boxes k) (sizes_at sizes k) (height_rule sizes own_height k) (record { 0 = length_at lefts k }) fits (rule_fits sizes own_height k rule fits) near

kind_fits : (m : BoxMeasuresValue) (own_height : HeightRule) (lefts : List Length) (k : ℕ) (content : Option LineContentValue) → OwnBoxFits (own_box_at m.inner k) → HeightRuleFits own_height → SizeFits (sizes_at m.sizes k)
    → IsNearLeft (length_at lefts k) → KindFits (kind_by m own_height lefts k content)
kind_fits m own_height lefts k (Some content) own rule fits near = own_block_fits m.boxes m.sizes own_height lefts k rule fits near
kind_fits m own_height lefts k None own rule fits near =
    none_fits (is_inside_lines m lefts k) (kind_alone m.boxes m.sizes m.inner own_height lefts k) (float_side m.boxes k) (cleared_by m.boxes k) (own_box_at m.inner k) own
    (alone_fits (is_anchor (role_at m.boxes k)) (is_inner m.boxes k) (is_inline_level (role_at m.boxes k)) (float_side m.boxes k) (cleared_by m.boxes k) (own_box_at m.inner k)
    (own_block m.boxes m.sizes own_height lefts k) (record { 0 = length_at lefts k }) own (own_block_fits m.boxes m.sizes own_height lefts k rule fits near) near)

-- a container counts, and isn't the box of an inner context
pub container_counts : (boxes : List BoxNode) (k c : ℕ) → IsContainer boxes k c → counts boxes c ≡ true
container_counts boxes k c at_own = refl
container_counts boxes k c (at_parent j positive e) = e
container_counts boxes k c (at_further j d positive e up) = container_counts boxes (box_parent boxes j) d up

container_own : (boxes : List BoxNode) → AreContextBoxes boxes → (k c : ℕ) → k < length boxes → IsContainer boxes k c → is_inner boxes c ≡ false
container_own boxes are k c within at_own = are.own
container_own boxes are k c within (at_parent j positive e) = are.parents j positive within
container_own boxes are k c within (at_further j d positive e up) =
    let less = are.tree.before j positive (omega (arith, within, length-parents boxes)) in
    container_own boxes are (box_parent boxes j) d (omega (arith, less, within)) up

-- what stands in a container before n and isn't held by it
pub not_held : (boxes : List BoxNode) (c n k : ℕ) → holds block_level boxes c n ≡ false → k < n → stands_in block_level boxes c k ≡ false
not_held boxes c zero k none lt = absurd (omega arith)
not_held boxes c (suc n) k none lt = elim (cases_lt k n) [
  | inl low ↦ not_held boxes c n k (or_parts (holds block_level boxes c n) (stands_in block_level boxes c n) none).0 low
  | inr high ↦ (let q : k ≡ n = omega arith in rw q (or_parts (holds block_level boxes c n) (stands_in block_level boxes c n) none).1)
]

pub beside_by : (positive same of : Bool) → (positive && same && of) ≡ false → positive ≡ true → same ≡ true → of ≡ false
beside_by true true of none p s = none
beside_by false same of none p s = absurd cc
beside_by true false of none p s = absurd cc

pub positive_lt : (k : ℕ) → 0 < k → nat_lt 0 k ≡ true
positive_lt k positive = grind (arith, nat_tests, positive)

pub same_eq : (k : ℕ) → (k == k) ≡ true
same_eq k = eq-eqb k k refl

-- what stands in a container that holds lines isn't in flow beside them, nor a container of the context
pub in_line_container : (boxes : List BoxNode) (k : ℕ) → 0 < k → k < length boxes → is_inline_container boxes (container_of boxes k) ≡ true → is_of block_level boxes k ≡ false
in_line_container boxes k positive within is =
    let c : ℕ = container_of boxes k in
    let none = not-true (holds block_level boxes c (length boxes)) (and_parts (is_block_box (role_at boxes c) && _) (not (holds block_level boxes c (length boxes))) is).1 in
    beside_by (nat_lt 0 k) (c == c) (is_of block_level boxes k) (not_held boxes c (length boxes) k none within) (positive_lt k positive) (same_eq c)

not_block : (r : Role) → is_beside_lines r ≡ false → is_block_box r ≡ false
not_block role.Own e = absurd cc
not_block role.Block e = absurd cc
not_block role.Solid e = refl
not_block role.LeftFloat e = refl
not_block role.RightFloat e = refl
not_block role.Anchor e = refl
not_block role.Inline e = refl
not_block role.Text e = refl
not_block role.Atomic e = refl
not_block role.TablePart e = refl

no_lines_by : (a b c d : Bool) → a ≡ false → (((a && b) && c) && d) ≡ false
no_lines_by true b c d e = absurd cc
no_lines_by false b c d e = refl

-- so it holds no lines itself
no_lines_in_lines : (m : BoxMeasuresValue) (lefts : List Length) (k : ℕ) → 0 < k → k < length m.boxes → holds_lines m lefts (container_of m.boxes k) ≡ true → holds_lines m lefts k ≡ false
no_lines_in_lines m lefts k positive within is =
    let inline = (and_parts (is_inline_container m.boxes (container_of m.boxes k)) _ is).0 in
    let of = in_line_container m.boxes k positive within inline in
    let beside = (or_parts (is_beside_lines (role_at m.boxes k)) (is_own_container m.boxes k) of).0 in
    no_lines_by (is_block_box (role_at m.boxes k)) _ _ _ (not_block (role_at m.boxes k) beside)

line_kind : (side : Option Side) (clear : Cleared) (o : OwnBox) → is_line_kind (kind_in_lines side clear o) ≡ true
line_kind None clear o = refl
line_kind (Some side) clear o = refl

-- a box in lines is of a kind that stands in lines
in_lines_kind : (m : BoxMeasuresValue) (own_height : HeightRule) (lefts : List Length) (k : ℕ) → 0 < k → k < length m.boxes → holds_lines m lefts (container_of m.boxes k) ≡ true → is_line_kind (flow_box_of m own_height lefts k).kind ≡ true
in_lines_kind m own_height lefts k positive within is =
    let none = no_lines_in_lines m lefts k positive within is in
    rw (none, positive_lt k positive, is) (line_kind (float_side m.boxes k) (cleared_by m.boxes k) (own_box_at m.inner k))

inner_alone : (side : Option Side) (clear : Cleared) (o : OwnBox) (left : Length) → is_line_kind (inner_box side clear o left) ≡ false
inner_alone None clear o left = refl
inner_alone (Some side) clear o left = refl

alone_by : (anchor inner inline : Bool) (side : Option Side) (clear : Cleared) (o : OwnBox) (left : Length) (b : FlowKind) → is_line_kind b ≡ false
    → is_line_kind (if anchor then block empty_block else (if inner then inner_box side clear o left else (if inline then block empty_block else b))) ≡ false
alone_by true inner inline side clear o left b e = refl
alone_by false true inline side clear o left b e = inner_alone side clear o left
alone_by false false true side clear o left b e = refl
alone_by false false false side clear o left b e = e

alone_kind : (m : BoxMeasuresValue) (own_height : HeightRule) (lefts : List Length) (k : ℕ) → is_line_kind (kind_alone m.boxes m.sizes m.inner own_height lefts k) ≡ false
alone_kind m own_height lefts k =
    alone_by (is_anchor (role_at m.boxes k)) (is_inner m.boxes k) (is_inline_level (role_at m.boxes k)) (float_side m.boxes k) (cleared_by m.boxes k) (own_box_at m.inner k) (record { 0 = length_at lefts k })
    (block (own_block m.boxes m.sizes own_height lefts k)) refl

-- a box that is in no lines is of no kind that stands in lines
out_of_lines : (m : BoxMeasuresValue) (own_height : HeightRule) (lefts : List Length) (k : ℕ) (held : Bool) → is_inside_lines m lefts k ≡ false
    → is_line_kind (kind_by m own_height lefts k (if held then Some (content_of_box m lefts k) else None)) ≡ false
out_of_lines m own_height lefts k true out = refl
out_of_lines m own_height lefts k false out = rw out (alone_kind m own_height lefts k)

block_alone : (anchor inline : Bool) (b : FlowKind) (child : FlowKind) → ((c : FlowKind) → is_line_kind c ≡ false → may_hold b c ≡ true) → is_line_kind child ≡ false
    → may_hold (if anchor then block empty_block else (if inline then block empty_block else b)) child ≡ true
block_alone true inline b child holds out = rw out refl
block_alone false true b child holds out = rw out refl
block_alone false false b child holds out = holds child out

own_by : (a b : Bool) → a ≡ true → b ≡ false → (a && not b) ≡ false → ⊥
own_by true true e f none = absurd cc
own_by true false e f none = cc
own_by false b e f none = absurd cc

lines_around : (m : BoxMeasuresValue) (lefts : List Length) (c : ℕ) (held : Bool) → 0 < c → c < length m.boxes → counts m.boxes c ≡ true → is_inner m.boxes c ≡ false
    → holds_lines m lefts (container_of m.boxes c) ≡ held → is_inside_lines m lefts c ≡ false
lines_around m lefts c false positive within counted outer is = and_right (nat_lt 0 c) (holds_lines m lefts (container_of m.boxes c)) is
lines_around m lefts c true positive within counted outer is =
    let inline = (and_parts (is_inline_container m.boxes (container_of m.boxes c)) _ is).0 in
    let of = in_line_container m.boxes c positive within inline in
    absurd (own_by (counts m.boxes c) (is_inner m.boxes c) counted outer (or_parts (is_beside_lines (role_at m.boxes c)) (is_own_container m.boxes c) of).1)

-- a container is in no lines
container_out : (m : BoxMeasuresValue) (lefts : List Length) (c : ℕ) → c < length m.boxes → counts m.boxes c ≡ true → is_inner m.boxes c ≡ false → is_inside_lines m lefts c ≡ false
container_out m lefts zero within counted outer = refl
container_out m lefts (suc c) within counted outer =
    lines_around m lefts (suc c) (holds_lines m lefts (container_of m.boxes (suc c))) (omega arith) within counted outer refl

holds_by : (m : BoxMeasuresValue) (own_height : HeightRule) (lefts : List Length) (k : ℕ) (held : Bool) → AreContextBoxes m.boxes → 0 < k → k < length m.boxes → holds_lines m lefts (container_of m.boxes k) ≡ held
    → may_hold (flow_box_of m own_height lefts (container_of m.boxes k)).kind (flow_box_of m own_height lefts k).kind ≡ true
holds_by m own_height lefts k true are positive within is = rw is (in_lines_kind m own_height lefts k positive within is)
holds_by m own_height lefts k false are positive within is =
    let c : ℕ = container_of m.boxes k in
    let nearest = containers_are_nearest_lem m.boxes k are within in
    let outer = container_own m.boxes are k c within nearest in
    let out = container_out m lefts c (container_within m.boxes k are within) (container_counts m.boxes k c nearest) outer in
    let child = out_of_lines m own_height lefts k (holds_lines m lefts k) (and_right (nat_lt 0 k) (holds_lines m lefts c) is) in
    rw (is, out, outer)
    (block_alone (is_anchor (role_at m.boxes c)) (is_inline_level (role_at m.boxes c)) (block (own_block m.boxes m.sizes own_height lefts c)) (flow_box_of m own_height lefts k).kind (λ x e. rw e refl) child)

block_kind : (inline : Bool) (b : FlowKind) → is_flow_block b ≡ true → is_flow_block (if inline then block empty_block else b) ≡ true
block_kind true b e = refl
block_kind false b e = e

root_by : (m : BoxMeasuresValue) (own_height : HeightRule) (lefts : List Length) (held : Bool) → is_inner m.boxes 0 ≡ false → is_flow_block (kind_by m own_height lefts 0 (if held then Some (content_of_box m lefts 0) else None)) ≡ true
root_by m own_height lefts true own = refl
root_by m own_height lefts false own = rw own (block_kind (is_inline_level (role_at m.boxes 0)) (block (own_block m.boxes m.sizes own_height lefts 0)) refl)

module _ (m : BoxMeasuresValue) (own_height : HeightRule) (lefts : List Length) (flow_boxes : List FlowBox) (are : AreContextBoxes m.boxes) (of : AreFlowBoxesOf m own_height lefts flow_boxes) where
  within : (k : ℕ) → k < length flow_boxes → k < length m.boxes
  within k lt = omega (arith, lt, of.count)

  parent_of : (k : ℕ) → k < length flow_boxes → slice_index (parents_of flow_boxes) k ≡ container_of m.boxes k
  parent_of k lt = parent_is flow_boxes k ∙ ap (λ (b : FlowBox). b.parent) (of.each k (within k lt))

  containers : AreContainers m.boxes (parents_of flow_boxes)
  containers = record {
    count = parents_length flow_boxes ∙ of.count;
    each = λ k lt.
        subst (λ (c : ℕ). IsContainer m.boxes k c) (sym (parent_of k (omega (arith, lt, of.count)))) (containers_are_nearest_lem m.boxes k are lt);
  }

  kind_is : (k : ℕ) → k < length flow_boxes → (box_at flow_boxes k).kind ≡ (flow_box_of m own_height lefts k).kind
  kind_is k lt = ap (λ (b : FlowBox). b.kind) (of.each k (within k lt))

  pub is_flow_tree : IsFlowTree flow_boxes
  is_flow_tree = record {
    some = omega (arith, are.some, of.count);
    tree = containers_are_a_tree m.boxes (parents_of flow_boxes) are.tree containers;
    root =
        let some : 0 < length flow_boxes = omega (arith, are.some, of.count) in
        ap is_flow_block (kind_is 0 some) ∙ root_by m own_height lefts (holds_lines m lefts 0) are.own;
    parent = λ k positive lt.
        let there = within k lt in
        let before = container_before m.boxes k are positive there in
        let same : parent_at flow_boxes k ≡ container_of m.boxes k = sym (parent_is flow_boxes k) ∙ parent_of k lt in
        let above = kind_is (container_of m.boxes k) (omega (arith, before, lt)) in
        let here = kind_is k lt in
        rw (same, above, here) (holds_by m own_height lefts k (holds_lines m lefts (container_of m.boxes k)) are positive there refl);
  }

  pub are_flow_boxes : weight flow_boxes (length flow_boxes) ≤ 16711680 → length m.sizes ≡ length m.boxes → HaveSizeBounds m.sizes → length m.inner ≡ length m.boxes → OwnBoxesFit m.inner → HeightRuleFits own_height → length lefts ≡ length m.boxes → AreNearLefts lefts → AreFlowBoxes flow_boxes
  are_flow_boxes light sizes_counted bounds inner_counted inner_bounds rule lefts_counted near = record {
    is_tree = is_flow_tree;
    light = light;
    fits = λ k lt.
        let there = within k lt in
        subst (λ (b : FlowBox). KindFits b.kind) (sym (of.each k there))
        (kind_fits m own_height lefts k (lines_in m lefts k) (inner_bounds k (omega (arith, there, inner_counted))) rule (bounds k (omega (arith, there, sizes_counted))) (near k (omega (arith, there, lefts_counted))));
  }

-- the height of the context's own border box is within its bounds
pub own_height_fits : (flow_boxes : List FlowBox) (places : FlowPlacesValue) → 0 < length flow_boxes → IsFlowOf flow_boxes places → AreNearPlaces places.boxes → IsBoxSize (box_place_at places.boxes 0).height.0
own_height_fits flow_boxes places some is near = (near 0 (omega (arith, some, is.places.count))).height

has_by : (in_lines anchor inner inline : Bool) (side : Option Side) (clear : Cleared) (o : OwnBox) (left : Length) (b : FlowKind) → has_lines b ≡ false
    → has_lines (if in_lines then kind_in_lines side clear o else (if anchor then block empty_block else (if inner then inner_box side clear o left else (if inline then block empty_block else b)))) ≡ false
has_by true anchor inner inline None clear o left b e = refl
has_by true anchor inner inline (Some side) clear o left b e = refl
has_by false true inner inline side clear o left b e = refl
has_by false false true inline None clear o left b e = refl
has_by false false true inline (Some side) clear o left b e = refl
has_by false false false true side clear o left b e = refl
has_by false false false false side clear o left b e = e

lines_by : (m : BoxMeasuresValue) (own_height : HeightRule) (lefts : List Length) (k : ℕ) (held : Bool) → has_lines (kind_by m own_height lefts k (if held then Some (content_of_box m lefts k) else None)) ≡ held
lines_by m own_height lefts k true = refl
lines_by m own_height lefts k false =
    has_by (is_inside_lines m lefts k) (is_anchor (role_at m.boxes k)) (is_inner m.boxes k) (is_inline_level (role_at m.boxes k)) (float_side m.boxes k) (cleared_by m.boxes k) (own_box_at m.inner k) (record { 0 = length_at lefts k })
    (block (own_block m.boxes m.sizes own_height lefts k)) refl

-- a flow box has lines where its box holds lines of which one is seen
pub lines_are_held : (m : BoxMeasuresValue) (own_height : HeightRule) (lefts : List Length) (k : ℕ) → has_lines (flow_box_of m own_height lefts k).kind ≡ holds_lines m lefts k
lines_are_held m own_height lefts k = lines_by m own_height lefts k (holds_lines m lefts k)

and_one : (a b : Bool) → a ≡ true → (a && b) ≡ b
and_one true b e = refl
and_one false b e = absurd cc

-- what a box is, by what its lines hold and whether it stands in lines
pub kind_with : (m : BoxMeasuresValue) (own_height : HeightRule) (lefts : List Length) (k : ℕ) (content : LineContentValue) → lines_in m lefts k ≡ Some content
    → (flow_box_of m own_height lefts k).kind ≡ lines (record { block = own_block m.boxes m.sizes own_height lefts k; content = content })
kind_with m own_height lefts k content is = ap (kind_by m own_height lefts k) is

pub kind_inside : (m : BoxMeasuresValue) (own_height : HeightRule) (lefts : List Length) (k : ℕ) → lines_in m lefts k ≡ None → is_inside_lines m lefts k ≡ true
    → (flow_box_of m own_height lefts k).kind ≡ kind_in_lines (float_side m.boxes k) (cleared_by m.boxes k) (own_box_at m.inner k)
kind_inside m own_height lefts k is inside = ap (kind_by m own_height lefts k) is ∙ rw inside refl

pub kind_outside : (m : BoxMeasuresValue) (own_height : HeightRule) (lefts : List Length) (k : ℕ) → lines_in m lefts k ≡ None → is_inside_lines m lefts k ≡ false
    → (flow_box_of m own_height lefts k).kind ≡ kind_alone m.boxes m.sizes m.inner own_height lefts k
kind_outside m own_height lefts k is outside = ap (kind_by m own_height lefts k) is ∙ rw outside refl

pub box_is : (m : BoxMeasuresValue) (own_height : HeightRule) (lefts : List Length) (k p : ℕ) (kind : FlowKind) → p ≡ container_of m.boxes k → kind ≡ (flow_box_of m own_height lefts k).kind
    → (let b : FlowBox = record { parent = p; kind = kind } in b) ≡ flow_box_of m own_height lefts k
box_is m own_height lefts k p kind parent is = λ i. record { parent = parent i; kind = is i }

-- a box stands in lines where its container's flow box has lines
pub in_lines_is : (m : BoxMeasuresValue) (own_height : HeightRule) (lefts : List Length) (k p : ℕ) (b : FlowBox) → 0 < k → p ≡ container_of m.boxes k → b ≡ flow_box_of m own_height lefts p → has_lines b.kind ≡ is_inside_lines m lefts k
in_lines_is m own_height lefts k p b positive parent is =
    ap (λ (x : FlowBox). has_lines x.kind) is ∙ lines_are_held m own_height lefts p ∙ ap (holds_lines m lefts) parent ∙ sym (and_one (nat_lt 0 k) (holds_lines m lefts (container_of m.boxes k)) (positive_lt k positive))

pub first_out : (m : BoxMeasuresValue) (lefts : List Length) (k : ℕ) → k ≡ 0 → nat_lt 0 k ≡ is_inside_lines m lefts k
first_out m lefts zero is = refl
first_out m lefts (suc k) is = absurd (omega (arith, is))
