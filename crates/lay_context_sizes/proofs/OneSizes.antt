-- Used sizes that meet their equations are the only ones, box by box.
use Rattle.std.proofs.Common.{◌≡◌, ℕ, zero, suc, ◌<◌, ◌≤◌, Bool, true, false, List, length, refl, sym, ap, ◌∙◌, arith, inl, inr, subst, Option, None, Some}
use Rattle.std.proofs.lemmas.Bool.{cases_lt}
use Rattle.std.proofs.lemmas.List.{ext_get_or}
use Rattle.lay_units.specs.declared.length.Unit.{Unit as Length}
use Rattle.lay_style.specs.ComputedStyle.{style_at}
use Rattle.lay_box_tree.specs.declared.box_tree.BoxNode.{BoxNode}
use Rattle.lay_box_tree.specs.BoxColumns.{box_styles}
use Rattle.lay_measure.specs.declared.preferred_widths.PreferredWidths.{PreferredWidths}
use Rattle.lay_sizes.specs.declared.sizing.BoxSizes.{BoxSizes}
use Rattle.lay_sizes.specs.declared.sizing.ContainingBlock.{ContainingBlock}
use Rattle.lay_sizes.specs.BoxSizes.{IsSized}
use Rattle.lay_sizes.specs.SizeColumns.{no_sizes, sizes_at}
use Rattle.lay_context_sizes.proofs.Cited.{container_before, one_absolute_sizes_lem, one_box_sizes_lem, one_stretched_height_lem, one_table_left_lem}
use Rattle.lay_table_sizes.specs.TableSizesValue.{TableSizesValue}
use Rattle.lay_table_sizes.specs.Laws.{OneCellSizes, OneTableSizes}
use Rattle.lay_box_tree.specs.Containing.{container_of}
use Rattle.lay_box_tree.specs.ContextBoxes.{AreContextBoxes, is_inner}
use Rattle.lay_placements.specs.ContainingBlocks.{block_around, height_holder}
use Rattle.lay_box_tree.specs.BoxColumns.{box_at}
use Rattle.lay_context_sizes.specs.ContextSizes.{IsSizedAs, IsStretchedIn, IsWrapperLeft, SizedContext, table_rule}
use Rattle.lay_context_sizes.specs.FlowSizes.{HasFlowSizes, IsOwnSized, inside_rule}
use Rattle.lay_context_sizes.specs.Inputs.{SizeInput, containing_block_in}
use Rattle.lay_context_sizes.specs.Laws.{OneContextSizes}
use Rattle.lay_context_sizes.specs.TableContexts.{is_table}
use Rattle.lay_context_sizes.specs.declared.setting.Setting.{Setting}
use Rattle.lay_context_sizes.specs.declared.setting.Setting.TheVariants.{Absolute, Block, Cell}
use Rattle.lay_context_sizes.proofs.HolderSteps.{holder_before}

block_around_same : (boxes : List BoxNode) (x y : List BoxSizes) → AreContextBoxes boxes → (k : ℕ) → 0 < k → k < length boxes → ((j : ℕ) → j < k → sizes_at x j ≡ sizes_at y j)
    → block_around boxes x k ≡ block_around boxes y k
block_around_same boxes x y are k inside within same =
    let c : ℕ = container_of boxes k in
    let before = container_before boxes k are inside within in
    let holder = holder_before boxes c are (omega arith) in
    let one = same c (omega arith) in
    let other = same (height_holder boxes c) (omega arith) in
    rw (one, other) refl

-- the own box has one set of sizes, and stands in one place across
one_own : OneCellSizes → (setting : Setting) (w : PreferredWidths) (boxes : List BoxNode) (y z : BoxSizes) (m n : Length) → IsOwnSized setting w boxes y m → IsOwnSized setting w boxes z n → (y ≡ z) × (m ≡ n)
one_own one_cell (Block containing) w boxes y z m n a b = (one_box_sizes_lem containing _ _ y z a.0 b.0, a.1 ∙ sym b.1)
one_own one_cell (Cell containing cell) w boxes y z m n a b = (one_cell containing cell _ y z a.0 b.0, a.1 ∙ sym b.1)
one_own one_cell (Absolute s) w boxes y z m n a b = one_absolute_sizes_lem s (box_at boxes 0) w.minimum w.preferred y z m n a b

module _ (one_cell : OneCellSizes) (i : SizeInput) (x y : List BoxSizes) (m n : Length) (are : AreContextBoxes i.boxes) (a : HasFlowSizes i x m) (b : HasFlowSizes i y n) where
  own_same : (sizes_at x 0 ≡ sizes_at y 0) × (m ≡ n)
  own_same = one_own one_cell i.setting i.measured.widths i.boxes (sizes_at x 0) (sizes_at y 0) m n a.own b.own

  -- a box that isn't that of an inner context has its sizes, and another has none
  size_by : (k : ℕ) → 0 < k → k < length i.boxes → ((j : ℕ) → j < k → sizes_at x j ≡ sizes_at y j) → (inner : Bool) → is_inner i.boxes k ≡ inner → sizes_at x k ≡ sizes_at y k
  size_by k inside within same true is = a.inside.inner k inside within is ∙ sym (b.inside.inner k inside within is)
  size_by k inside within same false own =
      let containing = block_around_same i.boxes x y are k inside within same in
      let here = subst (λ (c : ContainingBlock). IsSized c (inside_rule i.boxes k) (style_at (box_styles i.boxes) k) (sizes_at x k)) containing (a.inside.each k inside within own) in
      one_box_sizes_lem (block_around i.boxes y k) (inside_rule i.boxes k) (style_at (box_styles i.boxes) k) (sizes_at x k) (sizes_at y k) here (b.inside.each k inside within own)

  size_at : (k : ℕ) → k < length i.boxes → ((j : ℕ) → j < k → sizes_at x j ≡ sizes_at y j) → sizes_at x k ≡ sizes_at y k
  size_at zero within same = own_same.0
  size_at (suc k) within same = size_by (suc k) (omega arith) within same (is_inner i.boxes (suc k)) refl

  -- sizes agree from the own box on, since each rests on its parent's
  sizes_to : (c : ℕ) → c ≤ length i.boxes → (k : ℕ) → k < c → sizes_at x k ≡ sizes_at y k
  sizes_to zero le k lt = absurd (omega arith)
  sizes_to (suc c) le k lt = elim (cases_lt k c) [
    | inl low ↦ sizes_to c (omega arith) k low
    | inr high ↦ size_at k (omega arith) (λ j jl. sizes_to c (omega arith) j (omega arith))
  ]

  one_flow : (x ≡ y) × (m ≡ n)
  one_flow = (
    ext_get_or no_sizes x y (a.inside.count ∙ sym b.inside.count) (λ k lt. sizes_to (length i.boxes) (omega arith) k (omega (arith, a.inside.count))),
    own_same.1,
  )

-- a table stands in one place across
one_left : (setting : Setting) (own : BoxNode) (z : BoxSizes) (m n : Length) → IsWrapperLeft setting own z m → IsWrapperLeft setting own z n → m ≡ n
one_left (Block containing) own z m n p q = p ∙ sym q
one_left (Cell containing cell) own z m n p q = p ∙ sym q
one_left (Absolute s) own z m n p q = one_table_left_lem s own.style z.widths.width m n p q

record Same (x y : List BoxSizes) (t u : Option TableSizesValue) (m n : Length) : Type 0 where
  boxes : x ≡ y
  table : t ≡ u
  left : m ≡ n

one_as : OneTableSizes → OneCellSizes → (b : Bool) (i : SizeInput) (x y : List BoxSizes) (t u : Option TableSizesValue) (m n : Length) → AreContextBoxes i.boxes → IsSizedAs b i x t m → IsSizedAs b i y u n → Same x y t u m n
one_as one_table one_cell true i x y (Some t) (Some u) m n are p q =
    let both = one_table (containing_block_in i.setting) (table_rule i.boxes) i.measured.table i.boxes x y t u p.0 q.0 in
    let other : IsWrapperLeft i.setting (box_at i.boxes 0) (sizes_at x 0) n = subst (λ z. IsWrapperLeft i.setting (box_at i.boxes 0) (sizes_at z 0) n) (sym both.0) q.1 in
    record { boxes = both.0; table = ap Some both.1; left = one_left i.setting (box_at i.boxes 0) (sizes_at x 0) m n p.1 other }
one_as one_table one_cell true i x y (Some t) None m n are p q = absurd q
one_as one_table one_cell true i x y None u m n are p q = absurd p
one_as one_table one_cell false i x y None None m n are p q =
    let both = one_flow one_cell i x y m n are p q in
    record { boxes = both.0; table = refl; left = both.1 }
one_as one_table one_cell false i x y None (Some u) m n are p q = absurd q
one_as one_table one_cell false i x y (Some t) u m n are p q = absurd p

-- a box is stretched to one height
one_stretch : (setting : Setting) (own : BoxNode) (g h : Option Length) → IsStretchedIn setting own g → IsStretchedIn setting own h → g ≡ h
one_stretch (Block containing) own g h p q = p ∙ sym q
one_stretch (Cell containing cell) own g h p q = p ∙ sym q
one_stretch (Absolute s) own g h p q = one_stretched_height_lem s own g h p q

abbrev sized_as : List BoxSizes → Option TableSizesValue → Length → Option Length → SizedContext
sized_as boxes table left stretched = record { boxes = boxes; table = table; left = left; stretched = stretched }

same_sized : (x y : List BoxSizes) (t u : Option TableSizesValue) (m n : Length) (g h : Option Length) → x ≡ y → t ≡ u → m ≡ n → g ≡ h → sized_as x t m g ≡ sized_as y u n h
same_sized x y t u m n g h boxes table left stretched = rw (boxes, table, left, stretched) refl

pub one_context_sizes_lem : OneTableSizes → OneCellSizes → OneContextSizes
one_context_sizes_lem one_table one_cell i x y are a b =
    let same = one_as one_table one_cell (is_table i.boxes) i x.boxes y.boxes x.table y.table x.left y.left are a.boxes b.boxes in
    let height = one_stretch i.setting (box_at i.boxes 0) x.stretched y.stretched a.stretched b.stretched in
    same_sized x.boxes y.boxes x.table y.table x.left y.left x.stretched y.stretched same.boxes same.table same.left height
