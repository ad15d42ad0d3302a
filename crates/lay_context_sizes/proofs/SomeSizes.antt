-- The boxes of a formatting context have used sizes: the own box in its setting, and then from outer to inner boxes.
use Rattle.std.proofs.Common.{◌≡◌, ℕ, zero, suc, ◌<◌, Bool, true, false, List, [], ◌∷◌, ◌++◌, length, slice_get, Option, None, Some, refl, sym, ◌∙◌, subst, arith, inl, inr}
use Rattle.std.proofs.lemmas.Bool.{both_ways, cases_Bool, cases_lt}
use Rattle.std.proofs.lemmas.List.{length_push}
use Rattle.lay_units.specs.Lengths.{no_length}
use Rattle.lay_units.specs.Units.{clamp_of, clamp_size_of}
use Rattle.lay_units.specs.declared.length.Unit.{Unit as Length}
use Rattle.lay_style.specs.ComputedStyle.{style_at}
use Rattle.lay_style.specs.declared.style.Style.{Style}
use Rattle.lay_box_tree.specs.BoxColumns.{box_at, box_styles}
use Rattle.lay_box_tree.specs.ContextBoxes.{AreContextBoxes, is_inner}
use Rattle.lay_box_tree.specs.declared.box_tree.BoxNode.{BoxNode}
use Rattle.lay_widths.specs.declared.widths.BlockOut.{BlockOut}
use Rattle.lay_widths.specs.declared.widths.UsedWidths.{UsedWidths}
use Rattle.lay_measure.specs.declared.preferred_widths.PreferredWidths.{PreferredWidths}
use Rattle.lay_sizes.specs.BoxSizes.{IsSized, IsUsedWidth, height_of, inline_used_widths, max_height_of, min_height_of, natural_of, widths_beside, with_width}
use Rattle.lay_sizes.specs.ReplacedBoxes.{replaced_size_of}
use Rattle.lay_sizes.specs.SizeColumns.{no_sizes, sizes_at}
use Rattle.lay_sizes.specs.UsedLengths.{block_of, edges_of, used_vertical_margin}
use Rattle.lay_sizes.specs.declared.sizing.BoxSizes.{BoxSizes}
use Rattle.lay_sizes.specs.declared.sizing.ContainingBlock.{ContainingBlock}
use Rattle.lay_sizes.specs.declared.sizing.WidthRule.{WidthRule}
use Rattle.lay_sizes.specs.declared.sizing.WidthRule.TheVariants.{Fills, Inline, ShrinksToFit, ReplacedBlock, Replaced}
use Rattle.lay_table_sizes.specs.Laws.{SomeCellSizes, SomeTableSizes}
use Rattle.lay_table_sizes.specs.TableSizesValue.{TableSizesValue}
use Rattle.lay_placements.specs.ContainingBlocks.{block_around}
use Rattle.lay_context_sizes.specs.ContextSizes.{IsSizedAs, IsStretchedIn, IsWrapperLeft, table_rule}
use Rattle.lay_context_sizes.specs.FlowSizes.{HasFlowSizes, IsBoxSized, IsOwnSized, inside_rule, own_rule_of}
use Rattle.lay_context_sizes.specs.Inputs.{SizeInput, containing_block_in}
use Rattle.lay_context_sizes.specs.Laws.{SomeContextSizes}
use Rattle.lay_context_sizes.specs.TableContexts.{is_table}
use Rattle.lay_context_sizes.specs.declared.setting.Setting.{Setting}
use Rattle.lay_context_sizes.specs.declared.setting.Setting.TheVariants.{Absolute, Block, Cell}
use Rattle.lay_context_sizes.proofs.Cited.{read_before, read_last, some_absolute_sizes_lem, some_block_width_lem, some_float_width_lem, some_stretched_height_lem, some_table_left_lem}
use Rattle.lay_context_sizes.proofs.SizeSteps.{around_before}

abbrev held_of : UsedWidths → BlockOut
held_of used = record {
  margin_left = record { 0 = clamp_of used.margin_left };
  width = record { 0 = clamp_size_of used.width };
  margin_right = record { 0 = clamp_of used.margin_right };
}

-- one box
some_used_width : (containing : ContainingBlock) (rule : WidthRule) (s : Style) → (out : BlockOut) × IsUsedWidth containing rule s out
some_used_width containing Fills s = some_block_width_lem (block_of containing.width s)
some_used_width containing Inline s =
    (held_of (inline_used_widths (block_of containing.width s)), record { margin_left = refl; width = refl; margin_right = refl })
some_used_width containing (ShrinksToFit preferred_minimum preferred) s =
    some_float_width_lem (block_of containing.width s) preferred_minimum preferred
some_used_width containing (ReplacedBlock natural) s =
    some_block_width_lem (with_width (block_of containing.width s) (replaced_size_of containing natural s).width)
some_used_width containing (Replaced natural) s = (
  held_of (widths_beside (block_of containing.width s) (replaced_size_of containing natural s).width.0),
  record { margin_left = refl; width = refl; margin_right = refl },
)

some_box_sizes : (containing : ContainingBlock) (rule : WidthRule) (s : Style) → (z : BoxSizes) × IsSized containing rule s z
some_box_sizes containing rule s =
    let out = some_used_width containing rule s in (
      record {
        containing = containing.width;
        widths = out.0;
        edges = edges_of containing.width s;
        margin_top = used_vertical_margin containing.width s.margin.top;
        margin_bottom = used_vertical_margin containing.width s.margin.bottom;
        height = height_of containing (natural_of rule) s;
        min_height = min_height_of containing (natural_of rule) s;
        max_height = max_height_of containing (natural_of rule) s;
      },
      record {
        containing_is = refl;
        widths = out.1;
        edges = refl;
        margin_top = refl;
        margin_bottom = refl;
        height = refl;
        min_height = refl;
        max_height = refl;
      },
    )

-- the own box
some_own : SomeCellSizes → (setting : Setting) (w : PreferredWidths) (boxes : List BoxNode) → (z : BoxSizes) × (left : Length) × IsOwnSized setting w boxes z left
some_own some_cell (Block containing) w boxes =
    (let z = some_box_sizes containing (own_rule_of w (slice_get boxes 0)) (style_at (box_styles boxes) 0) in (z.0, no_length, (z.1, refl)))
some_own some_cell (Cell containing cell) w boxes =
    (let z = some_cell containing cell (style_at (box_styles boxes) 0) in (z.0, no_length, (z.1, refl)))
some_own some_cell (Absolute s) w boxes = some_absolute_sizes_lem s (box_at boxes 0) w.minimum w.preferred

-- a box in the context, or that of an inner one
record Found (boxes : List BoxNode) (sizes : List BoxSizes) (k : ℕ) : Type 0 where
  z : BoxSizes
  own : is_inner boxes k ≡ false → IsBoxSized boxes sizes k z
  inner : is_inner boxes k ≡ true → z ≡ no_sizes

found : (boxes : List BoxNode) (sizes : List BoxSizes) (k : ℕ) → Found boxes sizes k
found boxes sizes k = elim (cases_Bool (is_inner boxes k)) [
  | inl is ↦ record { z = no_sizes; own = λ not. absurd (both_ways (is_inner boxes k) not is); inner = λ again. refl }
  | inr not ↦ (let z = some_box_sizes (block_around boxes sizes k) (inside_rule boxes k) (style_at (box_styles boxes) k) in
      record { z = z.0; own = λ again. z.1; inner = λ is. absurd (both_ways (is_inner boxes k) not is) })
]

module _ (own : BoxSizes) (boxes : List BoxNode) (are : AreContextBoxes boxes) where
  -- those of the first n boxes
  record FirstSizes (n : ℕ) : Type 0 where
    sizes : List BoxSizes
    count : length sizes ≡ n
    first : sizes_at sizes 0 ≡ own
    each : (k : ℕ) → 0 < k → k < n → is_inner boxes k ≡ false → IsBoxSized boxes sizes k (sizes_at sizes k)
    inner : (k : ℕ) → 0 < k → k < n → is_inner boxes k ≡ true → sizes_at sizes k ≡ no_sizes

  first_sizes : (n : ℕ) → n < length boxes → FirstSizes (suc n)
  first_sizes zero less = record {
    sizes = own ∷ [];
    count = refl;
    first = refl;
    each = λ k inside lt. absurd (omega (arith, inside, lt));
    inner = λ k inside lt. absurd (omega (arith, inside, lt));
  }
  first_sizes (suc n) less =
      let so_far = first_sizes n (omega (arith, less)) in
      let zs = so_far.sizes in
      let counted = so_far.count in
      let next = found boxes zs (suc n) in
      let longer = length_push zs next.z in
      record {
        sizes = zs ++ next.z ∷ [];
        count = omega (arith, counted, longer);
        first = read_before zs next.z 0 (omega (arith, counted)) ∙ so_far.first;
        each = λ k inside lt own. elim (cases_lt k (suc n)) [
          | inl low ↦ (let e = around_before boxes are zs next.z k inside (omega (arith, low, less)) (omega (arith, counted, low)) in
              let r = read_before zs next.z k (omega (arith, counted, low)) in
              rw (e, r) (so_far.each k inside low own))
          | inr high ↦ (let q : k ≡ suc n = omega (arith, lt, high) in
              let e = around_before boxes are zs next.z (suc n) (omega arith) less (omega (arith, counted)) in
              let r = read_last zs next.z (suc n) (sym counted) in
              rw (q, e, r) (next.own (rw q at own)))
        ];
        inner = λ k inside lt is. elim (cases_lt k (suc n)) [
          | inl low ↦ read_before zs next.z k (omega (arith, counted, low)) ∙ so_far.inner k inside low is
          | inr high ↦ (let q : k ≡ suc n = omega (arith, lt, high) in read_last zs next.z k (q ∙ sym counted) ∙ next.inner (rw q at is))
        ];
      }

-- all of them
some_flow_sizes : SomeCellSizes → (i : SizeInput) → AreContextBoxes i.boxes → (sizes : List BoxSizes) × (left : Length) × HasFlowSizes i sizes left
some_flow_sizes some_cell i are = from (length i.boxes) refl are.some
  where
    from : (n : ℕ) → n ≡ length i.boxes → 0 < n → (sizes : List BoxSizes) × (left : Length) × HasFlowSizes i sizes left
    from zero is some = absurd (omega (arith, some))
    from (suc n) is some =
        let own = some_own some_cell i.setting i.measured.widths i.boxes in
        let all = first_sizes own.0 i.boxes are n (omega (arith, is)) in (
          all.sizes,
          own.1,
          record {
            own = subst (λ (z : BoxSizes). IsOwnSized i.setting i.measured.widths i.boxes z own.1) (sym all.first) own.2;
            inside = record {
              count = all.count ∙ is;
              each = λ k inside lt. all.each k inside (omega (arith, is, lt));
              inner = λ k inside lt. all.inner k inside (omega (arith, is, lt));
            };
          },
        )

-- those of a table
some_left : (setting : Setting) (own : BoxNode) (z : BoxSizes) → (left : Length) × IsWrapperLeft setting own z left
some_left (Block containing) own z = (no_length, refl)
some_left (Cell containing cell) own z = (no_length, refl)
some_left (Absolute s) own z = some_table_left_lem s own.style z.widths.width

some_sized_as : SomeTableSizes → SomeCellSizes → (is_table : Bool) (i : SizeInput) → AreContextBoxes i.boxes
    → (sizes : List BoxSizes) × (table : Option TableSizesValue) × (left : Length) × IsSizedAs is_table i sizes table left
some_sized_as some_table some_cell true i are =
    let t = some_table (containing_block_in i.setting) (table_rule i.boxes) i.measured.table i.boxes in
    let left = some_left i.setting (box_at i.boxes 0) (sizes_at t.0 0) in
    (t.0, Some t.1, left.0, (t.2, left.1))
some_sized_as some_table some_cell false i are = (let sizes = some_flow_sizes some_cell i are in (sizes.0, None, sizes.1, sizes.2))

some_stretch : (setting : Setting) (own : BoxNode) → (height : Option Length) × IsStretchedIn setting own height
some_stretch (Block containing) own = (None, refl)
some_stretch (Cell containing cell) own = (None, refl)
some_stretch (Absolute s) own = some_stretched_height_lem s own

pub some_context_sizes_lem : SomeTableSizes → SomeCellSizes → SomeContextSizes
some_context_sizes_lem some_table some_cell i are =
    let sized = some_sized_as some_table some_cell (is_table i.boxes) i are in
    let stretched = some_stretch i.setting (box_at i.boxes 0) in (
      record { boxes = sized.0; table = sized.1; left = sized.2; stretched = stretched.0 },
      record { boxes = sized.3; stretched = stretched.1 },
    )
