-- The boxes of a wrapper's context are boxes of a block formatting context.
use Rattle.std.proofs.Common.{◌≡◌, ℕ, zero, suc, ◌+◌, ◌<◌, ◌≤◌, pos, true, false, List, [], ◌∷◌, ◌++◌, length, length-append, slice_index, take, append_assoc, get_or, refl, sym, ◌∙◌, subst, arith}
use Rattle.std.specs.List.{All}
use Rattle.std.proofs.lemmas.Int.{ints}
use Rattle.std.proofs.lemmas.List.Elements.{All-append}
use Rattle.std.proofs.lemmas.List.{length-map}
use Rattle.lay_units.specs.Units.{IsUsedSize}
use Rattle.lay_units.specs.declared.length.Unit.{Unit as Length}
use Rattle.lay_units.specs.declared.records.Len.{Len}
use Rattle.lay_units.specs.declared.records.Len.TheVariants as len
use Rattle.lay_doc.specs.Tree.{IsTree}
use Rattle.lay_flow.specs.declared.blocks.flow_box.FlowBox.{FlowBox}
use Rattle.lay_flow.specs.Blocks.BlockPositions.{given_or_auto}
use Rattle.lay_flow.specs.Blocks.Boxes.{box_at, no_flow_box, parent_at, parents_of}
use Rattle.lay_flow.specs.Blocks.FlowBoxes.{AreFlowBoxes, IsFlowTree, KindFits, is_in_lines, may_hold}
use Rattle.lay_flow.specs.Blocks.Weights.{weight}
use Rattle.lay_flow.proofs.BlocksLemmas.BoxTrees.{parent_is, parents_length}
use Rattle.lay_sizes.specs.declared.own_boxes.OwnBox.{OwnBox}
use Rattle.lay_sizes.specs.declared.sizing.BoxSizes.{BoxSizes}
use Rattle.lay_sizes.specs.OwnBoxes.{OwnBoxFits, own_box_at}
use Rattle.lay_sizes.specs.SizeBounds.{IsInset, IsUsedSizeOrAuto, SizeFits}
use Rattle.lay_sizes.specs.SizeColumns.{sizes_at}
use Rattle.lay_table.specs.RowNeeds.{table_sizes}
use Rattle.lay_table.specs.TableInputs.{TableInput}
use Rattle.lay_table.specs.Tracks.{Tracks}
use Rattle.lay_table.specs.Captions.{captions_of}
use Rattle.lay_table.specs.PlaceBounds.{AllFit}
use Rattle.lay_table.specs.WrapperFlow.{box_inside, boxes_in_wrapper, caption_inside, captions_inside, places_in_wrapper, table_own_box, wrapper_box}
use Rattle.lay_table.proofs.ColumnSteps.{mapped_more}

-- a box that stands in the wrapper
record Inside (b : FlowBox) : Type 0 where
  parent : b.parent ≡ 0
  alone : is_in_lines b.kind ≡ false

inside : (left : Length) (o : OwnBox) → Inside (box_inside left o)
inside left o = record { parent = refl; alone = refl }

cons_all : (P : FlowBox → Type 0) (b : FlowBox) (bs : List FlowBox) → P b → All P bs → All P (b ∷ bs)
cons_all P b bs p all = from
  where
    from : (k : ℕ) (d : FlowBox) → k < length (b ∷ bs) → P (get_or (b ∷ bs) k d)
    from zero d less = p
    from (suc k) d less = all k d (omega (arith, less))

captions_are_inside : (i : TableInput) (places : List ℕ) → All Inside (captions_inside i places)
captions_are_inside i [] = λ k d less. absurd (omega (arith, less))
captions_are_inside i (place ∷ places) = cons_all Inside (caption_inside i place) (captions_inside i places) (inside (sizes_at i.sizes 0).edges.left (own_box_at i.inner place)) (captions_are_inside i places)

-- the boxes behind the wrapper
abbrev others : TableInput → Tracks → List FlowBox
others i rows =
    captions_inside i (captions_of i.boxes).above
    ++ box_inside (sizes_at i.sizes 0).edges.left (table_own_box (table_sizes i) rows)
    ∷ captions_inside i (captions_of i.boxes).below

others_inside : (i : TableInput) (rows : Tracks) → All Inside (others i rows)
others_inside i rows =
    All-append Inside (captions_inside i (captions_of i.boxes).above) (box_inside (sizes_at i.sizes 0).edges.left (table_own_box (table_sizes i) rows) ∷ captions_inside i (captions_of i.boxes).below) (captions_are_inside i (captions_of i.boxes).above)
    (cons_all Inside _ (captions_inside i (captions_of i.boxes).below) (inside (sizes_at i.sizes 0).edges.left (table_own_box (table_sizes i) rows)) (captions_are_inside i (captions_of i.boxes).below))

held_by : (z : BoxSizes) (b : FlowBox) → Inside b → may_hold (wrapper_box z).kind b.kind ≡ true
held_by z b is = let e = is.alone in rw e refl

-- all parents are the wrapper
no_parents : (z : BoxSizes) (bs : List FlowBox) → All Inside bs → (k : ℕ) → k < length (wrapper_box z ∷ bs) → parent_at (wrapper_box z ∷ bs) k ≡ 0
no_parents z bs all zero less = refl
no_parents z bs all (suc k) less = (all k no_flow_box (omega (arith, less))).parent

tree_of : (z : BoxSizes) (bs : List FlowBox) → All Inside bs → IsTree (parents_of (wrapper_box z ∷ bs))
tree_of z bs all = record {
  root = refl;
  before = λ k positive less. (let e = none k less in omega (arith, positive, e));
  together = λ j k lt less low. (let e = none k less in omega (arith, e));
}
  where
    boxes : List FlowBox
    boxes = wrapper_box z ∷ bs

    none : (k : ℕ) → k < length (parents_of boxes) → slice_index (parents_of boxes) k ≡ 0
    none k less = parent_is boxes k ∙ no_parents z bs all k (omega (arith, less, parents_length boxes))

flow_tree : (z : BoxSizes) (bs : List FlowBox) → All Inside bs → IsFlowTree (wrapper_box z ∷ bs)
flow_tree z bs all = record {
  some = omega arith;
  tree = tree_of z bs all;
  root = refl;
  parent = λ k positive less. from k positive less;
}
  where
    boxes : List FlowBox
    boxes = wrapper_box z ∷ bs

    from : (k : ℕ) → 0 < k → k < length boxes → may_hold (box_at boxes (parent_at boxes k)).kind (box_at boxes k).kind ≡ true
    from zero positive less = absurd (omega (arith, positive))
    from (suc k) positive less =
        let is = all k no_flow_box (omega (arith, less)) in
        subst (λ (p : ℕ). may_hold (box_at boxes p).kind (box_at boxes (suc k)).kind ≡ true) (sym is.parent) (held_by z _ is)

pub is_wrapper_tree : (i : TableInput) (rows : Tracks) → IsFlowTree (boxes_in_wrapper i rows)
is_wrapper_tree i rows = flow_tree (sizes_at i.sizes 0) (others i rows) (others_inside i rows)

-- used values within their bounds
given_fits : (height : Len) → IsUsedSizeOrAuto height → IsUsedSize (given_or_auto height (pos 0))
given_fits len.Auto fits = (omega (arith, ints), omega (arith, ints))
given_fits (len.Of v) fits = fits

pub wrapper_fits : (z : BoxSizes) → SizeFits z → KindFits (wrapper_box z).kind
wrapper_fits z fits = record {
  x = (omega (arith, ints), omega (arith, ints));
  margin = record { top = fits.margin_top; bottom = fits.margin_bottom };
  inset_top = fits.top;
  inset_bottom = fits.bottom;
  left = (omega (arith, ints, fits.left.0), omega (arith, ints, fits.left.1));
  right = (omega (arith, ints, fits.left.0, fits.width.0), omega (arith, ints, fits.left.1, fits.width.1));
  height = given_fits z.height fits.height;
  min_height = fits.min_height;
}

pub inside_fits : (left : Length) (o : OwnBox) → IsInset left.0 → OwnBoxFits o → KindFits (box_inside left o).kind
inside_fits left o inset own = record {
  x = (omega (arith, ints, inset.0, own.margin_left.0), omega (arith, ints, inset.1, own.margin_left.1));
  margin = record { top = own.margin_top; bottom = own.margin_bottom };
  width = own.width;
  height = own.height;
}

pub are_wrapper_boxes : (i : TableInput) (rows : Tracks) (boxes : List FlowBox) → boxes ≡ boxes_in_wrapper i rows → AllFit boxes → weight boxes (length boxes) ≤ 16711680 → AreFlowBoxes boxes
are_wrapper_boxes i rows boxes are fit light = record {
  is_tree = rw are (is_wrapper_tree i rows);
  light = light;
  fits = λ k less. fit k no_flow_box less;
}

-- they are as many as their places
pub as_many_boxes : (i : TableInput) (rows : Tracks) → length (boxes_in_wrapper i rows) ≡ length (places_in_wrapper i)
as_many_boxes i rows =
    let above = length-map (captions_of i.boxes).above (caption_inside i) in
    let below = length-map (captions_of i.boxes).below (caption_inside i) in
    rw (length-append, length-append, above, below) refl

-- with one more caption
pub captions_more : (i : TableInput) (places : List ℕ) (n : ℕ) (before boxes : List FlowBox) (b : FlowBox) → n < length places → boxes ≡ before ++ captions_inside i (take n places) → b ≡ caption_inside i (slice_index places n)
    → boxes ++ b ∷ [] ≡ before ++ captions_inside i (take (n + 1) places)
captions_more i places n before boxes b less are is =
    let more = mapped_more (caption_inside i) places n less in
    rw (are, is, more) (append_assoc before (captions_inside i (take n places)) (caption_inside i (slice_index places n) ∷ []))
