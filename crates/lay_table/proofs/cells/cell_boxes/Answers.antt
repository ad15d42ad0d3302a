use Rattle.std.proofs.Common.{◌≡◌, ◌+◌, [], ◌∷◌, ◌++◌, length, length-append, subst, arith}
use Rattle.lay_sizes.specs.declared.sizing.ContainingBlock.{ContainingBlock}
use Rattle.lay_sizes.specs.BoxSizes.{content_block}
use Rattle.lay_sizes.specs.SizeBounds.{SizeFits}
use Rattle.lay_sizes.specs.SizeColumns.{no_sizes}
use Rattle.lay_table_sizes.specs.CellSizes.{IsCellSized}
use Rattle.lay_table.specs.RowNeeds.{cell_of, style_of, table_sizes}
use Rattle.lay_table.specs.TableRows.{cell_size_of}
use Rattle.lay_table.proofs.ColumnEntries.{one_more}
use Rattle.lay_table.proofs.cells.cell_boxes.Goals as goal

pub loop-c-preserved : goal.loop-c-preserved
loop-c-preserved c =
    let pushed = (c.in_ok-push.ensures {u = tt}).items in
    let inv = c.loop-c.invariant in
    let counted : length (c.loop-c.sizes.items ++ c.cell_box.result ∷ []) ≡ c.loop-c.c + 1 = (let e = inv.count in rw (length-append, e) (omega arith)) in
    let around : c.containing_block-containing.result ≡ content_block (table_sizes c.args.input.now) = (let e = c.table_sizes-table.ensures.value in rw (← e) c.containing_block-containing.ensures.value) in
    let sized : IsCellSized (content_block (table_sizes c.args.input.now)) (cell_size_of c.args.input.now c.loop-c.c) (style_of c.args.input.now (cell_of c.args.input.now c.loop-c.c).place) c.cell_box.result =
    subst (λ (b : ContainingBlock). IsCellSized b (cell_size_of c.args.input.now c.loop-c.c) (style_of c.args.input.now (cell_of c.args.input.now c.loop-c.c).place) c.cell_box.result) around c.cell_box.ensures.sized in
    rw pushed (record {
      count = counted;
      each = one_more (λ k z. IsCellSized (content_block (table_sizes c.args.input.now)) (cell_size_of c.args.input.now k) (style_of c.args.input.now (cell_of c.args.input.now k).place) z) no_sizes c.loop-c.sizes.items c.cell_box.result c.loop-c.c inv.count inv.each sized;
      fit = λ k less. one_more (λ j z. SizeFits z) no_sizes c.loop-c.sizes.items c.cell_box.result c.loop-c.c inv.count (λ j low. inv.fit j (omega (arith, low, inv.count))) c.cell_box.ensures.fits k (omega (arith, less, counted));
    })
