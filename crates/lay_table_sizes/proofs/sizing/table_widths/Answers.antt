use Rattle.std.proofs.Common.{◌≡◌, Bool, true, IfOk, ap, sym, subst, ◌∙◌}
use Rattle.lay_table_sizes.specs.TableLayouts.{is_fixed}
use Rattle.lay_table_sizes.specs.TableBoxes.{wrapper_style}
use Rattle.lay_table_sizes.specs.TableSizes.{AreTableWidthsAs}
use Rattle.lay_table_sizes.proofs.sizing.table_widths.Goals as goal

pub returns-then-is_fixed-clause-widths : goal.returns-then-is_fixed-clause-widths
returns-then-is_fixed-clause-widths c =
    let boxes = c.args.boxes.now in
    let fixed : is_fixed (wrapper_style boxes) ≡ true = sym (c.is_fixed.ensures ∙ ap is_fixed c.style_of_box.ensures) ∙ c.if-is_fixed.true in
    subst (λ (b : Bool). IfOk c.fixed_widths.result (λ w. AreTableWidthsAs b c.args.containing boxes c.args.grid.now c.args.bounds.now w.wanted w.columns)) (sym fixed)
    c.fixed_widths.ensures.widths
