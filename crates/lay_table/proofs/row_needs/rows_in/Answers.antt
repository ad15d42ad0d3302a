use Rattle.std.proofs.Common.{rules, ◌<◌, ◌^◌, length, ap, sym, subst, ◌∙◌, ℕ, arith}
use Rattle.std.specs.List.{All}
use Rattle.lay_units.specs.Units.{IsUsedSize}
use Rattle.lay_units.specs.declared.length.Unit.{Unit as Length}
use Rattle.lay_table.specs.NeedBounds.{NeedsFit}
use Rattle.lay_table.proofs.NeedSteps.{own_count, rows_fit}
use Rattle.lay_table.proofs.row_needs.rows_in.Goals as goal

pub returns-clause-count : goal.returns-clause-count
returns-clause-count c = ap length (c.new.ensures ∙ (c.in_ok-own_heights.ensures {u = tt}).heights) ∙ own_count c.args.input.now _

pub returns-clause-fit : goal.returns-clause-fit
returns-clause-fit c =
    let own = c.in_ok-own_heights.ensures {u = tt} in
    let needs = c.in_ok-needs_of.ensures {u = tt} in
    let e = c.new.ensures in
    let f = c.new-2.ensures in
    let counted = returns-clause-count c in
    let few : length c.args.input.now.table.grid.rows < 2 ^ 32 = search rules in
    let sizes : All (λ (u : Length). IsUsedSize u.0) c.new.result = rw e own.sizes in
    let cells : NeedsFit (length c.args.input.now.table.grid.rows) c.new-2.result = rw f needs.fit in
    rows_fit _ (omega (arith, counted, few)) sizes (subst (λ (n : ℕ). NeedsFit n c.new-2.result) (sym counted) cells) c.row_spacing-spacing.ensures.size (c.in_ok-left_for_rows.ensures {u = tt}).near
