use Rattle.std.proofs.Common.{◌≡◌, ◌-◌, true, false, sym, ap, ◌∙◌, arith}
use Rattle.lay_table.specs.declared.groups.OuterGroups.{OuterGroups}
use Rattle.lay_table.specs.Groups.{is_at}
use Rattle.lay_table.proofs.GroupSteps.{counted_body, counted_footer, counted_header, few_before}
use Rattle.lay_table.proofs.groups.rows_before.Goals as goal

pub returns-then-is_at-clause-value : goal.returns-then-is_at-clause-value
returns-then-is_at-clause-value c =
    let header : is_at c.args.counts.now.outer.header c.args.k ≡ true = ap (λ (o : OuterGroups). is_at o.header c.args.k) (sym c.outer-outer.ensures) ∙ sym c.is_at.ensures ∙ c.if-is_at.true in
    sym (counted_header c.args.boxes.now c.args.rows.now c.args.counts.now c.requires.counts c.args.k header)

pub returns-then-is_at-2-clause-value : goal.returns-then-is_at-2-clause-value
returns-then-is_at-2-clause-value c =
    let header : is_at c.args.counts.now.outer.header c.args.k ≡ false = ap (λ (o : OuterGroups). is_at o.header c.args.k) (sym c.outer-outer.ensures) ∙ sym c.is_at.ensures ∙ c.if-is_at.false in
    let footer : is_at c.args.counts.now.outer.footer c.args.k ≡ true = ap (λ (o : OuterGroups). is_at o.footer c.args.k) (sym c.outer-outer.ensures) ∙ sym c.is_at-2.ensures ∙ c.if-is_at-2.true in
    let is = counted_footer c.args.boxes.now c.args.rows.now c.args.counts.now c.requires.counts c.args.k header footer c.requires.place in
    let e = c.within.ensures in
    rw e (sym is)

pub returns-clause-value : goal.returns-clause-value
returns-clause-value c =
    let header : is_at c.args.counts.now.outer.header c.args.k ≡ false = ap (λ (o : OuterGroups). is_at o.header c.args.k) (sym c.outer-outer.ensures) ∙ sym c.is_at.ensures ∙ c.if-is_at.false in
    let footer : is_at c.args.counts.now.outer.footer c.args.k ≡ false = ap (λ (o : OuterGroups). is_at o.footer c.args.k) (sym c.outer-outer.ensures) ∙ sym c.is_at-2.ensures ∙ c.if-is_at-2.false in
    let is = counted_body c.args.boxes.now c.args.rows.now c.args.counts.now c.requires.counts c.args.k header footer c.requires.place in
    let e = c.header_rows.ensures in
    let f = c.body_before.ensures in
    omega (arith, is, e, f)

pub returns-clause-few : goal.returns-clause-few
returns-clause-few c =
    let few = few_before c.args.boxes.now c.args.rows.now c.args.k in
    let is = returns-clause-value c in
    omega (arith, few, is)
