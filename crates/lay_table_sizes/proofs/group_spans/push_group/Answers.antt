use Rattle.std.proofs.Common.{◌≡◌, drop, sym, ap, ◌∙◌}
use Rattle.std.proofs.lemmas.Option.{same_Some}
use Rattle.lay_table_sizes.specs.GroupWidths.{goes_on}
use Rattle.lay_table_sizes.proofs.BoundSteps.{span_none, span_one}
use Rattle.lay_table_sizes.proofs.group_spans.push_group.Goals as goal

pub returns-then-goes_on : goal.returns-then-goes_on
returns-then-goes_on c group at =
    let same : c.group_at-group.result ≡ group = same_Some c.group_at-group.result group (sym c.group_at-group.ensures ∙ at) in
    let goes = ap (goes_on c.args.before) (sym same) ∙ sym c.goes_on.ensures ∙ c.if-goes_on.true in
    span_none c.args.boxes.now c.args.k c.args.before group (drop c.args.k c.args.groups.now) c.args.spans.now.items goes

pub returns : goal.returns
returns c group at =
    let same : c.group_at-group.result ≡ group = same_Some c.group_at-group.result group (sym c.group_at-group.ensures ∙ at) in
    let goes = ap (goes_on c.args.before) (sym same) ∙ sym c.goes_on.ensures ∙ c.if-goes_on.false in
    let run = rw same at c.run_from-span.ensures.run in
    let put = rw (c.group_width_at.ensures, same) at (c.in_ok-push_span.ensures {u = tt}) in
    span_one c.args.boxes.now c.args.k c.args.before group c.run_from-span.result (drop c.args.k c.args.groups.now) c.args.spans.now.items c.push_span.new.spans.items goes run put
