use Rattle.std.proofs.Common.{◌≡◌, ◌+◌, ◌++◌, drop, sym, ap, ◌∙◌, arith}
use Rattle.std.proofs.lemmas.List.{drop_more}
use Rattle.serde_json.specs.Data.{Items, item}
use Rattle.serde_json.specs.View.{view, items_view}
use Rattle.serde_json.specs.declared.value.Value.{Value}
use Rattle.lay_json.specs.Fields.{map_read}
use Rattle.lay_json.specs.Commands.{listed_edits}
use Rattle.lay_json.proofs.EditLists.{one_more, stopped}
use Rattle.lay_json.proofs.command.add_edits.Goals as goal

pub returns-in_err-add_edit : goal.returns-in_err-add_edit
returns-in_err-add_edit c =
    let values = c.args.values.now in
    let k = c.loop-value.value-index in
    let value = c.value-item.result in
    let rest = items_view (drop (k + 1) values) in
    let next : items_view (drop k values) ≡ item (view value) rest =
    ap items_view (drop_more values k value c.loop-value-test.true) ∙ ap (λ (v : Value). item (view v) rest) (sym c.value-item.is) in
    stopped c.args.place c.args.edits.now c.loop-value.edits c.add_edit.new.edits (items_view values) (items_view (drop k values)) (view value) rest c.in_err-add_edit.field-0.0 c.from_residual.result
    next c.loop-value.invariant.goes_on c.in_err-add_edit.ensures.value c.from_residual.ensures

pub loop-value-preserved : goal.loop-value-preserved
loop-value-preserved c =
    let values = c.args.values.now in
    let k = c.loop-value.value-index in
    let value = c.value-item.result in
    let before = c.loop-value.edits in
    let rest = items_view (drop (k + 1) values) in
    let next : items_view (drop k values) ≡ item (view value) rest =
    ap items_view (drop_more values k value c.loop-value-test.true) ∙ ap (λ (v : Value). item (view v) rest) (sym c.value-item.is) in
    record {
      goes_on = one_more c.args.place before c.add_edit.new.edits (view value) rest c.in_ok-add_edit.ensures.value
          ∙ (ap (λ (ds : Items). map_read (λ es. before ++ es) (listed_edits c.args.place ds)) (sym next) ∙ c.loop-value.invariant.goes_on);
      count = omega (arith, c.in_ok-add_edit.ensures.count, c.loop-value.invariant.count);
    }
