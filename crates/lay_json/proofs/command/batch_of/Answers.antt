use Rattle.std.proofs.Common.{◌≡◌, List, sym, ap, subst, ◌∙◌, true}
use Rattle.serde_json.specs.View.{view, items_view}
use Rattle.serde_json.specs.declared.value.Value.{Value}
use Rattle.lay_json.specs.Fields.{has_at_most}
use Rattle.lay_json.proofs.EditLists.{batch_read, gives_fault}
use Rattle.lay_json.proofs.command.batch_of.Goals as goal

pub returns-in_err-add_edits : goal.returns-in_err-add_edits
returns-in_err-add_edits c =
    let all = c.in_ok-all.all.now.items in
    let few = subst (λ (vs : List Value). has_at_most 1024 (items_view vs) ≡ true) c.deref-2.ensures.value (sym c.has_at_most.ensures.value ∙ c.if-not-has_at_most.false) in
    let whole = batch_read c.args.editor c.args.index (view c.args.object.now) (view c.in_ok-value.value.now) (items_view all) (view c.in_ok-first.first.now) (items_view c.in_ok-first.rest.now)
    c.in_ok-edit_of.field-0 c.in_ok-edits.edits c.in_ok-value.ensures c.in_ok-all.ensures (sym (ap items_view c.deref.ensures.value) ∙ c.in_ok-first.ensures.items) few
    c.in_ok-edit_of.ensures c.in_ok-edits.ensures in
    gives_fault c.from_residual-in_err-add_edits.result c.in_err-add_edits.field-0.0 _ _ whole c.in_err-add_edits.ensures c.from_residual-in_err-add_edits.ensures
