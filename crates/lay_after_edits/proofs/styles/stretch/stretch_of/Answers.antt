use Rattle.std.proofs.Common.{is_some, option_map, ap, sym, ◌∙◌, Option, ℕ}
use Rattle.lay_after_edits.specs.Styles.Stretches.{inserted_at}
use Rattle.lay_after_edits.proofs.StylesLemmas.InsertedPlace.{found_new}
use Rattle.lay_after_edits.proofs.styles.stretch.stretch_of.Goals as goal

pub inserted-requires : goal.inserted-requires
inserted-requires c =
    let found = found_new c.args.doc.now c.args.later.now c.args.edit.now c.in-Insert.parent c.in-Insert.index c.in-Insert.new c.id.result
    c.nodes.ensures.valid c.requires.accepted c.requires.later c.in-Insert.is c.id.ensures in
    ap (λ (o : Option ℕ). is_some o) found.there

pub returns-in-Insert : goal.returns-in-Insert
returns-in-Insert c =
    let found = found_new c.args.doc.now c.args.later.now c.args.edit.now c.in-Insert.parent c.in-Insert.index c.in-Insert.new c.id.result
    c.nodes.ensures.valid c.requires.accepted c.requires.later c.in-Insert.is c.id.ensures in
    found.stretch ∙ sym (ap (option_map inserted_at) found.there) ∙ c.inserted.ensures
