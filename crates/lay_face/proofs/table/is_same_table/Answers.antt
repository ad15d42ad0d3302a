use Rattle.std.proofs.Common.{sym, ◌∙◌}
use Rattle.lay_face.proofs.SameTables.{tables_decide}
use Rattle.lay_face.proofs.table.is_same_table.Goals as goal

pub returns : goal.returns
returns c =
    let decide = tables_decide c.args.a.now.entries c.args.b.now.entries in
    (λ t. decide.0 (sym c.eq.ensures ∙ t), λ e. c.eq.ensures ∙ decide.1 e)
