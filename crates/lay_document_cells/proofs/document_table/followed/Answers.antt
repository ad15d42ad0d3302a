use Rattle.std.proofs.Common.{◌∙◌, List, subst, sym}
use Rattle.lay_style.specs.declared.style.Style.{Style}
use Rattle.lay_after_edits.specs.Styles.WrittenOver.{AreSameOutside}
use Rattle.lay_document_cells.proofs.document_table.followed.Goals as goal

pub follow_part-requires : goal.follow_part-requires
follow_part-requires c = subst (λ (later : List Style). AreSameOutside c.args.styles.items later c.args.part) (sym c.as_slice.ensures) c.requires

pub returns : goal.returns
returns c = c.follow_part.ensures ∙ c.as_slice.ensures
