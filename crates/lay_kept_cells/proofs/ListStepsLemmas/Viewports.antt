-- A list of edits leaves the viewport as it is.
use Rattle.std.proofs.Common.{◌≡◌, ◌∷◌, [], List, refl, ◌∙◌}
use Rattle.lay_doc.specs.declared.edit.Edit.{Edit}
use Rattle.lay_doc.specs.Document.{Document}
use Rattle.lay_doc.specs.Edits.{after}
use Rattle.lay_face.specs.FaceValue.{FaceValue}
use Rattle.lay_context.specs.Solves.{medium_of}
use Rattle.lay_history.specs.Edits.EditLists.{after_all}
use Rattle.lay_kept_cells.proofs.StepsLemmas.EditedRows.{IsOneViewport, one_medium, one_viewport}

one_viewport_of_all : (d : Document) (edits : List Edit) → IsOneViewport d (after_all d edits)
one_viewport_of_all d [] = record { width = refl; height = refl }
one_viewport_of_all d (e ∷ es) =
    let one = one_viewport d e in
    let rest = one_viewport_of_all (after d e) es in
    record { width = one.width ∙ rest.width; height = one.height ∙ rest.height }

pub one_medium_of_all : (d : Document) (edits : List Edit) (face : FaceValue) → medium_of d face ≡ medium_of (after_all d edits) face
one_medium_of_all d edits face = one_medium d (after_all d edits) face (one_viewport_of_all d edits)
