-- An edit changes neither the viewport nor the root, so cells that follow the contexts of a document through it are those of the document
-- after it.
use Rattle.std.proofs.Common.{◌≡◌, ℕ, Option, None, Some, refl, ap, ◌∙◌}
use Rattle.lay_units.specs.declared.records.Len.TheVariants.{Of}
use Rattle.lay_style.specs.LengthValues.{px}
use Rattle.lay_style.specs.Places.{place_of}
use Rattle.lay_doc.specs.declared.edit.Edit.{Edit}
use Rattle.lay_doc.specs.declared.edit.Edit.TheVariants.{SetStyle, ClearStyle, SetText, Insert, Remove, Bad}
use Rattle.lay_doc.specs.declared.node.Node.{Node}
use Rattle.lay_doc.specs.Changes.{after_change, with_style, with_text, without_style}
use Rattle.lay_doc.specs.Document.{Document, ids_of}
use Rattle.lay_doc.specs.Edits.{after, after_insert}
use Rattle.lay_doc.specs.Laws.{EditsLeaveDocuments}
use Rattle.lay_doc.specs.NewNodes.{NewNodeValue}
use Rattle.lay_doc.specs.Removal.{after_remove}
use Rattle.lay_face.specs.FaceValue.{FaceValue}
use Rattle.lay_context.specs.Solves.{medium_of}
use Rattle.lay_cell_work.specs.CellLaws.KeptInputs.{InputsAreKept}
use Rattle.lay_contexts.specs.Edited.Touched.{Edits}
use Rattle.lay_shape.specs.ShapeLaws.RootKeys.{RootStaysFirst}
use Rattle.lay_kept_cells.specs.Steps.EditedCells.{EditsKeepCells}
use Rattle.lay_kept_cells.proofs.StepsLemmas.FollowedRows.{followed}

-- the two have one viewport
pub record IsOneViewport (d e : Document) : Type 0 where
  pub width : d.width ≡ e.width
  pub height : d.height ≡ e.height

changed_viewport : (d : Document) (id : ℕ) (change : Node → Node) → IsOneViewport d (after_change d id change)
changed_viewport d id change = by (place_of id (ids_of d.nodes)) refl
  where
    by : (o : Option ℕ) → place_of id (ids_of d.nodes) ≡ o → IsOneViewport d (after_change d id change)
    by None e = rw e (record { width = refl; height = refl })
    by (Some p) e = rw e (record { width = refl; height = refl })

removed_viewport : (d : Document) (id : ℕ) → IsOneViewport d (after_remove d id)
removed_viewport d id = by (place_of id (ids_of d.nodes)) refl
  where
    by : (o : Option ℕ) → place_of id (ids_of d.nodes) ≡ o → IsOneViewport d (after_remove d id)
    by None e = rw e (record { width = refl; height = refl })
    by (Some p) e = rw e (record { width = refl; height = refl })

inserted_viewport : (d : Document) (parent index : ℕ) (new : NewNodeValue) → IsOneViewport d (after_insert d parent index new)
inserted_viewport d parent index new = by (place_of parent (ids_of d.nodes)) refl
  where
    by : (o : Option ℕ) → place_of parent (ids_of d.nodes) ≡ o → IsOneViewport d (after_insert d parent index new)
    by None e = rw e (record { width = refl; height = refl })
    by (Some p) e = rw e (record { width = refl; height = refl })

pub one_viewport : (d : Document) (edit : Edit) → IsOneViewport d (after d edit)
one_viewport d (SetStyle node decl) = changed_viewport d node.0 (with_style decl)
one_viewport d (ClearStyle node property) = changed_viewport d node.0 (without_style property)
one_viewport d (SetText node text) = changed_viewport d node.0 (with_text text)
one_viewport d (Bad bad) = record { width = refl; height = refl }
one_viewport d (Remove node) = removed_viewport d node.0
one_viewport d (Insert parent index new) = inserted_viewport d parent.0 index new

pub one_medium : (d e : Document) (face : FaceValue) → IsOneViewport d e → medium_of d face ≡ medium_of e face
one_medium d e face same =
    ap (λ (n : ℕ). record { viewport = record { width = px n; height = Of (px d.height) }; face = face }) same.width
    ∙ ap (λ (n : ℕ). record { viewport = record { width = px e.width; height = Of (px n) }; face = face }) same.height

pub edits_keep_cells_lem : EditsLeaveDocuments → InputsAreKept → RootStaysFirst → EditsKeepCells
edits_keep_cells_lem leave kept root d edit face styles others contexts later all rest s t edits cells are of follows sound =
    let own : Edits d edit cells.styles others =
    record { document = cells.is_document; puts = edits.puts; accepted = edits.accepted; before = cells.has_styles; after = edits.after } in
    followed kept d (after d edit) face contexts later all rest s t cells others (leave d edit cells.is_document edits.puts edits.accepted) edits.after are of
    (λ i j in_i in_j node. root d edit cells.styles others contexts later i j own cells.are_contexts are in_i in_j node) follows sound
    (one_medium d (after d edit) face (one_viewport d edit))
