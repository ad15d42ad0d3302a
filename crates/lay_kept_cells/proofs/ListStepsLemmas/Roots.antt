-- The first context of a document is of its first node, which no list of edits puts another one before or takes out. So the root's context
-- stays the first.
use Rattle.std.proofs.Common.{◌≡◌, ◌<◌, suc, List, All, [], ◌∷◌, length, slice_index, None, refl, ap, sym, ◌∙◌, arith}
use Rattle.lay_style.specs.declared.style.Style.{Style}
use Rattle.lay_doc.specs.Document.{Document, IsDocument, ids_of}
use Rattle.lay_doc.specs.Edits.{after}
use Rattle.lay_doc.specs.declared.edit.Edit.{Edit}
use Rattle.lay_doc.specs.Laws.{PutsNode}
use Rattle.lay_kept_cells.proofs.Cited.{contexts_are_of_own_nodes_lem, edits_leave_documents, first_id_stays, first_node, length-parents, lists_leave_documents, none_first, same_node}
use Rattle.lay_contexts.specs.ContextList.{AreContextsOf}
use Rattle.lay_contexts.specs.Contexts.{Context}
use Rattle.lay_history.specs.Edits.EditLists.{after_all, first}
use Rattle.lay_shape.specs.Keys.{node_of}
use Rattle.lay_kept_cells.proofs.StepsLemmas.FollowedRows.{RootStays}
use Rattle.lay_kept_cells.specs.ListSteps.EditedLists.{TakesList}

first_ids_stay : (d : Document) (edits : List Edit) → IsDocument d → All PutsNode edits → first d edits ≡ None
    → slice_index (ids_of (after_all d edits).nodes) 0 ≡ slice_index (ids_of d.nodes) 0
first_ids_stay d [] is puts none = refl
first_ids_stay d (e ∷ es) is puts none =
    let both = none_first d e es none in
    first_ids_stay (after d e) es (edits_leave_documents d e is (puts 0 e (omega arith)) both.0) (λ k x lt. puts (suc k) x (omega (arith, lt))) both.1
    ∙ first_id_stays d e is.some both.0

pub root_stays : (d : Document) (edits : List Edit) (styles others : List Style) (contexts later : List Context) → TakesList d edits styles others
    → AreContextsOf d.nodes styles contexts → AreContextsOf (after_all d edits).nodes others later → RootStays contexts later
root_stays d edits styles others contexts later takes of of_later i j lt_i lt_j node =
    let doc = takes.document in
    let left : IsDocument (after_all d edits) = lists_leave_documents d edits doc takes.puts takes.accepted in
    let counted : length styles ≡ length d.nodes = takes.before.length_is ∙ length-parents d.nodes in
    let counted_later : length others ≡ length (after_all d edits).nodes = takes.after.length_is ∙ length-parents (after_all d edits).nodes in
    let some : 0 < length contexts = omega (arith, lt_i) in
    let some_later : 0 < length later = omega (arith, lt_j) in
    let first : node_of contexts 0 ≡ node_of later 0 =
    same_node (node_of contexts 0) (node_of later 0)
    (first_node d styles doc counted contexts of some ∙ sym (first_ids_stay d edits doc takes.puts takes.accepted)
    ∙ sym (first_node (after_all d edits) others left counted_later later of_later some_later)) in (
      (λ z. contexts_are_of_own_nodes_lem (after_all d edits) others later left counted_later of_later j 0 lt_j some_later (sym node ∙ ap (node_of contexts) z ∙ first)),
      (λ z. contexts_are_of_own_nodes_lem d styles contexts doc counted of i 0 lt_i some (node ∙ ap (node_of later) z ∙ sym first)),
    )
