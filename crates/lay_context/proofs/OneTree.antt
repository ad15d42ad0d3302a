-- Two workings that meet the equations of a document are equal, task by task in their order, and so are their trees.
use Rattle.std.proofs.Common.{◌≡◌, ℕ, zero, suc, ◌+◌, ◌<◌, List, length, refl, sym, subst, ◌∙◌, arith}
use Rattle.std.proofs.lemmas.List.{ext_get_or}
use Rattle.lay_doc.specs.Document.{Document, IsDocument, parents_of, declarations_of}
use Rattle.lay_face.specs.FaceValue.{FaceValue}
use Rattle.lay_context.proofs.Cited.{are_contexts, length-parents, levels_are, levels_of, one_context_list_lem, one_style_column_lem}
use Rattle.lay_frag.specs.Pieces.{Context as PageContext}
use Rattle.lay_contexts.specs.ContextList.{AreContextsOf}
use Rattle.lay_contexts.specs.FormattingContexts.{FormattingContext, AreFormattingContexts}
use Rattle.lay_contexts.specs.FormattingContextList.{AreFormattingContextsOf}
use Rattle.lay_contexts.specs.FormattingLaws.{FormattingContextsStandInOrder, OneFormattingContextList}
use Rattle.lay_positioned.specs.Levels.{HasLevels}
use Rattle.lay_placements.specs.declared.corner.Corner.{Corner}
use Rattle.lay_context.specs.declared.task.Phase.TheVariants.{Size, Place}
use Rattle.lay_context.specs.declared.task.Task.{Task}
use Rattle.lay_context.specs.declared.input.Input.{Input}
use Rattle.lay_context_sizes.specs.ContextSizes.{not_sized}
use Rattle.lay_context.specs.Laws.{OneSolution}
use Rattle.lay_context.specs.Local.{IsLocal, IsTaskDone, input_of, value_of_task}
use Rattle.lay_context.specs.Workings.{Workings}
use Rattle.lay_context.specs.Medium.{Medium}
use Rattle.lay_context.specs.Needs.{turn_of}
use Rattle.lay_context.specs.PageCorners.{HasPageCorners}
use Rattle.lay_context.specs.PlacedContexts.{not_placed, placed_in}
use Rattle.lay_context.specs.Settings.{sizes_in}
use Rattle.lay_context.specs.Solves.{Solves, SolvesContexts, medium_of, page_context, page_contexts}
use Rattle.lay_context.proofs.OneCorners.{one_corner_column}
use Rattle.lay_context.proofs.OneValue.{OneAnswer, one_local_lem}
use Rattle.lay_context.proofs.TaskInputs.{input_again, place_value, size_value}
use Rattle.lay_context.proofs.TaskOrder.{needs_come_first_lem}

-- the contexts of a tree come of the sizes, the placements and the corners
pub page_contexts_same : (contexts : List FormattingContext) (v w : Workings) (x y : List Corner) → v.sizes ≡ w.sizes → v.places ≡ w.places → x ≡ y → (n : ℕ)
    → page_contexts contexts v x n ≡ page_contexts contexts w y n
page_contexts_same contexts v w x y sizes places corners zero = refl
page_contexts_same contexts v w x y sizes places corners (suc n) =
    let rest = page_contexts_same contexts v w x y sizes places corners n in
    let last : page_context contexts v x n ≡ page_context contexts w y n = rw (sizes, places, corners) refl in
    rw (rest, last) refl

module _ (one : OneAnswer) (medium : Medium) (contexts : List FormattingContext) (are : AreFormattingContexts contexts) where
  -- all tasks are done with these values
  abbrev AllDone : Workings → Type 0
  AllDone w = (task : Task) → task.context < length contexts → IsTaskDone medium contexts w task

  one_value : (v w : Workings) (task : Task) → task.context < length contexts → IsTaskDone medium contexts v task → IsTaskDone medium contexts w task
      → input_of medium contexts v task ≡ input_of medium contexts w task → value_of_task v task ≡ value_of_task w task
  one_value v w task lt a b same =
      one_local_lem one (input_of medium contexts v task) (value_of_task v task) (value_of_task w task) a (subst (λ (i : Input). IsLocal i (value_of_task w task)) (sym same) b)

  -- values agree turn by turn, since what a task needs had its turn before
  agree : (levels : List ℕ) → HasLevels contexts levels → (v w : Workings) → AllDone v → AllDone w → (m : ℕ) (task : Task) → task.context < length contexts → turn_of levels task < m → value_of_task v task ≡ value_of_task w task
  agree levels has v w a b zero task there lt = absurd (omega (arith, lt))
  agree levels has v w a b (suc m) task there lt =
      one_value v w task there (a task there) (b task there) (input_again medium contexts v w task are there (λ needed needs.
      (let had = needs_come_first_lem contexts levels task needed are has there needs in
      agree levels has v w a b m needed had.within (omega (arith, had.earlier, lt)))))

  agree_at : (levels : List ℕ) → HasLevels contexts levels → (v w : Workings) → AllDone v → AllDone w → (task : Task) → task.context < length contexts → value_of_task v task ≡ value_of_task w task
  agree_at levels has v w a b task there = agree levels has v w a b (turn_of levels task + 1) task there (omega arith)

  -- two trees of the same formatting contexts are equal
  pub one_tree : (s t : List PageContext) → SolvesContexts medium contexts s → SolvesContexts medium contexts t → s ≡ t
  one_tree s t a b =
      let v : Workings = a.workings in
      let w : Workings = b.workings in
      let levels : List ℕ = levels_of contexts in
      let has = levels_are contexts are in
      let sizes : v.sizes ≡ w.sizes = ext_get_or not_sized v.sizes w.sizes (a.counts.sizes ∙ sym b.counts.sizes) (λ i lt.
      size_value (sizes_in v.sizes i) (sizes_in w.sizes i) (agree_at levels has v w a.done b.done (record { context = i; phase = Size }) (omega (arith, lt, a.counts.sizes)))) in
      let places : v.places ≡ w.places = ext_get_or not_placed v.places w.places (a.counts.places ∙ sym b.counts.places) (λ i lt.
      place_value (placed_in v.places i) (placed_in w.places i) (agree_at levels has v w a.done b.done (record { context = i; phase = Place }) (omega (arith, lt, a.counts.places)))) in
      let x = a.assembled in
      let y = b.assembled in
      let cornered : HasPageCorners contexts v.places y.corners = rw places y.has_corners in
      let corners : x.corners ≡ y.corners = one_corner_column contexts v.places are x.corners y.corners x.has_corners cornered in
      let listed : page_contexts contexts v x.corners (length contexts) ≡ page_contexts contexts w y.corners (length contexts) = page_contexts_same contexts v w x.corners y.corners sizes places corners (length contexts) in
      x.tree_is ∙ listed ∙ sym y.tree_is

-- the formatting contexts of a solution stand in order
pub in_order : FormattingContextsStandInOrder → (d : Document) (face : FaceValue) (s : List PageContext) → IsDocument d → (a : Solves d face s) → AreFormattingContexts a.formatting_contexts
in_order stand_in_order d face s is a =
    let counted : length a.styles ≡ length d.nodes = a.has_styles.length_is ∙ length-parents d.nodes in
    stand_in_order a.contexts a.formatting_contexts (are_contexts d a.styles a.contexts is counted a.are_contexts) a.are_formatting_contexts

pub one_solution_lem : OneAnswer → OneFormattingContextList → FormattingContextsStandInOrder → OneSolution
one_solution_lem one one_list stand_in_order d face s t is a b =
    let styles = one_style_column_lem (parents_of d.nodes) (declarations_of d.nodes) a.styles b.styles is.tree a.has_styles b.has_styles in
    let listed : AreContextsOf d.nodes a.styles b.contexts = rw styles b.are_contexts in
    let counted : length a.styles ≡ length d.nodes = a.has_styles.length_is ∙ length-parents d.nodes in
    let contexts = one_context_list_lem d a.styles a.contexts b.contexts is counted a.are_contexts listed in
    let ordered = are_contexts d a.styles a.contexts is counted a.are_contexts in
    let parted : AreFormattingContextsOf a.contexts b.formatting_contexts = rw contexts b.are_formatting_contexts in
    let formatting = one_list a.contexts a.formatting_contexts b.formatting_contexts ordered a.are_formatting_contexts parted in
    let other : SolvesContexts (medium_of d face) a.formatting_contexts t = rw formatting b.solves_contexts in
    one_tree one (medium_of d face) a.formatting_contexts (in_order stand_in_order d face s is a) s t a.solves_contexts other
