-- Where the value of each cell is right, the tree of these values is the layout of the document.
use Rattle.std.proofs.Common.{◌<◌, ℕ, length, refl}
use Rattle.lay_doc.specs.Document.{Document, IsDocument}
use Rattle.lay_contexts.specs.Laws.{AnonymousBoxesAreInFlow}
use Rattle.lay_context.specs.declared.task.Phase.{Phase}
use Rattle.lay_context.specs.Solves.{medium_of}
use Rattle.lay_shape.specs.Touched.ContextFlags.{ContextLists}
use Rattle.lay_shape.specs.declared.context_phase.ContextPhase.{ContextPhase}
use Rattle.lay_shape.specs.Dependencies.{in_phase, needs_in}
use Rattle.lay_core.proofs.Cited.{all_done, AreCalm, cell_in, cell_within, has_counts, need_before}
use Rattle.lay_cell_work.specs.KeptValues.{workings_of}
use Rattle.lay_cells.specs.Shapes.{IsIn}
use Rattle.lay_core.specs.CoreLaws.GivenInputs.{DependsOn, directly, through}
use Rattle.lay_core.specs.CoreLaws.Laws.{LayoutsGiveInputs}
use Rattle.lay_document_cells.specs.State.{AreListsOf}
use Rattle.lay_core.proofs.CoreLawsLemmas.OneLists.{counted, in_order}

module _ (d : Document) (is : IsDocument d) (lists : ContextLists) (are : AreListsOf d lists) where
  within : (c need : ContextPhase) → c.context < length lists.contexts → IsIn (needs_in lists.contexts c) need → need.context < length lists.contexts
  within c need lt has =
      let there = cell_in lists.contexts (in_order d lists is are) c.phase c.context lt in
      let b = need_before lists.contexts (in_order d lists is are) there.0 c need there.1 has in
      cell_within lists.contexts (in_order d lists is are) need (b.0, b.2)

  all_within : (c need : ContextPhase) → c.context < length lists.contexts → DependsOn lists.contexts c need → need.context < length lists.contexts
  all_within c need lt (directly _ has) = within c need lt has
  all_within c need lt (through mid _ before has) = within mid need (all_within c mid lt before) has

pub layouts_give_inputs_lem : AnonymousBoxesAreInFlow → LayoutsGiveInputs
layouts_give_inputs_lem calm d face lists values tree is are right assembled =
    let order = in_order d lists is are in
    let flows : AreCalm lists.contexts = λ i k lt anonymous. calm d are.0 lists.contexts i k is (counted d lists is are) are.1.are_contexts lt anonymous in
    let each = λ (c : ℕ) (p : Phase) (lt : c < length lists.contexts). right (in_phase p c) lt in (
      record {
        styles = are.0;
        has_styles = are.1.has_styles;
        contexts = lists.contexts;
        are_contexts = are.1.are_contexts;
        formatting_contexts = lists.formatting_contexts;
        are_formatting_contexts = are.1.are_formatting_contexts;
        solves_contexts = record {
          workings = workings_of lists.contexts values;
          counts = has_counts (medium_of d face) lists.contexts lists.formatting_contexts order flows are.1.are_formatting_contexts values each;
          done = all_done (medium_of d face) lists.contexts lists.formatting_contexts order flows are.1.are_formatting_contexts values each;
          assembled = assembled;
        };
      },
      λ cell lt. record {
        is_document = is;
        lists = lists;
        lists_are = are;
        among = record {
          cell = cell;
          cell_is = record { within = lt; key_is = refl };
          values = values;
          right = λ need on. right need (all_within d is lists are cell need lt on);
          input_is = refl;
        };
      },
    )
