-- A document has a layout: it has styles, contexts and formatting contexts, and these have a tree.
use Rattle.std.proofs.Common.{◌≡◌, ◌∙◌, length}
use Rattle.lay_doc.specs.Document.{declarations_of, parents_of}
use Rattle.lay_contexts.specs.FormattingLaws.{FormattingContextsStandInOrder}
use Rattle.lay_context.specs.Solves.{medium_of}
use Rattle.lay_context.specs.SomeLayouts.{SomeLayout, SomeTree}
use Rattle.lay_context.proofs.Cited.{are_contexts, length-parents}
use Rattle.lay_context.proofs.SomeContexts.{some_contexts}
use Rattle.lay_context.proofs.SomeFormatting.{some_formatting_contexts}
use Rattle.lay_context.proofs.SomeStyles.{some_styles}

pub some_layout_lem : SomeTree → FormattingContextsStandInOrder → SomeLayout
some_layout_lem some_tree stand_in_order d face is =
    let styles = some_styles (parents_of d.nodes) (declarations_of d.nodes) is.tree in
    let counted : length styles.0 ≡ length d.nodes = styles.1.length_is ∙ length-parents d.nodes in
    let contexts = some_contexts d styles.0 is counted in
    let are = are_contexts d styles.0 contexts.0 is counted contexts.1 in
    let formatting = some_formatting_contexts contexts.0 are in
    let tree = some_tree (medium_of d face) formatting.0 (stand_in_order contexts.0 formatting.0 are formatting.1) in (
      tree.0,
      record {
        styles = styles.0;
        has_styles = styles.1;
        contexts = contexts.0;
        are_contexts = contexts.1;
        formatting_contexts = formatting.0;
        are_formatting_contexts = formatting.1;
        solves_contexts = tree.1;
      },
    )
