use Rattle.std.proofs.Common.{◌∙◌, ℕ, List, sym, ap, subst}
use Rattle.std.specs.List.{list_any}
use Rattle.lay_sheet.specs.declared.selector.Step.{Step}
use Rattle.lay_cascade.specs.declared.windows.Place.TheVariants as at
use Rattle.lay_cascade.specs.Windows.{IsMask, asks_name, mask_of}
use Rattle.lay_cascade.proofs.Masks.{fits_mask}
use Rattle.lay_cascade.proofs.fitting.by_names.Goals as goal

pub returns : goal.returns
returns c =
    let window = c.args.window.now in
    let names = c.args.names.now in
    let tagged = subst (λ (z : ℕ). IsMask window.steps.now window.from window.count (asks_name at.Tag names.tag) z)
    (sym (c.of-tagged.ensures ∙ ap (mask_of window.tags) (c.as_bytes.ensures.value ∙ c.as_str.ensures))) (c.requires.tags names.tag) in
    let labelled = subst (λ (z : ℕ). IsMask window.steps.now window.from window.count (asks_name at.Label names.label) z)
    (sym (c.of-labelled.ensures ∙ ap (mask_of window.labels) (c.as_bytes-2.ensures.value ∙ c.as_str-2.ensures))) (c.requires.labels names.label) in
    let classed = subst (λ (z : List (List ℕ)). IsMask window.steps.now window.from window.count (λ (s : Step). list_any (λ class. asks_name at.Classes class s) z) c.class_word-classed.result)
    c.as_slice.ensures c.class_word-classed.ensures in
    fits_mask window.steps.now window.from window.count names window.universal c.of-tagged.result c.of-labelled.result c.class_word-classed.result c.requires.universal tagged labelled classed
