use Rattle.std.proofs.Common.{◌∙◌, ap, bytes_eq}
use Rattle.std.specs.List.{list_any}
use Rattle.lay_cascade.proofs.ClassSets.{compared}
use Rattle.lay_cascade.proofs.class_sets.ClassSet.has.Goals as goal

pub returns : goal.returns
returns c = λ classes is.
    c.contains_key.ensures ∙ is c.as_bytes.result.now ∙ compared c.as_bytes.result.now classes ∙ ap (λ z. list_any (λ class. bytes_eq class z) classes) c.as_bytes.ensures
