use Rattle.std.proofs.Common.{◌≡◌, ◌++◌, drop, string_bytes}
use Rattle.lay_drawing.specs.Picture.{label_texts}
use Rattle.lay_drawing.proofs.picture.push_labels.Given as goal

abbrev pub invariant-loop-label : goal.invariant-loop-label
invariant-loop-label l = string_bytes l.text ++ label_texts (drop l.label-index l.labels) ≡ string_bytes l.fn.text ++ label_texts l.labels
