use Rattle.std.proofs.Common.{◌≡◌, [], drop, fold}
use Rattle.lay_drawing.specs.Labels.{label_for, with_label}
use Rattle.lay_drawing.proofs.label.labels_of.Given as goal

abbrev pub invariant-loop-piece : goal.invariant-loop-piece
invariant-loop-piece l =
    fold (λ labels m. with_label labels (label_for labels m)) l.labels.items (drop l.piece-index l.pieces) ≡ fold (λ labels m. with_label labels (label_for labels m)) [] l.pieces
