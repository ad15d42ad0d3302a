use Rattle.std.proofs.Common.{◌∙◌}
use Rattle.std.proofs.lemmas.List.Elements.{All-same}
use Rattle.lay_drawing.specs.Marks.{IsMarked, plain_pieces}
use Rattle.lay_drawing.proofs.MarkedPieces.{plain_lem}
use Rattle.lay_drawing.proofs.answer.tree_drawn.Goals as goal

pub drawn-requires : goal.drawn-requires
drawn-requires c =
    All-same IsMarked c.deref.result.now (plain_pieces c.args.pieces.now) (c.deref.ensures.value ∙ c.in-Ok.ensures {u = tt}) (plain_lem c.args.pieces.now c.requires)
