use Rattle.std.proofs.Common.{◌∙◌}
use Rattle.std.proofs.lemmas.List.Elements.{All-same}
use Rattle.lay_drawing.specs.Hits.{hit_pieces}
use Rattle.lay_drawing.specs.Marks.{IsMarked}
use Rattle.lay_drawing.proofs.MarkedPieces.{hit_lem}
use Rattle.lay_drawing.proofs.answer.hit_drawn.Goals as goal

pub drawn-requires : goal.drawn-requires
drawn-requires c =
    All-same IsMarked c.deref.result.now (hit_pieces c.args.name c.args.pieces.now) (c.deref.ensures.value ∙ c.in-Ok.ensures {u = tt}) (hit_lem c.args.name c.args.pieces.now c.requires)
