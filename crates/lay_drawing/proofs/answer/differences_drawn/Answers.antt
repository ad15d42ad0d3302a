use Rattle.std.proofs.Common.{◌∙◌}
use Rattle.std.proofs.lemmas.List.Elements.{All-same}
use Rattle.lay_drawing.specs.Marks.{IsMarked}
use Rattle.lay_drawing.specs.Changes.{differences}
use Rattle.lay_drawing.proofs.MarkedPieces.{differences_lem}
use Rattle.lay_drawing.proofs.answer.differences_drawn.Goals as goal

pub drawn-requires : goal.drawn-requires
drawn-requires c =
    All-same IsMarked c.deref.result.now (differences c.args.before.now c.args.after.now) (c.deref.ensures.value ∙ c.in-Ok.ensures {u = tt}) (differences_lem c.args.before.now c.args.after.now c.requires.before c.requires.after)
