use Rattle.lay_placements.specs.Splicing.{spliced}
use Rattle.lay_placements.proofs.PieceSteps.{next_piece}
use Rattle.lay_placements.proofs.piece_list.PieceList.push_spliced.Goals as goal

pub loop-k-preserved : goal.loop-k-preserved
loop-k-preserved c =
    next_piece c.args.self.now (spliced c.args.width c.args.standing c.args.pieces.now) c.loop-k.k c.spliced_piece.result c.loop-k.self c.push.new.self c.spliced_piece.ensures c.loop-k.invariant (c.in_ok-push.ensures {u = tt}).ok
