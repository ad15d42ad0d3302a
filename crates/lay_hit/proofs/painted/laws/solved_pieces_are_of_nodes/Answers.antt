use Rattle.lay_hit.proofs.PaintedLemmas.TreePieces.{solved_pieces_are_of_nodes_lem}
use Rattle.lay_hit.proofs.painted.laws.solved_pieces_are_of_nodes.Goals as goal

pub returns : goal.returns
returns c = solved_pieces_are_of_nodes_lem c.formatting_contexts_stand_in_order.ensures
