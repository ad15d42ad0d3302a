use Rattle.lay_hit.proofs.painted.laws.solved_documents_are_painted_once.Goals as goal

pub returns : goal.returns
returns c d face styles tree doc solves = c.paints_each_once.ensures d styles tree doc (c.solved_pieces_are_of_nodes.ensures d face tree doc solves)
