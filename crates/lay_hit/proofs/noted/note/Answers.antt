use Rattle.std.proofs.Common.{◌<◌, ◌∙◌, length, sym}
use Rattle.lay_hit.proofs.NotedPieces.{noted_at, noted_nowhere}
use Rattle.lay_hit.proofs.noted.note.Goals as goal

pub returns-clause-noted : goal.returns-clause-noted
returns-clause-noted c fs before =
    let within : c.in-Some.place < length c.args.q.now.doc.now.nodes = (c.in-Some.ensures {u = tt}).within in
    noted_at c.args.q.now fs c.args.frag c.args.noted.now before c.node_of_piece.ensures.valid c.in-Some.place within (sym c.node_of_piece.ensures.node ∙ c.in-Some.is) c.requires.holds c.note_at.new.noted (c.in_ok-note_at.ensures {u = tt}).noted

pub returns-in_default-clause-noted : goal.returns-in_default-clause-noted
returns-in_default-clause-noted c fs before = noted_nowhere c.args.q.now fs c.args.frag c.args.noted.now before c.node_of_piece.ensures.valid (sym c.node_of_piece.ensures.node ∙ c.in_default.is)
