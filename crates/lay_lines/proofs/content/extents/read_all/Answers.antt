use Rattle.std.proofs.Common.{drop}
use Rattle.lay_lines.specs.Content.Extents.{reading_of}
use Rattle.lay_lines.proofs.ContentLemmas.LineParts.{read_few}
use Rattle.lay_lines.proofs.content.extents.read_all.Goals as goal

pub read-requires : goal.read-requires
read-requires c = read_few (reading_of c.loop-k.boxes.items c.loop-k.line) (drop c.loop-k.k c.args.parts.now) _ c.loop-k.invariant c.requires
