use Rattle.std.proofs.Common.{◌∙◌, ap}
use Rattle.std.specs.Prelude.{is_some}
use Rattle.lay_cascade.proofs.StyledLemmas.Restyling.{declares_read}
use Rattle.lay_cascade.proofs.styled.styling.declares.Goals as goal

pub returns : goal.returns
returns c = c.is_some.ensures ∙ ap is_some c.get.ensures ∙ declares_read c.args.nodes.now c.args.k c.index-nodes-k.result c.args.property c.requires
