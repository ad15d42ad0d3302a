use Rattle.std.proofs.Common.{List, sym, subst}
use Rattle.lay_units.specs.declared.length.Unit.{Unit}
use Rattle.lay_valign.specs.LineShape.{IsShape}
use Rattle.lay_lines.specs.Content.Extents.{strut_alone, shape_of}
use Rattle.lay_lines.proofs.ContentLemmas.TextLines.{strut_shape_is}
use Rattle.lay_lines.proofs.content.extents.strut_shape.Goals as goal

pub returns : goal.returns
returns c = subst (λ (shifts : List Unit). IsShape (strut_alone c.args.strut).parts (shape_of shifts c.args.strut)) (sym c.one.ensures) (strut_shape_is c.args.strut)
