use Rattle.lay_lines.proofs.PlacedFloats.{each_float_has_a_place_lem}
use Rattle.lay_lines.proofs.laws.each_float_has_a_place.Goals as goal

pub returns : goal.returns
returns c = each_float_has_a_place_lem
