use Rattle.lay_drawing.proofs.Digits.{exact_lem}
use Rattle.lay_drawing.proofs.pixels.fractions_are_exact.Goals as goal

pub returns : goal.returns
returns c = exact_lem
