-- Where the strokes of a line lie.
use Rattle.std.specs.Prelude.{List, [], ◌∷◌, ◌++◌, Option, Some, None}
use Rattle.lay_inlines.specs.declared.strokes.Stroke.{Stroke}

abbrev pub strokes_in : List Stroke → Option Stroke → List Stroke
strokes_in front None = []
strokes_in front (Some last) = front ++ last ∷ []
