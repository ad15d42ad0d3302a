-- The line that says which piece is seen at a point: its kind, its node and its part, or that none is.
use Rattle.std.specs.Prelude.{ℕ, List, ◌++◌, codes, Option, Some, None}
use Rattle.std.specs.Fmt.{decimal}
use Rattle.lay_frag.specs.declared.frag.Frag.{Frag}
use Rattle.lay_frag.specs.Lines.{kind_word}

abbrev pub piece_name : Frag → List ℕ
piece_name f = kind_word f.kind ++ codes " " ++ decimal f.node.0 ++ codes " " ++ decimal f.part

abbrev pub hit_line : Option Frag → List ℕ
hit_line None = codes "hit none\n"
hit_line (Some f) = codes "hit " ++ piece_name f ++ codes "\n"
