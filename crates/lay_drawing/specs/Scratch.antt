-- What `lay scratch` writes is a report that shows the pieces of its tree, in their order.
use Rattle.std.specs.Prelude.{List, None}
use Rattle.std.specs.List.{All}
use Rattle.lay_frag.specs.Pieces.{Context, frags_of}
use Rattle.lay_report.specs.Report.{scratch_report}
use Rattle.lay_drawing.specs.Lines.{IsPiece}
use Rattle.lay_drawing.specs.Reports.{ShowsPieces}

abbrev pub ScratchReportsShow : Type 0
ScratchReportsShow = (tree : List Context) → All IsPiece (frags_of tree) → ShowsPieces (scratch_report tree) None (frags_of tree)
