-- Which line answers `hit`: that of the piece that is seen at a point of the run's document, its editors taken as none.
use Rattle.std.specs.Prelude.{ℕ, ◌≡◌, List, Option}
use Rattle.lay_style.specs.declared.style.Style.{Style}
use Rattle.lay_style.specs.LengthValues.{px}
use Rattle.lay_style.specs.ComputedStyle.{HasStyles}
use Rattle.lay_doc.specs.Document.{parents_of, declarations_of}
use Rattle.lay_frag.specs.declared.frag.Frag.{Frag}
use Rattle.lay_frag.specs.Pieces.{Context}
use Rattle.lay_run.specs.Runs.{Run}
use Rattle.lay_context.specs.Solves.{Solves}
use Rattle.lay_hit.specs.declared.point.Point.{Point}
use Rattle.lay_hit.specs.Hits.{hit_of}
use Rattle.lay_hit.specs.HitLines.{hit_line}
use Rattle.lay_hit.specs.Painted.Laws.{IsPaintedOnce}

-- a point of the page that is given in px
abbrev pub point_at : ℕ → ℕ → Point
point_at x y = record { x = px x; y = px y }

-- The piece is the last that is painted of those that hold the point, of a tree that solves the document and by the
-- document's computed styles; or there is none that holds it. Each box and each text of the tree is painted once.
pub record IsSeen (run : Run) (at : Point) (piece : Option Frag) : Type 0 where
  pub tree : List Context
  pub solves : Solves run.doc run.face tree
  pub styles : List Style
  pub has_styles : HasStyles (parents_of run.doc.nodes) (declarations_of run.doc.nodes) styles
  pub once : IsPaintedOnce run.doc styles tree
  pub last : piece ≡ hit_of run.doc styles tree at.x.0 at.y.0

-- the text is the line of the piece that is seen
pub record IsHitReport (run : Run) (at : Point) (text : List ℕ) : Type 0 where
  pub piece : Option Frag
  pub seen : IsSeen run at piece
  pub text_is : text ≡ hit_line piece
