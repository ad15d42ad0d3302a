-- Strokes that are drawn as one. Bits of a text that stand side by side on a line show nothing else than one bit that reaches
-- over them all.
use Rattle.std.specs.Prelude.{◌≡◌, ℤ, List, ◌++◌, All}
use Rattle.lay_lines.specs.declared.content.content.InlineArea.{InlineArea}
use Rattle.lay_inlines.specs.declared.strokes.Stroke.{Stroke}
use Rattle.lay_inlines.specs.Bounds.{StrokeWithin}
use Rattle.lay_inlines.specs.Spans.{ended_right_edges, spans_of}
use Rattle.lay_inlines.specs.Strokes.{has_content}

-- `new` shows the same as `old`, whatever stands behind them on the line
pub record LookAs (new old : List Stroke) : Type 0 where
  pub content : (rest : List Stroke) → has_content (new ++ rest) ≡ has_content (old ++ rest)
  pub edges : (areas : List InlineArea) (rest : List Stroke) → ended_right_edges areas (new ++ rest) ≡ ended_right_edges areas (old ++ rest)
  pub spans : (areas : List InlineArea) (end : ℤ) (rest : List Stroke) → spans_of areas end (new ++ rest) ≡ spans_of areas end (old ++ rest)
  pub within : All StrokeWithin old → All StrokeWithin new
