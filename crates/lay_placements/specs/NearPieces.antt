-- Pieces that are near the corner from which they are counted.
use Rattle.std.specs.Prelude.{ℕ, ◌<◌, List, length, slice_get, IfSome}
use Rattle.lay_units.specs.declared.records.Rect.{Rect}
use Rattle.lay_units.specs.Units.{IsNear}
use Rattle.lay_frag.specs.declared.frag.Frag.{Frag}

pub record IsRectNear (r : Rect) : Type 0 where
  pub x : IsNear r.x.0
  pub y : IsNear r.y.0
  pub w : IsNear r.w.0
  pub h : IsNear r.h.0

abbrev pub AreNearPieces : List Frag → Type 0
AreNearPieces pieces = (k : ℕ) → k < length pieces → IfSome (slice_get pieces k) (λ f. IsRectNear f.rect)
