-- Styles that stay: outside a stretch of nodes each node has the parent that it had, with the same declarations, and its parent isn't in
-- the stretch unless it is itself. So its computed style (CSS 2.2, 6.1.2) is what it was.
use Rattle.std.specs.Prelude.{ℕ, ◌≡◌, ◌+◌, ◌<◌, ◌≤◌, List, length, slice_index}
use Rattle.lay_style.specs.declared.style.Style.{Style}
use Rattle.lay_style.specs.Values.{Declaration}
use Rattle.lay_style.specs.ComputedStyle.{computed_style, declarations_at, parent_style, style_at}
use Rattle.lay_after_edits.specs.declared.styles.stretch.Stretch.{Stretch}
use Rattle.lay_after_edits.specs.Styles.Stretches.{earlier}

-- of nodes with these parents and declarations, those outside the stretch have the styles that stood in this list for them
pub record KeepsStyles (parents : List ℕ) (decls : List (List Declaration)) (styles : List Style) (s : Stretch) : Type 0 where
  pub starts : s.from ≤ s.until
  pub some : 0 < s.to
  pub ends : s.from ≤ s.to
  pub within : s.to ≤ length parents
  pub count : length parents + s.until ≡ length styles + s.to
  pub before : (k : ℕ) → k < s.from → style_at styles k ≡ computed_style (parent_style parents styles k) (declarations_at decls k)
  pub outside : (k : ℕ) → s.to ≤ k → k < length parents → s.from ≤ slice_index parents k → s.to ≤ slice_index parents k
  pub behind : (k : ℕ) → s.to ≤ k → k < length parents
      → style_at styles (earlier s k) ≡ computed_style (style_at styles (earlier s (slice_index parents k))) (declarations_at decls k)
