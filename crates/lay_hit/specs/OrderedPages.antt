-- The page of a document: the root makes a stacking context, parents stand before their children, and only what makes a
-- stacking context has a level.
use Rattle.std.specs.Prelude.{ℕ, ◌≡◌, ◌<◌, pos, false}
use Rattle.lay_hit.specs.declared.kinds.PaintKind.TheVariants.{Stacking}
use Rattle.lay_hit.specs.PaintKinds.{is_stacking}
use Rattle.lay_hit.specs.Pages.{Page}

pub record IsOrdered (p : Page) : Type 0 where
  pub some : 0 < p.count
  pub root : p.kind 0 ≡ Stacking
  pub before : (k : ℕ) → 0 < k → p.parent k < k
  pub level : (k : ℕ) → is_stacking (p.kind k) ≡ false → p.level k ≡ pos 0
