-- Conflicts of collapsed borders (CSS 2.2, 17.6.2.1): which of the borders that meet at an edge
-- wins.
--
-- The rules are asked in turn, and the first that tells two borders apart decides:
--   1. a border of the style `hidden` wins over all others;
--   2. a border of the style `none` loses to all others;
--   3. the wider border wins; of equal widths the style decides, from the strongest on `double`,
--      `solid`, `dashed`, `dotted`, `ridge`, `outset`, `groove`, `inset`;
--   4. a border of a cell wins over one of a row, that over one of a row group, a column, a column
--      group and, last, of the table; of two elements of one kind the one further left wins, and
--      then the one further up.
-- Two borders of the style `hidden`, or of `none`, are told apart by rules 3 and 4 as well. None is
-- drawn then, so it can't be seen which of them won.
use Rattle.std.specs.Prelude.{ℕ, ℤ, pos, ◌≡◌, ◌⊎◌, ◌<ℤ◌, List, slice_get, Some}
use Rattle.lay_borders.specs.declared.candidate.BorderStyle.{BorderStyle}
use Rattle.lay_borders.specs.declared.candidate.BorderStyle.TheVariants.{None as none}
use Rattle.lay_borders.specs.declared.candidate.BorderStyle.TheVariants.{Hidden as hidden}
use Rattle.lay_borders.specs.declared.candidate.BorderStyle.TheVariants.{Dotted as dotted}
use Rattle.lay_borders.specs.declared.candidate.BorderStyle.TheVariants.{Dashed as dashed}
use Rattle.lay_borders.specs.declared.candidate.BorderStyle.TheVariants.{Solid as solid}
use Rattle.lay_borders.specs.declared.candidate.BorderStyle.TheVariants.{Double as double}
use Rattle.lay_borders.specs.declared.candidate.BorderStyle.TheVariants.{Groove as groove}
use Rattle.lay_borders.specs.declared.candidate.BorderStyle.TheVariants.{Ridge as ridge}
use Rattle.lay_borders.specs.declared.candidate.BorderStyle.TheVariants.{Inset as inset}
use Rattle.lay_borders.specs.declared.candidate.BorderStyle.TheVariants.{Outset as outset}
use Rattle.lay_borders.specs.declared.candidate.Origin.{Origin}
use Rattle.lay_borders.specs.declared.candidate.Origin.TheVariants.{Cell as cell}
use Rattle.lay_borders.specs.declared.candidate.Origin.TheVariants.{Row as row_}
use Rattle.lay_borders.specs.declared.candidate.Origin.TheVariants.{RowGroup as row_group}
use Rattle.lay_borders.specs.declared.candidate.Origin.TheVariants.{Column as column_}
use Rattle.lay_borders.specs.declared.candidate.Origin.TheVariants.{ColumnGroup as column_group}
use Rattle.lay_borders.specs.declared.candidate.Origin.TheVariants.{Table as table}
use Rattle.lay_borders.specs.declared.candidate.Cand.{Cand}

-- rule 1: 1 for `hidden` alone
abbrev pub hidden_rank : BorderStyle → ℕ
hidden_rank hidden = 1
hidden_rank _ = 0

-- rule 2: 0 for `none` alone
abbrev pub seen_rank : BorderStyle → ℕ
seen_rank none = 0
seen_rank _ = 1

-- rule 3: the strength of a style; `hidden` and `none` never meet another style here
abbrev pub style_rank : BorderStyle → ℕ
style_rank hidden = 9
style_rank double = 8
style_rank solid = 7
style_rank dashed = 6
style_rank dotted = 5
style_rank ridge = 4
style_rank outset = 3
style_rank groove = 2
style_rank inset = 1
style_rank none = 0

-- rule 4: the strength of an origin
abbrev pub origin_rank : Origin → ℕ
origin_rank cell = 5
origin_rank row_ = 4
origin_rank row_group = 3
origin_rank column_ = 2
origin_rank column_group = 1
origin_rank table = 0

-- a rule by which the greater number wins; where it doesn't tell them apart, what follows decides
abbrev pub Decides : ℤ → ℤ → Type 0 → Type 0
Decides a b Rest = (b <ℤ a) ⊎ ((a ≡ b) × Rest)

-- the border a wins over the border b
abbrev pub Beats : Cand → Cand → Type 0
Beats a b =
    Decides (pos (hidden_rank a.style)) (pos (hidden_rank b.style))
    (Decides (pos (seen_rank a.style)) (pos (seen_rank b.style))
    (Decides a.width.0 b.width.0
    (Decides (pos (style_rank a.style)) (pos (style_rank b.style))
    (Decides (pos (origin_rank a.origin)) (pos (origin_rank b.origin))
    (Decides (pos b.column) (pos a.column)
    (pos a.row <ℤ pos b.row))))))

-- the border that wins over all others that meet it
pub record IsWinner (borders : List Cand) (w : Cand) : Type 0 where
  pub one_of : (k : ℕ) × (slice_get borders k ≡ Some w)
  pub beats : (k : ℕ) (other : Cand) → slice_get borders k ≡ Some other
      → (other ≡ w) ⊎ Beats w other
