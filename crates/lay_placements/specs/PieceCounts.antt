-- What is kept of pieces while they are put together, so that the part of the next one is at hand.
use Rattle.std.specs.Prelude.{ℕ, suc, ◌≡◌, ◌+◌, ◌≤◌, ◌==◌, List, [], ◌∷◌, length, take, drop, if◌then◌else◌}
use Rattle.std.specs.Option.{unwrap_or}
use Rattle.std.specs.Ordering.{nat_cmp}
use Rattle.std.specs.BTreeMap.{BTreeMap, get}
use Rattle.lay_frag.specs.declared.frag.Frag.{Frag}
use Rattle.lay_frag.specs.declared.frag.FragKind.{FragKind}
use Rattle.lay_frag.specs.declared.frag.FragKind.TheVariants.{Box, Line, Text}
use Rattle.lay_placements.specs.declared.piece_list.TheConstants.{FIRST_PIECES}
use Rattle.lay_placements.specs.declared.node_counts.Counts.{Counts}
use Rattle.lay_placements.specs.declared.node_counts.NodeCounts.{NodeCounts}
use Rattle.lay_placements.specs.PieceParts.{count_of}

abbrev pub no_counts : Counts
no_counts = record { boxes = 0; lines = 0; texts = 0 }

abbrev pub count_in : Counts → FragKind → ℕ
count_in counts Box = counts.boxes
count_in counts Line = counts.lines
count_in counts Text = counts.texts

-- with one more of this kind
abbrev pub with_one : Counts → FragKind → Counts
with_one counts Box = record { boxes = counts.boxes + 1; lines = counts.lines; texts = counts.texts }
with_one counts Line = record { boxes = counts.boxes; lines = counts.lines + 1; texts = counts.texts }
with_one counts Text = record { boxes = counts.boxes; lines = counts.lines; texts = counts.texts + 1 }

-- what a map says of the node with this id
abbrev pub counted_apart : BTreeMap ℕ Counts → ℕ → Counts
counted_apart map id = unwrap_or (get nat_cmp map id) no_counts

-- the same of a table of the ids from the first on, with a map of others
abbrev pub counts_in : (first : ℕ) → List Counts → BTreeMap ℕ Counts → ℕ → Counts
counts_in first [] map id = counted_apart map id
counts_in first (counts ∷ table) map id = if first == id then counts else counts_in (suc first) table map id

abbrev pub counts_of : NodeCounts → ℕ → Counts
counts_of c id = counts_in c.first c.table.items c.others id

-- the pieces that are looked at one by one, and those behind them
abbrev pub first_of : List Frag → List Frag
first_of pieces = take FIRST_PIECES pieces

abbrev pub behind_first : List Frag → List Frag
behind_first pieces = drop FIRST_PIECES pieces

-- counts say of each node how many of these pieces behind the first are its own, and they are few
pub record AreCounted (pieces : List Frag) (counts : NodeCounts) : Type 0 where
  pub each : (kind : FragKind) (id : ℕ) → count_in (counts_of counts id) kind ≡ count_of kind id (behind_first pieces)
  pub few : length pieces ≤ 2147483648
