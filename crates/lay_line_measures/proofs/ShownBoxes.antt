-- An inline box that makes each of its lines seen is seen where it starts.
use Rattle.std.proofs.Common.{◌≡◌, ℕ, zero, suc, Bool, true, false, ◌||◌, ◌&&◌, if◌then◌else◌, List, [], ◌∷◌, ◌++◌, take, drop, sym, ap, ◌∙◌, Option, Some, None}
use Rattle.std.specs.Bool.{⊤}
use Rattle.std.specs.List.{list_any, slice_get}
use Rattle.std.proofs.lemmas.Bool.{or_left}
use Rattle.std.proofs.Math.Bool.{or-false}
use Rattle.lay_units.specs.declared.length.Unit.{Unit as Length}
use Rattle.lay_units.specs.declared.records.ClusterWidth.{ClusterWidth}
use Rattle.lay_space.specs.declared.item.Item.{Item}
use Rattle.lay_space.specs.declared.item.Item.TheVariants as item
use Rattle.lay_space.specs.declared.segment.Segment.{Segment}
use Rattle.lay_space.specs.declared.tokens.ClusterKind.{ClusterKind}
use Rattle.lay_space.specs.declared.tokens.ClusterKind.TheVariants.{CollapsibleSpace, PreservedSpace, Linefeed, Tab, ZeroWidthSpace, Other}
use Rattle.lay_space.specs.Modes.{wraps}
use Rattle.lay_space.specs.Tokens.{kind_of, next_place}
use Rattle.lay_lines.specs.declared.content.content.Part.{Part}
use Rattle.lay_lines.specs.declared.content.content.Part.TheVariants as part
use Rattle.lay_lines.specs.declared.content.content.InlineStart.{InlineStart}
use Rattle.lay_lines.specs.declared.content.content.Stretch.{Stretch}
use Rattle.lay_lines.specs.declared.content.frame.Frame.{Frame}
use Rattle.lay_lines.specs.Content.Extents.{Reading, any_shows, read, read_all, read_at, reading_to}
use Rattle.lay_sizes.specs.SizeColumns.{sizes_at}
use Rattle.lay_line_measures.specs.declared.container.Container.{Container}
use Rattle.lay_line_measures.specs.BoxMeasuresValue.{BoxMeasuresValue, part_at}
use Rattle.lay_line_measures.specs.InlineBoxes.{shows_vertical_edge, shows_left_edge}
use Rattle.lay_line_measures.specs.SeenLines.{is_seen, has_seen_line}
use Rattle.lay_line_measures.specs.Stretches.{parts_at, parts_of, stretches_of}
use Rattle.lay_line_measures.specs.declared.text_parts.TextBox.{TextBox}
use Rattle.lay_line_measures.specs.TextParts.{cluster_parts, parts_between, text_parts}
use Rattle.lay_line_measures.proofs.Disjunctions.{or_assoc, or_more, or_through}
use Rattle.lay_line_measures.proofs.SeenPens.{seen_at, take_more}

abbrev pub shows : Part → Bool
shows (part.Start b) = b.shows
shows _ = false

-- what shows is seen
abbrev pub AreSeen : List Part → Type 0
AreSeen [] = ⊤
AreSeen (x ∷ xs) = (shows x ≡ true → is_seen x ≡ true) × AreSeen xs

abbrev pub AllAreSeen : List Stretch → Type 0
AllAreSeen [] = ⊤
AllAreSeen (s ∷ ss) = AreSeen s.parts × AllAreSeen ss

abbrev SomeAreSeen : Option Stretch → Type 0
SomeAreSeen None = ⊤
SomeAreSeen (Some s) = AreSeen s.parts

pub dropped : (n : ℕ) (ss : List Stretch) → AllAreSeen ss → AllAreSeen (drop n ss)
dropped zero ss are = are
dropped (suc n) [] are = tt
dropped (suc n) (s ∷ ss) are = dropped n ss are.1

some_are : (ss : List Stretch) (k : ℕ) → AllAreSeen ss → SomeAreSeen (slice_get ss k)
some_are [] k are = tt
some_are (s ∷ ss) zero are = are.0
some_are (s ∷ ss) (suc k) are = some_are ss k are.1

one_more : (bs : List InlineStart) (b : InlineStart) → any_shows (bs ++ b ∷ []) ≡ (any_shows bs || b.shows)
one_more [] b = or-false b.shows
one_more (c ∷ bs) b = ap (λ x. c.shows || x) (one_more bs b) ∙ sym (or_assoc c.shows (any_shows bs) b.shows)

some_left : (n : ℕ) (bs : List InlineStart) → any_shows (take n bs) ≡ true → any_shows bs ≡ true
some_left zero bs e = absurd (never e)
  where
    never : false ≡ true → ⊥
    never h = cc
some_left (suc n) [] e = e
some_left (suc n) (b ∷ bs) e = or_more b.shows (any_shows (take n bs)) (any_shows bs) (some_left n bs) e

read_shows : (r : Reading) (x : Part) → (shows x ≡ true → is_seen x ≡ true) → any_shows (read r x).open_boxes ≡ true → (any_shows r.open_boxes || is_seen x) ≡ true
read_shows r (part.Space a) seen e = or_left (any_shows r.open_boxes) false e
read_shows r (part.PreservedSpace a) seen e = or_left (any_shows r.open_boxes) true e
read_shows r (part.Tab t) seen e = or_left (any_shows r.open_boxes) true e
read_shows r part.Linefeed seen e = or_left (any_shows r.open_boxes) true e
read_shows r (part.Text a) seen e = or_left (any_shows r.open_boxes) true e
read_shows r (part.Start b) seen e = or_more (any_shows r.open_boxes) b.shows b.seen seen (sym (one_more r.open_boxes b) ∙ e)
read_shows r (part.End b) seen e = or_left (any_shows r.open_boxes) b.seen (some_left _ r.open_boxes e)
read_shows r (part.Atomic a) seen e = or_left (any_shows r.open_boxes) true e

read_all_shows : (r : Reading) (xs : List Part) → AreSeen xs → any_shows (read_all r xs).open_boxes ≡ true
    → (any_shows r.open_boxes || list_any is_seen xs) ≡ true
read_all_shows r [] are e = or_left (any_shows r.open_boxes) false e
read_all_shows r (x ∷ xs) are e =
    or_through (any_shows r.open_boxes) (is_seen x) (list_any is_seen xs) (any_shows (read r x).open_boxes) (read_shows r x are.0)
    (read_all_shows (read r x) xs are.1 e)

read_at_shows : (r : Reading) (o : Option Stretch) → SomeAreSeen o → any_shows (read_at r o).open_boxes ≡ true
    → (any_shows r.open_boxes || seen_at o) ≡ true
read_at_shows r None are e = or_left (any_shows r.open_boxes) false e
read_at_shows r (Some s) are e = read_all_shows r s.parts are e

-- an open box that shows was open before, or a part is seen
pub reading_shows : (fr : Frame) (bs : List InlineStart) (ss : List Stretch) (k : ℕ) → AllAreSeen ss → any_shows (reading_to fr bs ss k).open_boxes ≡ true
    → (any_shows bs || has_seen_line (take k ss)) ≡ true
reading_shows fr bs ss zero are e = or_left (any_shows bs) false e
reading_shows fr bs ss (suc k) are e =
    ap (λ b. any_shows bs || b) (take_more ss k)
    ∙ or_through (any_shows bs) (has_seen_line (take k ss)) (seen_at (slice_get ss k)) (any_shows (reading_to fr bs ss k).open_boxes)
    (reading_shows fr bs ss k are)
    (read_at_shows (reading_to fr bs ss k) (slice_get ss k) (some_are ss k are) e)

both_seen : (xs ys : List Part) → AreSeen xs → AreSeen ys → AreSeen (xs ++ ys)
both_seen [] ys a b = b
both_seen (x ∷ xs) ys a b = (a.0, both_seen xs ys a.1 b)

never_shows : (b : Bool) → false ≡ true → b ≡ true
never_shows b e = absurd cc

cluster_seen : (t : TextBox) (kind : ClusterKind) (lone : Bool) (width : Length) → AreSeen (cluster_parts t kind lone width)
cluster_seen t CollapsibleSpace lone width = (never_shows false, tt)
cluster_seen t PreservedSpace lone width = of_mode (wraps t.mode)
  where
    of_mode : (b : Bool) → AreSeen (if b then part.PreservedSpace (record { text = t.node; width = width }) ∷ [] else part.Text (record { text = t.node; width = width }) ∷ [])
    of_mode true = (never_shows true, tt)
    of_mode false = (never_shows true, tt)
cluster_seen t Linefeed true width = (never_shows true, tt)
cluster_seen t Linefeed false width = (never_shows true, (never_shows true, tt))
cluster_seen t Tab lone width = (never_shows true, tt)
cluster_seen t ZeroWidthSpace lone width = (never_shows true, tt)
cluster_seen t Other lone width = (never_shows true, tt)

text_seen : (t : TextBox) (text : List ℕ) (ws : List ClusterWidth) → AreSeen (text_parts t text ws)
text_seen t text [] = tt
text_seen t text (w ∷ ws) =
    both_seen (parts_between t text w (next_place text ws)) (text_parts t text ws)
    (cluster_seen t (kind_of t.mode text w.place (next_place text ws)) _ w.width) (text_seen t text ws)

item_seen : (m : BoxMeasuresValue) (x : Item) → AreSeen (parts_at m x)
item_seen m (item.Text k text mode widths) = text_seen (record { node = k; mode = mode }) text widths
item_seen m (item.Start k takes) = (or_left (shows_vertical_edge (sizes_at m.sizes k)) ((part_at m k).first && shows_left_edge (sizes_at m.sizes k)), tt)
item_seen m (item.End k) = (never_shows _, tt)
item_seen m (item.Atomic k mode) = (never_shows true, tt)
item_seen m (item.Float k) = tt
item_seen m (item.Anchor k) = tt

items_seen : (m : BoxMeasuresValue) (xs : List Item) → AreSeen (parts_of m xs)
items_seen m [] = tt
items_seen m (x ∷ xs) = both_seen (parts_at m x) (parts_of m xs) (item_seen m x) (items_seen m xs)

-- so it is in all content
pub stretches_seen : (m : BoxMeasuresValue) (c : Container) (begins : Bool) (ss : List Segment) → AllAreSeen (stretches_of m c begins ss)
stretches_seen m c begins [] = tt
stretches_seen m c begins (s ∷ ss) = (items_seen m s.items, stretches_seen m c s.forced ss)
