-- Lines, segments and items that give anchors their tops, one after another.
use Rattle.std.proofs.Common.{◌≡◌, ℕ, ◌||◌, Bool, true, false, List, [], ◌∷◌, ◌++◌, take, drop, Option, Some, None, refl, ap, ◌∙◌, if◌then◌else◌}
use Rattle.std.specs.List.{list_any}
use Rattle.std.specs.Option.{option_or}
use Rattle.std.proofs.lemmas.List.Folds.{list_any-append}
use Rattle.std.proofs.Math.Bool.{or-false}
use Rattle.lay_units.specs.declared.length.Unit.{Unit as Length}
use Rattle.lay_space.specs.declared.item.Item.{Item}
use Rattle.lay_space.specs.declared.segment.Segment.{Segment}
use Rattle.lay_lines.specs.declared.row.Ended.{Ended}
use Rattle.lay_placement.specs.AnchorLines.{top_in_line, top_in_segment, top_of_item}
use Rattle.lay_placement.specs.StaticPositions.{holds_anchor, is_anchor_of, line_top}

any_more : {X : Type 0} (f : X → Bool) (xs : List X) (x : X) → list_any f (xs ++ x ∷ []) ≡ (list_any f xs || f x)
any_more f xs x = list_any-append f xs (x ∷ []) ∙ ap (λ b. list_any f xs || b) (or-false (f x))

by_or : (a b : Bool) (top : Length) → (if a || b then Some top else None) ≡ option_or (if a then Some top else None) (if b then Some top else None)
by_or true b top = refl
by_or false b top = refl

pub one_more_item : (items : List Item) (item : Item) (top : Length) (k : ℕ) → top_in_segment (items ++ item ∷ []) top k ≡ option_or (top_in_segment items top k) (top_of_item item top k)
one_more_item items item top k =
    ap (λ (b : Bool). if b then Some top else None) (any_more (is_anchor_of k) items item) ∙ by_or (list_any (is_anchor_of k) items) (is_anchor_of k item) top

pub one_more_segment : (segments : List Segment) (s : Segment) (top : Length) (k : ℕ) → top_in_line (segments ++ s ∷ []) top k ≡ option_or (top_in_line segments top k) (top_in_segment s.items top k)
one_more_segment segments s top k =
    ap (λ (b : Bool). if b then Some top else None) (any_more (holds_anchor k) segments s) ∙ by_or (list_any (holds_anchor k) segments) (holds_anchor k s) top

-- what these lines leave
abbrev pub rest_after : List Ended → List Segment → List Segment
rest_after [] segments = segments
rest_after (row ∷ rows) segments = rest_after rows (drop row.reach.count segments)

pub rest_more : (rows : List Ended) (row : Ended) (segments : List Segment) → rest_after (rows ++ row ∷ []) segments ≡ drop row.reach.count (rest_after rows segments)
rest_more [] row segments = refl
rest_more (x ∷ xs) row segments = rest_more xs row (drop x.reach.count segments)

if_or : (b : Bool) (top : Length) (y z w : Option Length) → y ≡ option_or z w → (if b then Some top else y) ≡ option_or (if b then Some top else z) w
if_or true top y z w is = refl
if_or false top y z w is = is

pub one_more_row : (rows : List Ended) (row : Ended) (segments : List Segment) (k : ℕ)
    → line_top (rows ++ row ∷ []) segments k ≡ option_or (line_top rows segments k) (top_in_line (take row.reach.count (rest_after rows segments)) row.top k)
one_more_row [] row segments k = refl
one_more_row (x ∷ xs) row segments k =
    if_or (list_any (holds_anchor k) (take x.reach.count segments)) x.top (line_top (xs ++ row ∷ []) (drop x.reach.count segments) k) (line_top xs (drop x.reach.count segments) k)
    (top_in_line (take row.reach.count (rest_after xs (drop x.reach.count segments))) row.top k) (one_more_row xs row (drop x.reach.count segments) k)
