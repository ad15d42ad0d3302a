-- The frontmost of some nodes or pieces, and of each node the frontmost of those that it paints in which a piece holds the
-- point.
use Rattle.std.specs.Prelude.{ℕ, ◌≡◌, ◌-◌, ◌<◌, ◌==◌, Bool, true, ◌&&◌, ◌||◌, not, List, [], ◌∷◌, length}
use Rattle.std.specs.Prelude.{filter, nat_le, Option, Some, None, unwrap_or, is_some, if◌then◌else◌}
use Rattle.std.specs.List.{range_with_len}
use Rattle.lay_frag.specs.declared.frag.Frag.{Frag}
use Rattle.lay_hit.specs.declared.kinds.PaintKind.{PaintKind}
use Rattle.lay_hit.specs.declared.question.Question.{Question}
use Rattle.lay_hit.specs.declared.waiting.Waiting.{Waiting}
use Rattle.lay_hit.specs.PaintKinds.{forms_group, is_stacking}
use Rattle.lay_hit.specs.Pages.{Page}
use Rattle.lay_hit.specs.Questions.{page, seen_in}
use Rattle.lay_hit.specs.Ranks.{is_of_owner, painter_at}
use Rattle.lay_hit.specs.Wholes.{is_painted_under}

-- the later of two, where the second stands behind the first and so comes later among equals
abbrev pub later_of : {X : Type 0} → (X → X → Bool) → Option X → Option X → Option X
later_of le None b = b
later_of le (Some x) None = Some x
later_of le (Some x) (Some y) = if le x y then Some y else Some x

abbrev pub if_counts : {X : Type 0} → (X → Bool) → X → Option X
if_counts counts x = if counts x then Some x else None

-- the last in order of those that count
abbrev pub last_in_order : {X : Type 0} → (X → X → Bool) → (X → Bool) → List X → Option X
last_in_order le counts [] = None
last_in_order le counts (x ∷ xs) = later_of le (if_counts counts x) (last_in_order le counts xs)

-- the piece that is painted later, of one that may have been noted and another of the same node
abbrev pub later_piece : Option Frag → Frag → Frag
later_piece None f = f
later_piece (Some g) f = if nat_le g.part f.part then f else g

-- among the nodes from n on, the frontmost of those that g paints in which a piece is seen, and 0 where there is none
abbrev pub front_from : Question → ℕ → ℕ → ℕ
front_from q n g =
    unwrap_or
    (last_in_order (is_painted_under (page q)) (λ k. is_some (seen_in q k))
    (filter (λ k. painter_at (page q) k == g) (range_with_len n (length q.doc.now.nodes - n)))) 0

-- the node at j is painted no later than that at k, and stands first if they are of equal rank
abbrev pub is_behind : Page → ℕ → ℕ → Bool
is_behind p j k = is_painted_under p j k && (not (is_painted_under p k j) || nat_le j k)

-- the one of two that is in front; 0 is none
abbrev pub in_front : Page → ℕ → ℕ → ℕ
in_front p j k = if j == 0 then k else (if k == 0 then j else (if is_behind p j k then k else j))

-- f is the frontmost of these nodes, and 0 where there is none
pub record IsFrontmost (p : Page) (among : ℕ → Type 0) (f : ℕ) : Type 0 where
  pub one : 0 < f → among f
  pub all : (k : ℕ) → among k → (0 < f) × (is_behind p k f ≡ true)

-- of the nodes that wait at a node of this kind, the frontmost that it paints
abbrev pub front_in : Page → PaintKind → Waiting → ℕ
front_in p kind w = if forms_group kind then (if is_stacking kind then in_front p w.group w.owner else w.group) else 0

-- the frontmost of those that wait at the node at k and of itself, if it counts; where the node ends their way, of itself alone
abbrev pub passed : Page → (ends : Bool) → (inner : ℕ) → (counts : Bool) → ℕ → ℕ
passed p ends inner counts k = in_front p (if ends then 0 else inner) (if counts then k else 0)

abbrev pub all_passed : Page → PaintKind → Waiting → (seen : Bool) → ℕ → Waiting
all_passed p kind w seen k = record {
  group = passed p (forms_group kind) w.group (seen && not (is_of_owner kind)) k;
  owner = passed p (is_stacking kind) w.owner (seen && is_of_owner kind) k;
}

abbrev pub both_waiting : Page → Waiting → Waiting → Waiting
both_waiting p v w = record {
  group = in_front p v.group w.group;
  owner = in_front p v.owner w.owner;
}
