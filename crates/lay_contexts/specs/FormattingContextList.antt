-- The formatting contexts of a document (CSS 2.2, 9.4.1): in document order its contexts, and behind each those of the
-- anonymous tables and cells in it (17.2.1), in the order of its boxes. Each is that of a root of a context, and is known by
-- its number in the list: so many as there are roots before that one, in its context and in all contexts before.
use Rattle.std.specs.Prelude.{ℕ, zero, suc, ◌≡◌, ◌+◌, ◌<◌, true, nat_lt, List, [], ◌∷◌}
use Rattle.std.specs.Prelude.{length, map, slice_index, slice_index_or, if◌then◌else◌}
use Rattle.lay_box_tree.specs.declared.box_tree.BoxNode.{BoxNode}
use Rattle.lay_contexts.specs.Contexts.{Context, boxes_in, context_at}
use Rattle.lay_contexts.specs.FormattingBoxes.{at_home_before, boxes_of_root, rank}
use Rattle.lay_contexts.specs.FormattingContexts.{FormattingContext, formatting_context_at}
use Rattle.lay_contexts.specs.Homes.{AreHomes, is_root}
use Rattle.lay_contexts.specs.declared.spot.Spot.{Spot}

abbrev pub homes_in : List (List ℕ) → ℕ → List ℕ
homes_in homes i = slice_index_or homes i []

-- the homes of the boxes of each context
pub record AreHomesOf (contexts : List Context) (homes : List (List ℕ)) : Type 0 where
  pub count : length homes ≡ length contexts
  pub each : (i : ℕ) → i < length contexts → AreHomes (boxes_in contexts i) (homes_in homes i)

-- how many of the first n boxes are roots
abbrev pub roots_before : List BoxNode → ℕ → ℕ
roots_before boxes zero = 0
roots_before boxes (suc n) = if is_root boxes n then (roots_before boxes n + 1) else roots_before boxes n

-- the number of the first formatting context of the context i: that of the context itself
abbrev pub first_number : List Context → ℕ → ℕ
first_number contexts zero = 0
first_number contexts (suc i) = first_number contexts i + roots_before (boxes_in contexts i) (length (boxes_in contexts i))

-- the number of that of the root r of the context i
abbrev pub number_of : List Context → (i r : ℕ) → ℕ
number_of contexts i r = first_number contexts i + roots_before (boxes_in contexts i) r

-- where the box of it stands: that of a context in another one, and that of an anonymous root where it is
abbrev pub spot_of : List Context → (i r : ℕ) → Spot
spot_of contexts zero zero = record { context = 0; place = 0 }
spot_of contexts (suc i) zero = record { context = (context_at contexts (suc i)).outer; place = (context_at contexts (suc i)).outer_box }
spot_of contexts i (suc r) = record { context = i; place = suc r }

-- the number of the formatting context that a spot is in, and the place there
abbrev pub number_at : List Context → List (List ℕ) → Spot → ℕ
number_at contexts homes s = number_of contexts s.context (slice_index (homes_in homes s.context) s.place)

abbrev pub rank_at : List (List ℕ) → Spot → ℕ
rank_at homes s = rank (homes_in homes s.context) s.place

-- the number of the inner formatting context whose box the box at k of the context i is, and 0 where it is none's
abbrev pub inner_number : List Context → (i k : ℕ) → ℕ
inner_number contexts i k =
    if is_root (boxes_in contexts i) k then number_of contexts i k else first_number contexts (slice_index (context_at contexts i).inner k)

abbrev pub inner_numbers : List Context → List (List ℕ) → (i r : ℕ) → List ℕ
inner_numbers contexts homes i r =
    0 ∷ map (inner_number contexts i) (at_home_before (homes_in homes i) r (length (boxes_in contexts i)))

-- the formatting context of the root r of the context i
abbrev pub formatting_context_of : List Context → List (List ℕ) → (i r : ℕ) → FormattingContext
formatting_context_of contexts homes i r = record {
  anonymous = nat_lt 0 r;
  outer = number_at contexts homes (spot_of contexts i r);
  outer_box = rank_at homes (spot_of contexts i r);
  boxes = boxes_of_root (boxes_in contexts i) (homes_in homes i) r;
  inner = inner_numbers contexts homes i r;
}

-- these are the formatting contexts of these contexts
pub record AreFormattingContextsOf (contexts : List Context) (all : List FormattingContext) : Type 0 where
  pub homes : List (List ℕ)
  pub homes_are : AreHomesOf contexts homes
  pub count : length all ≡ first_number contexts (length contexts)
  pub each : (i r : ℕ) → i < length contexts → r < length (boxes_in contexts i) → is_root (boxes_in contexts i) r ≡ true
      → formatting_context_at all (number_of contexts i r) ≡ formatting_context_of contexts homes i r
