-- The way from the anchor of an absolutely positioned box out to its containing block (CSS 2.2, 10.1), by contexts: from that of the
-- anchor to the one among whose boxes the nearest holder is, both included, or out to the root's where the viewport is the containing
-- block. An anonymous table or cell on the way is in one of these contexts.
use Rattle.std.specs.Prelude.{ℕ, zero, suc, ◌≡◌, ◌<◌, Bool, true, List, [], ◌∷◌, Option, None, Some, if◌then◌else◌}
use Rattle.lay_contexts.specs.Contexts.{Context, boxes_in, context_at}
use Rattle.lay_positioned.specs.Absolute.{is_own_absolute, is_own_fixed}
use Rattle.lay_positioned.specs.Holders.{IsHolderFor, holder_for}

-- the context with the number i is that of an absolutely positioned element (9.6), and of a fixed one (9.6.1)
abbrev pub is_absolute : List Context → ℕ → Bool
is_absolute contexts i = is_own_absolute (boxes_in contexts i)

abbrev pub is_fixed : List Context → ℕ → Bool
is_fixed contexts i = is_own_fixed (boxes_in contexts i)

-- the context with the number j is on the way from the box at k in the one with the number i
pub data IsOnContextWayFrom (is_fixed : Bool) (contexts : List Context) (j : ℕ) : (i k : ℕ) → Type 0 where
  here : (k : ℕ) → IsOnContextWayFrom is_fixed contexts j j k
  further : (i k : ℕ) → 0 < i → IsHolderFor is_fixed (boxes_in contexts i) k None
      → IsOnContextWayFrom is_fixed contexts j (context_at contexts i).outer (context_at contexts i).outer_box
      → IsOnContextWayFrom is_fixed contexts j i k

-- it is on that of the one with the number i, which is absolutely positioned; nothing is around the root's
pub record IsOnContextWay (contexts : List Context) (i j : ℕ) : Type 0 where
  pub some : 0 < i
  pub absolute : is_absolute contexts i ≡ true
  pub from : IsOnContextWayFrom (is_fixed contexts i) contexts j (context_at contexts i).outer (context_at contexts i).outer_box

-- what is further out counts where no holder was found
abbrev pub outside_unless_held : Option ℕ → List ℕ → List ℕ
outside_unless_held (Some holder) outside = []
outside_unless_held None outside = outside

-- The same as a list, from the inside out, in so many turns: no more contexts are around one than stand before it. Just these are on
-- the way, by the law `ways_are_lists`.
abbrev pub way_from : (turns : ℕ) → (is_fixed : Bool) → List Context → (i k : ℕ) → List ℕ
way_from zero is_fixed contexts i k = i ∷ []
way_from (suc turns) is_fixed contexts zero k = zero ∷ []
way_from (suc turns) is_fixed contexts (suc i) k =
    let c = context_at contexts (suc i) in
    suc i ∷ outside_unless_held (holder_for is_fixed c.boxes k) (way_from turns is_fixed contexts c.outer c.outer_box)

-- the way of the context with the number i, and nothing where it isn't absolutely positioned
abbrev pub way_of : List Context → ℕ → List ℕ
way_of contexts zero = []
way_of contexts (suc i) =
    let c = context_at contexts (suc i) in
    if is_absolute contexts (suc i) then way_from (suc i) (is_fixed contexts (suc i)) contexts c.outer c.outer_box else []
