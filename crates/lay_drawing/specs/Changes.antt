-- What two trees of a report differ in. A piece goes by its name, which is its kind, its node and its part.
-- A piece of the later tree is the same where the earlier one has a piece with its name and rectangle. Else it is moved where
-- that one has a piece with its name and size, resized where it has one with its name alone, and new where it has none.
-- A piece of the earlier tree that the later one hasn't with its rectangle is gone where that one has none with its name, and
-- else it is the former place of one that was moved or resized.
use Rattle.std.specs.Prelude.{◌&&◌, ◌==◌, ◌≡◌, Bool, true, false, List, [], ◌∷◌, ◌++◌, map, if◌then◌else◌}
use Rattle.std.specs.List.{flat_map, list_any}
use Rattle.std.specs.Ordering.{int_eq}
use Rattle.lay_frag.specs.declared.frag.Frag.{Frag}
use Rattle.lay_frag.specs.declared.frag.FragKind.{FragKind}
use Rattle.lay_frag.specs.declared.frag.FragKind.TheVariants.{Box, Line, Text}
use Rattle.lay_drawing.specs.declared.mark.Mark.{Mark}
use Rattle.lay_drawing.specs.declared.mark.Mark.TheVariants.{Same, Moved, Resized, New, Gone, Former}
use Rattle.lay_drawing.specs.declared.mark.Marked.{Marked}
use Rattle.lay_drawing.specs.Marks.{marked}

abbrev pub is_box : FragKind → Bool
is_box Box = true
is_box Line = false
is_box Text = false

abbrev pub is_line : FragKind → Bool
is_line Box = false
is_line Line = true
is_line Text = false

abbrev pub is_text : FragKind → Bool
is_text Box = false
is_text Line = false
is_text Text = true

abbrev pub is_same_kind : FragKind → FragKind → Bool
is_same_kind Box kind = is_box kind
is_same_kind Line kind = is_line kind
is_same_kind Text kind = is_text kind

-- two pieces have one name
abbrev pub is_named : Frag → Frag → Bool
is_named f g = is_same_kind f.kind g.kind && f.node.0 == g.node.0 && f.part == g.part

abbrev pub is_sized : Frag → Frag → Bool
is_sized f g = int_eq f.rect.w.0 g.rect.w.0 && int_eq f.rect.h.0 g.rect.h.0

abbrev pub is_placed_alike : Frag → Frag → Bool
is_placed_alike f g = int_eq f.rect.x.0 g.rect.x.0 && int_eq f.rect.y.0 g.rect.y.0

-- they have one name and one size, and one place too
abbrev pub is_moved : Frag → Frag → Bool
is_moved f g = is_named f g && is_sized f g

abbrev pub is_same : Frag → Frag → Bool
is_same f g = is_moved f g && is_placed_alike f g

-- what is said of a piece of the later tree
abbrev pub mark_after : List Frag → Frag → Mark
mark_after before f =
    if list_any (is_same f) before then Same
    else (if list_any (is_moved f) before then Moved
    else (if list_any (is_named f) before then Resized else New))

-- what is said of a piece of the earlier tree that the later one hasn't
abbrev pub mark_before : List Frag → Frag → Mark
mark_before after f = if list_any (is_named f) after then Former else Gone

-- the piece, if the later tree hasn't got it
abbrev pub left_of : List Frag → Frag → List Marked
left_of after f = if list_any (is_same f) after then [] else marked (mark_before after f) f ∷ []

-- all pieces of the later tree, and those of the earlier one that it hasn't
abbrev pub differences : List Frag → List Frag → List Marked
differences before after = map (λ f. marked (mark_after before f) f) after ++ flat_map (left_of after) before

-- between a tree and itself nothing differs
abbrev pub NothingDiffers : Type 0
NothingDiffers = (tree : List Frag) → differences tree tree ≡ map (marked Same) tree
