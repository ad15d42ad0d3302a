-- The order of painting, from back to front (Appendix E, E.2, and 9.9): the boxes and texts of a node that is painted as a
-- whole, in seven steps. The steps are numbered 1 to 7; the standard's own numbers stand beside them. Inline content is
-- painted in document order rather than line by line, a replaced element that is a block with the blocks, and no box clips
-- another.
use Rattle.std.specs.Prelude.{ℕ, zero, suc, ◌-◌, pos, int_lt, int_le, Bool, ◌&&◌, ◌||◌}
use Rattle.std.specs.Prelude.{◌==◌, List, [], ◌++◌, filter, flat_map, if◌then◌else◌}
use Rattle.std.specs.List.{range_with_len}
use Rattle.lay_frag.specs.declared.frag.Frag.{Frag}
use Rattle.lay_hit.specs.PaintKinds.{is_stacking, is_layered, is_float_paint, is_atomic_paint, is_block_paint, is_inline_paint, forms_group}
use Rattle.lay_hit.specs.Groups.{nearest_around}
use Rattle.lay_hit.specs.Sorting.{in_order}
use Rattle.lay_hit.specs.Pages.{Page}

abbrev pub group : Page → ℕ → ℕ
group p k = nearest_around (λ j. forms_group (p.kind j)) p.parent k

abbrev pub owner : Page → ℕ → ℕ
owner p k = nearest_around (λ j. is_stacking (p.kind j)) p.parent k

-- the nodes other than the root, in document order
abbrev pub others : Page → List ℕ
others p = range_with_len 1 (p.count - 1)

-- "in z-index order (most negative first) then tree order", and likewise from the least positive one
abbrev pub by_level : Page → List ℕ → List ℕ
by_level p ks = in_order (λ j k. int_le (p.level j) (p.level k)) ks

-- which nodes g paints in which step
abbrev pub is_negative_of : Page → ℕ → ℕ → Bool
is_negative_of p g k = is_stacking (p.kind k) && (int_lt (p.level k) (pos 0) && (owner p k == g))

abbrev pub is_block_of : Page → ℕ → ℕ → Bool
is_block_of p g k = is_block_paint (p.kind k) && (group p k == g)

abbrev pub is_float_of : Page → ℕ → ℕ → Bool
is_float_of p g k = is_float_paint (p.kind k) && (group p k == g)

abbrev pub is_inline_of : Page → ℕ → ℕ → Bool
is_inline_of p g k = (is_inline_paint (p.kind k) || is_atomic_paint (p.kind k)) && (group p k == g)

abbrev pub is_level_zero : Page → ℕ → Bool
is_level_zero p k = is_layered (p.kind k) || (is_stacking (p.kind k) && (int_le (pos 0) (p.level k) && int_le (p.level k) (pos 0)))

abbrev pub is_zero_of : Page → ℕ → ℕ → Bool
is_zero_of p g k = is_level_zero p k && (owner p k == g)

abbrev pub is_positive_of : Page → ℕ → ℕ → Bool
is_positive_of p g k = is_stacking (p.kind k) && (int_lt (pos 0) (p.level k) && (owner p k == g))

-- Step 1 (1 and 2, or 4 and 7 where it is no stacking context): backgrounds and borders of g.
abbrev pub own_page_boxes : Page → ℕ → List Frag
own_page_boxes p g = p.boxes g

-- Step 2 (3): stacking contexts of negative level. `whole` paints a node as a whole.
abbrev pub negative_layers : Page → (whole : ℕ → List Frag) → ℕ → List Frag
negative_layers p whole g = if is_stacking (p.kind g) then flat_map whole (by_level p (filter (is_negative_of p g) (others p))) else []

-- Step 3 (4): blocks in flow.
abbrev pub block_boxes : Page → ℕ → List Frag
block_boxes p g = flat_map p.boxes (filter (is_block_of p g) (others p))

-- Step 4 (5): floats.
abbrev pub floats : Page → (whole : ℕ → List Frag) → ℕ → List Frag
floats p whole g = flat_map whole (filter (is_float_of p g) (others p))

-- Step 5 (6 and 7): inline boxes, texts, and what is atomic among them.
abbrev pub inline_content : Page → (whole : ℕ → List Frag) → ℕ → List Frag
inline_content p whole g =
    flat_map (λ k. if is_atomic_paint (p.kind k) then whole k else p.boxes_and_texts k) (filter (is_inline_of p g) (others p))

-- Step 6 (8): positioned nodes that make no stacking context, and stacking contexts of level 0.
abbrev pub zero_layers : Page → (whole : ℕ → List Frag) → ℕ → List Frag
zero_layers p whole g = if is_stacking (p.kind g) then flat_map whole (filter (is_zero_of p g) (others p)) else []

-- Step 7 (9): stacking contexts of positive level.
abbrev pub positive_layers : Page → (whole : ℕ → List Frag) → ℕ → List Frag
positive_layers p whole g = if is_stacking (p.kind g) then flat_map whole (by_level p (filter (is_positive_of p g) (others p))) else []

-- What is painted in a node is deeper than it, so that as many turns suffice as there are nodes.
abbrev pub paint : Page → (turns : ℕ) → ℕ → List Frag
paint p zero g = []
paint p (suc turns) g =
    own_page_boxes p g
    ++ (negative_layers p (paint p turns) g
    ++ (block_boxes p g
    ++ (floats p (paint p turns) g
    ++ (inline_content p (paint p turns) g
    ++ (zero_layers p (paint p turns) g
    ++ positive_layers p (paint p turns) g)))))

-- the boxes and texts of a whole page, from back to front
abbrev pub painting : Page → List Frag
painting p = paint p p.count 0
