-- Columns over the boxes of a formatting context, for the cell of the context that it is of. A context has a formatting context for each
-- of its roots, which are its own box and the anonymous tables and cells in it (CSS 2.2, 9.4.1 and 17.2.1), and all of these are of one
-- cell. So where the box of another root of the same context stands, a cell is given nothing: what belongs there is in its own value.
-- What it is given from outside is masked there, and filled in from that value.
--
-- For example, a context has a paragraph and an anonymous table with one cell. Its roots are 0, the own box, 1, the table, and 2, the cell
-- in it. Among the boxes of the root 0 the table's box is linked to 1, and among those of the root 1 the cell's box to 2.
use Rattle.std.specs.Prelude.{ℕ, zero, suc, ◌-◌, Bool, true, false, List, [], ◌∷◌, map, slice_index_or, Option, None, Some, if◌then◌else◌}
use Rattle.std.specs.List.{list_any}
use Rattle.lay_contexts.specs.FormattingContexts.{FormattingContext, formatting_context_at}
use Rattle.lay_context.specs.DocumentLayout.{flow_numbers}

-- Which root of its context the formatting context with the number j is, where it is an anonymous one and the first root of the
-- context has the number `first`. An element's is the first root of another context, and 0 stands for none.
abbrev pub link_to : List FormattingContext → (first j : ℕ) → Option ℕ
link_to all first zero = None
link_to all first (suc j) = if (formatting_context_at all (suc j)).anonymous then Some (suc j - first) else None

abbrev pub is_link : Option ℕ → Bool
is_link None = false
is_link (Some r) = true

-- where nothing is linked, no column of nothing
abbrev pub links_or_none : List (Option ℕ) → List (Option ℕ)
links_or_none links = if list_any is_link links then links else []

-- for each box of the formatting context with the number i, which root of the same context stands there
abbrev pub links_of : List FormattingContext → (first i : ℕ) → List (Option ℕ)
links_of all first i = links_or_none (map (link_to all first) (flow_numbers all i))

-- what is given, with nothing where another root stands
abbrev pub masked : {X : Type 0} → X → List (Option ℕ) → List X → List X
masked nothing [] given = given
masked nothing (l ∷ links) [] = []
masked nothing (None ∷ links) (x ∷ given) = x ∷ masked nothing links given
masked nothing (Some r ∷ links) (x ∷ given) = nothing ∷ masked nothing links given

-- what is given, with the value of another root where that stands
abbrev pub filled : {X : Type 0} → X → (own : List X) → List (Option ℕ) → List X → List X
filled nothing own [] given = given
filled nothing own (l ∷ links) [] = []
filled nothing own (None ∷ links) (x ∷ given) = x ∷ filled nothing own links given
filled nothing own (Some r ∷ links) (x ∷ given) = slice_index_or own r nothing ∷ filled nothing own links given

-- what is filled in at one box, where this is given there
abbrev pub filled_at : {X : Type 0} → X → (own : List X) → Option (Option ℕ) → X → X
filled_at nothing own None x = x
filled_at nothing own (Some None) x = x
filled_at nothing own (Some (Some r)) x = slice_index_or own r nothing
