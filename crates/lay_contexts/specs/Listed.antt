-- The list of formatting contexts while it grows.
use Rattle.std.specs.Prelude.{ℕ, ◌≡◌, ◌<◌, true, List, length}
use Rattle.lay_contexts.specs.Contexts.{Context, boxes_in}
use Rattle.lay_contexts.specs.FormattingContexts.{FormattingContext, formatting_context_at}
use Rattle.lay_contexts.specs.FormattingContextList.{formatting_context_of, number_of}
use Rattle.lay_contexts.specs.Homes.{is_root}

-- that of a root is in the list, in its place
abbrev pub IsRootListed : List Context → List (List ℕ) → List FormattingContext → (i r : ℕ) → Type 0
IsRootListed contexts homes all i r = formatting_context_at all (number_of contexts i r) ≡ formatting_context_of contexts homes i r

-- those of all contexts before i are, and of the roots before n in the context i
pub record AreListedTo (contexts : List Context) (homes : List (List ℕ)) (all : List FormattingContext) (i n : ℕ) : Type 0 where
  pub count : length all ≡ number_of contexts i n
  pub before : (j r : ℕ) → j < i → r < length (boxes_in contexts j) → is_root (boxes_in contexts j) r ≡ true
      → IsRootListed contexts homes all j r
  pub here : (r : ℕ) → r < n → is_root (boxes_in contexts i) r ≡ true → IsRootListed contexts homes all i r
