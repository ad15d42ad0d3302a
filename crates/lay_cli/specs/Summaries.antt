-- The summary that a size and a seed have by themselves: that of a layout of the document which their generated run comes to where each of
-- its lists of edits is accepted.
use Rattle.std.specs.Prelude.{ℕ, ◌≡◌, ◌+◌, ◌*◌, List}
use Rattle.lay_context.specs.Solves.{Solves}
use Rattle.lay_frag.specs.Pieces.{Context}
use Rattle.lay_generator.specs.Generated.{generated}
use Rattle.lay_generator.specs.LastDocuments.{last_document, list_count}
use Rattle.lay_generator.specs.Summary.{summary}

-- there are four nodes for each section and the root, and all lists of edits were accepted
pub record IsNumbersSummary (size seed : ℕ) (text : List ℕ) : Type 0 where
  pub tree : List Context
  pub solves : Solves (last_document (generated size seed)) (generated size seed).face tree
  pub text_is : text ≡ summary (1 + 4 * size) (list_count (generated size seed)) tree

-- and there is no other
pub record IsOnlySummary (size seed : ℕ) (text : List ℕ) : Type 0 where
  pub is : IsNumbersSummary size seed text
  pub only : (other : List ℕ) → IsNumbersSummary size seed other → other ≡ text
