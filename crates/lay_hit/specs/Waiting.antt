-- Which nodes wait for the one that paints them, when a walk from the last node to the first has come to the node at n. A
-- node waits at the nearest around it that ends its way or that the walk hasn't come to. Ways to a group end at what is
-- painted as a whole, ways to an owner at what makes a stacking context.
use Rattle.std.specs.Prelude.{ℕ, ◌≡◌, ◌<◌, ◌≤◌, Bool, true, ◌&&◌, ◌||◌, not, List, length, slice_index, slice_index_or, nat_lt, is_some}
use Rattle.lay_doc.specs.Document.{parents_of}
use Rattle.lay_hit.specs.declared.question.Question.{Question}
use Rattle.lay_hit.specs.declared.waiting.Waiting.{Waiting}
use Rattle.lay_hit.specs.PaintKinds.{forms_group, is_stacking, kind_at}
use Rattle.lay_hit.specs.Groups.{nearest_around}
use Rattle.lay_hit.specs.Pages.{Page}
use Rattle.lay_hit.specs.Ranks.{is_of_owner}
use Rattle.lay_hit.specs.Questions.{page, seen_in}
use Rattle.lay_hit.specs.Fronts.{IsFrontmost, all_passed, both_waiting}

abbrev pub waits_at : Page → (ends : ℕ → Bool) → (n k : ℕ) → ℕ
waits_at p ends n k = nearest_around (λ j. nat_lt j n || ends j) p.parent k

pub record Waits (p : Page) (counts ends : ℕ → Bool) (n g k : ℕ) : Type 0 where
  pub walked : n ≤ k
  pub within : k < p.count
  pub counted : counts k ≡ true
  pub place : waits_at p ends n k ≡ g

-- the nodes in which a piece is seen, by who paints them
abbrev pub of_group : Question → ℕ → Bool
of_group q k = is_some (seen_in q k) && not (is_of_owner (kind_at q.doc.now.nodes q.styles.now k))

abbrev pub of_owner : Question → ℕ → Bool
of_owner q k = is_some (seen_in q k) && is_of_owner (kind_at q.doc.now.nodes q.styles.now k)

abbrev pub ends_group : Question → ℕ → Bool
ends_group q k = forms_group (kind_at q.doc.now.nodes q.styles.now k)

abbrev pub ends_owner : Question → ℕ → Bool
ends_owner q k = is_stacking (kind_at q.doc.now.nodes q.styles.now k)

abbrev pub nobody : Waiting
nobody = record { group = 0; owner = 0 }

-- of the nodes that wait at each node, the frontmost of those that wait for a group and of those that wait for an owner
pub record AreWaiting (q : Question) (fronts : List Waiting) (n : ℕ) : Type 0 where
  pub count : length fronts ≡ length q.doc.now.nodes
  pub group : (g : ℕ) → g < length q.doc.now.nodes → (nat_lt g n || ends_group q g) ≡ true
      → IsFrontmost (page q) (Waits (page q) (of_group q) (ends_group q) n g) (slice_index_or fronts g nobody).group
  pub owner : (g : ℕ) → g < length q.doc.now.nodes → (nat_lt g n || ends_owner q g) ≡ true
      → IsFrontmost (page q) (Waits (page q) (of_owner q) (ends_owner q) n g) (slice_index_or fronts g nobody).owner

-- what waits at the parent of the node at k, when the walk has come to that node
abbrev pub passed_on : Question → List Waiting → ℕ → Waiting
passed_on q fronts k = both_waiting (page q) (slice_index_or fronts (slice_index (parents_of q.doc.now.nodes) k) nobody)
    (all_passed (page q) (kind_at q.doc.now.nodes q.styles.now k) (slice_index_or fronts k nobody) (is_some (seen_in q k)) k)
