-- What is known of the boxes of each context while its formatting contexts are made: where each box goes.
use Rattle.std.specs.Prelude.{ℕ, ◌≡◌, ◌+◌, ◌<◌, ◌≤◌, List, [], length, map, slice_index, slice_index_or}
use Rattle.lay_box_tree.specs.declared.box_tree.BoxNode.{BoxNode}
use Rattle.lay_contexts.specs.Contexts.{Context, boxes_in}
use Rattle.lay_contexts.specs.FormattingBoxes.{at_home_before, rank}
use Rattle.lay_contexts.specs.FormattingContextList.{first_number, roots_before}
use Rattle.lay_contexts.specs.Homes.{AreHomes}

pub record Parting : Type 0 where
  -- the home of each box, and its place there
  pub homes : List ℕ
  pub ranks : List ℕ
  -- for each box the places of those that are at home in it
  pub at_home : List (List ℕ)
  -- for each box the number that a root there has; and behind the last one the number of the next context
  pub numbers : List ℕ

abbrev pub no_parting : Parting
no_parting = record { homes = []; ranks = []; at_home = []; numbers = [] }

-- more formatting contexts than any document has
abbrev pub most_formatting_contexts : ℕ
most_formatting_contexts = 16777216

-- these are the ranks of the first n boxes, and of these the places of those at home in each box
pub record AreRanksTo (homes ranks : List ℕ) (at_home : List (List ℕ)) (n : ℕ) : Type 0 where
  pub count : length ranks ≡ n
  pub each : (k : ℕ) → k < n → slice_index ranks k ≡ rank homes k
  pub lists : length at_home ≡ length homes
  pub list : (r : ℕ) → r < length homes → slice_index_or at_home r [] ≡ at_home_before homes r n

-- these are the numbers of roots at the first n places
pub record AreNumbersTo (boxes : List BoxNode) (first : ℕ) (numbers : List ℕ) (n : ℕ) : Type 0 where
  pub count : length numbers ≡ n
  pub each : (k : ℕ) → k < n → slice_index numbers k ≡ first + roots_before boxes k
  pub few : (k : ℕ) → k < n → slice_index numbers k ≤ most_formatting_contexts

-- the boxes of a context, whose number as a formatting context is `first`
pub record IsParting (boxes : List BoxNode) (first : ℕ) (p : Parting) : Type 0 where
  pub homes : AreHomes boxes p.homes
  pub ranks : AreRanksTo p.homes p.ranks p.at_home (length boxes)
  pub numbers : AreNumbersTo boxes first p.numbers (length boxes + 1)

abbrev pub parting_at : List Parting → ℕ → Parting
parting_at partings i = slice_index_or partings i no_parting

-- those of the first n contexts
pub record ArePartingsTo (contexts : List Context) (partings : List Parting) (n : ℕ) : Type 0 where
  pub count : length partings ≡ n
  pub each : (i : ℕ) → i < n → IsParting (boxes_in contexts i) (first_number contexts i) (parting_at partings i)

abbrev pub ArePartings : List Context → List Parting → Type 0
ArePartings contexts partings = ArePartingsTo contexts partings (length contexts)

abbrev pub homes_of : List Parting → List (List ℕ)
homes_of partings = map (λ p. p.homes) partings
