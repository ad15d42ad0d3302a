-- What is told of each node while a window of a selector is read: which of its steps come to it, and which to one that it stands in.
use Rattle.std.specs.Prelude.{ℕ, ◌≡◌, ◌+◌, ◌<◌, ◌==◌, Bool, List, length, slice_index, bit_and, bit_or, if◌then◌else◌}
use Rattle.lay_doc.specs.declared.node.Node.{Node}
use Rattle.lay_doc.specs.Document.{parents_of}
use Rattle.lay_cascade.specs.declared.node_names.names.Names.{Names}
use Rattle.lay_cascade.specs.declared.windows.JointMasks.{JointMasks}
use Rattle.lay_cascade.specs.declared.windows.Window.{Window}
use Rattle.lay_sheet.specs.declared.selector.Joint.TheVariants.{Descendant}
use Rattle.lay_cascade.specs.Matching.{Says}
use Rattle.lay_cascade.specs.Columns.{ComeTo, Leads}
use Rattle.lay_cascade.specs.Words.{is_in, shifted, front_word}

-- the word of the nodes that the one at k stands in, by the words of its parent
abbrev pub above_word : List Node → List ℕ → List ℕ → ℕ → ℕ
above_word nodes here above k =
    if k == 0 then 0 else bit_or (slice_index here (slice_index (parents_of nodes) k)) (slice_index above (slice_index (parents_of nodes) k))

-- the steps that are joined to one that comes to where the joint asks for it
abbrev pub joined : JointMasks → Bool → ℕ → ℕ → ℕ → ℕ
joined joints front child adjacent above =
    bit_or (bit_or (bit_or (front_word front) (bit_and joints.child (shifted child))) (bit_and joints.adjacent (shifted adjacent)))
    (bit_and joints.descendant (shifted above))

-- these are the words of the node at k
pub record IsRead (nodes : List Node) (names : List Names) (window : Window) (k here above : ℕ) : Type 0 where
  pub comes : (j : ℕ) → j < window.count → Says (is_in here j) (ComeTo nodes names window.steps.now ((window.from + j) + 1) k)
  pub leads : (j : ℕ) → j < window.count → Says (is_in above j) (Leads nodes names window.steps.now ((window.from + j) + 1) Descendant k)

-- and these of the first n nodes
pub record AreRead (nodes : List Node) (names : List Names) (window : Window) (n : ℕ) (here above : List ℕ) : Type 0 where
  pub here_count : length here ≡ n
  pub above_count : length above ≡ n
  pub each : (k : ℕ) → k < n → IsRead nodes names window k (slice_index here k) (slice_index above k)
