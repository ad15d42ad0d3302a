-- The limits of a document: how many nodes it has, how deep they stand, the root at the depth 1, and how many bytes a
-- text has, and all texts together. What is beyond is refused when it is read or put in.
use Rattle.std.specs.Prelude.{ℕ, ◌^◌}

abbrev pub most_nodes : ℕ
most_nodes = 2 ^ 16

abbrev pub most_depth : ℕ
most_depth = 2 ^ 7

abbrev pub longest_text : ℕ
longest_text = 2 ^ 16

abbrev pub most_text : ℕ
most_text = 2 ^ 20
