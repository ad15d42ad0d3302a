-- The lines of a tree are whole lines.
use Rattle.std.proofs.Common.{◌≡◌, ℕ, List, length, Some, refl, ◌∙◌}
use Rattle.lay_frag.specs.Pieces.{Context}
use Rattle.lay_frag.specs.Lines.{tree_text}
use Rattle.lay_audit.proofs.Cited.{tree_all_lack, tree_bodies, tree_joined}
use Rattle.lay_audit.specs.WholeLines.{IsOfLines, joined}
use Rattle.lay_audit.proofs.LineFacts.{lack_ends}

pub tree_is_of_lines : (text : List ℕ) (tree : List Context) → text ≡ tree_text tree → IsOfLines text
tree_is_of_lines text tree e = (
  length (tree_bodies (Some tree)),
  record {
    bodies = tree_bodies (Some tree);
    text_is = e ∙ joined_same tree;
    lack = lack_ends (tree_bodies (Some tree)) (tree_all_lack (Some tree));
    count_is = refl;
  },
)
  where
    joined_same : (t : List Context) → tree_text t ≡ joined (tree_bodies (Some t))
    joined_same t = tree_joined (Some t)
