use Rattle.std.proofs.Common.{◌≡◌, ◌++◌, List, drop}
use Rattle.lay_space.specs.declared.tokens.Token.{Token}
use Rattle.lay_space.specs.Tokens.{cluster_tokens, without_leading_spaces}
use Rattle.lay_space.proofs.tokens.put_clusters.Given as goal

abbrev pub invariant-loop-k : goal.invariant-loop-k
invariant-loop-k l =
    (rest : List Token) → l.fn.out.items ++ without_leading_spaces l.fn.first (cluster_tokens l.of.item l.of.node l.of.mode l.text l.widths ++ rest)
    ≡ l.out.items ++ without_leading_spaces l.first (cluster_tokens l.of.item l.of.node l.of.mode l.text (drop l.k l.widths) ++ rest)
