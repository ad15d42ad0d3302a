-- A context in which no box but its own is a root, as most are, needs no columns to say where its boxes go.
use Rattle.std.specs.Prelude.{ℕ, suc, ◌≡◌, ◌<◌, true, List, [], ◌∷◌, length, replicate}
use Rattle.std.specs.List.{range_with_len}
use Rattle.lay_box_tree.specs.declared.box_tree.BoxNode.{BoxNode}
use Rattle.lay_contexts.specs.Homes.{is_root}
use Rattle.lay_contexts.specs.Partings.{Parting}
use Rattle.lay_contexts.specs.declared.parting.Parts.{Parts}
use Rattle.lay_contexts.specs.declared.parting.Parts.TheVariants.{Whole, Several}

abbrev pub HasOneRoot : List BoxNode → Type 0
HasOneRoot boxes = (k : ℕ) → 0 < k → k < length boxes → is_root boxes k ≡ true → ⊥

-- so many boxes are inside the own one, which has the number `first`
abbrev pub whole_parting : (first next inside : ℕ) → Parting
whole_parting first next inside = record {
  homes = replicate (suc inside) 0;
  ranks = range_with_len 0 (suc inside);
  at_home = range_with_len 1 inside ∷ replicate inside [];
  numbers = first ∷ replicate (suc inside) next;
}

abbrev pub parting_of : Parts → Parting
parting_of (Whole first next inside) = whole_parting first next inside
parting_of (Several columns) = record {
  homes = columns.homes.items;
  ranks = columns.ranks.ranks.items;
  at_home = columns.ranks.at_home.items;
  numbers = columns.numbers.items;
}
