-- How a list of items is kept.
use Rattle.std.specs.Prelude.{List, [], ◌∷◌}
use Rattle.lay_space.specs.declared.item.Item.{Item}
use Rattle.lay_space.specs.declared.item.Items.{Items}
use Rattle.lay_space.specs.declared.item.Items.TheVariants.{One, Many}

-- the items, in order
abbrev pub items_listed : Items → List Item
items_listed (One item) = item ∷ []
items_listed (Many items) = items.items
