-- What content comes to of all that is bounded, and what it leaves of that.
use Rattle.std.specs.Prelude.{◌≡◌, ◌+◌, ◌≤◌, ◌^◌, ℕ, ℤ, List}
use Rattle.lay_valign.specs.Near.{distance}
use Rattle.lay_lines.specs.declared.content.budgets.Budget.{Budget}
use Rattle.lay_lines.specs.declared.content.content.Part.{Part}
use Rattle.lay_lines.specs.declared.content.content.Stretch.{Stretch}
use Rattle.lay_lines.specs.Content.LineContents.{boxes_of, boxes_of_part, hull_of_part, hulls_of, spread_of}
use Rattle.lay_lines.specs.Content.LineContents.{spread_of_part, spread_of_parts, total, weight_of, weight_of_stretch}

-- as much as any content can come to
abbrev pub full_budget : Budget
full_budget = record { spread = 2 ^ 58; hulls = 558446353793941504; boxes = 2 ^ 31; weight = 2097151 }

abbrev pub need_of : ℤ → List Stretch → Budget
need_of tab ss = record { spread = spread_of tab ss; hulls = hulls_of ss; boxes = boxes_of ss; weight = weight_of ss }

abbrev pub need_of_stretch : ℤ → Stretch → Budget
need_of_stretch tab s =
    record {
      spread = spread_of_parts tab s.parts;
      hulls = total hull_of_part s.parts;
      boxes = total boxes_of_part s.parts;
      weight = weight_of_stretch s;
    }

-- a stretch without its parts
abbrev pub own_need : Stretch → Budget
own_need s = record { spread = 0; hulls = 0; boxes = 0; weight = weight_of_stretch s }

abbrev pub need_of_parts : ℤ → List Part → Budget
need_of_parts tab xs = record { spread = spread_of_parts tab xs; hulls = total hull_of_part xs; boxes = total boxes_of_part xs; weight = 0 }

abbrev pub need_of_part : ℤ → Part → Budget
need_of_part tab x = record { spread = spread_of_part tab x; hulls = hull_of_part x; boxes = boxes_of_part x; weight = 0 }

-- a part that is no box, and one that is, with this hull
abbrev pub width_need : ℤ → Budget
width_need width = record { spread = distance width; hulls = 0; boxes = 0; weight = 0 }

abbrev pub box_need : ℤ → ℕ → Budget
box_need width hull = record { spread = distance width; hulls = hull; boxes = 1; weight = 0 }

-- what needs so much leaves `after` of `before`
pub record Leaves (need before after : Budget) : Type 0 where
  pub spread : need.spread + after.spread ≡ before.spread
  pub hulls : need.hulls + after.hulls ≡ before.hulls
  pub boxes : need.boxes + after.boxes ≡ before.boxes
  pub weight : need.weight + after.weight ≡ before.weight

-- there is as much as is needed
pub record Covers (need before : Budget) : Type 0 where
  pub spread : need.spread ≤ before.spread
  pub hulls : need.hulls ≤ before.hulls
  pub boxes : need.boxes ≤ before.boxes
  pub weight : need.weight ≤ before.weight
