-- The number of a node in its list, by its id. The first ids are in order, and a map has the others.
use Rattle.std.specs.Prelude.{ℕ, ◌-◌, Option, Some, if◌then◌else◌}
use Rattle.std.specs.BTreeMap.{get}
use Rattle.std.specs.Ordering.{nat_cmp}
use Rattle.lay_doc.specs.Index.{is_up_to}
use Rattle.lay_run.specs.declared.gathered.numbers.Numbers.{Numbers}

abbrev pub number_of : Numbers → ℕ → Option ℕ
number_of numbers id = if is_up_to id numbers.in_order then Some (id - 1) else get nat_cmp numbers.others id
