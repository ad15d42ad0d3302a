use Rattle.std.proofs.Common.{◌++◌, ap, sym, ◌∙◌, arith}
use Rattle.std.proofs.lemmas.List.{append-nil}
use Rattle.std.proofs.lemmas.Option.{slice_get_past}
use Rattle.lay_table_grid.specs.MeetingBorders.{border_of_box}
use Rattle.lay_table_grid.proofs.elements.push_own_border.Goals as goal

pub returns-in-None : goal.returns-in-None
returns-in-None c =
    let lookup = c.in-None.ensures.lookup in
    let none = slice_get_past c.args.boxes.now c.args.element.place (omega arith) in
    sym (ap (λ found. c.args.borders.now.items ++ border_of_box c.args.side c.args.element found) none ∙ append-nil c.args.borders.now.items)
