use Rattle.std.proofs.Common.{◌≡◌, ◌+◌, reverse, arith, sym, ap, ◌∙◌, subst, rules}
use Rattle.lay_line_items.specs.OpenBoxes.{Fall, all_items}
use Rattle.lay_line_items.proofs.OpenInlines.{all_ended, fall_low}
use Rattle.lay_line_items.proofs.container_items.all_items.Goals as goal

pub returns : goal.returns
returns c =
    let boxes = c.args.boxes.now in
    let k = c.args.place in
    let container = c.args.below.container in
    let items = c.close_to.new.self.items.items in
    let qs = reverse c.close_to.new.self.inlines.items in
    let same : c.close_to.new.self.container ≡ container = search rules in
    let low = fall_low container (reverse c.args.below.inlines.items) k c.requires.order in
    let none = c.requires.over container (omega arith) low in
    let fall : Fall container qs (container + 1) = subst (λ n. Fall n qs (container + 1)) same c.in_ok-close_to.ensures.order in
    c.new.ensures ∙ sym (all_ended boxes container k items qs fall none)
    ∙ ap (λ n. all_items boxes n items qs k) (sym same) ∙ sym c.in_ok-close_to.ensures.items
