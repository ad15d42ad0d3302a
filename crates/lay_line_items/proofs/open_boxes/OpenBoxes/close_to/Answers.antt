use Rattle.std.proofs.Common.{◌≡◌, ◌∷◌, reverse, arith, sym, ap, ◌∙◌, subst}
use Rattle.lay_line_items.specs.OpenBoxes.{Fall, all_items}
use Rattle.lay_line_items.proofs.OpenInlines.{turned, ended, fall_up}
use Rattle.lay_line_items.proofs.open_boxes.OpenBoxes.close_to.Goals as goal

pub loop-top-preserved : goal.loop-top-preserved
loop-top-preserved c =
    let boxes = c.args.boxes.now in
    let k = c.args.place in
    let q = c.in-Some.top in
    let container = c.loop-top.self.container in
    let items = c.loop-top.self.items.items in
    let qs = reverse c.pop.new.self.items in
    let turn : reverse c.loop-top.self.inlines.items ≡ q ∷ qs = turned _ _ q c.in-Some.ensures.items in
    let fall : Fall container (q ∷ qs) k = subst (λ xs. Fall container xs k) turn c.loop-top.invariant.1 in
    let none = c.requires.over q c.if-top-parent.false fall.0 in (
      ap (λ xs. all_items boxes container xs qs k) c.in_ok-push_item.ensures
          ∙ sym (ended boxes container q k items qs none)
          ∙ ap (λ xs. all_items boxes container items xs k) (sym turn)
          ∙ c.loop-top.invariant.0,
      fall_up container qs q k (omega (arith, fall.0)) fall.1,
      c.loop-top.invariant.2,
    )
