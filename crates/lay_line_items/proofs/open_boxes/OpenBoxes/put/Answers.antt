use Rattle.std.proofs.Common.{◌≡◌, ◌+◌, ◌∷◌, ◌++◌, [], true, drop, reverse, arith, sym, ap, ◌∙◌, subst, rules}
use Rattle.lay_box_tree.specs.Roles.{role_of}
use Rattle.lay_line_items.proofs.Cited.{length-parents}
use Rattle.lay_space.specs.declared.item.Item.TheVariants as item
use Rattle.lay_line_items.specs.InlineItems.{items_below}
use Rattle.lay_line_items.specs.OpenBoxes.{Fall, all_items, innermost, is_inline}
use Rattle.lay_line_items.proofs.OpenInlines.{over, parent_at, past_skipped, past_inline, past_leaf, fall_up, fall_low}
use Rattle.lay_line_items.proofs.open_boxes.OpenBoxes.put.Goals as goal

pub close_to-requires-clause-over : goal.close_to-requires-clause-over
close_to-requires-clause-over c = λ q low high.
    let boxes = c.args.boxes.now in
    let k = c.args.place in
    let at = parent_at boxes k c.index-boxes-place.result c.requires.there c.index-boxes-place.is in
    over boxes c.requires.tree k q c.requires.there (omega (arith, at, low)) high

pub returns-then-innermost-node-clause-items : goal.returns-then-innermost-node-clause-items
returns-then-innermost-node-clause-items c =
    let boxes = c.args.boxes.now in
    let k = c.args.place in
    let b = c.index-boxes-place.result in
    let container = c.close_to.new.self.container in
    let qs = reverse c.close_to.new.self.inlines.items in
    c.in_ok-innermost.ensures.items
    ∙ past_skipped boxes container k c.close_to.new.self.items.items qs b c.requires.there c.index-boxes-place.is c.in_ok-innermost.ensures.order
    (λ e. c.if-innermost-node.true (c.in_ok-innermost.ensures.innermost ∙ e))

pub returns-then-innermost-node-clause-order : goal.returns-then-innermost-node-clause-order
returns-then-innermost-node-clause-order c =
    let boxes = c.args.boxes.now in
    let k = c.args.place in
    let at = parent_at boxes k c.index-boxes-place.result c.requires.there c.index-boxes-place.is in
    let first = fall_low c.args.self.now.container (reverse c.args.self.now.inlines.items) k c.requires.order in
    let counted = length-parents boxes in
    let before = c.requires.tree.before k (omega (arith, first)) (omega (arith, counted, c.requires.there)) in
    fall_up c.close_to.new.self.container (reverse c.close_to.new.self.inlines.items) (c.index-boxes-place.result.parent + 1) (k + 1) (omega (arith, at, before)) c.in_ok-innermost.ensures.order

pub returns-then-is_inline-clause-items : goal.returns-then-is_inline-clause-items
returns-then-is_inline-clause-items c =
    let boxes = c.args.boxes.now in
    let k = c.args.place in
    let b = c.index-boxes-place.result in
    let container = c.close_to.new.self.container in
    let items = c.close_to.new.self.items.items in
    let qs = reverse c.close_to.new.self.inlines.items in
    let inside : innermost container qs ≡ b.parent = sym c.in_ok-innermost.ensures.innermost ∙ c.if-innermost-node.false in
    let inline : is_inline (role_of b) ≡ true = search rules in
    c.in_ok-innermost.ensures.items
    ∙ past_inline boxes container k items qs b c.requires.there c.index-boxes-place.is c.in_ok-innermost.ensures.order inside inline
    ∙ ap (λ t. all_items boxes container (items ++ item.Start k t ∷ []) (k ∷ qs) (k + 1)) (sym c.takes_room-takes_room.ensures)
    ∙ ap (λ n. all_items boxes n (items ++ item.Start k c.takes_room-takes_room.result ∷ []) (k ∷ qs) (k + 1)) (sym c.in_ok-begin.ensures.container)
    ∙ ap (λ xs. all_items boxes c.begin.new.self.container xs (k ∷ qs) (k + 1)) (sym c.in_ok-begin.ensures.items)
    ∙ ap (λ xs. all_items boxes c.begin.new.self.container c.begin.new.self.items.items xs (k + 1)) (sym c.in_ok-begin.ensures.inlines)

pub returns-then-is_inline-clause-order : goal.returns-then-is_inline-clause-order
returns-then-is_inline-clause-order c =
    let boxes = c.args.boxes.now in
    let k = c.args.place in
    let container = c.close_to.new.self.container in
    let qs = reverse c.close_to.new.self.inlines.items in
    let at = parent_at boxes k c.index-boxes-place.result c.requires.there c.index-boxes-place.is in
    let first = fall_low c.args.self.now.container (reverse c.args.self.now.inlines.items) k c.requires.order in
    let counted = length-parents boxes in
    let before = c.requires.tree.before k (omega (arith, first)) (omega (arith, counted, c.requires.there)) in
    let fall : Fall container (k ∷ qs) (k + 1) = (omega arith, fall_up container qs (c.index-boxes-place.result.parent + 1) k (omega (arith, at, before)) c.in_ok-innermost.ensures.order) in
    subst (λ xs. Fall c.begin.new.self.container xs (k + 1)) (sym c.in_ok-begin.ensures.inlines) (subst (λ n. Fall n (k ∷ qs) (k + 1)) (sym c.in_ok-begin.ensures.container) fall)

pub returns-clause-items : goal.returns-clause-items
returns-clause-items c =
    let boxes = c.args.boxes.now in
    let k = c.args.place in
    let b = c.index-boxes-place.result in
    let container = c.close_to.new.self.container in
    let items = c.close_to.new.self.items.items in
    let qs = reverse c.close_to.new.self.inlines.items in
    let inside : innermost container qs ≡ b.parent = sym c.in_ok-innermost.ensures.innermost ∙ c.if-innermost-node.false in
    let below = items_below boxes k (k + 1) (drop (k + 1) boxes) in
    c.in_ok-innermost.ensures.items
    ∙ past_leaf boxes container k items qs b c.requires.there c.index-boxes-place.is c.in_ok-innermost.ensures.order inside c.put_leaf.new.items.items (c.in_ok-put_leaf.ensures below)

pub returns-clause-order : goal.returns-clause-order
returns-clause-order c =
    let boxes = c.args.boxes.now in
    let k = c.args.place in
    let at = parent_at boxes k c.index-boxes-place.result c.requires.there c.index-boxes-place.is in
    let first = fall_low c.args.self.now.container (reverse c.args.self.now.inlines.items) k c.requires.order in
    let counted = length-parents boxes in
    let before = c.requires.tree.before k (omega (arith, first)) (omega (arith, counted, c.requires.there)) in
    fall_up c.close_to.new.self.container (reverse c.close_to.new.self.inlines.items) (c.index-boxes-place.result.parent + 1) (k + 1) (omega (arith, at, before)) c.in_ok-innermost.ensures.order
