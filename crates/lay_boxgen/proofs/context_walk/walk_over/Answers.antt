use Rattle.std.proofs.Common.{ℕ, ◌≡◌, ◌∙◌, ◌-◌, ◌++◌, ◌∷◌, [], ap, arith, get_or, reverse, subst, sym}
use Rattle.lay_boxgen.specs.Contexts.{IsContextAt}
use Rattle.lay_boxgen.proofs.WalkSteps.{next_context, next_leaves, next_tree, none_next, one_made, one_next}
use Rattle.lay_boxgen.proofs.context_walk.walk_over.Goals as goal

pub returns-then-not-is_next : goal.returns-then-not-is_next
returns-then-not-is_next c =
    let nodes = c.args.sources.nodes.now in
    let styles = c.args.sources.styles.now in
    let node = get_or nodes c.args.at c.index-sources-at.result in
    let is : node ≡ get_or nodes c.args.at node = ap (get_or nodes c.args.at) c.index-sources-at.is in
    let style = c.style_at-style.result.now in
    let at = c.args.at in
    let walk = c.args.walk.now in
    let before = c.requires.before in
    record {
      trees = next_leaves nodes styles at node style is c.style_at-style.ensures c.requires.place c.requires.styles (reverse walk.stack.items) (reverse c.put_node.new.stack.items) before.trees (c.in_ok-put_node.ensures {u = tt});
      made = before.made;
      few = before.few;
      before = none_next c.args.places.now c.requires.rising at walk.left before.few before.before (c.is_next.ensures.no c.if-not-is_next.true);
    }

pub take_context-requires : goal.take_context-requires
take_context-requires c =
    let nodes = c.args.sources.nodes.now in
    let styles = c.args.sources.styles.now in
    let node = get_or nodes c.args.at c.index-sources-at.result in
    let is : node ≡ get_or nodes c.args.at node = ap (get_or nodes c.args.at) c.index-sources-at.is in
    let style = c.style_at-style.result.now in
    let walk = c.args.walk.now in
    let next = c.is_next.ensures.yes c.if-not-is_next.false in
    let context : IsContextAt nodes styles c.args.at =
    subst (λ (k : ℕ). IsContextAt nodes styles k) next.1 (c.requires.contexts (walk.left - 1) (omega (arith, c.requires.before.few, next.0))) in
    next_context nodes styles c.args.at node style is c.style_at-style.ensures c.requires.place (reverse walk.stack.items) (reverse c.put_node.new.stack.items) (c.in_ok-put_node.ensures {u = tt}) context

pub boxes_of_tree-requires : goal.boxes_of_tree-requires
boxes_of_tree-requires c =
    let nodes = c.args.sources.nodes.now in
    let styles = c.args.sources.styles.now in
    let node = get_or nodes c.args.at c.index-sources-at.result in
    let is : node ≡ get_or nodes c.args.at node = ap (get_or nodes c.args.at) c.index-sources-at.is in
    let style = c.style_at-style.result.now in
    let walk = c.args.walk.now in
    sym ((c.in_ok-tree.ensures {u = tt}).own) ∙ next_tree nodes styles c.args.at node style is c.style_at-style.ensures c.requires.place c.requires.styles (reverse walk.stack.items) (reverse c.put_node.new.stack.items)
    c.requires.before.trees (c.in_ok-put_node.ensures {u = tt})

pub returns : goal.returns
returns c =
    let nodes = c.args.sources.nodes.now in
    let styles = c.args.sources.styles.now in
    let node = get_or nodes c.args.at c.index-sources-at.result in
    let is : node ≡ get_or nodes c.args.at node = ap (get_or nodes c.args.at) c.index-sources-at.is in
    let style = c.style_at-style.result.now in
    let at = c.args.at in
    let walk = c.args.walk.now in
    let places = c.args.places.now in
    let before = c.requires.before in
    let next = c.is_next.ensures.yes c.if-not-is_next.false in
    let leaves = next_leaves nodes styles at node style is c.style_at-style.ensures c.requires.place c.requires.styles (reverse walk.stack.items) (reverse c.put_node.new.stack.items) before.trees (c.in_ok-put_node.ensures {u = tt}) in
    let pushed : c.push.new.self.items ≡ walk.boxes.items ++ c.new.result ∷ [] = (c.in_ok-push.ensures {u = tt}).items in
    record {
      trees = (c.in_ok-tree.ensures {u = tt}).leaves ∙ leaves;
      made = rw pushed (one_made places c.requires.rising at walk.left before.few before.before nodes styles walk.boxes.items c.new.result next.0 next.1 (c.new.ensures ∙ (c.in_ok-boxes.ensures {u = tt}).boxes) before.made);
      few = omega (arith, before.few);
      before = one_next places c.requires.rising at walk.left before.few before.before next.0 next.1;
    }
