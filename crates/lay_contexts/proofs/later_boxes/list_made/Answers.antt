use Rattle.std.proofs.Common.{rules, ◌≡◌, ◌++◌, ◌∷◌, [], false, true, List, ℕ, length, refl, ap, sym, ◌∙◌, arith}
use Rattle.lay_box_tree.specs.declared.box_tree.BoxNode.{BoxNode}
use Rattle.lay_contexts.specs.Contexts.{boxes_in}
use Rattle.lay_contexts.specs.FormattingBoxes.{boxes_of_root}
use Rattle.lay_contexts.specs.FormattingContexts.{FormattingContext, formatting_context_at}
use Rattle.lay_contexts.specs.FormattingContextList.{homes_in}
use Rattle.lay_contexts.specs.Homes.{is_root}
use Rattle.lay_contexts.specs.Partings.{IsParting}
use Rattle.lay_contexts.proofs.FollowedLinks.{context_follows, few_before, homes_found, next_follows, next_there, passed_follows}
use Rattle.lay_contexts.proofs.later_boxes.list_made.Goals.{then-is_root+in_ok-own+in_ok-context+in_ok-push, else-is_root}
use Rattle.lay_contexts.proofs.later_boxes.list_made.Goals as goal

pub new-requires-clause-few : goal.new-requires-clause-few
new-requires-clause-few c =
    let few = few_before c.args.of.now.contexts.now c.args.of.now.later.now c.requires.links c.args.of.now.all.now c.args.items.now.items c.args.i 0 c.requires.before c.requires.within refl in
    let most = c.len.ensures.few in
    omega (arith, few, most, c.len-first.ensures)

pub boxes_of_root-requires-clause-root : goal.boxes_of_root-requires-clause-root
boxes_of_root-requires-clause-root c =
    let later = c.args.of.now.later.now in
    let boxes : c.as_slice-listed.result.now ≡ c.boxes-boxes.result.now = search rules in
    rw boxes at (sym c.is_root.ensures ∙ c.if-is_root.true)

pub at-requires-then-is_root : goal.at-requires-then-is_root
at-requires-then-is_root c =
    let later = c.args.of.now.later.now in
    let i = c.args.i in
    let r = c.loop-r.r in
    let boxes : c.as_slice-listed.result.now ≡ boxes_in later i = search rules in
    let within = rw boxes at c.loop-r-test.true in
    let root : is_root (boxes_in later i) r ≡ true = rw boxes at (sym c.is_root.ensures ∙ c.if-is_root.true) in
    let there = next_there c.args.of.now.contexts.now later c.requires.links c.args.of.now.all.now c.loop-r.items.items i r c.loop-r.invariant c.requires.within within root in
    omega (arith, there, c.len-then-is_root.ensures)

pub loop-r-preserved : goal.loop-r-preserved
loop-r-preserved c =
    let contexts = c.args.of.now.contexts.now in
    let later = c.args.of.now.later.now in
    let all = c.args.of.now.all.now in
    let i = c.args.i in
    let r = c.loop-r.r in
    let was = c.loop-r.items.items in
    let p = c.in_ok-parting.parting in
    let known = c.loop-r.invariant in
    let boxes : c.as_slice-listed.result.now ≡ boxes_in later i = search rules in
    let shared : c.boxes-boxes.result.now ≡ boxes_in later i = search rules in
    let test : c.is_root.result ≡ is_root (boxes_in later i) r = rw boxes at c.is_root.ensures in
    let within = rw boxes at c.loop-r-test.true in
    let parting : IsParting (boxes_in later i) c.len-first.result p = rw boxes at (c.in_ok-parting.ensures {u = tt}) in
    let homes = homes_found contexts later c.requires.links all was i r known c.requires.within c.len-first.result p parting in
    elim c.if-is_root.branch [
      | then-is_root+in_ok-own+in_ok-context+in_ok-push w ↦ (let items : c.if-is_root.items.items ≡ was ++ w.in_ok-context.context ∷ [] = search rules in
          let own : w.in_ok-own.own ≡ boxes_of_root (boxes_in later i) (homes_in known.of.homes i) r =
          w.in_ok-own.ensures {u = tt} ∙ (ap (λ (bs : List BoxNode). boxes_of_root bs p.homes r) shared ∙ ap (λ (hs : List ℕ). boxes_of_root (boxes_in later i) hs r) homes) in
          let before : w.at-then-is_root.result.now ≡ formatting_context_at all (length was) = w.at-then-is_root.ensures.context ∙ ap (formatting_context_at all) (w.len-then-is_root.ensures ∙ c.loop-r.items.ok.0) in
          let is = w.in_ok-context.ensures {u = tt}
          ∙ (ap (λ (f : FormattingContext). record f { boxes = w.in_ok-own.own }) before
          ∙ ap (λ (bs : List BoxNode). record (formatting_context_at all (length was)) { boxes = bs }) own) in
          rw items (next_follows contexts later c.requires.links all was i r known c.requires.within within (sym test ∙ w.if-is_root.true) w.in_ok-context.context is))
      | else-is_root w ↦ (let items : c.if-is_root.items.items ≡ was = search rules in
          rw items (passed_follows contexts later c.requires.links all was i r known c.requires.within (sym test ∙ w.if-is_root.false)))
    ]

pub returns : goal.returns
returns c =
    let later = c.args.of.now.later.now in
    let boxes : c.as_slice-listed.result.now ≡ boxes_in later c.args.i = search rules in
    let count = ap length boxes in
    context_follows c.args.of.now.contexts.now later c.requires.links c.args.of.now.all.now c.loop-r.items.items c.args.i c.loop-r.r c.loop-r.invariant c.requires.within
    (omega (arith, count, c.loop-r-test.false, c.loop-r.auto.r-end))
