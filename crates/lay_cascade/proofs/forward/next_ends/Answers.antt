use Rattle.std.proofs.Common.{◌≡◌, ◌+◌, ◌-◌, ◌<◌, ◌≤◌, ◌++◌, ◌∷◌, [], ℕ, List, Bool, length, sym, subst, arith, rules}
use Rattle.std.proofs.lemmas.Grind.{common_steps}
use Rattle.lay_sheet.specs.declared.selector.Joint.{Joint}
use Rattle.lay_cascade.specs.Matching.{Says}
use Rattle.lay_cascade.specs.Columns.{IsColumn, ComeTo, Leads}
use Rattle.lay_cascade.specs.Words.{is_in}
use Rattle.lay_cascade.specs.Reading.{AreRead}
use Rattle.lay_cascade.proofs.Columns.{says_of, column_more, column_leads}
use Rattle.lay_cascade.proofs.Reading.{read_more}
use Rattle.lay_cascade.proofs.forward.next_ends.Goals as goal

pub node_words-words-requires-clause-front : goal.node_words-words-requires-clause-front
node_words-words-requires-clause-front c = λ step e.
    let nodes = c.args.named.nodes.now in
    let names = c.args.named.names.now in
    let steps = c.args.window.now.steps.now in
    let from = c.args.window.now.from in
    let w = c.requires.window.within in
    let inside : from ≤ length steps = omega (arith, w) in
    subst (λ (z : Joint). Says c.is_reached-front.result (Leads nodes names steps from z c.loop-k.k)) (c.first_joint-joint.ensures step e)
    (column_leads nodes names steps from c.args.ends.now c.first_joint-joint.result c.is_reached-front.result c.loop-k.k c.requires.behind inside c.requires.named.count c.requires.come c.is_reached-front.ensures)

pub loop-k-preserved : goal.loop-k-preserved
loop-k-preserved c =
    let nodes = c.args.named.nodes.now in
    let names = c.args.named.names.now in
    let window = c.args.window.now in
    let words = c.node_words-words.result in
    let k = c.loop-k.k in
    let come = ComeTo nodes names window.steps.now (window.from + window.count) in
    let pushed_here : c.push.new.self.items ≡ c.loop-k.here.items ++ words.here ∷ [] = first_of (search rules, grind (arith, common_steps)) in
    let pushed_above : c.push-in-loop-k.new.self.items ≡ c.loop-k.above.items ++ words.above ∷ [] = first_of (search rules, grind (arith, common_steps)) in
    let pushed_next : c.push-in-loop-k-2.new.self.items ≡ c.loop-k.next.items ++ c.is_in.result ∷ [] = first_of (search rules, grind (arith, common_steps)) in
    let some = c.requires.window.some in
    let last : window.count - 1 < window.count = omega (arith, some) in
    let sum : (window.from + (window.count - 1)) + 1 ≡ window.from + window.count = omega (arith, some) in
    let told = subst (λ (z : ℕ). Says (is_in words.here (window.count - 1)) (ComeTo nodes names window.steps.now z k)) sum (c.node_words-words.ensures.comes (window.count - 1) last) in
    record {
      read = subst (λ (z : List ℕ). AreRead nodes names window (k + 1) z c.push-in-loop-k.new.self.items) (sym pushed_here)
          (subst (λ (z : List ℕ). AreRead nodes names window (k + 1) (c.loop-k.here.items ++ words.here ∷ []) z) (sym pushed_above)
          (read_more nodes names window k c.loop-k.here.items c.loop-k.above.items words.here words.above c.loop-k.invariant.read c.node_words-words.ensures));
      next = subst (λ (z : List Bool). IsColumn (k + 1) come z) (sym pushed_next)
          (column_more come k c.loop-k.next.items c.is_in.result c.loop-k.invariant.next (says_of c.is_in.result (is_in words.here (window.count - 1)) (come k) c.is_in.ensures told));
    }

pub returns : goal.returns
returns c =
    let come = ComeTo c.args.named.nodes.now c.args.named.names.now c.args.window.now.steps.now (c.args.window.now.from + c.args.window.now.count) in
    let all : c.loop-k.k ≡ length c.args.named.nodes.now = first_of (omega (arith, c.loop-k-test.false, c.loop-k.auto.k-end), search rules, grind (arith, common_steps)) in
    subst (λ (z : ℕ). IsColumn z come c.loop-k.next.items) all c.loop-k.invariant.next
