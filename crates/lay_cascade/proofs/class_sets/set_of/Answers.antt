use Rattle.std.proofs.Common.{◌≡◌, ◌∙◌, ◌<◌, ◌≤◌, length, take, ap, bytes_eq, arith, rules}
use Rattle.std.specs.List.{list_any}
use Rattle.std.specs.HashMap as hash
use Rattle.std.proofs.lemmas.Grind.{common_steps}
use Rattle.std.proofs.lemmas.List.{take_all}
use Rattle.std.proofs.lemmas.Map.Text.{hash_map_updates_str}
use Rattle.lay_cascade.proofs.ClassSets.{one_more, more_classes}
use Rattle.lay_cascade.proofs.class_sets.set_of.Goals as goal

pub loop-i-preserved : goal.loop-i-preserved
loop-i-preserved c = λ q.
    let classes = c.args.classes.now in
    let class = c.bytes_at.result.now in
    let here : c.loop-i.i < length classes = first_of (search rules, grind (arith, common_steps)) in
    let put = hash_map_updates_str class c.loop-i.places c.insert.new.self _ c.in_ok-insert.ensures.updates q in
    one_more q class (take c.loop-i.i classes) (hash.get_by (λ key. bytes_eq q key.now) c.loop-i.places) (hash.get_by (λ key. bytes_eq q key.now) c.insert.new.self) c.loop-i.i put (c.loop-i.invariant q)
    ∙ ap (list_any (λ class. bytes_eq q class)) (more_classes classes c.loop-i.i class here c.bytes_at.ensures)

pub returns : goal.returns
returns c = λ q.
    let all : length c.args.classes.now ≤ c.loop-i.i = first_of (omega (arith, c.loop-i-test.false, c.loop-i.auto.i-end), search rules, grind (arith, common_steps)) in
    c.loop-i.invariant q ∙ ap (list_any (λ class. bytes_eq q class)) (take_all c.loop-i.i c.args.classes.now all)
