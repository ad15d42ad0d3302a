use Rattle.std.proofs.Common.{rules, ◌≡◌, ◌<◌, ◌++◌, [], true, false, All, ℕ, List, length, ap, subst, sym, ◌∙◌}
use Rattle.lay_contexts.specs.Contexts.{context_at}
use Rattle.lay_shape.specs.Building.{is_inner_absolute}
use Rattle.lay_shape.specs.Ways.{is_fixed, way_from, way_of}
use Rattle.lay_shape.proofs.BuildSteps.{way_small}
use Rattle.lay_shape.proofs.WaySteps.{no_way, way_begun}
use Rattle.lay_shape.proofs.ways.way_of.Goals as goal

pub returns-then-is_out_of_flow-clause-way : goal.returns-then-is_out_of_flow-clause-way
returns-then-is_out_of_flow-clause-way c =
    let contexts = c.args.contexts.now in
    let i = c.args.i in
    let out_of : is_inner_absolute contexts i ≡ true = search rules in
    let fixed : c.is_own_fixed-is_fixed.result ≡ is_fixed contexts i = search rules in
    let outer : c.outer.result ≡ (context_at contexts i).outer = search rules in
    let outer_box : c.outer_box.result ≡ (context_at contexts i).outer_box = search rules in
    let none : c.new-way.result.items ≡ [] = search rules in
    c.in_ok-push_way.ensures {u = tt} ∙ ap (λ (l : List ℕ). l ++ way_from c.outer.result c.is_own_fixed-is_fixed.result contexts c.outer.result c.outer_box.result) none
    ∙ ap (λ (o : ℕ). way_from o c.is_own_fixed-is_fixed.result contexts o c.outer_box.result) outer
    ∙ ap (λ (b : ℕ). way_from (context_at contexts i).outer c.is_own_fixed-is_fixed.result contexts (context_at contexts i).outer b) outer_box
    ∙ sym (way_begun contexts c.len.ensures.are c.is_own_fixed-is_fixed.result i c.requires out_of (sym fixed))

pub returns-then-is_out_of_flow-clause-within : goal.returns-then-is_out_of_flow-clause-within
returns-then-is_out_of_flow-clause-within c =
    let contexts = c.args.contexts.now in
    let i = c.args.i in
    let out_of : is_inner_absolute contexts i ≡ true = search rules in
    let fixed : c.is_own_fixed-is_fixed.result ≡ is_fixed contexts i = search rules in
    let outer : c.outer.result ≡ (context_at contexts i).outer = search rules in
    let outer_box : c.outer_box.result ≡ (context_at contexts i).outer_box = search rules in
    let none : c.new-way.result.items ≡ [] = search rules in
    let is : c.push_way.new.way.items ≡ way_of contexts i =
    c.in_ok-push_way.ensures {u = tt} ∙ ap (λ (l : List ℕ). l ++ way_from c.outer.result c.is_own_fixed-is_fixed.result contexts c.outer.result c.outer_box.result) none
    ∙ ap (λ (o : ℕ). way_from o c.is_own_fixed-is_fixed.result contexts o c.outer_box.result) outer
    ∙ ap (λ (b : ℕ). way_from (context_at contexts i).outer c.is_own_fixed-is_fixed.result contexts (context_at contexts i).outer b) outer_box
    ∙ sym (way_begun contexts c.len.ensures.are c.is_own_fixed-is_fixed.result i c.requires out_of (sym fixed)) in
    subst (λ (l : List ℕ). All (λ j. j < length contexts) l) (sym is) (way_small contexts c.len.ensures.are i c.requires)

pub returns-clause-way : goal.returns-clause-way
returns-clause-way c =
    let off : is_inner_absolute c.args.contexts.now c.args.i ≡ false = search rules in
    let none : c.new-way.result.items ≡ [] = search rules in
    none ∙ sym (no_way c.args.contexts.now c.len.ensures.are true c.args.i off)
