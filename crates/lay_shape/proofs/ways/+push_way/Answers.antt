use Rattle.std.proofs.Common.{rules, ◌≡◌, ◌++◌, ◌∷◌, [], true, false, ℕ, List, ap, sym, ◌∙◌, append_assoc}
use Rattle.lay_contexts.specs.Contexts.{context_at}
use Rattle.lay_shape.specs.Building.{leads_on}
use Rattle.lay_shape.specs.Ways.{way_from}
use Rattle.lay_shape.proofs.WaySteps.{way_ends, way_goes}
use Rattle.lay_shape.proofs.ways.+push_way.Goals as goal

pub returns-then-leads_on : goal.returns-then-leads_on
returns-then-leads_on t c =
    let contexts = c.args.contexts.now in
    let i = c.args.i in
    let fixed = c.args.is_fixed in
    let on : leads_on fixed contexts i c.args.k ≡ true = search rules in
    let items : c.push.new.self.items ≡ c.args.way.now.items ++ i ∷ [] = (c.in_ok-push.ensures {u = tt}).items in
    let outer : c.outer.result ≡ (context_at contexts i).outer = search rules in
    let outer_box : c.outer_box.result ≡ (context_at contexts i).outer_box = search rules in
    let rest : List ℕ = way_from (context_at contexts i).outer fixed contexts (context_at contexts i).outer (context_at contexts i).outer_box in
    let same : way_from c.outer.result fixed contexts c.outer.result c.outer_box.result ≡ rest =
    ap (λ (o : ℕ). way_from o fixed contexts o c.outer_box.result) outer ∙ ap (λ (b : ℕ). way_from (context_at contexts i).outer fixed contexts (context_at contexts i).outer b) outer_box in
    c.in_ok-push_way.ensures {u = tt} ∙ ap (λ (l : List ℕ). l ++ way_from c.outer.result fixed contexts c.outer.result c.outer_box.result) items
    ∙ ap (λ (l : List ℕ). (c.args.way.now.items ++ i ∷ []) ++ l) same ∙ append_assoc c.args.way.now.items (i ∷ []) rest
    ∙ ap (λ (l : List ℕ). c.args.way.now.items ++ l) (sym (way_goes contexts c.len.ensures.are fixed i c.args.k c.requires.within on))

pub returns : goal.returns
returns t c =
    let contexts = c.args.contexts.now in
    let off : leads_on c.args.is_fixed contexts c.args.i c.args.k ≡ false = search rules in
    let items : c.push.new.self.items ≡ c.args.way.now.items ++ c.args.i ∷ [] = (c.in_ok-push.ensures {u = tt}).items in
    items ∙ ap (λ (l : List ℕ). c.args.way.now.items ++ l) (sym (way_ends contexts c.len.ensures.are c.args.is_fixed c.args.i c.args.k off))
