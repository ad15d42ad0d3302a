use Rattle.std.proofs.Common.{rules, ◌≡◌, ◌++◌, ◌∷◌, [], ap, sym, ◌∙◌, map, arith, List, ℕ}
use Rattle.std.specs.List.{range_with_len}
use Rattle.std.proofs.lemmas.List.FromFn.{map-range_with_len_more}
use Rattle.lay_shape.specs.Levels.{level_of}
use Rattle.lay_shape.proofs.levels.levels.Goals as goal

pub loop-i-preserved : goal.loop-i-preserved
loop-i-preserved c =
    let contexts = c.args.contexts.now in
    let i = c.loop-i.i in
    let items : c.push.new.self.items ≡ c.loop-i.levels.items ++ c.level_of-level.result ∷ [] = (c.in_ok-push.ensures {u = tt}).items in
    let level : c.level_of-level.result ≡ level_of contexts i = search rules in
    items ∙ ap (λ (l : List ℕ). l ++ c.level_of-level.result ∷ []) c.loop-i.invariant
    ∙ ap (λ (x : ℕ). map (level_of contexts) (range_with_len 0 i) ++ x ∷ []) level
    ∙ sym (map-range_with_len_more (level_of contexts) 0 i i (omega arith))
