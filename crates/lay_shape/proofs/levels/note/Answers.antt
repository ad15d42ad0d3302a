use Rattle.std.proofs.Common.{◌≡◌, ◌++◌, ◌∷◌, [], ℕ, List, slice_index_or, slice_set, ap, ◌∙◌}
use Rattle.std.proofs.lemmas.List.{get_or_read}
use Rattle.lay_shape.proofs.levels.note.Goals as goal

pub returns : goal.returns
returns c =
    let lists = c.args.lists.now.items in
    let old : c.index_mut.result.now ≡ slice_index_or lists c.args.level [] = get_or_read lists c.args.level c.index_mut.result.now c.requires c.index_mut.ensures.value [] in
    let added : c.push.new.self ≡ slice_index_or lists c.args.level [] ++ c.args.i ∷ [] = c.in_ok-push.ensures {u = tt} ∙ ap (λ (js : List ℕ). js ++ c.args.i ∷ []) old in
    ap (slice_set lists c.args.level) added
