use Rattle.std.proofs.Common.{rules, ◌≡◌, ◌<◌, ℕ, [], ◌∷◌, ◌++◌, length, slice_index, slice_index_or, length-append, List, ap, ◌∙◌, arith}
use Rattle.std.proofs.lemmas.List.{get_or_read}
use Rattle.lay_contexts.specs.FormattingBoxes.{at_home_before}
use Rattle.lay_contexts.proofs.GrowingColumns.{lists_next, rank_next}
use Rattle.lay_contexts.proofs.ranks.rank.Goals as goal

pub returns-clause-rank : goal.returns-clause-rank
returns-clause-rank c =
    let homes = c.args.homes.now in
    let k = c.args.k in
    let h = c.place_at-home.result in
    let lists = c.args.at_home.now.items in
    let home : h ≡ slice_index homes k = search rules in
    let there : h < length homes = omega (arith, home, c.requires.home) in
    let found = c.in_ok-count.ensures {u = tt} in
    let old : c.index_mut.result.now ≡ slice_index_or lists h [] = get_or_read lists h c.index_mut.result.now (omega (arith, there, c.requires.lists)) c.index_mut.ensures.value [] in
    let added : c.add.new.self ≡ slice_index_or lists h [] ++ k ∷ [] = found.places ∙ ap (λ (js : List ℕ). js ++ k ∷ []) old in
    let count = ap length added ∙ length-append (slice_index_or lists h []) (k ∷ []) in
    let before = ap length (c.requires.before h there) in
    let homed = ap (λ (p : ℕ). length (at_home_before homes p k)) home in
    let is = rank_next homes k (omega (arith, c.if-k-eq0.false)) in
    omega (arith, found.count, count, before, homed, is)

pub returns-clause-after : goal.returns-clause-after
returns-clause-after c r lt =
    let homes = c.args.homes.now in
    let k = c.args.k in
    let h = c.place_at-home.result in
    let lists = c.args.at_home.now.items in
    let home : h ≡ slice_index homes k = search rules in
    let there : h < length lists = omega (arith, home, c.requires.home, c.requires.lists) in
    let found = c.in_ok-count.ensures {u = tt} in
    let old : c.index_mut.result.now ≡ slice_index_or lists h [] = get_or_read lists h c.index_mut.result.now (omega (arith, there, c.requires.lists)) c.index_mut.ensures.value [] in
    let added : c.add.new.self ≡ slice_index_or lists h [] ++ k ∷ [] = found.places ∙ ap (λ (js : List ℕ). js ++ k ∷ []) old in
    lists_next homes lists k h c.add.new.self (omega (arith, c.if-k-eq0.false)) home there c.requires.lists c.requires.before added r lt
