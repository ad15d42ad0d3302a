use Rattle.std.proofs.Common.{◌≡◌, ◌∙◌, ◌∷◌, [], length, map, List, ℕ, ap, arith, slice_index, slice_index_or}
use Rattle.std.proofs.lemmas.List.{take_all}
use Rattle.lay_contexts.specs.Contexts.{boxes_in}
use Rattle.lay_contexts.specs.FormattingBoxes.{at_home_before}
use Rattle.lay_contexts.specs.FormattingContextList.{homes_in, inner_number}
use Rattle.lay_contexts.specs.Partings.{Parting, homes_of}
use Rattle.lay_contexts.proofs.AtHome.{place_there}
use Rattle.lay_contexts.proofs.PartingFacts.{places_are}
use Rattle.lay_contexts.proofs.formatting_context_list.inner_numbers.Goals as goal

pub inner_number-number-requires-clause-inside : goal.inner_number-number-requires-clause-inside
inner_number-number-requires-clause-inside c =
    let contexts = c.args.contexts.now in
    let ps = c.args.partings.now in
    let i = c.args.i in
    let r = c.args.r in
    let homes = homes_in (homes_of ps) i in
    let n = length (boxes_in contexts i) in
    let places : slice_index_or c.parting_at-parting.result.now.at_home r [] ≡ at_home_before homes r n = ap (λ (p : Parting). slice_index_or p.at_home r []) c.parting_at-parting.ensures ∙ places_are contexts ps c.requires.partings i r c.requires.within c.requires.inside in
    let count = ap length places in
    let there = place_there homes r n c.loop-a.a (omega (arith, count, c.count_at_home-count.ensures, c.loop-a-test.true)) in
    let is = c.at_home.ensures ∙ ap (λ (ks : List ℕ). slice_index ks c.loop-a.a) places in
    omega (arith, is, there.before)

pub returns : goal.returns
returns c =
    let contexts = c.args.contexts.now in
    let ps = c.args.partings.now in
    let i = c.args.i in
    let r = c.args.r in
    let homes = homes_in (homes_of ps) i in
    let n = length (boxes_in contexts i) in
    let listed : List ℕ = slice_index_or c.parting_at-parting.result.now.at_home r [] in
    let places : listed ≡ at_home_before homes r n = ap (λ (p : Parting). slice_index_or p.at_home r []) c.parting_at-parting.ensures ∙ places_are contexts ps c.requires.partings i r c.requires.within c.requires.inside in
    let all = take_all c.loop-a.a listed (omega (arith, c.count_at_home-count.ensures, c.loop-a-test.false)) in
    c.loop-a.invariant ∙ ap (λ (ks : List ℕ). 0 ∷ map (inner_number contexts i) ks) (all ∙ places)
