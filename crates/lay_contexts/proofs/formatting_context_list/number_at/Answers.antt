use Rattle.std.proofs.Common.{rules, ◌≡◌, ◌∙◌, length, slice_index, ap, arith}
use Rattle.lay_contexts.specs.Partings.{parting_at}
use Rattle.lay_contexts.proofs.PartingFacts.{home_within_boxes, number_around, numbers_there}
use Rattle.lay_contexts.proofs.formatting_context_list.number_at.Goals as goal

pub number-requires : goal.number-requires
number-requires c =
    let contexts = c.args.contexts.now in
    let ps = c.args.partings.now in
    let s = c.args.spot in
    let home : c.home.result ≡ slice_index (parting_at ps s.context).homes s.place = search rules in
    let low = home_within_boxes contexts ps c.requires.partings s.context s.place c.at.ensures.are c.requires.within c.requires.inside in
    let count = numbers_there contexts ps c.requires.partings s.context c.requires.within in
    let is : length c.parting_at-parting.result.now.numbers ≡ length (parting_at ps s.context).numbers = search rules in
    omega (arith, home, low, count, is)

pub returns : goal.returns
returns c =
    let contexts = c.args.contexts.now in
    let ps = c.args.partings.now in
    let s = c.args.spot in
    let home : c.home.result ≡ slice_index (parting_at ps s.context).homes s.place = search rules in
    let number : c.number.result ≡ slice_index (parting_at ps s.context).numbers c.home.result = search rules in
    number ∙ ap (slice_index (parting_at ps s.context).numbers) home ∙ number_around contexts ps c.requires.partings s c.at.ensures.are c.requires.within c.requires.inside
