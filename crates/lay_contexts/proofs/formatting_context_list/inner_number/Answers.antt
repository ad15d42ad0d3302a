use Rattle.std.proofs.Common.{rules, ◌≡◌, ◌∙◌, false, length, slice_index, ap, sym, arith}
use Rattle.lay_contexts.specs.Contexts.{boxes_in, context_at}
use Rattle.lay_contexts.specs.FormattingContextList.{first_number}
use Rattle.lay_contexts.specs.Homes.{is_root}
use Rattle.lay_contexts.specs.Partings.{parting_at}
use Rattle.lay_contexts.proofs.PartingFacts.{first_is, inner_else, inner_within, numbers_there}
use Rattle.lay_contexts.proofs.formatting_context_list.inner_number.Goals as goal

pub parting_at-requires-2 : goal.parting_at-requires-2
parting_at-requires-2 c =
    let contexts = c.args.contexts.now in
    let inner : c.place_at-inner.result ≡ slice_index (context_at contexts c.args.i).inner c.args.k = search rules in
    let low = inner_within contexts c.args.i c.args.k c.at-context.ensures.are c.requires.within c.requires.inside in
    omega (arith, inner, low, c.requires.partings.count)

pub number-requires-2 : goal.number-requires-2
number-requires-2 c =
    let contexts = c.args.contexts.now in
    let ps = c.args.partings.now in
    let x = c.place_at-inner.result in
    let inner : x ≡ slice_index (context_at contexts c.args.i).inner c.args.k = search rules in
    let low = inner_within contexts c.args.i c.args.k c.at-context.ensures.are c.requires.within c.requires.inside in
    let count = numbers_there contexts ps c.requires.partings x (omega (arith, inner, low)) in
    let is : length c.parting_at-2.result.now.numbers ≡ length (parting_at ps x).numbers = search rules in
    omega (arith, count, is)

pub returns : goal.returns
returns c =
    let contexts = c.args.contexts.now in
    let ps = c.args.partings.now in
    let i = c.args.i in
    let k = c.args.k in
    let x = c.place_at-inner.result in
    let inner : x ≡ slice_index (context_at contexts i).inner k = search rules in
    let low = inner_within contexts i k c.at-context.ensures.are c.requires.within c.requires.inside in
    let number : c.number-2.result ≡ slice_index (parting_at ps x).numbers 0 = search rules in
    let none : is_root (boxes_in contexts i) k ≡ false = search rules in
    number ∙ first_is contexts ps c.requires.partings x (omega (arith, inner, low)) ∙ ap (first_number contexts) inner ∙ sym (inner_else contexts i k none)
