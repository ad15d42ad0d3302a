use Rattle.std.proofs.Common.{◌≡◌, List, refl, sym, subst, rules, None}
use Rattle.lay_doc.specs.Edits.{root_fault}
use Rattle.lay_run.specs.declared.gathered.listing.Listed.{Listed}
use Rattle.lay_run.specs.Gathered.ListedDocuments.{listed_document}
use Rattle.lay_run.specs.Gathered.Standing.{IsGathered}
use Rattle.lay_run.proofs.GatheredLemmas.Roots.{root_is_document, root_gathered}
use Rattle.lay_run.proofs.gathered.gathered.Gathered.new.Goals as goal

pub invariant_of-result : goal.invariant_of-result
invariant_of-result c =
    let none : root_fault c.args.root ≡ None = search rules in
    let is = root_is_document c.args.width c.args.height c.args.root c.requires.wide c.requires.narrow c.requires.high c.requires.low c.kind.ensures.form none in
    let of = c.in-Ok.ensures in
    subst (λ (xs : List Listed). IsGathered (listed_document c.args.width c.args.height xs) c.in-Ok.listing) (sym of.items) (root_gathered c.args.width c.args.height c.args.root c.in-Ok.listing is of)

pub returns-in-Ok-clause-ok : goal.returns-in-Ok-clause-ok
returns-in-Ok-clause-ok c =
    let of = c.in-Ok.ensures in
    rw of.items refl
