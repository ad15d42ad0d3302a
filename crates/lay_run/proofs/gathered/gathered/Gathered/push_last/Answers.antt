use Rattle.std.proofs.Common.{◌≡◌, ◌∙◌, List, ap, sym, subst, arith, get_or, option_map, Some}
use Rattle.lay_doc.specs.Document.{Document}
use Rattle.lay_doc.specs.Edits.{after_insert, last_index}
use Rattle.lay_run.specs.declared.gathered.listing.Listed.{Listed}
use Rattle.lay_run.specs.Gathered.Numbers.{number_of}
use Rattle.lay_run.specs.Gathered.Standing.{IsGathered}
use Rattle.lay_run.specs.Gathered.ListedDocuments.{listed_document}
use Rattle.lay_run.proofs.GatheredLemmas.Faults.{no_parent, fault_is, fits}
use Rattle.lay_run.proofs.GatheredLemmas.Gathers.{has_links, gathered_more}
use Rattle.lay_run.proofs.GatheredLemmas.Roots.{grown_document, same_gathered}
use Rattle.lay_run.proofs.gathered.gathered.Gathered.push_last.Goals as goal

pub unreachable-requires : goal.unreachable-requires
unreachable-requires c =
    let d = listed_document c.self.inside.width c.self.inside.height c.self.inside.listing.items.items in
    let none = sym c.find.ensures ∙ c.in-None.is in
    let fault = no_parent d c.self.inside.listing c.self.invariant c.args.parent.0 c.args.new none in
    let without = rw (← c.self.view_is) at c.requires in
    let both = sym fault ∙ without in
    absurd cc

pub put-requires-clause-links : goal.put-requires-clause-links
put-requires-clause-links c = has_links (listed_document c.self.inside.width c.self.inside.height c.self.inside.listing.items.items) c.self.inside.listing c.self.invariant

pub put-requires-clause-up : goal.put-requires-clause-up
put-requires-clause-up c =
    let number : number_of c.self.inside.listing.numbers c.args.parent.0 ≡ Some c.in-Some.up = sym c.find.ensures ∙ c.in-Some.is in
    let known = c.self.invariant.known c.args.parent.0 in
    let within = rw number at known in
    omega (arith, within, c.self.invariant.stands.item_count)

pub put-requires-clause-shallow : goal.put-requires-clause-shallow
put-requires-clause-shallow c =
    let l = c.self.inside.listing in
    let d = listed_document c.self.inside.width c.self.inside.height l.items.items in
    let number : number_of l.numbers c.args.parent.0 ≡ Some c.in-Some.up = sym c.find.ensures ∙ c.in-Some.is in
    let without = rw (← c.self.view_is) at c.requires in
    let f = fits l c.in-Some.up c.args.new (sym (fault_is d l c.self.invariant c.args.parent.0 c.in-Some.up c.args.new number) ∙ without) in
    f.shallow

pub invariant_of-self : goal.invariant_of-self
invariant_of-self c =
    let l = c.self.inside.listing in
    let d = listed_document c.self.inside.width c.self.inside.height l.items.items in
    let same = c.in_err-put-in-Some.ensures.err in
    subst (λ (xs : List Listed). IsGathered (listed_document c.self.inside.width c.self.inside.height xs) c.put.new.self) (sym same.items) (same_gathered d l c.put.new.self c.self.invariant same)

pub invariant_of-self-in-Some : goal.invariant_of-self-in-Some
invariant_of-self-in-Some c =
    let l = c.self.inside.listing in
    let d = listed_document c.self.inside.width c.self.inside.height l.items.items in
    let g = c.self.invariant in
    let ok = c.in_ok-put-in-Some.ensures {u = tt} in
    let number : number_of l.numbers c.args.parent.0 ≡ Some c.in-Some.up = sym c.find.ensures ∙ c.in-Some.is in
    let without = rw (← c.self.view_is) at c.requires in
    let f = fits l c.in-Some.up c.args.new (sym (fault_is d l g c.args.parent.0 c.in-Some.up c.args.new number) ∙ without) in
    let fresh = g.found c.args.new.id.0 ∙ ap (option_map (λ i. get_or g.stands.places i 0)) f.fresh in
    let more = gathered_more d l c.put.new.self g c.args.parent c.in-Some.up c.args.new ok.ok number fresh c.kind.ensures.form without in
    let doc = grown_document c.self.inside.width c.self.inside.height l c.put.new.self c.args.parent c.in-Some.up c.args.new ok.ok (omega (arith, g.stands.item_count, g.stands.document.some)) in
    subst (λ (e : Document). IsGathered e c.put.new.self) (sym doc) more

pub returns-clause-ok : goal.returns-clause-ok
returns-clause-ok c =
    let l = c.self.inside.listing in
    let g = c.self.invariant in
    let ok = c.in_ok-put-in-Some.ensures {u = tt} in
    let doc = grown_document c.self.inside.width c.self.inside.height l c.put.new.self c.args.parent c.in-Some.up c.args.new ok.ok (omega (arith, g.stands.item_count, g.stands.document.some)) in
    doc ∙ ap (λ (e : Document). after_insert e c.args.parent.0 (last_index e c.args.parent.0) c.args.new) c.self.view_is
