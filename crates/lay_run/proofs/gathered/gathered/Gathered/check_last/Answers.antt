use Rattle.std.proofs.Common.{◌≡◌, ◌∙◌, sym, arith, Some}
use Rattle.lay_run.specs.Gathered.Numbers.{number_of}
use Rattle.lay_run.specs.Gathered.ListedDocuments.{listed_document}
use Rattle.lay_run.proofs.GatheredLemmas.Faults.{no_parent, fault_is}
use Rattle.lay_run.proofs.gathered.gathered.Gathered.check_last.Goals as goal

pub fault_at-requires-clause-up : goal.fault_at-requires-clause-up
fault_at-requires-clause-up c =
    let number : number_of c.self.inside.listing.numbers c.args.parent.0 ≡ Some c.in-Some.up = sym c.find.ensures ∙ c.in-Some.is in
    let known = c.self.invariant.known c.args.parent.0 in
    let within = rw number at known in
    omega (arith, within, c.self.invariant.stands.item_count)

pub fault_at-requires-clause-bytes : goal.fault_at-requires-clause-bytes
fault_at-requires-clause-bytes c = omega (arith, c.self.invariant.text, c.self.invariant.stands.document.small)

pub returns-in-None : goal.returns-in-None
returns-in-None c =
    let d = listed_document c.self.inside.width c.self.inside.height c.self.inside.listing.items.items in
    let none = sym c.find.ensures ∙ c.in-None.is in
    let fault = no_parent d c.self.inside.listing c.self.invariant c.args.parent.0 c.args.new.now none in
    rw (← c.self.view_is) (sym fault)

pub returns-in-Some : goal.returns-in-Some
returns-in-Some c =
    let d = listed_document c.self.inside.width c.self.inside.height c.self.inside.listing.items.items in
    let number : number_of c.self.inside.listing.numbers c.args.parent.0 ≡ Some c.in-Some.up = sym c.find.ensures ∙ c.in-Some.is in
    rw (← c.self.view_is) (c.fault_at.ensures ∙ sym (fault_is d c.self.inside.listing c.self.invariant c.args.parent.0 c.in-Some.up c.args.new.now number))
