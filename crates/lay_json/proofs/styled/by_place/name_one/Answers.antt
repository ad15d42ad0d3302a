use Rattle.std.proofs.Common.{◌∙◌, ◌<◌, length, sym, subst, arith, rules}
use Rattle.std.proofs.lemmas.Grind.{common_steps}
use Rattle.lay_json.specs.Styled.NamesByPlace.{IsNamedOne}
use Rattle.lay_json.proofs.StyledLemmas.Naming.{named_found, named_none}
use Rattle.lay_json.proofs.styled.by_place.name_one.Goals as goal

pub returns-in-Some-clause-names : goal.returns-in-Some-clause-names
returns-in-Some-clause-names c =
    let here : c.in-Some.place < length c.args.doc.now.nodes = first_of (search rules, grind (arith, common_steps)) in
    subst (IsNamedOne c.args.doc.now.nodes c.args.id.0 c.args.names c.args.named.now.items) (sym c.put_names.ensures)
    (named_found c.args.doc.now c.requires.valid c.args.id.0 c.args.names c.args.named.now.items c.requires.count c.in-Some.place (sym c.find.ensures.value ∙ c.in-Some.is) here)

pub returns-in-None-clause-names : goal.returns-in-None-clause-names
returns-in-None-clause-names c =
    named_none c.args.doc.now c.requires.valid c.args.id.0 c.args.names c.args.named.now.items c.requires.count (sym c.find.ensures.value ∙ c.in-None.is)
