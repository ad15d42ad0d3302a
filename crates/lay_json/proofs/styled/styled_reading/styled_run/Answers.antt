use Rattle.std.proofs.Common.{◌≡◌, ◌∙◌, length, ap, subst, arith, rules}
use Rattle.std.proofs.lemmas.Grind.{common_steps}
use Rattle.lay_doc.specs.Document.{Document}
use Rattle.lay_run.specs.Runs.{IsListed}
use Rattle.lay_cascade.specs.Styled.Cascade.{IsCascaded}
use Rattle.lay_json.specs.Styled.NamesByPlace.{names_by_place}
use Rattle.lay_json.proofs.StyledLemmas.Naming.{length_named, listed_still}
use Rattle.lay_json.proofs.styled.styled_reading.styled_run.Goals as goal

pub styled-requires : goal.styled-requires
styled-requires c =
    let named : c.as_slice-2.result.now ≡ names_by_place c.into_parts-doc.result.3 c.args.names c.into_parts-doc.result.0.nodes = first_of (search rules, grind (arith, common_steps)) in
    ap length named ∙ length_named c.into_parts-doc.result.3 c.args.names c.into_parts-doc.result.0.nodes

pub new-requires : goal.new-requires
new-requires c =
    let cascaded : IsCascaded c.into_parts-doc.result.0 c.args.sheet.now c.as_slice-2.result.now c.in-Ok.doc = first_of (search rules, grind (arith, common_steps)) in
    let listed : IsListed c.into_parts-doc.result.0 c.into_parts-doc.result.3 = first_of (search rules, grind (arith, common_steps)) in
    listed_still c.into_parts-doc.result.0 c.in-Ok.doc c.args.sheet.now c.as_slice-2.result.now c.into_parts-doc.result.3 cascaded listed

pub returns-in-Ok : goal.returns-in-Ok
returns-in-Ok c =
    let doc = c.into_parts-doc.result.0 in
    let sheet = c.args.sheet.now in
    let named : c.as_slice-2.result.now ≡ names_by_place c.into_parts-doc.result.3 c.args.names c.into_parts-doc.result.0.nodes = first_of (search rules, grind (arith, common_steps)) in
    let cascaded : IsCascaded doc sheet c.as_slice-2.result.now c.in-Ok.doc = first_of (search rules, grind (arith, common_steps)) in
    record {
      doc = c.in-Ok.doc;
      cascaded = subst (λ (z : Document). IsCascaded z sheet (names_by_place c.args.run.listed c.args.names z.nodes) c.in-Ok.doc) c.into_parts-doc.ensures.doc
          (subst (λ z. IsCascaded doc sheet (names_by_place z c.args.names doc.nodes) c.in-Ok.doc) c.into_parts-doc.ensures.listed
          (subst (λ z. IsCascaded doc sheet z c.in-Ok.doc) named cascaded));
      is = first_of (search rules, grind (arith, common_steps));
    }
