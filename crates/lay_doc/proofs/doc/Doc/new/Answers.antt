use Rattle.std.proofs.Common.{rules, ◌≡◌, ◌∷◌, []}
use Rattle.lay_doc.specs.Document.{ids_of}
use Rattle.lay_doc.proofs.Indexed.{first_added}
use Rattle.lay_doc.proofs.doc.Doc.new.Goals as goal

pub invariant_of-result : goal.invariant_of-result
invariant_of-result c =
    let made = c.new-index.ensures in
    let ids : ids_of c.push.new.self.items ≡ c.id-id.result.0 ∷ [] = search rules in
    record {
      document = search rules;
      indexed = rw ids (first_added c.new-index.result c.add.new.self c.id-id.result.0 made.in_order made.numbers made.places (record { numbers_are = search rules; places_are = search rules }));
      text = search rules;
    }
