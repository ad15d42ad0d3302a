use Rattle.std.proofs.Common.{◌≡◌, ◌∷◌, arith, rules}
use Rattle.serde_json.specs.View.{view, items_view}
use Rattle.lay_doc.specs.Document.{Document}
use Rattle.lay_json.specs.Listing.{id_in, ids_in}
use Rattle.lay_json.proofs.Listed.{document_listed}
use Rattle.lay_json.proofs.listing.listed_in.Goals as goal

pub returns-clause-listed : goal.returns-clause-listed
returns-clause-listed c =
    let whole : c.list_nodes.new.listed ≡ id_in (view c.args.first.now) ∷ ids_in (items_view c.args.rest.now) = first_of (search rules, grind arith) in
    λ viewport (d : Document) given. rw whole (document_listed (view c.args.first.now) (items_view c.args.rest.now) viewport d given)
