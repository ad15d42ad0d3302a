use Rattle.std.proofs.Common.{◌≡◌, ◌∷◌, List, length}
use Rattle.json.specs.Token.{Token, begin_array}
use Rattle.serde_json.specs.Data.{Data, Items, item}
use Rattle.lay_json.specs.Spans.Readings.{ReadsItems}
use Rattle.lay_json.specs.Pulled.{IsTaken}
use Rattle.lay_json.proofs.pulled.taken_of.Given as goal

abbrev pub invariant-nodes : goal.invariant-nodes
invariant-nodes l =
    (ts : List Token) × (first : Data) × (rest : Items) × (l.fn.cursor ≡ begin_array ∷ ts) × ReadsItems 124 ts (item first rest) l.cursor
    × IsTaken l.fn.viewport l.named first rest l.taken

abbrev pub decreases-nodes : goal.decreases-nodes
decreases-nodes l = length l.cursor
