use Rattle.std.proofs.Common.{◌∙◌, ap, bytes_eq}
use Rattle.std.specs.HashMap as hash
use Rattle.std.proofs.lemmas.Map.Text.{hash_map_updates_str}
use Rattle.lay_cascade.specs.Words.{with_bit}
use Rattle.lay_cascade.proofs.Masks.{asked_more}
use Rattle.lay_cascade.proofs.windows.NameMasks.add.Goals as goal

pub returns : goal.returns
returns c = λ q.
    let words = c.args.self.now.words in
    let name = c.args.name.now in
    let put = hash_map_updates_str name words c.insert.new.self _ c.in_ok-insert.ensures.updates q in
    asked_more q name (λ ds. hash.get_by (λ key. bytes_eq ds key.now) words) (hash.get_by (λ key. bytes_eq q key.now) c.insert.new.self) c.with_bit-word.result c.args.j put
    (c.with_bit-word.ensures ∙ ap (λ z. with_bit z c.args.j) c.of.ensures)
