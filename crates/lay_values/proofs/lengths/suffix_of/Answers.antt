use Rattle.lay_values.specs.Lengths.{suffix_name, all_suffixes}
use Rattle.lay_values.proofs.Narrowed.{find-spelled}
use Rattle.lay_values.proofs.lengths.suffix_of.Goals as goal

pub loop-suffix-init : goal.loop-suffix-init
loop-suffix-init c = rw c.of_length-suffixes.ensures (find-spelled suffix_name c.args.text.now all_suffixes)
