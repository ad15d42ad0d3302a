use Rattle.std.proofs.Common.{◌≡◌, find, drop}
use Rattle.std.specs.Str.{str_eq_ignore_ascii_case}
use Rattle.lay_values.specs.Lengths.{suffix_name, suffix_of}
use Rattle.lay_values.proofs.lengths.suffix_of.Given as goal

abbrev pub invariant-loop-suffix : goal.invariant-loop-suffix
invariant-loop-suffix l = find (λ s. str_eq_ignore_ascii_case (suffix_name s) l.text) (drop l.suffix-index l.suffixes) ≡ suffix_of l.text
