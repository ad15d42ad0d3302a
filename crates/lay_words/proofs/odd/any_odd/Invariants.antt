use Rattle.std.proofs.Common.{◌≡◌, drop, map, string_bytes}
use Rattle.std.specs.List.{list_any}
use Rattle.lay_words.specs.Grammar.{is_odd}
use Rattle.lay_words.proofs.odd.any_odd.Given as goal

abbrev pub invariant-loop-word : goal.invariant-loop-word
invariant-loop-word l = list_any is_odd (map string_bytes l.words) ≡ list_any is_odd (map string_bytes (drop l.word-index l.words))
