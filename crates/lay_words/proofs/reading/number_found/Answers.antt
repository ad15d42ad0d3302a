use Rattle.std.proofs.Common.{ap, ◌∙◌, map, Some, None}
use Rattle.clap.specs.Words.{found_of}
use Rattle.lay_words.specs.Grammar.{number_of}
use Rattle.lay_words.proofs.Found.{values_are}
use Rattle.lay_words.proofs.reading.number_found.Goals as goal

pub returns-in-Some : goal.returns-in-Some
returns-in-Some c =
    c.number_of.ensures ∙ ap (number_of c.args.default c.args.low c.args.high) (values_are (Some (map (λ v. v.now) c.in-Some.values.now)) (found_of c.args.matches.now) c.args.name.now c.in-Some.ensures)

pub returns-in-None : goal.returns-in-None
returns-in-None c = ap (number_of c.args.default c.args.low c.args.high) (values_are None (found_of c.args.matches.now) c.args.name.now c.in-None.ensures)
