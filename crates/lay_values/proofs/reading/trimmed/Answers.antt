use Rattle.std.proofs.Common.{ap, ◌∙◌}
use Rattle.std.proofs.lemmas.Str.Ascii.{trim_ascii_start_is, trim_ascii_end_is}
use Rattle.lay_values.specs.Reading.{without_end}
use Rattle.lay_values.proofs.Ascii.{trimmed-ascii}
use Rattle.lay_values.proofs.reading.trimmed.Goals as goal

pub returns-clause-rest : goal.returns-clause-rest
returns-clause-rest c =
    trim_ascii_end_is c.trim_ascii_start.result.now c.trim_ascii_end.result.now c.trim_ascii_end.ensures.value
    ∙ ap without_end (trim_ascii_start_is c.args.text.now c.trim_ascii_start.result.now c.trim_ascii_start.ensures.value)

pub returns-clause-ascii : goal.returns-clause-ascii
returns-clause-ascii c low =
    trimmed-ascii c.args.text.now c.trim_ascii_start.result.now c.trim_ascii_end.result.now c.trim_ascii_start.ensures.value c.trim_ascii_end.ensures.value low
