use Rattle.std.proofs.lemmas.Str.Ascii.{trim_ascii_start_is}
use Rattle.lay_values.proofs.reading.without_front.Goals as goal

pub returns-clause-rest : goal.returns-clause-rest
returns-clause-rest c = trim_ascii_start_is c.args.text.now c.trim_ascii_start.result.now c.trim_ascii_start.ensures.value
