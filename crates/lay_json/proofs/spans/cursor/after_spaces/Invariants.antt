use Rattle.std.proofs.Common.{◌≡◌, length}
use Rattle.json.specs.Lex.{between, lex}
use Rattle.lay_json.proofs.spans.cursor.after_spaces.Given as goal

abbrev pub invariant-spaces : goal.invariant-spaces
invariant-spaces l = lex between l.rest ≡ lex between l.text

abbrev pub decreases-spaces : goal.decreases-spaces
decreases-spaces l = length l.rest
