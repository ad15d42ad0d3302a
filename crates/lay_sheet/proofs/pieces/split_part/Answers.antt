use Rattle.std.proofs.Common.{◌≡◌, ◌==◌, false, slice_index, sym, rules, arith}
use Rattle.std.proofs.lemmas.Grind.{common_steps}
use Rattle.lay_sheet.proofs.Parts.{part_is, last_is, more_is}
use Rattle.lay_sheet.proofs.pieces.split_part.Goals as goal

pub returns-clause-part : goal.returns-clause-part
returns-clause-part c =
    let unopened : (slice_index c.args.text.now c.in-Some.end == 123) ≡ false = first_of (search rules, grind (arith, common_steps)) in
    sym (part_is c.args.text.now c.in-Some.end c.in-Some.ensures unopened)

pub returns-clause-last : goal.returns-clause-last
returns-clause-last c =
    let unopened : (slice_index c.args.text.now c.in-Some.end == 123) ≡ false = first_of (search rules, grind (arith, common_steps)) in
    last_is c.args.text.now c.in-Some.end c.in-Some.ensures unopened

pub returns-clause-more : goal.returns-clause-more
returns-clause-more c =
    let unopened : (slice_index c.args.text.now c.in-Some.end == 123) ≡ false = first_of (search rules, grind (arith, common_steps)) in
    more_is c.args.text.now c.in-Some.end c.in-Some.ensures unopened
