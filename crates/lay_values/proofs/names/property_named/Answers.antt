use Rattle.std.proofs.Common.{◌≡◌, true, subst, rules, arith}
use Rattle.std.specs.Str.{IsUtf8, bytes_eq}
use Rattle.std.proofs.lemmas.Grind.{common_steps}
use Rattle.std.proofs.lemmas.Slice.Eq.{bytes_eq-Decides}
use Rattle.std.proofs.lemmas.Str.{is_utf8-from_IsUtf8}
use Rattle.lay_values.specs.Names.{name_of, all_properties}
use Rattle.lay_values.proofs.Narrowed.{find-named}
use Rattle.lay_values.proofs.names.property_named.Goals as goal

pub loop-property-init : goal.loop-property-init
loop-property-init c = rw c.of_length-named.ensures (find-named name_of c.args.name.now all_properties)

pub returns-then-eq-clause-utf8 : goal.returns-then-eq-clause-utf8
returns-then-eq-clause-utf8 c =
    let test : bytes_eq c.as_bytes.result.now c.args.name.now ≡ true = first_of (search rules, grind (arith, common_steps)) in
    let same : c.as_bytes.result.now ≡ c.args.name.now = (bytes_eq-Decides c.as_bytes.result.now c.args.name.now).0 test in
    is_utf8-from_IsUtf8 c.args.name.now (subst IsUtf8 same c.as_bytes.ensures.utf8)
