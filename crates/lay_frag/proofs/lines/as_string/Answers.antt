use Rattle.std.proofs.Common.{◌≡◌, false, true}
use Rattle.std.proofs.lemmas.Str.{IsUtf8-from_ascii}
use Rattle.lay_frag.proofs.lines.as_string.Goals as goal

pub unreachable-requires : goal.unreachable-requires
unreachable-requires c = absurd (let e : false ≡ true = (c.in_default.ensures {u = tt}).succeeds (IsUtf8-from_ascii c.args.bytes.items c.requires) in cc)
