use Rattle.std.proofs.Common.{◌∙◌, ap, Err}
use Rattle.lay_generator.proofs.Faultless.{no_bad_root}
use Rattle.lay_generator.proofs.generated.root_document.Goals as goal

pub unreachable-requires : goal.unreachable-requires
unreachable-requires c = no_bad_root c.new.result _ _ c.in_ok-root.ensures c.new.ensures.bad (c.in-Err-Bad.is ∙ ap Err c.in-Err-Bad.field-0-is)
