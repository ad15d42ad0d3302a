use Rattle.std.proofs.Common.{◌∙◌, sym}
use Rattle.lay_cell_work.proofs.sizing.setting_of.Goals as goal

pub setting_at-requires : goal.setting_at-requires
setting_at-requires c = c.requires.spot c.in-Some.spot (sym c.around.ensures ∙ c.in-Some.is)
