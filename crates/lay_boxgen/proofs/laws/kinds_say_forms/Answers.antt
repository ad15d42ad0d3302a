use Rattle.lay_boxgen.proofs.ListedKinds.{kinds_say_forms}
use Rattle.lay_boxgen.proofs.laws.kinds_say_forms.Goals as goal

pub returns : goal.returns
returns c = kinds_say_forms
