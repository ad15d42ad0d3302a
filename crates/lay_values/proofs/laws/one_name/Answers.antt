use Rattle.lay_values.proofs.OneName.{own_property, property_named}
use Rattle.lay_values.proofs.laws.one_name.Goals as goal

pub returns : goal.returns
returns c = (own_property, property_named)
