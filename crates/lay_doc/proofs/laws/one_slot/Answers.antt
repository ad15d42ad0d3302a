use Rattle.lay_doc.proofs.Slots.{one_slot_lem}
use Rattle.lay_doc.proofs.laws.one_slot.Goals as goal

pub returns : goal.returns
returns c = one_slot_lem
