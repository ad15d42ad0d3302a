use Rattle.lay_core.proofs.NewCore.{new_holds}
use Rattle.lay_core.proofs.core_state.Core.new.Goals as goal

pub invariant_of-result : goal.invariant_of-result
invariant_of-result c =
    new_holds _ _ _ c.in_ok-cells.cells _ _ c.args.calls _ c.in_ok-init.ensures (c.in_ok-history.ensures {u = tt}).items c.new-2.ensures.items
    (c.in_ok-cells.ensures {u = tt}).new c.sound.ensures (c.in_ok-cells.ensures {u = tt}).few c.requires (c.in_ok-history.ensures {u = tt}).exact
