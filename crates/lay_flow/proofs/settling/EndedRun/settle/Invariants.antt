use Rattle.std.proofs.Common.{◌≡◌, ◌≤◌, length}
use Rattle.lay_flow.specs.Pass.State.{Settled}
use Rattle.lay_flow.proofs.settling.EndedRun.settle.Given as goal

abbrev pub invariant-loop-k : goal.invariant-loop-k
invariant-loop-k l = (length l.marks.items ≡ length l.self.boxes.list.now) × (l.self.first ≤ l.k) × Settled l.self.boxes.list.now (record { through = l.self.through.now; first = l.self.first; next = l.k; mark = l.self.mark.0 }) l.fn.marks.items l.marks.items
