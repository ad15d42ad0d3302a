use Rattle.lay_shape.specs.Touched.ContextFlags.{AreContextFlagsTo}
use Rattle.lay_document_cells.proofs.document_table.measured_contexts.Given as goal

abbrev pub invariant-loop-c : goal.invariant-loop-c
invariant-loop-c l = AreContextFlagsTo l.cells.contexts l.cells.formatting_contexts l.flags.items l.c
