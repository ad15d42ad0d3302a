use Rattle.std.proofs.Common.{◌≡◌, ◌≤◌, ◌-◌, ◌++◌, length}
use Rattle.std.specs.List.{filter, range_with_len}
use Rattle.lay_generator.specs.Draws.{state_after}
use Rattle.lay_generator.specs.Commands.{is_section_of, set_paddings, sections_of}
use Rattle.lay_generator.proofs.commands.script.Given as goal

abbrev pub invariant-loop-section : goal.invariant-loop-section
invariant-loop-section l = record {
  edits : l.batches ++ set_paddings (filter (is_section_of l.editor) (range_with_len l.section (l.size - l.section))) l.draws ≡ set_paddings (sections_of l.size l.editor) l.fn.draws;
  state : state_after (length (filter (is_section_of l.editor) (range_with_len l.section (l.size - l.section)))) l.draws ≡ state_after (length (sections_of l.size l.editor)) l.fn.draws;
  few : length l.batches ≤ l.section;
}
