use Rattle.std.proofs.Common.{◌≡◌, ◌-◌, ◌++◌, ◌∷◌}
use Rattle.lay_doc.specs.Document.{root_document}
use Rattle.lay_run.specs.Runs.{IsListed}
use Rattle.lay_generator.specs.Nodes.{root, sections, sections_end}
use Rattle.lay_generator.specs.Generated.{ids, with_nodes}
use Rattle.lay_generator.specs.Laws.{AreFaultless}
use Rattle.lay_generator.proofs.generated.generated_run.Given as goal

abbrev pub invariant-loop-section : goal.invariant-loop-section
invariant-loop-section l = record {
  doc : with_nodes l.doc (sections (l.size - l.section) l.section l.draws) ≡ with_nodes (root_document 800 600 root) (sections l.size 0 l.fn.seed);
  listed : l.listed ++ ids (sections (l.size - l.section) l.section l.draws) ≡ root.id ∷ ids (sections l.size 0 l.fn.seed);
  order : IsListed l.doc l.listed;
  fit : AreFaultless l.doc (sections (l.size - l.section) l.section l.draws);
  state : sections_end (l.size - l.section) l.draws ≡ sections_end l.size l.fn.seed;
}
