use Rattle.std.proofs.Common.{List, ℕ, [], sym, ◌∙◌, subst}
use Rattle.lay_doc.specs.Document.{Document}
use Rattle.lay_history.specs.declared.edits.command.Cmd.{Cmd}
use Rattle.lay_audit.specs.Presents.{shown_in}
use Rattle.lay_audit.specs.Readings.{IsRead, ReadsTo, basis_of}
use Rattle.lay_audit.proofs.Taking.{if_next, pending_shown}
use Rattle.lay_audit.proofs.reading.Reading.read_next.Goals as goal

pub returns-then-is_shown-clause-reads : goal.returns-then-is_shown-clause-reads
returns-then-is_shown-clause-reads c =
    if_next c.read_tree.result
    (λ n. (init : Document) (scripts : List (List Cmd)) (text : List ℕ) → IsRead (basis_of init c.args.face.now.value scripts) text c.take.new.self c.take.new.self.tree.text
    → ReadsTo (basis_of init c.args.face.now.value scripts) text c.read_tree.new.self n)
    (λ n. (init : Document) (text : List ℕ) → IsRead (basis_of init c.args.face.now.value c.args.scripts.now) text c.args.self.now []
    → ReadsTo (basis_of init c.args.face.now.value c.args.scripts.now) text c.read_tree.new.self n)
    c.read_tree.ensures.reads
    (λ n f init text is. f init c.args.scripts.now text
    (subst (λ x. IsRead (basis_of init c.args.face.now.value c.args.scripts.now) text c.take.new.self x)
    (pending_shown (shown_in c.in-Some.step) c.take.new.self.tree.text (sym c.is_shown.ensures ∙ c.if-is_shown.true))
    ((c.in_ok-take.ensures {u = tt}).reads init text is)))
