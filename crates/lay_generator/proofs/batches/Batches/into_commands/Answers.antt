use Rattle.std.proofs.Common.{◌≡◌, ◌++◌, ◌∷◌, [], List, Option, sym, ap, ◌∙◌, append-nil}
use Rattle.lay_doc.specs.declared.edit.Edit.{Edit}
use Rattle.lay_history.specs.declared.edits.command.Cmd.TheVariants.{Edits}
use Rattle.lay_generator.specs.Commands.{batches}
use Rattle.lay_generator.proofs.Batching.{all_batches, last_command}
use Rattle.lay_generator.proofs.batches.Batches.into_commands.Goals as goal
use Rattle.lay_generator.proofs.batches.Batches.into_commands.Goals.{in-Some+in_ok-push, in_default}

pub returns : goal.returns
returns c =
    let full = c.self.inside.full in
    let whole = sym (all_batches full c.self.inside.last c.self.invariant) ∙ ap batches c.self.view_is in
    elim c.match-self.branch [
      | in-Some+in_ok-push w ↦ (
          let made : c.match-self.commands ≡ full ++ Edits w.in-Some.edits ∷ [] = (let is = w.commands-is in let pushed = w.in_ok-push.ensures.ok in let last = w.in-Some.edits-is in cc) in
          made ∙ (ap (λ (o : Option (List Edit)). full ++ last_command o) (sym w.in-Some.is) ∙ whole))
      | in_default w ↦ w.commands-is ∙ (sym (append-nil full) ∙ (ap (λ (o : Option (List Edit)). full ++ last_command o) (sym w.in_default.is) ∙ whole))
    ]
