-- A legal history refuses a list at a place that it has.
use Rattle.lay_history.proofs.EditsLemmas.Firsts.{first_within}
use Rattle.lay_history.specs.Laws.{RefusalsAreWithin}
use Rattle.lay_history.specs.declared.edits.history.Entry.TheVariants.{Edit}
use Rattle.lay_history.specs.declared.edits.command.Reply.TheVariants.{Refused}

pub refusals_are_within : RefusalsAreWithin
refusals_are_within init h k editor index place edits f legal at =
    first_within _ edits place f (legal k (Edit editor index edits (Refused place f)) at)
