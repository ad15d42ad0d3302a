use Rattle.std.proofs.Common.{◌≡◌, ℕ, suc, ◌+◌, ◌++◌, [], Some, sym, ap, ◌∙◌, subst, arith, slice_get, slice_index_or}
use Rattle.lay_history.specs.declared.edits.command.Reply.{Reply}
use Rattle.lay_audit.specs.declared.step.Step.TheVariants as step
use Rattle.lay_audit.specs.NextLines.{BeginsWith, RepliesNext, StandsNext, StandsNot, command_front}
use Rattle.lay_audit.specs.Presents.{next_command}
use Rattle.lay_audit.proofs.NextReplies.{if_found, if_none, no_front, no_reply, stands_so}
use Rattle.lay_audit.proofs.finding.find_reply.Goals as goal

next_place : (n : ℕ) → n + 1 ≡ suc n
next_place n = omega arith

pub returns-in-Some-behind-clause-some : goal.returns-in-Some-behind-clause-some
returns-in-Some-behind-clause-some c =
    let at : next_command c.args.scripts.now c.args.present.now c.args.place ≡ Some c.in-Some.command.now = ap (λ n. slice_get (slice_index_or c.args.scripts.now c.args.place []) n) (sym c.next-index.ensures) ∙ sym (c.in-Some.ensures {u = tt}) in
    let parts : c.args.rest.now ≡ command_front (suc c.args.place) (slice_index_or c.args.present.now.next c.args.place 0) c.in-Some.command.now ++ c.in-Some-behind.said.now = (c.in-Some-behind.ensures {u = tt}).some ∙ ap (λ x. x ++ c.in-Some-behind.said.now) (c.as_bytes.ensures.value ∙ (c.in_ok-front.ensures
    ∙ (ap (λ n. command_front n c.next-index.result c.in-Some.command.now) (next_place c.args.place)
    ∙ ap (λ i. command_front (suc c.args.place) i c.in-Some.command.now) c.next-index.ensures))) in
    if_found (RepliesNext c.args.present.now c.in-Some.command.now c.in-Some-behind.said.now)
    (λ r. StandsNext c.args.scripts.now c.args.present.now c.args.rest.now (step.Answer c.args.place r)) c.find_said.result c.find_said.ensures.some
    (λ r is. stands_so c.args.scripts.now c.args.present.now c.args.place c.in-Some.command.now c.args.rest.now c.in-Some-behind.said.now r at parts is)

pub returns-in-Some-behind-clause-none : goal.returns-in-Some-behind-clause-none
returns-in-Some-behind-clause-none c =
    let at : next_command c.args.scripts.now c.args.present.now c.args.place ≡ Some c.in-Some.command.now = ap (λ n. slice_get (slice_index_or c.args.scripts.now c.args.place []) n) (sym c.next-index.ensures) ∙ sym (c.in-Some.ensures {u = tt}) in
    let parts : c.args.rest.now ≡ command_front (suc c.args.place) (slice_index_or c.args.present.now.next c.args.place 0) c.in-Some.command.now ++ c.in-Some-behind.said.now = (c.in-Some-behind.ensures {u = tt}).some ∙ ap (λ x. x ++ c.in-Some-behind.said.now) (c.as_bytes.ensures.value ∙ (c.in_ok-front.ensures
    ∙ (ap (λ n. command_front n c.next-index.result c.in-Some.command.now) (next_place c.args.place)
    ∙ ap (λ i. command_front (suc c.args.place) i c.in-Some.command.now) c.next-index.ensures))) in
    if_none ((r : Reply) → RepliesNext c.args.present.now c.in-Some.command.now c.in-Some-behind.said.now r → ⊥)
    ((r : Reply) → StandsNot c.args.scripts.now c.args.present.now c.args.rest.now (step.Answer c.args.place r)) c.find_said.result c.find_said.ensures.none
    (λ none r. no_reply c.args.scripts.now c.args.present.now c.args.place c.in-Some.command.now c.args.rest.now c.in-Some-behind.said.now r at parts (none r))

pub returns-clause-none : goal.returns-clause-none
returns-clause-none c = λ e r.
    let at : next_command c.args.scripts.now c.args.present.now c.args.place ≡ Some c.in-Some.command.now = ap (λ n. slice_get (slice_index_or c.args.scripts.now c.args.place []) n) (sym c.next-index.ensures) ∙ sym (c.in-Some.ensures {u = tt}) in
    let front : c.as_bytes.result.now ≡ command_front (suc c.args.place) (slice_index_or c.args.present.now.next c.args.place 0) c.in-Some.command.now = c.as_bytes.ensures.value ∙ (c.in_ok-front.ensures ∙ (ap (λ n. command_front n c.next-index.result c.in-Some.command.now) (next_place c.args.place)
    ∙ ap (λ i. command_front (suc c.args.place) i c.in-Some.command.now) c.next-index.ensures)) in
    no_front c.args.scripts.now c.args.present.now c.args.place c.in-Some.command.now c.args.rest.now r at
    (λ b. c.behind.ensures.none c.in-None.is (subst (λ x. BeginsWith c.args.rest.now x) (sym front) b))
