use Rattle.std.proofs.Common.{◌∙◌, ◌++◌, ap, sym, subst}
use lib.Utf8.{encode}
use Rattle.lay_space.proofs.Rows.{IsLeft, left_more, left_all, row_next}
use Rattle.lay_space.proofs.collapsing.collapsed_by_character.Goals as goal

pub next_turn-turn-requires : goal.next_turn-turn-requires
next_turn-turn-requires c =
    record { row = row_next _ c.as_str.result.now _ _ c.loop-c.invariant.utf8 (c.in-Some.ensures.steps.0 ∙ ap (λ t. encode c.in-Some.c ++ t) (sym c.as_str.ensures)) c.loop-c.invariant.row }

pub loop-c-preserved : goal.loop-c-preserved
loop-c-preserved c =
    subst (λ t. IsLeft c.args.mode c.args.text.now c.args.after_space t c.keep.new.text c.next_turn-turn.result.next) c.as_str.ensures
    (left_more _ _ _ _ _ _ _ _ _ _ _ c.loop-c.invariant (c.in-Some.ensures.steps.0 ∙ ap (λ t. encode c.in-Some.c ++ t) (sym c.as_str.ensures))
    c.next_turn-turn.ensures.left c.next_turn-turn.ensures.space c.next_turn-turn.ensures.row c.in_ok-keep.ensures)

pub returns-clause-text : goal.returns-clause-text
returns-clause-text c = (left_all _ _ _ _ _ _ c.loop-c.invariant c.in_default.ensures.steps.0.0).0

pub returns-clause-space : goal.returns-clause-space
returns-clause-space c = (left_all _ _ _ _ _ _ c.loop-c.invariant c.in_default.ensures.steps.0.0).1
