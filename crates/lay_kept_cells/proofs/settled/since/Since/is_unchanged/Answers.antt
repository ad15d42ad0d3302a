use Rattle.std.proofs.Common.{◌∙◌, ap, sym}
use Rattle.std.proofs.lemmas.Option.{same_Some}
use Rattle.lay_shape.specs.declared.context_phase.ContextPhase.{ContextPhase}
use Rattle.lay_kept_cells.proofs.SettledLemmas.NeedPlaces.{need_listed, need_within}
use Rattle.lay_kept_cells.proofs.settled.since.Since.is_unchanged.Goals as goal

pub are_kept-requires-clause-within : goal.are_kept-requires-clause-within
are_kept-requires-clause-within c = need_within c.args.cells.now.rows c.args.place c.needs_at.result.now c.needs_at.ensures

pub returns-then-is_measure : goal.returns-then-is_measure
returns-then-is_measure c = (
  λ t. absurd cc,
  λ un. absurd
      (un.phase (ap (λ (x : ContextPhase). x.phase) (same_Some un.own.cell c.cell_at.result (sym un.own.cell_is ∙ c.cell_at.ensures.cell)) ∙ c.is_measure.ensures.0 c.if-is_measure.true)),
)

pub returns-then-not-is_kept : goal.returns-then-not-is_kept
returns-then-not-is_kept c = (λ t. absurd cc, λ un. (let no = c.is_kept.ensures.1 un.own in absurd cc))

pub returns : goal.returns
returns c = (
  λ t.
      let own = c.is_kept.ensures.0 c.if-not-is_kept.false in
      let same = same_Some own.cell c.cell_at.result (sym own.cell_is ∙ c.cell_at.ensures.cell) in
      record {
        own = own;
        phase = λ e. (let yes = c.is_measure.ensures.1 (ap (λ (x : ContextPhase). x.phase) (sym same) ∙ e) in absurd cc);
        needs = λ j need at. c.are_kept.ensures.0 t j need
            (need_listed c.args.cells.now.rows c.sound.ensures.shaped c.args.place c.needs_at.result.now c.needs_at.ensures j need at);
      },
  λ un. c.are_kept.ensures.1 (λ j need got.
      un.needs j need (c.needs_at.ensures.row, c.needs_at.ensures.there, c.needs_at.ensures.each j need got)),
)
