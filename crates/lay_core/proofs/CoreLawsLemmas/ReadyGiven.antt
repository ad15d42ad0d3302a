-- What a cell that is ready is given among the values that cells keep is what it is given in the layout of the document: all that it depends
-- on is clean, and so right beside what it is given now.
use Rattle.std.proofs.Common.{◌≡◌, ◌<◌, false, List, length, Option, None, Some, option_map, refl, ap, sym, subst, ◌∙◌}
use Rattle.lay_doc.specs.Document.{Document}
use Rattle.lay_face.specs.FaceValue.{FaceValue}
use Rattle.lay_cells.specs.Looks.{AreClean, IsClean, Looks}
use Rattle.lay_cells.specs.Rows.{Solved}
use Rattle.lay_cells.specs.Shapes.{IsIn}
use Rattle.lay_cells.specs.declared.answers.Look.TheVariants.{Ready}
use Rattle.lay_contexts.specs.Contexts.{Context}
use Rattle.lay_contexts.specs.FormattingContexts.{FormattingContext}
use Rattle.lay_context.specs.Solves.{medium_of}
use Rattle.lay_shape.specs.declared.cell_key.CellKey.{CellKey}
use Rattle.lay_shape.specs.declared.context_phase.ContextPhase.{ContextPhase}
use Rattle.lay_shape.specs.Dependencies.{needs_in}
use Rattle.lay_shape.specs.Keys.{key_of}
use Rattle.lay_core.proofs.Cited.{apart, cell_in, cell_within, in_map, in_order, need_before, needs_are, value_is}
use Rattle.lay_cell_work.specs.CellLaws.DocumentCells.{AreDocumentCells}
use Rattle.lay_cell_work.specs.CellLaws.SoundCells.{CellRow, CellState, input_now}
use Rattle.lay_cell_work.specs.CellInputs.{CellInput}
use Rattle.lay_cell_work.specs.CellLocal.{IsCellLocal}
use Rattle.lay_cell_work.specs.CellValues.{CellValue}
use Rattle.lay_cell_work.specs.KeptValues.{kept_value, value_or_none}
use Rattle.lay_document_cells.specs.State.{AreListsOf}
use Rattle.lay_core.specs.CoreLaws.GivenInputs.{DependsOn, IsGivenIn, directly, through}
use Rattle.lay_core.specs.CoreLaws.Laws.{CleanCellsAreGiven, ReadyCellsAreGiven}

-- what a clean cell keeps
record KeepsPair (k : Option (Solved CellKey CellInput CellValue)) (i : CellInput) : Type 0 where
  pair : Solved CellKey CellInput CellValue
  is : k ≡ Some pair
  input : pair.input ≡ i

keeps_pair : (k : Option (Solved CellKey CellInput CellValue)) (i : CellInput) → option_map (λ (d : Solved CellKey CellInput CellValue). d.input) k ≡ Some i → KeepsPair k i
keeps_pair None i e = absurd cc
keeps_pair (Some d) i e = record { pair = d; is = refl; input = cc }

kept_input : (k : Option (Solved CellKey CellInput CellValue)) (pair : Solved CellKey CellInput CellValue) (i : CellInput) → k ≡ Some pair
    → option_map (λ (d : Solved CellKey CellInput CellValue). d.input) k ≡ Some i → pair.input ≡ i
kept_input None pair i is e = absurd cc
kept_input (Some d) pair i is e = let same : d.input ≡ i = cc in let of : d ≡ pair = cc in sym (ap (λ (x : Solved CellKey CellInput CellValue). x.input) of) ∙ same

module _ (d : Document) (face : FaceValue) (contexts : List Context) (all : List FormattingContext) (s : CellState) (cells : AreDocumentCells d face contexts all s) where
  abbrev Now : ContextPhase → CellInput
  Now c = input_now (medium_of d face) contexts all s.rows c.context c.phase

  clean_right : (c : ContextPhase) → c.context < length contexts → IsClean s.rows (key_of contexts c) → IsCellLocal (Now c) (kept_value s.rows contexts c.context c.phase)
  clean_right c lt clean =
      let has = cells.cells.present c.context c.phase clean.0 lt (record { there = clean.1; key = clean.2 }) clean.3 in
      let k = keeps_pair clean.0.kept (Now c) has in
      let meets = ((cells.cells.sound.each clean.0 clean.1).pair k.pair k.is).meets in
      let value : kept_value s.rows contexts c.context c.phase ≡ k.pair.value =
      value_is s.rows cells.cells.sound.shaped (key_of contexts c) clean.0 clean.1 clean.2 ∙ ap (value_or_none c.phase) k.is in
      subst (λ (i : CellInput). IsCellLocal i (kept_value s.rows contexts c.context c.phase)) k.input
      (subst (λ (v : CellValue). IsCellLocal k.pair.input v) (sym value) meets)

  need_within : (c need : ContextPhase) → c.context < length contexts → IsIn (needs_in contexts c) need → need.context < length contexts
  need_within c need lt has =
      let order = in_order d face contexts all s cells in
      let there = cell_in contexts order c.phase c.context lt in
      let b = need_before contexts order there.0 c need there.1 has in
      cell_within contexts order need (b.0, b.2)

  -- what a cell depends on by itself is clean, where the dependencies of its row are
  need_clean : (c need : ContextPhase) (r : CellRow) → c.context < length contexts → IsIn s.rows r → r.key ≡ key_of contexts c → AreClean s.rows r.needs
      → IsIn (needs_in contexts c) need → IsClean s.rows (key_of contexts need)
  need_clean c need r lt there key clean has =
      let needs = needs_are contexts (in_order d face contexts all s cells) s.rows cells.shaped (apart d face contexts all s cells) c.context c.phase r lt there key in
      clean (key_of contexts need)
      (subst (λ (ns : List CellKey). IsIn ns (key_of contexts need)) (sym needs) (in_map (key_of contexts) (needs_in contexts c) need has))

  record IsCleanCell (need : ContextPhase) : Type 0 where
    within : need.context < length contexts
    clean : IsClean s.rows (key_of contexts need)

  -- so is what it depends on through that
  all_clean : (c : ContextPhase) (r : CellRow) → c.context < length contexts → IsIn s.rows r → r.key ≡ key_of contexts c → AreClean s.rows r.needs
      → (need : ContextPhase) → DependsOn contexts c need → IsCleanCell need
  all_clean c r lt there key clean need (directly _ has) =
      record { within = need_within c need lt has; clean = need_clean c need r lt there key clean has }
  all_clean c r lt there key clean need (through mid _ before has) =
      let m = all_clean c r lt there key clean mid before in
      let q = m.clean in
      record {
        within = need_within mid need m.within has;
        clean = need_clean mid need q.0 m.within q.1 q.2 ((cells.cells.sound.each q.0 q.1).clean q.3) has;
      }

  pub lists_are : AreListsOf d (record { contexts = contexts; formatting_contexts = all })
  lists_are = (
    cells.styles,
    record { has_styles = cells.has_styles; are_contexts = cells.are_contexts; are_formatting_contexts = cells.are_formatting_contexts },
  )

  -- what it is given now, where the dependencies of its row are clean
  given_now : (c : ContextPhase) (r : CellRow) → c.context < length contexts → IsIn s.rows r → r.key ≡ key_of contexts c → AreClean s.rows r.needs
      → IsGivenIn d face (key_of contexts c) (Now c)
  given_now c r lt there key clean = record {
    is_document = cells.is_document;
    lists = record { contexts = contexts; formatting_contexts = all };
    lists_are = lists_are;
    among = record {
      cell = c;
      cell_is = record { within = lt; key_is = refl };
      values = kept_value s.rows contexts;
      right = λ need on. (let q = all_clean c r lt there key clean need on in clean_right need q.within q.clean);
      input_is = refl;
    };
  }

  pub ready_given : (c : ContextPhase) → c.context < length contexts → Looks s.rows (key_of contexts c) Ready → IsGivenIn d face (key_of contexts c) (Now c)
  ready_given c lt ready = given_now c ready.0 lt ready.1 ready.2 ready.4

  pub clean_given : (c : ContextPhase) (r : CellRow) (kept : Solved CellKey CellInput CellValue) → c.context < length contexts → IsIn s.rows r
      → r.key ≡ key_of contexts c → r.dirty ≡ false → r.kept ≡ Some kept → IsGivenIn d face (key_of contexts c) kept.input × IsCellLocal kept.input kept.value
  clean_given c r kept lt there key clean is =
      let sound = cells.cells.sound.each r there in
      let has = cells.cells.present c.context c.phase r lt (record { there = there; key = key }) clean in
      let same = kept_input r.kept kept (Now c) is has in (
        subst (λ (i : CellInput). IsGivenIn d face (key_of contexts c) i) (sym same) (given_now c r lt there key (sound.clean clean)),
        (sound.pair kept is).meets,
      )

pub ready_cells_are_given_lem : ReadyCellsAreGiven
ready_cells_are_given_lem d face contexts all s cell cells lt ready = ready_given d face contexts all s cells cell lt ready

pub clean_cells_are_given_lem : CleanCellsAreGiven
clean_cells_are_given_lem d face contexts all s cell r kept cells lt there key clean is = clean_given d face contexts all s cells cell r kept lt there key clean is
