-- The columns of contexts that keep all but the styles and texts of their boxes.
use Rattle.std.proofs.Common.{◌≡◌, ℕ, suc, ◌<◌, Bool, List, length, ap, sym, subst, ◌∙◌, arith}
use Rattle.lay_context.specs.MeasuredFlags.{AreMeasured}
use Rattle.lay_contexts.specs.Contexts.{AreContexts, Context}
use Rattle.lay_contexts.specs.FormattingContexts.{FormattingContext}
use Rattle.lay_contexts.specs.FormattingContextList.{AreFormattingContextsOf, first_number}
use Rattle.lay_contexts.specs.KeptLinks.{KeepLinks}
use Rattle.lay_kept_cells.proofs.Cited.{cells-stay, count_same, first_same, links-stay}
use Rattle.lay_after_edits.specs.Contexts.Links.{AreRestyled}
use Rattle.lay_shape.specs.declared.context_phase.ContextPhase.{ContextPhase}
use Rattle.lay_shape.specs.Dependencies.{in_phase}
use Rattle.lay_shape.specs.Shapes.{cells_of}
use Rattle.lay_shape.specs.Touched.ContextFlags.{ContextLists}
use Rattle.lay_kept_cells.specs.declared.table.cell_table.SharedColumns.{SharedColumns}
use Rattle.lay_kept_cells.specs.declared.table.context_root.ContextRoot.{ContextRoot}
use Rattle.lay_kept_cells.specs.Table.CellPlaces.{AreCellPlaces, StandsThere}
use Rattle.lay_kept_cells.specs.Table.CellTables.{AreTableColumns, TableColumns}
use Rattle.lay_kept_cells.specs.Table.RootColumns.{AreRootColumns, IsRootOf, root_at}

-- the columns of a table with these flags, which shares the others
abbrev pub columns_of : List Bool → SharedColumns → TableColumns
columns_of flags s = record {
  measured = flags;
  roots = s.roots.roots.items;
  firsts = s.roots.firsts.items;
  cells = s.cells.items;
  places = s.places.items;
  no_widths = s.no_widths;
  no_sizes = s.no_sizes;
  no_place = s.no_place;
}

module _ (t : ContextLists) (columns : TableColumns) (was : AreTableColumns t columns) (later : List Context) (made : List Bool) (are : AreRestyled t.contexts later made)
    (all : List FormattingContext) (of : AreFormattingContextsOf later all) where
  links : KeepLinks t.contexts later
  links = links-stay t.contexts later made are

  as_many : length all ≡ length t.formatting_contexts
  as_many = of.count ∙ (first_same t.contexts later links (length later) ∙ (ap (first_number t.contexts) are.count ∙ sym was.are_formatting_contexts.count))

  root_stays : (r : ContextRoot) (i : ℕ) → IsRootOf t.contexts r i → IsRootOf later r i
  root_stays r i is = record {
    context = (let lt = is.context in omega (arith, lt, are.count));
    root = (let lt = is.root in let e = count_same t.contexts later links r.context in omega (arith, lt, e));
    number = (let n = is.number in let e = first_same t.contexts later links r.context in omega (arith, n, e));
  }

  roots_stay : AreRootColumns later all columns.roots columns.firsts
  roots_stay = record {
    roots_are = record {
      count = was.roots.roots_are.count ∙ sym as_many;
      each = λ i lt. root_stays (root_at columns.roots i) i (was.roots.roots_are.each i (omega (arith, lt, as_many)));
    };
    firsts_are = record {
      count = was.roots.firsts_are.count ∙ sym (ap suc are.count);
      each = λ c lt. was.roots.firsts_are.each c (omega (arith, lt, are.count)) ∙ sym (first_same t.contexts later links c);
    };
  }

  places_stay : AreCellPlaces later columns.places
  places_stay = record {
    count = was.places.count ∙ sym are.count;
    each = λ c p lt. subst (λ (cells : List ContextPhase). StandsThere cells columns.places (in_phase p c)) (sym (cells-stay t.contexts later made are))
        (was.places.each c p (omega (arith, lt, are.count)));
  }

  pub restyled_columns : AreContexts later → (flags : List Bool) → AreMeasured all flags
      → AreTableColumns (record { contexts = later; formatting_contexts = all }) (record columns { measured = flags })
  restyled_columns contexts flags measured = record {
    are_contexts = contexts;
    are_formatting_contexts = of;
    measured = measured;
    roots = roots_stay;
    cells = was.cells ∙ sym (cells-stay t.contexts later made are);
    places = places_stay;
    no_widths = was.no_widths;
    no_sizes = was.no_sizes;
    no_place = was.no_place;
  }
