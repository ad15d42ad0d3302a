-- Bytes have one styled reading.
use Rattle.std.proofs.Common.{◌≡◌, ◌∙◌, ℕ, ◌<◌, List, length, refl, sym, ap, subst, arith, Some, None, Result, Ok, Err}
use Rattle.lay_doc.specs.Document.{Document}
use Rattle.lay_cascade.specs.declared.node_names.names.Names.{Names}
use Rattle.lay_sheet.specs.Sheets.{RuleValue, selector_count}
use Rattle.lay_sheet.proofs.OneSheet.{one_sheet_lem}
use Rattle.lay_cascade.proofs.StyledLemmas.OneStyle.{one_styled_lem}
use Rattle.lay_run.specs.Runs.{Run}
use Rattle.lay_json.specs.declared.fault.InputFault.{InputFault}
use Rattle.lay_json.specs.declared.fault.InputFault.TheVariants.{TooLong}
use Rattle.lay_json.specs.declared.sheet_in.SheetIn.{SheetIn}
use Rattle.lay_json.proofs.OneInput.{one_in, input_too_long}
use Rattle.lay_json.specs.Styled.NamesByPlace.{names_by_place}
use Rattle.lay_json.specs.Styled.StyledReading.{IsStyledRun, IsStyledBy, IsStyledInput, too_many, by_sheet, plain, with_sheet, IsStyledReading, read, refused}
use Rattle.lay_json.specs.Styled.Laws.{OneStyledReading}

abbrev Said : Type 0
Said = Result (Run × SheetIn) InputFault

abbrev saying : Run → SheetIn → Said
saying run sheet = Ok (run, sheet)

abbrev refusing : InputFault → Said
refusing fault = Err fault

same_fault : (e f : InputFault) → refusing e ≡ refusing f → e ≡ f
same_fault e f is = cc

no_both : (run : Run) (sheet : SheetIn) (e : InputFault) → saying run sheet ≡ refusing e → ⊥
no_both run sheet e is = absurd cc

same_run : (run other : Run) (sheet more : SheetIn) → saying run sheet ≡ saying other more → run ≡ other
same_run run other sheet more is = let e : (run, sheet) ≡ (other, more) = cc in ap (λ (z : Run × SheetIn). z.0) e

same_sheet : (run other : Run) (sheet more : SheetIn) → saying run sheet ≡ saying other more → sheet ≡ more
same_sheet run other sheet more is = let e : (run, sheet) ≡ (other, more) = cc in ap (λ (z : Run × SheetIn). z.1) e

some_text : (a b : List ℕ) → Some a ≡ Some b → a ≡ b
some_text a b e = cc

none_text : (a : List ℕ) → None ≡ Some a → ⊥
none_text a e = absurd cc

abbrev run_with : Run → Document → Run
run_with run doc = record { doc = doc; face = run.face; scripts = run.scripts; listed = run.listed }

one_run : (run : Run) (rules : List RuleValue) (names : List Names) (a b : Run) → IsStyledRun run rules names a → IsStyledRun run rules names b → a ≡ b
one_run run rules names a b x y =
    x.is ∙ ap (run_with run) (one_styled_lem run.doc rules (names_by_place run.listed names run.doc.nodes) x.doc y.doc x.cascaded y.cascaded) ∙ sym y.is

one_by : (run : Run) (text : List ℕ) (names : List Names) (a b : Result Run InputFault) → IsStyledBy run text names a → IsStyledBy run text names b → a ≡ b
one_by run text names a b (too_many r s m p) (too_many t u n q) = p ∙ sym q
one_by run text names a b (too_many r s m p) (by_sheet t new u n w q) = let e = ap selector_count (one_sheet_lem text r t s u) in absurd (omega (arith, e, m, n))
one_by run text names a b (by_sheet r new s m w p) (too_many t u n q) = let e = ap selector_count (one_sheet_lem text r t s u) in absurd (omega (arith, e, m, n))
one_by run text names a b (by_sheet r new s m w p) (by_sheet t other u n v q) =
    let e = one_sheet_lem text r t s u in
    p ∙ ap Ok (one_run run t names new other (subst (λ z. IsStyledRun run z names new) e w) v) ∙ sym q

pub one_styled_input : (run : Run) (sheet : SheetIn) (a b : Result Run InputFault) → IsStyledInput run sheet a → IsStyledInput run sheet b → a ≡ b
one_styled_input run sheet a b (plain n p) (plain m q) = p ∙ sym q
one_styled_input run sheet a b (plain n p) (with_sheet text s q) = absurd (none_text text (sym n ∙ s))
one_styled_input run sheet a b (with_sheet text s p) (plain m q) = absurd (none_text text (sym m ∙ s))
one_styled_input run sheet a b (with_sheet text s p) (with_sheet words t q) =
    one_by run words sheet.names a b (subst (λ z. IsStyledBy run z sheet.names a) (some_text text words (sym s ∙ t)) p) q

pub one_styled_reading_lem : OneStyledReading
one_styled_reading_lem bytes a b (refused e x p) (refused f y q) = p ∙ ap Err (same_fault e f (one_in bytes (refusing e) (refusing f) x y)) ∙ sym q
one_styled_reading_lem bytes a b (refused e x p) (read run sheet y s) = absurd (no_both run sheet e (one_in bytes (saying run sheet) (refusing e) y x))
one_styled_reading_lem bytes a b (read run sheet x s) (refused f y q) = absurd (no_both run sheet f (one_in bytes (saying run sheet) (refusing f) x y))
one_styled_reading_lem bytes a b (read run sheet x s) (read other more y t) =
    let both = one_in bytes (saying run sheet) (saying other more) x y in
    let e = same_run run other sheet more both in
    let f = same_sheet run other sheet more both in
    one_styled_input other more a b (subst (λ z. IsStyledInput other z a) f (subst (λ z. IsStyledInput z sheet a) e s)) t

pub styled_too_long : (bytes : List ℕ) → 16777216 < length bytes → IsStyledReading bytes (Err TooLong)
styled_too_long bytes more = refused TooLong (input_too_long bytes more) refl
