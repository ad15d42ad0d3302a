-- Bytes say one run with one sheet.
use Rattle.std.proofs.Common.{◌≡◌, ℕ, List, length, ◌<◌, ◌≤◌, refl, sym, ap, ◌∙◌, arith, Result, Ok, Err}
use Rattle.serde_json.specs.Data.{Data}
use Rattle.serde_json.specs.Read.{read}
use Rattle.lay_run.specs.Runs.{Run}
use Rattle.lay_json.specs.declared.fault.InputFault.{InputFault}
use Rattle.lay_json.specs.declared.fault.InputFault.TheVariants.{TooLong, BadJson}
use Rattle.lay_json.specs.declared.sheet_in.SheetIn.{SheetIn}
use Rattle.lay_json.specs.Fields.{then_read, map_read}
use Rattle.lay_json.specs.RunDocument.{run_of}
use Rattle.lay_json.specs.SheetNames.{sheet_of, input_of}
use Rattle.lay_json.specs.Reading.{IsJson, IsNoJson, AreNames, IsInput, too_long, bad_json, json, names_too_long, names_bad_json, names_json, no_run, with_run}
use Rattle.lay_json.specs.Laws.{OneInput}
use Rattle.lay_json.proofs.OneReading.{one-some, no_json, one_reading_lem}

one_names : (bytes : List ℕ) (a b : Result SheetIn InputFault) → AreNames bytes a → AreNames bytes b → a ≡ b
one_names bytes a b (names_too_long l p) (names_too_long m q) = p ∙ sym q
one_names bytes a b (names_too_long l p) (names_bad_json m n q) = absurd (omega (arith, l, m))
one_names bytes a b (names_too_long l p) (names_json v m i q) = absurd (omega (arith, l, m))
one_names bytes a b (names_bad_json l n p) (names_too_long m q) = absurd (omega (arith, l, m))
one_names bytes a b (names_bad_json l n p) (names_bad_json m o q) = p ∙ sym q
one_names bytes a b (names_bad_json l n p) (names_json v m i q) = absurd (no_json bytes v i n)
one_names bytes a b (names_json v l i p) (names_too_long m q) = absurd (omega (arith, l, m))
one_names bytes a b (names_json v l i p) (names_bad_json m n q) = absurd (no_json bytes v i n)
one_names bytes a b (names_json v l i p) (names_json w m j q) = p ∙ ap sheet_of (one-some (read bytes) v w i.1 j.1) ∙ sym q

abbrev refusal : InputFault → Result Run InputFault
refusal e = Err e

abbrev reading : Run → Result Run InputFault
reading run = Ok run

same_err : (e f : InputFault) → refusal e ≡ refusal f → e ≡ f
same_err e f is = cc

same_ok : (a b : Run) → reading a ≡ reading b → a ≡ b
same_ok a b is = cc

ok-err : (a : Run) (e : InputFault) → reading a ≡ refusal e → ⊥
ok-err a e is = absurd cc

pub one_in : (bytes : List ℕ) (a b : Result (Run × SheetIn) InputFault) → IsInput bytes a → IsInput bytes b → a ≡ b
one_in bytes a b (no_run e r p) (no_run f s q) = p ∙ ap Err (same_err e f (one_reading_lem bytes (Err e) (Err f) r s)) ∙ sym q
one_in bytes a b (no_run e r p) (with_run run names s n q) = absurd (ok-err run e (sym (one_reading_lem bytes (Err e) (Ok run) r s)))
one_in bytes a b (with_run run names r n p) (no_run f s q) = absurd (ok-err run f (one_reading_lem bytes (Ok run) (Err f) r s))
one_in bytes a b (with_run run names r n p) (with_run more others s o q) =
    let same = same_ok run more (one_reading_lem bytes (Ok run) (Ok more) r s) in
    let named = one_names bytes names others n o in
    p ∙ rw (same, named) refl ∙ sym q

pub one_input_lem : OneInput
one_input_lem = (one_names, one_in)

-- what a value says is what its bytes do
by_run : (bytes : List ℕ) (value : Data) → (length bytes ≤ 16777216) → IsJson bytes value → (r : Result Run InputFault) → run_of value ≡ r →
    IsInput bytes (then_read r (λ run. map_read (λ sheet. (run, sheet)) (sheet_of value)))
by_run bytes value few is (Ok run) e = with_run run (sheet_of value) (json value few is (sym e)) (names_json value few is refl) refl
by_run bytes value few is (Err fault) e = no_run fault (json value few is (sym e)) refl

pub input_read : (bytes : List ℕ) (value : Data) → length bytes ≤ 16777216 → IsJson bytes value → IsInput bytes (input_of value)
input_read bytes value few is = by_run bytes value few is (run_of value) refl

pub input_too_long : (bytes : List ℕ) → 16777216 < length bytes → IsInput bytes (Err TooLong)
input_too_long bytes more = no_run TooLong (too_long more refl) refl

pub input_bad_json : (bytes : List ℕ) → length bytes ≤ 16777216 → IsNoJson bytes → IsInput bytes (Err BadJson)
input_bad_json bytes few none = no_run BadJson (bad_json few none refl) refl
