-- One verdict, and how one is shown.
use Rattle.std.proofs.Common.{◌≡◌, ℕ, suc, ◌+◌, List, ◌++◌, length, refl, sym, ap, subst, arith, inl, inr}
use Rattle.std.proofs.lemmas.Bool.{cases_lt}
use Rattle.lay_audit.specs.declared.verdict.Verdict.TheVariants.{Yes, No}
use Rattle.lay_audit.specs.Laws.{AlikeAreEqual, BadLineIsThere, OneVerdict, YesIsLegal}
use Rattle.lay_audit.specs.LegalReports.{Basis, IsLegalReport}
use Rattle.lay_audit.specs.Lines.{first_line, line_count}
use Rattle.lay_audit.specs.WholeLines.{AreLines}
use Rattle.lay_audit.specs.Verdicts.{CanBegin, IsFirstBad, IsVerdict}
use Rattle.lay_audit.proofs.LineCounts.{alike_lines}
use Rattle.lay_audit.proofs.LineFacts.{alike_back, alike_equal, alike_front, alike_less, alike_same, begins_front}

begins_itself : (basis : Basis) (text : List ℕ) (n : ℕ) → IsLegalReport basis text → CanBegin basis n text
begins_itself basis text n legal = record { report = text; legal = legal; alike = alike_same n text }

one_number : (basis : Basis) (text : List ℕ) (m n : ℕ) → IsFirstBad basis text m → IsFirstBad basis text n → m ≡ n
one_number basis text m n a b = elim (cases_lt m n) [
  | inl low ↦ absurd (a.never (b.before m low))
  | inr le ↦ elim (cases_lt n m) [
    | inl high ↦ absurd (b.never (a.before n high))
    | inr ge ↦ omega (arith, le, ge)
  ]
]

pub one_verdict : OneVerdict
one_verdict basis text Yes Yes a b = refl
one_verdict basis text Yes (No n) a b = absurd (b.never (begins_itself basis text n a))
one_verdict basis text (No m) Yes a b = absurd (a.never (begins_itself basis text m b))
one_verdict basis text (No m) (No n) a b = ap No (one_number basis text m n a b)

pub yes_is_legal : YesIsLegal
yes_is_legal basis text v is = (λ e. subst (IsVerdict basis text) e is, λ legal. one_verdict basis text v Yes is legal)

pub alike_are_equal : AlikeAreEqual
alike_are_equal s t alike = alike_equal (suc (length s)) s t (omega arith) alike

pub bad_line_is_there : BadLineIsThere
bad_line_is_there basis text number bad = elim (cases_lt (suc (line_count text)) number) [
  | inl past ↦ absurd (let can = bad.before (suc (line_count text)) past in
      let same = alike_lines (suc (line_count text)) text can.report (omega arith) (alike_back (suc (line_count text)) can.report text can.alike) in
      bad.never (begins_itself basis text number (subst (IsLegalReport basis) (sym same) can.legal)))
  | inr le ↦ le
]

-- a legal report begins with these lines
pub record CanGoOn (basis : Basis) (front : List ℕ) : Type 0 where
  pub more : List ℕ
  pub legal : IsLegalReport basis (front ++ more)

-- and none begins with them and the next line of what is left
abbrev pub NoneGoesOn : Basis → List ℕ → List ℕ → Type 0
NoneGoesOn basis front rest = (more : List ℕ) → IsLegalReport basis (front ++ more) → first_line more ≡ first_line rest → ⊥

pub first_bad : (basis : Basis) (count : ℕ) (front rest : List ℕ) → AreLines count front → CanGoOn basis front → NoneGoesOn basis front rest
    → IsFirstBad basis (front ++ rest) (suc count)
first_bad basis count front rest lines can none = record {
  before = λ n lt. record {
    report = front ++ can.more;
    legal = can.legal;
    alike = alike_less n count (front ++ can.more) (front ++ rest) (omega (arith, lt)) (alike_front count front can.more rest lines);
  };
  never = λ begins.
      let so = begins_front count front rest begins.report lines begins.alike in
      none so.more (subst (IsLegalReport basis) so.text_is begins.legal) so.next;
}
