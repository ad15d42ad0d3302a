-- Two texts that are compared line by line.
use Rattle.std.proofs.Common.{◌≡◌, ℕ, ◌+◌, ◌<◌, ◌≤◌, ◌==◌, Bool, true, false, if◌then◌else◌, List, [], ◌∷◌, ◌++◌, length, Option, Some, None, IfSome, IsSomeAnd, MatchOption, refl, sym, ap, ◌∙◌, subst, arith, append_assoc, append-nil, length-append}
use denote.Ref.{Bor}
use Rattle.std.proofs.lemmas.List.{append_cancel_right}
use Rattle.std.proofs.lemmas.Bool.{true≢false}
use Rattle.lay_audit.specs.Lines.{behind_line, first_line}
use Rattle.lay_audit.specs.NextLines.{BeginsWith}
use Rattle.lay_audit.specs.Readings.{IsFrontOf, PartsFrom}
use Rattle.lay_audit.specs.WholeLines.{AllLackEnds, AreLines, IsOfLines, LacksEnd, ended, joined}
use Rattle.lay_audit.proofs.Entries.{begins_with}
use Rattle.lay_audit.proofs.LineFacts.{behind_ended, first_ended, line_parts, more_lines, no_lines, one_line}

-- so many lines are the same, and these texts are left
pub record Compares (wanted text left rest : List ℕ) (lines : ℕ) : Type 0 where
  pub seen : List ℕ
  pub are_lines : AreLines lines seen
  pub wanted_is : wanted ≡ seen ++ left
  pub text_is : text ≡ seen ++ rest
  pub of_lines : IsOfLines left

pub none_compared : (wanted text : List ℕ) → IsOfLines wanted → Compares wanted text wanted text 0
none_compared wanted text is = record { seen = []; are_lines = no_lines; wanted_is = refl; text_is = refl; of_lines = is }

-- the first line of a text of lines
record HasFirst (left : List ℕ) : Type 0 where
  body : List ℕ
  lacks : LacksEnd body
  first : first_line left ≡ ended body
  behind : IsOfLines (behind_line left)

has_first : (left : List ℕ) → IsOfLines left → (left ≡ [] → ⊥) → HasFirst left
has_first left is some = by is.1.bodies is.1.text_is is.1.lack
  where
    by : (bodies : List (List ℕ)) → left ≡ joined bodies → AllLackEnds bodies → HasFirst left
    by [] e lack = absurd (some e)
    by (b ∷ bodies) e lack = record {
      body = b;
      lacks = lack.0;
      first = ap first_line e ∙ first_ended b (joined bodies) lack.0;
      behind = (length bodies, record { bodies = bodies; text_is = ap behind_line e ∙ behind_ended b (joined bodies) lack.0; lack = lack.1; count_is = refl });
    }

pub compares_more : (wanted text left rest more : List ℕ) (lines : ℕ) → Compares wanted text left rest lines → (left ≡ [] → ⊥) → rest ≡ first_line left ++ more
    → Compares wanted text (behind_line left) more (lines + 1)
compares_more wanted text left rest more lines is some e = record {
  seen = is.seen ++ first_line left;
  are_lines = more_lines lines 1 is.seen (first_line left) is.are_lines (subst (AreLines 1) (sym has.first) (one_line has.body has.lacks));
  wanted_is = is.wanted_is ∙ (ap (λ x. is.seen ++ x) (sym (line_parts left)) ∙ sym (append_assoc is.seen (first_line left) (behind_line left)));
  text_is = is.text_is ∙ (ap (λ x. is.seen ++ x) e ∙ sym (append_assoc is.seen (first_line left) more));
  of_lines = has.behind;
}
  where
    has : HasFirst left
    has = has_first left is.of_lines some

pub parts_from : (wanted text left rest : List ℕ) (lines : ℕ) → Compares wanted text left rest lines → (left ≡ [] → ⊥) → (BeginsWith rest (first_line left) → ⊥)
    → PartsFrom wanted text lines
parts_from wanted text left rest lines is some other = record {
  seen = is.seen;
  left = left;
  rest = rest;
  are_lines = is.are_lines;
  wanted_is = is.wanted_is;
  text_is = is.text_is;
  other = λ more e. other (record { more = behind_line rest; text_is = begins_with (first_line left) rest (sym e ∙ longer more) });
}
  where
    has : HasFirst left
    has = has_first left is.of_lines some

    longer : (more : List ℕ) → first_line (left ++ more) ≡ first_line left
    longer more =
        ap (λ x. first_line (x ++ more)) (sym (line_parts left) ∙ ap (λ x. x ++ behind_line left) has.first)
        ∙ (ap first_line (append_assoc (ended has.body) (behind_line left) more) ∙ (first_ended has.body (behind_line left ++ more) has.lacks ∙ sym has.first))

pub is_front : (wanted text left rest : List ℕ) (lines : ℕ) → Compares wanted text left rest lines → left ≡ [] → IsFrontOf wanted text lines rest
is_front wanted text left rest lines is none = record { are_lines = subst (AreLines lines) (sym whole) is.are_lines; text_is = is.text_is ∙ ap (λ x. x ++ rest) (sym whole) }
  where
    whole : wanted ≡ is.seen
    whole = is.wanted_is ∙ (ap (λ x. is.seen ++ x) none ∙ append-nil is.seen)

bodies_short : (bodies : List (List ℕ)) → length bodies ≤ length (joined bodies)
bodies_short [] = omega arith
bodies_short (b ∷ bodies) =
    let r = bodies_short bodies in let a : length (ended b ++ joined bodies) ≡ length (ended b) + length (joined bodies) = length-append (ended b) (joined bodies) in
    let e : length (ended b) ≡ length b + 1 = length-append b (10 ∷ []) in
    omega (arith, r, a, e)

pub lines_short : (n : ℕ) (text : List ℕ) → AreLines n text → n ≤ length text
lines_short n text is =
    let c = is.count_is in let t : length text ≡ length (joined is.bodies) = ap (λ x. length x) is.text_is in let b = bodies_short is.bodies in
    omega (arith, c, t, b)

pub few_lines : (wanted text left rest : List ℕ) (lines : ℕ) → Compares wanted text left rest lines → lines + length rest ≤ length text
few_lines wanted text left rest lines is =
    let s = lines_short lines is.seen is.are_lines in
    let t : length text ≡ length is.seen + length rest = ap (λ x. length x) is.text_is ∙ length-append is.seen rest in
    omega (arith, s, t)

first_some_by : (c : Bool) (b : ℕ) (bs : List ℕ) → 0 < length (if c then b ∷ [] else b ∷ first_line bs)
first_some_by true b bs = omega arith
first_some_by false b bs = omega arith

first_some : (x : List ℕ) → (x ≡ [] → ⊥) → 0 < length (first_line x)
first_some [] some = absurd (some refl)
first_some (b ∷ bs) some = first_some_by (b == 10) b bs

pub shorter_left : (left : List ℕ) → (left ≡ [] → ⊥) → length (behind_line left) < length left
shorter_left left some =
    let p : length (first_line left) + length (behind_line left) ≡ length left = sym (length-append (first_line left) (behind_line left)) ∙ ap (λ x. length x) (line_parts left) in
    let f = first_some left some in
    omega (arith, p, f)

pub more_room : (wanted text left rest more : List ℕ) (lines : ℕ) → Compares wanted text left rest lines → (left ≡ [] → ⊥) → rest ≡ first_line left ++ more
    → lines + 1 ≤ length text
more_room wanted text left rest more lines is some e =
    let f = few_lines wanted text left rest lines is in let s = first_some left some in
    let r : length rest ≡ length (first_line left) + length more = ap (λ x. length x) e ∙ length-append (first_line left) more in
    omega (arith, f, s, r)

pub not_empty : (xs : List ℕ) (b : Bool) → b ≡ (length xs == 0) → b ≡ false → xs ≡ [] → ⊥
not_empty xs b is other e = true≢false (sym (is ∙ ap (λ x. length x == 0) e) ∙ other)

-- a front that is cut off, or isn't there

pub stripped_some : (s p : List ℕ) (r : Option (Bor (List ℕ))) → MatchOption r ((rest : List ℕ) → s ≡ p ++ rest → ⊥) (λ x. s ≡ p ++ x.now) → IfSome r (λ x. s ≡ p ++ x.now)
stripped_some s p None m = tt
stripped_some s p (Some x) m = m

pub stripped_none : (s p : List ℕ) (r : Option (Bor (List ℕ))) → MatchOption r ((rest : List ℕ) → s ≡ p ++ rest → ⊥) (λ x. s ≡ p ++ x.now) → r ≡ None → BeginsWith s p → ⊥
stripped_none s p None m e begins = m begins.more begins.text_is
stripped_none s p (Some x) m e begins = absurd cc

pub suffix_found : (s p front : List ℕ) (r : Option (Bor (List ℕ))) → MatchOption r ((f : List ℕ) → s ≡ f ++ p → ⊥) (λ x. s ≡ x.now ++ p) → s ≡ front ++ p → IsSomeAnd r (λ x. x.now ≡ front)
suffix_found s p front None m e = absurd (m front e)
suffix_found s p front (Some x) m e = append_cancel_right x.now front p (sym m ∙ e)
