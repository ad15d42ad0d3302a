-- First lines, and texts of whole lines.
use Rattle.std.proofs.Common.{◌≡◌, ℕ, zero, suc, ◌+◌, ◌<◌, ◌≤◌, ◌==◌, Bool, true, false, List, [], ◌∷◌, ◌++◌, length, refl, sym, ap, ◌∙◌, subst, arith, append_assoc, append-nil, length-append, if◌then◌else◌, take, drop, get_or}
use Rattle.std.proofs.Math.Seq.{drop-cons}
use Rattle.std.proofs.lemmas.List.{take_more}
use Rattle.std.proofs.lemmas.List.Concat.{flat_map-append}
use Rattle.lay_audit.proofs.Cited.{AllLack, lacks_parts}
use Rattle.lay_audit.specs.WholeLines.{AllLackEnds, AreLines, LacksEnd, ended, joined}
use Rattle.lay_audit.specs.Lines.{StartAlike, behind_line, first_line}

all_lack_append : (xs ys : List (List ℕ)) → AllLackEnds xs → AllLackEnds ys → AllLackEnds (xs ++ ys)
all_lack_append [] ys a b = b
all_lack_append (x ∷ xs) ys a b = (a.0, all_lack_append xs ys a.1 b)

pub lack_ends : (xs : List (List ℕ)) → AllLack xs → AllLackEnds xs
lack_ends [] a = tt
lack_ends (x ∷ xs) a = (a.0, lack_ends xs a.1)

-- a line that is ended, and what stands behind it
pub first_of : (body rest : List ℕ) → LacksEnd body → first_line (body ++ 10 ∷ rest) ≡ ended body
first_of [] rest lacks = refl
first_of (b ∷ bs) rest lacks =
    let parts = lacks_parts 10 b bs lacks in rw parts.0 (ap (λ t. b ∷ t) (first_of bs rest parts.1))

pub behind_of : (body rest : List ℕ) → LacksEnd body → behind_line (body ++ 10 ∷ rest) ≡ rest
behind_of [] rest lacks = refl
behind_of (b ∷ bs) rest lacks = let parts = lacks_parts 10 b bs lacks in rw parts.0 (behind_of bs rest parts.1)

parts_by : (c : Bool) (b : ℕ) (bs : List ℕ) → first_line bs ++ behind_line bs ≡ bs
    → (if c then b ∷ [] else b ∷ first_line bs) ++ (if c then bs else behind_line bs) ≡ b ∷ bs
parts_by true b bs e = refl
parts_by false b bs e = ap (λ t. b ∷ t) e

pub line_parts : (s : List ℕ) → first_line s ++ behind_line s ≡ s
line_parts [] = refl
line_parts (b ∷ bs) = parts_by (b == 10) b bs (line_parts bs)

pub ended_then : (body rest : List ℕ) → ended body ++ rest ≡ body ++ 10 ∷ rest
ended_then body rest = append_assoc body (10 ∷ []) rest

pub first_ended : (body rest : List ℕ) → LacksEnd body → first_line (ended body ++ rest) ≡ ended body
first_ended body rest lacks = ap first_line (ended_then body rest) ∙ first_of body rest lacks

pub behind_ended : (body rest : List ℕ) → LacksEnd body → behind_line (ended body ++ rest) ≡ rest
behind_ended body rest lacks = ap behind_line (ended_then body rest) ∙ behind_of body rest lacks

pub no_lines : AreLines 0 []
no_lines = record { bodies = []; text_is = refl; lack = tt; count_is = refl }

pub one_line : (body : List ℕ) → LacksEnd body → AreLines 1 (ended body)
one_line body lacks = record { bodies = body ∷ []; text_is = sym (append-nil (ended body)); lack = (lacks, tt); count_is = refl }

pub more_lines : (m n : ℕ) (a b : List ℕ) → AreLines m a → AreLines n b → AreLines (m + n) (a ++ b)
more_lines m n a b one two = record {
  bodies = one.bodies ++ two.bodies;
  text_is = ap (λ x. x ++ b) one.text_is ∙ (ap (λ y. joined one.bodies ++ y) two.text_is ∙ sym (flat_map-append ended one.bodies two.bodies));
  lack = all_lack_append one.bodies two.bodies one.lack two.lack;
  count_is = let x = one.count_is in let y = two.count_is in let z = length-append one.bodies two.bodies in omega (arith, x, y, z);
}

-- lines that are alike

step_alike : (n : ℕ) (body s t : List ℕ) → LacksEnd body → StartAlike n s t → StartAlike (suc n) (ended body ++ s) (ended body ++ t)
step_alike n body s t lacks alike = (
  first_ended body s lacks ∙ sym (first_ended body t lacks),
  subst (λ x. StartAlike n x (behind_line (ended body ++ t))) (sym (behind_ended body s lacks))
      (subst (λ y. StartAlike n s y) (sym (behind_ended body t lacks)) alike),
)

alike_bodies : (bodies : List (List ℕ)) (s t : List ℕ) → AllLackEnds bodies → StartAlike (length bodies) (joined bodies ++ s) (joined bodies ++ t)
alike_bodies [] s t lack = tt
alike_bodies (b ∷ bodies) s t lack =
    subst (λ x. StartAlike (suc (length bodies)) x ((ended b ++ joined bodies) ++ t)) (sym (append_assoc (ended b) (joined bodies) s))
    (subst (λ y. StartAlike (suc (length bodies)) (ended b ++ (joined bodies ++ s)) y) (sym (append_assoc (ended b) (joined bodies) t))
    (step_alike (length bodies) b (joined bodies ++ s) (joined bodies ++ t) lack.0 (alike_bodies bodies s t lack.1)))

pub alike_front : (count : ℕ) (front s t : List ℕ) → AreLines count front → StartAlike count (front ++ s) (front ++ t)
alike_front count front s t lines =
    subst (λ n. StartAlike n (front ++ s) (front ++ t)) (sym lines.count_is)
    (subst (λ f. StartAlike (length lines.bodies) (f ++ s) (f ++ t)) (sym lines.text_is) (alike_bodies lines.bodies s t lines.lack))

-- a text that begins as another one does that begins with whole lines
pub record BeginsSo (front rest text : List ℕ) : Type 0 where
  pub more : List ℕ
  pub text_is : text ≡ front ++ more
  pub next : first_line more ≡ first_line rest

line_apart : (b : List ℕ) (bodies : List (List ℕ)) (rest : List ℕ) → joined (b ∷ bodies) ++ rest ≡ ended b ++ (joined bodies ++ rest)
line_apart b bodies rest = append_assoc (ended b) (joined bodies) rest

begins_more : (b : List ℕ) (bodies : List (List ℕ)) (rest text : List ℕ) → LacksEnd b → first_line text ≡ first_line (joined (b ∷ bodies) ++ rest)
    → BeginsSo (joined bodies) rest (behind_line text) → BeginsSo (joined (b ∷ bodies)) rest text
begins_more b bodies rest text lacks same later = record {
  more = later.more;
  text_is = sym (line_parts text) ∙ (ap (λ t. t ++ behind_line text) first ∙ (ap (λ t. ended b ++ t) later.text_is ∙ sym (append_assoc (ended b) (joined bodies) later.more)));
  next = later.next;
}
  where
    first : first_line text ≡ ended b
    first = same ∙ (ap first_line (line_apart b bodies rest) ∙ first_ended b (joined bodies ++ rest) lacks)

begins_bodies : (bodies : List (List ℕ)) (rest text : List ℕ) → AllLackEnds bodies → StartAlike (suc (length bodies)) text (joined bodies ++ rest)
    → BeginsSo (joined bodies) rest text
begins_bodies [] rest text lack alike = record { more = text; text_is = refl; next = alike.0 }
begins_bodies (b ∷ bodies) rest text lack alike = begins_more b bodies rest text lack.0 alike.0
    (begins_bodies bodies rest (behind_line text) lack.1
    (subst (λ t. StartAlike (suc (length bodies)) (behind_line text) t) (ap behind_line (line_apart b bodies rest) ∙ behind_ended b (joined bodies ++ rest) lack.0) alike.1))

pub begins_front : (count : ℕ) (front rest text : List ℕ) → AreLines count front → StartAlike (suc count) text (front ++ rest) → BeginsSo front rest text
begins_front count front rest text lines alike =
    subst (λ f. BeginsSo f rest text) (sym lines.text_is) (begins_bodies lines.bodies rest text lines.lack
    (subst (λ n. StartAlike (suc n) text (joined lines.bodies ++ rest)) lines.count_is
    (subst (λ f. StartAlike (suc count) text (f ++ rest)) lines.text_is alike)))

pub alike_less : (m n : ℕ) (s t : List ℕ) → m ≤ n → StartAlike n s t → StartAlike m s t
alike_less zero n s t le alike = tt
alike_less (suc m) zero s t le alike = absurd (omega (arith, le))
alike_less (suc m) (suc n) s t le alike = (alike.0, alike_less m n (behind_line s) (behind_line t) (omega (arith, le)) alike.1)

pub alike_same : (n : ℕ) (s : List ℕ) → StartAlike n s s
alike_same zero s = tt
alike_same (suc n) s = (refl, alike_same n (behind_line s))

pub alike_back : (n : ℕ) (s t : List ℕ) → StartAlike n s t → StartAlike n t s
alike_back zero s t alike = tt
alike_back (suc n) s t alike = (sym alike.0, alike_back n (behind_line s) (behind_line t) alike.1)

shorter_by : (c : Bool) (bs : List ℕ) → length (behind_line bs) ≤ length bs → length (if c then bs else behind_line bs) ≤ length bs
shorter_by true bs le = omega arith
shorter_by false bs le = le

shorter : (bs : List ℕ) → length (behind_line bs) ≤ length bs
shorter [] = omega arith
shorter (b ∷ bs) = let s : length (behind_line (b ∷ bs)) ≤ length bs = shorter_by (b == 10) bs (shorter bs) in omega (arith, s)

pub no_first : (b : ℕ) (bs : List ℕ) → [] ≡ first_line (b ∷ bs) → ⊥
no_first b bs e = by (b == 10) e
  where
    by : (c : Bool) → [] ≡ (if c then b ∷ [] else b ∷ first_line bs) → ⊥
    by true e = absurd cc
    by false e = absurd cc

pub end_of_first : (t : List ℕ) → [] ≡ first_line t → t ≡ []
end_of_first [] e = refl
end_of_first (b ∷ bs) e = absurd (no_first b bs e)

pub alike_equal : (n : ℕ) (s t : List ℕ) → length s < n → StartAlike n s t → s ≡ t
alike_equal zero s t lt alike = absurd (omega (arith, lt))
alike_equal (suc n) [] t lt alike = sym (end_of_first t alike.0)
alike_equal (suc n) (b ∷ bs) t lt alike =
    let less : length (behind_line (b ∷ bs)) ≤ length bs = shorter_by (b == 10) bs (shorter bs) in
    let rest = alike_equal n (behind_line (b ∷ bs)) (behind_line t) (omega (arith, lt, less)) alike.1 in
    sym (line_parts (b ∷ bs)) ∙ (ap (λ x. x ++ behind_line (b ∷ bs)) alike.0 ∙ (ap (λ x. first_line t ++ x) rest ∙ line_parts t))

-- a line is cut off behind its linefeed
pub cut_line : (text : List ℕ) (i : ℕ) → i < length text → get_or text i 0 ≡ 10 → first_line text ≡ take i text ++ first_line (drop i text)
    → take (i + 1) text ≡ first_line text
cut_line text i lt at first = take_more text i 0 lt ∙ sym (first ∙ ap (λ x. take i text ++ x) here)
  where
    here : first_line (drop i text) ≡ get_or text i 0 ∷ []
    here = ap first_line (drop-cons text i 0 lt) ∙ (ap (λ b. first_line (b ∷ drop (suc i) text)) at ∙ ap (λ b. b ∷ []) (sym at))

pub cut_behind : (text : List ℕ) (i : ℕ) → i < length text → get_or text i 0 ≡ 10 → behind_line text ≡ behind_line (drop i text) → drop (i + 1) text ≡ behind_line text
cut_behind text i lt at behind = sym (behind ∙ (ap behind_line (drop-cons text i 0 lt) ∙ (ap (λ b. behind_line (b ∷ drop (suc i) text)) at ∙ ap (λ n. drop n text) one)))
  where
    one : suc i ≡ i + 1
    one = omega arith
