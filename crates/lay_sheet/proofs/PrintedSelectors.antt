-- A printed selector reads as its steps, and a printed list of selectors as these.
use Rattle.std.proofs.Common.{◌≡◌, ◌∙◌, ℕ, ◌<◌, ◌⊎◌, inl, inr, List, [], ◌∷◌, ◌++◌, Bool, true, false, Some, not, codes, map, length, drop, reverse, refl, sym, ap, subst, append_assoc, append-nil, length-append, arith}
use Rattle.std.specs.Prelude.{◌==◌, ◌&&◌, ◌||◌, nat_le, option_map}
use Rattle.std.specs.Char.{is_ascii_alphabetic, is_ascii_digit, is_ascii_whitespace}
use Rattle.std.specs.List.{list_all, AllByRecursion}
use Rattle.std.proofs.lemmas.Bool.{and_parts, or_parts, true≢false, false≢true, cases_Bool, eq-eqb}
use Rattle.lay_values.specs.Numbers.{leading, behind}
use Rattle.lay_values.specs.Reading.{without_front}
use Rattle.lay_sheet.specs.declared.selector.Simple.{Simple}
use Rattle.lay_sheet.specs.declared.selector.Simple.TheVariants.{Universal, Tag, Class, Label}
use Rattle.lay_sheet.specs.declared.selector.Joint.{Joint}
use Rattle.lay_sheet.specs.declared.selector.Joint.TheVariants.{Same, Descendant, Child, Adjacent}
use Rattle.lay_sheet.specs.declared.selector.Step.{Step}
use Rattle.lay_sheet.specs.Pieces.{is_other}
use Rattle.lay_sheet.specs.SelectorTexts.{is_name_start, is_name_part, begins_name, name_at_front, simple_of, behind_simple, begins_compound, begins_with_space, joined, joint_of, behind_sign, behind_joint, AreSteps, IsSelectorText, AreSelectors, last_step, more_steps, last_selector, more_selectors}
use Rattle.lay_sheet.specs.Printing.{simple_text, joint_text, joined_text, selector_text, parted_text, is_of_name, IsName, IsNamed, begins_only, goes_on, IsStep, IsSelector, begins_solid}
use Rattle.lay_sheet.proofs.Trimming.{all_on, solid_end, solid_from, front_dropped, trimmed_is, is_solid, all_solid_end}
use Rattle.lay_sheet.proofs.PrintedBytes.{avoids, all_other, is_clean, name_clean, space_clean, solid_kind, name_solid, space_is_no_part}

-- where a text is cut at a sign that its front doesn't have
pub cut : (c : ℕ) (front rest : List ℕ) → list_all (is_other c) front ≡ true →
    (leading (is_other c) (front ++ c ∷ rest) ≡ front) × (behind (is_other c) (front ++ c ∷ rest) ≡ c ∷ rest)
cut c [] rest h = let same : (c == c) ≡ true = eq-eqb c c refl in rw same (refl, refl)
cut c (b ∷ bs) rest h =
    let parts = and_parts (is_other c b) (list_all (is_other c) bs) h in
    let was = cut c bs rest parts.1 in
    let first = parts.0 in
    rw first (ap (λ z. b ∷ z) was.0, was.1)

pub uncut : (c : ℕ) (text : List ℕ) → list_all (is_other c) text ≡ true → (leading (is_other c) text ≡ text) × (behind (is_other c) text ≡ [])
uncut c [] h = (refl, refl)
uncut c (b ∷ bs) h =
    let parts = and_parts (is_other c b) (list_all (is_other c) bs) h in
    let was = uncut c bs parts.1 in
    let first = parts.0 in
    rw first (ap (λ z. b ∷ z) was.0, was.1)

-- names
part_of : (letter digit hyphen line high : Bool) → (letter || digit || hyphen || line || high) ≡ true → ((letter || line || high) || digit || hyphen) ≡ true
part_of true digit hyphen line high h = refl
part_of false digit hyphen true high h = refl
part_of false digit hyphen false true h = refl
part_of false true hyphen false false h = refl
part_of false false true false false h = refl
part_of false false false false false h = h

start_of : (letter digit hyphen line high : Bool) → (letter || digit || hyphen || line || high) ≡ true → digit ≡ false → hyphen ≡ false → (letter || line || high) ≡ true
start_of true digit hyphen line high h d e = refl
start_of false digit hyphen true high h d e = refl
start_of false digit hyphen false true h d e = refl
start_of false true hyphen false false h d e = absurd (true≢false d)
start_of false false true false false h d e = absurd (true≢false e)
start_of false false false false false h d e = h

is_part : (b : ℕ) → is_of_name b ≡ true → is_name_part b ≡ true
is_part b h = part_of (is_ascii_alphabetic b) (is_ascii_digit b) (b == 45) (b == 95) (nat_le 128 b) h

is_start : (b : ℕ) → is_of_name b ≡ true → is_ascii_digit b ≡ false → (b == 45) ≡ false → is_name_start b ≡ true
is_start b h d e = start_of (is_ascii_alphabetic b) (is_ascii_digit b) (b == 45) (b == 95) (nat_le 128 b) h d e

begins_on : (name rest : List ℕ) → IsName name → begins_name (name ++ rest) ≡ true
begins_on [] rest n = absurd (true≢false n.starts)
begins_on (b ∷ []) rest n =
    let bytes = and_parts (is_of_name b) true n.bytes in
    let not_so = or_parts (is_ascii_digit b) (b == 45) n.starts in
    let hyphen = not_so.1 in
    let start = is_start b bytes.0 not_so.0 not_so.1 in
    rw hyphen start
begins_on (b ∷ c ∷ cs) rest n =
    let bytes = and_parts (is_of_name b) (list_all is_of_name (c ∷ cs)) n.bytes in
    let more = and_parts (is_of_name c) (list_all is_of_name cs) bytes.1 in
    let not_so = or_parts (is_ascii_digit b) ((b == 45) && ((c == 45) || is_ascii_digit c)) n.starts in
    by_hyphen bytes.0 more.0 not_so.0 not_so.1 (cases_Bool (b == 45))
  where
    by_hyphen : is_of_name b ≡ true → is_of_name c ≡ true → is_ascii_digit b ≡ false → ((b == 45) && ((c == 45) || is_ascii_digit c)) ≡ false →
        ((b == 45) ≡ true) ⊎ ((b == 45) ≡ false) → begins_name (b ∷ c ∷ cs ++ rest) ≡ true
    by_hyphen first second digit badly (inl hyphen) =
        let parts : ((c == 45) ≡ false) × (is_ascii_digit c ≡ false) = or_parts (c == 45) (is_ascii_digit c) (rw hyphen at badly) in
        let start = is_start c second parts.1 parts.0 in
        rw hyphen start
    by_hyphen first second digit badly (inr hyphen) = let start = is_start b first digit hyphen in rw hyphen start

-- a text that doesn't go on with a name
abbrev stops : List ℕ → Bool
stops [] = true
stops (b ∷ bs) = not (is_name_part b)

no_part : (b : Bool) → not b ≡ true → b ≡ false
no_part true h = absurd (false≢true h)
no_part false h = refl

name_front : (name rest : List ℕ) → list_all is_of_name name ≡ true → stops rest ≡ true →
    (leading is_name_part (name ++ rest) ≡ name) × (behind is_name_part (name ++ rest) ≡ rest)
name_front [] [] h s = (refl, refl)
name_front [] (b ∷ bs) h s = let none = no_part (is_name_part b) s in rw none (refl, refl)
name_front (b ∷ bs) rest h s =
    let parts = and_parts (is_of_name b) (list_all is_of_name bs) h in
    let part = is_part b parts.0 in
    let was = name_front bs rest parts.1 s in
    rw part (ap (λ z. b ∷ z) was.0, was.1)

name_is : (name rest : List ℕ) → IsName name → stops rest ≡ true → name_at_front (name ++ rest) ≡ Some name
name_is name rest n s = let begins = begins_on name rest n in rw begins (ap Some (name_front name rest n.bytes s).0)

-- the first byte of a simple selector
abbrev is_first : ℕ → Bool
is_first b = is_of_name b || ((b == 42) || ((b == 46) || (b == 35)))

record Begins (text : List ℕ) : Type 0 where
  byte : ℕ
  bytes : List ℕ
  is : text ≡ byte ∷ bytes
  first : is_first byte ≡ true

or_left_true : (x y : Bool) → x ≡ true → (x || y) ≡ true
or_left_true true y h = refl
or_left_true false y h = absurd (false≢true h)

name_begins : (name : List ℕ) → IsName name → Begins name
name_begins [] n = absurd (true≢false n.starts)
name_begins (b ∷ bs) n =
    record { byte = b; bytes = bs; is = refl; first = or_left_true (is_of_name b) ((b == 42) || ((b == 46) || (b == 35))) (and_parts (is_of_name b) (list_all is_of_name bs) n.bytes).0 }

begins : (x : Simple) → IsNamed x → Begins (simple_text x)
begins Universal n = record { byte = 42; bytes = []; is = refl; first = refl }
begins (Tag name) n = name_begins name n
begins (Class name) n = record { byte = 46; bytes = name; is = refl; first = refl }
begins (Label name) n = record { byte = 35; bytes = name; is = refl; first = refl }

first_solid : (b : ℕ) → is_first b ≡ true → is_ascii_whitespace b ≡ false
first_solid b h = solid_kind is_first refl refl refl refl refl b h

-- a simple selector with what stands behind it
abbrev ReadsSimple : Joint → Simple → List ℕ → Type 0
ReadsSimple joint x rest = (simple_of joint (simple_text x ++ rest) ≡ Some x) × (behind_simple (simple_text x ++ rest) ≡ rest)

tag_is : (joint : Joint) (name rest : List ℕ) → IsName name → begins_compound joint ≡ true → stops rest ≡ true → ReadsSimple joint (Tag name) rest
tag_is joint [] rest n begins s = absurd (true≢false n.starts)
tag_is joint (b ∷ bs) rest n begins s =
    let bytes = and_parts (is_of_name b) (list_all is_of_name bs) n.bytes in
    let point = avoids is_of_name 46 refl b bytes.0 in
    let hash = avoids is_of_name 35 refl b bytes.0 in
    let star = avoids is_of_name 42 refl b bytes.0 in
    let found = ap (option_map Tag) (name_is (b ∷ bs) rest n s) in
    let left = (name_front bs rest bytes.1 s).1 in
    (rw (point, hash, begins, star) found, rw star left)

simple_is : (joint : Joint) (x : Simple) (rest : List ℕ) → IsNamed x → (goes_on joint && begins_only x) ≡ false → stops rest ≡ true → ReadsSimple joint x rest
simple_is Same Universal rest n fits s = absurd (true≢false fits)
simple_is Descendant Universal rest n fits s = (refl, refl)
simple_is Child Universal rest n fits s = (refl, refl)
simple_is Adjacent Universal rest n fits s = (refl, refl)
simple_is Same (Tag name) rest n fits s = absurd (true≢false fits)
simple_is Descendant (Tag name) rest n fits s = tag_is Descendant name rest n refl s
simple_is Child (Tag name) rest n fits s = tag_is Child name rest n refl s
simple_is Adjacent (Tag name) rest n fits s = tag_is Adjacent name rest n refl s
simple_is joint (Class name) rest n fits s = (ap (option_map Class) (name_is name rest n s), (name_front name rest n.bytes s).1)
simple_is joint (Label name) rest n fits s = (ap (option_map Label) (name_is name rest n s), (name_front name rest n.bytes s).1)

module _ (gap : List ℕ) (white : list_all is_ascii_whitespace gap ≡ true) where
  -- what stands between two simple selectors
  abbrev ReadsJoint : Joint → List ℕ → Type 0
  ReadsJoint j text = (joint_of (joint_text gap j ++ text) ≡ j) × (behind_joint (joint_text gap j ++ text) ≡ text)

  sign_front : (sign : ℕ) (text : List ℕ) → is_ascii_whitespace sign ≡ false → without_front ((gap ++ sign ∷ gap) ++ text) ≡ sign ∷ (gap ++ text)
  sign_front sign text solid =
      ap without_front (append_assoc gap (sign ∷ gap) text) ∙ front_dropped gap (sign ∷ (gap ++ text)) white (solid_from sign solid)

  spread_is : (j : Joint) (b : ℕ) (bs : List ℕ) → goes_on j ≡ false → is_first b ≡ true → ReadsJoint j (b ∷ bs)
  spread_is Same b bs spread f = absurd (true≢false spread)
  spread_is Descendant b bs spread f =
      let solid = first_solid b f in
      let child = avoids is_first 62 refl b f in
      let adjacent = avoids is_first 43 refl b f in
      let front : without_front (32 ∷ gap ++ b ∷ bs) ≡ b ∷ bs = front_dropped (32 ∷ gap) (b ∷ bs) white (solid_from b solid) in
      let last_joint : joined true (b ∷ bs) ≡ Descendant = rw (child, adjacent) refl in
      let last_behind : behind_sign (b ∷ bs) ≡ b ∷ bs = rw (child, adjacent) refl in
      (ap (joined true) front ∙ last_joint, ap behind_sign front ∙ last_behind)
  spread_is Child b bs spread f =
      let front = sign_front 62 (b ∷ bs) refl in
      let solid = solid_from b (first_solid b f) in
      (ap (joined (begins_with_space ((gap ++ 62 ∷ gap) ++ b ∷ bs))) front, ap behind_sign front ∙ front_dropped gap (b ∷ bs) white solid)
  spread_is Adjacent b bs spread f =
      let front = sign_front 43 (b ∷ bs) refl in
      let solid = solid_from b (first_solid b f) in
      (ap (joined (begins_with_space ((gap ++ 43 ∷ gap) ++ b ∷ bs))) front, ap behind_sign front ∙ front_dropped gap (b ∷ bs) white solid)

  spread_on : (j : Joint) (x : Simple) (more : List ℕ) → IsNamed x → goes_on j ≡ false → ReadsJoint j (simple_text x ++ more)
  spread_on j x more n spread =
      let b = begins x n in
      subst (λ z. ReadsJoint j (z ++ more)) (sym b.is) (spread_is j b.byte (b.bytes ++ more) spread b.first)

  joint_is : (j : Joint) (x : Simple) (more : List ℕ) → IsNamed x → (goes_on j && begins_only x) ≡ false → ReadsJoint j (simple_text x ++ more)
  joint_is Same Universal more n fits = absurd (true≢false fits)
  joint_is Same (Tag name) more n fits = absurd (true≢false fits)
  joint_is Same (Class name) more n fits = (refl, refl)
  joint_is Same (Label name) more n fits = (refl, refl)
  joint_is Descendant x more n fits = spread_on Descendant x more n refl
  joint_is Child x more n fits = spread_on Child x more n refl
  joint_is Adjacent x more n fits = spread_on Adjacent x more n refl

  stops_sign : (front : List ℕ) (sign : ℕ) (text : List ℕ) → list_all is_ascii_whitespace front ≡ true → is_name_part sign ≡ false →
      stops ((front ++ sign ∷ gap) ++ text) ≡ true
  stops_sign [] sign text h none = rw none refl
  stops_sign (b ∷ bs) sign text h none =
      let space = space_is_no_part b (and_parts (is_ascii_whitespace b) (list_all is_ascii_whitespace bs) h).0 in rw space refl

  stops_joint : (j : Joint) (x : Simple) (more : List ℕ) → (goes_on j && begins_only x) ≡ false → stops (joint_text gap j ++ (simple_text x ++ more)) ≡ true
  stops_joint Same Universal more fits = absurd (true≢false fits)
  stops_joint Same (Tag name) more fits = absurd (true≢false fits)
  stops_joint Same (Class name) more fits = refl
  stops_joint Same (Label name) more fits = refl
  stops_joint Descendant x more fits = refl
  stops_joint Child x more fits = stops_sign gap 62 (simple_text x ++ more) white refl
  stops_joint Adjacent x more fits = stops_sign gap 43 (simple_text x ++ more) white refl

  joint_some : (j : Joint) (x : Simple) (more : List ℕ) → IsNamed x → 0 < length (joint_text gap j ++ (simple_text x ++ more))
  joint_some j x more n =
      let b = begins x n in
      let text : length (simple_text x ++ more) ≡ length (b.byte ∷ (b.bytes ++ more)) = ap (λ z. length (z ++ more)) b.is in
      let all = length-append (joint_text gap j) (simple_text x ++ more) in
      omega (arith, text, all)

  abbrev step_at : Joint → Simple → Step
  step_at j x = record { joint = j; simple = x }

  steps_are : (j : Joint) (x : Simple) (ss : List Step) → IsNamed x → (goes_on j && begins_only x) ≡ false → AllByRecursion IsStep ss →
      AreSteps j (simple_text x ++ joined_text gap ss) (Some (step_at j x ∷ ss))
  steps_are j x [] n fits all =
      let is = simple_is j x [] n fits refl in last_step j (simple_text x ++ []) x is.0 (ap length is.1)
  steps_are j x (s ∷ ss) n fits all =
      let rest = joint_text gap s.joint ++ (simple_text s.simple ++ joined_text gap ss) in
      let is = simple_is j x rest n fits (stops_joint s.joint s.simple (joined_text gap ss) all.0.fits) in
      let next = joint_is s.joint s.simple (joined_text gap ss) all.0.named all.0.fits in
      let some : 0 < length (behind_simple (simple_text x ++ rest)) =
      subst (λ z. 0 < length z) (sym is.1) (joint_some s.joint s.simple (joined_text gap ss) all.0.named) in
      let later = steps_are s.joint s.simple ss all.0.named all.0.fits all.1 in
      let at_joint : AreSteps (joint_of rest) (behind_joint rest) (Some (s ∷ ss)) =
      subst (λ z. AreSteps z (behind_joint rest) (Some (s ∷ ss))) (sym next.0) (subst (λ z. AreSteps s.joint z (Some (s ∷ ss))) (sym next.1) later) in
      more_steps j (simple_text x ++ rest) x (Some (s ∷ ss)) is.0 some
      (subst (λ z. AreSteps (joint_of z) (behind_joint z) (Some (s ∷ ss))) (sym is.1) at_joint)

  fits_first : (x : Simple) → (goes_on Descendant && begins_only x) ≡ false
  fits_first x = refl

  selector_steps : (steps : List Step) → IsSelector steps → AreSteps Descendant (selector_text gap steps) (Some steps)
  selector_steps [] is = absurd is
  selector_steps (s ∷ ss) is =
      subst (λ j. AreSteps Descendant (selector_text gap (s ∷ ss)) (Some (step_at j s.simple ∷ ss))) (sym is.0)
      (steps_are Descendant s.simple ss is.1 (fits_first s.simple) is.2)

  -- a selector's text begins and ends with other than white space, and has no sign that parts
  simple_clean : (x : Simple) → IsNamed x → list_all is_clean (simple_text x) ≡ true
  simple_clean Universal n = refl
  simple_clean (Tag name) n = name_clean name n.bytes
  simple_clean (Class name) n = name_clean name n.bytes
  simple_clean (Label name) n = name_clean name n.bytes

  simple_solid : (x : Simple) → IsNamed x → list_all is_solid (simple_text x) ≡ true
  simple_solid Universal n = refl
  simple_solid (Tag name) n = name_solid name n.bytes
  simple_solid (Class name) n = name_solid name n.bytes
  simple_solid (Label name) n = name_solid name n.bytes

  pub gap_clean : list_all is_clean gap ≡ true
  gap_clean = space_clean gap white

  joint_clean : (j : Joint) → list_all is_clean (joint_text gap j) ≡ true
  joint_clean Same = refl
  joint_clean Descendant = gap_clean
  joint_clean Child = all_on is_clean gap (62 ∷ gap) gap_clean gap_clean
  joint_clean Adjacent = all_on is_clean gap (43 ∷ gap) gap_clean gap_clean

  joined_clean : (ss : List Step) → AllByRecursion IsStep ss → list_all is_clean (joined_text gap ss) ≡ true
  joined_clean [] all = refl
  joined_clean (s ∷ ss) all =
      all_on is_clean (joint_text gap s.joint) (simple_text s.simple ++ joined_text gap ss) (joint_clean s.joint)
      (all_on is_clean (simple_text s.simple) (joined_text gap ss) (simple_clean s.simple all.0.named) (joined_clean ss all.1))

  pub selector_clean : (steps : List Step) → IsSelector steps → list_all is_clean (selector_text gap steps) ≡ true
  selector_clean [] is = absurd is
  selector_clean (s ∷ ss) is = all_on is_clean (simple_text s.simple) (joined_text gap ss) (simple_clean s.simple is.1) (joined_clean ss is.2)

  simple_some : (x : Simple) → IsNamed x → 0 < length (simple_text x)
  simple_some x n = let b = begins x n in let text = ap length b.is in omega (arith, text)

  joined_end : (x : Simple) (ss : List Step) → IsNamed x → AllByRecursion IsStep ss → begins_solid (reverse (simple_text x ++ joined_text gap ss)) ≡ true
  joined_end x [] n all =
      ap (λ z. begins_solid (reverse z)) (append-nil (simple_text x)) ∙ all_solid_end (simple_text x) (simple_solid x n) (simple_some x n)
  joined_end x (s ∷ ss) n all =
      let later = simple_text s.simple ++ joined_text gap ss in
      solid_end (simple_text x) (joint_text gap s.joint ++ later) (solid_end (joint_text gap s.joint) later (joined_end s.simple ss all.0.named all.1))

  pub selector_end : (steps : List Step) → IsSelector steps → begins_solid (reverse (selector_text gap steps)) ≡ true
  selector_end [] is = absurd is
  selector_end (s ∷ ss) is = joined_end s.simple ss is.1 is.2

  -- the first byte of a selector's text, which is no white space and no `@`
  pub record BeginsRule (text : List ℕ) : Type 0 where
    pub byte : ℕ
    pub bytes : List ℕ
    pub is : text ≡ byte ∷ bytes
    pub solid : is_ascii_whitespace byte ≡ false
    pub no_at : (byte == 64) ≡ false

  pub begins_selector : (steps : List Step) (rest : List ℕ) → IsSelector steps → BeginsRule (selector_text gap steps ++ rest)
  begins_selector [] rest is = absurd is
  begins_selector (s ∷ ss) rest is =
      let b = begins s.simple is.1 in
      record {
        byte = b.byte;
        bytes = (b.bytes ++ joined_text gap ss) ++ rest;
        is = ap (λ z. (z ++ joined_text gap ss) ++ rest) b.is;
        solid = first_solid b.byte b.first;
        no_at = avoids is_first 64 refl b.byte b.first;
      }

  selector_begins : (steps : List Step) → IsSelector steps → begins_solid (selector_text gap steps) ≡ true
  selector_begins [] is = absurd is
  selector_begins (s ∷ ss) is =
      let b = begins s.simple is.1 in
      ap (λ z. begins_solid (z ++ joined_text gap ss)) b.is ∙ solid_from b.byte (first_solid b.byte b.first)

  selector_is : (front : List ℕ) (steps : List Step) → list_all is_ascii_whitespace front ≡ true → IsSelector steps →
      IsSelectorText (front ++ (selector_text gap steps ++ gap)) (Some steps)
  selector_is front steps h is =
      subst (λ z. AreSteps Descendant z (Some steps)) (sym (trimmed_is front (selector_text gap steps) gap h white (selector_begins steps is) (selector_end steps is)))
      (selector_steps steps is)

  -- a text with white space round it has no sign that parts
  pub padded_clean : (front text : List ℕ) → list_all is_ascii_whitespace front ≡ true → list_all is_clean text ≡ true → list_all is_clean (front ++ (text ++ gap)) ≡ true
  padded_clean front text h c = all_on is_clean front (text ++ gap) (space_clean front h) (all_on is_clean text gap c gap_clean)

  -- the first of two parts, and what stands behind the sign
  pub first_part : (front text : List ℕ) (sign : ℕ) (more : List ℕ) →
      front ++ ((text ++ ((gap ++ sign ∷ gap) ++ more)) ++ gap) ≡ (front ++ (text ++ gap)) ++ sign ∷ (gap ++ (more ++ gap))
  first_part front text sign more = simp append_assoc refl

  abbrev Selectors : List ℕ → List (List Step) → Type 0
  Selectors text found = AreSelectors text (Some found)

  pub selectors_are : (front : List ℕ) (found : List (List Step)) → list_all is_ascii_whitespace front ≡ true → 0 < length found → AllByRecursion IsSelector found →
      Selectors (front ++ (parted_text gap (codes ",") (map (selector_text gap) found) ++ gap)) found
  selectors_are front [] h some all = absurd (omega (arith, some))
  selectors_are front (x ∷ []) h some all =
      let text = front ++ (selector_text gap x ++ gap) in
      let whole = uncut 44 text (all_other is_clean 44 refl text (padded_clean front (selector_text gap x) h (selector_clean x all.0))) in
      last_selector text x (subst (λ z. IsSelectorText z (Some x)) (sym whole.0) (selector_is front x h all.0)) (ap length whole.1)
  selectors_are front (x ∷ y ∷ more) h some all =
      let first = front ++ (selector_text gap x ++ gap) in
      let later = parted_text gap (codes ",") (map (selector_text gap) (y ∷ more)) in
      let rest = gap ++ (later ++ gap) in
      let parts = cut 44 first rest (all_other is_clean 44 refl first (padded_clean front (selector_text gap x) h (selector_clean x all.0))) in
      let goes_on : 0 < length (behind (is_other 44) (first ++ 44 ∷ rest)) = subst (λ z. 0 < length z) (sym parts.1) (omega arith) in
      let others : Selectors (drop 1 (behind (is_other 44) (first ++ 44 ∷ rest))) (y ∷ more) =
      subst (λ z. Selectors (drop 1 z) (y ∷ more)) (sym parts.1) (selectors_are gap (y ∷ more) white (omega arith) all.1) in
      subst (λ z. Selectors z (x ∷ y ∷ more)) (sym (first_part front (selector_text gap x) 44 later))
      (more_selectors (first ++ 44 ∷ rest) x (Some (y ∷ more)) (subst (λ z. IsSelectorText z (Some x)) (sym parts.0) (selector_is front x h all.0)) goes_on others)
